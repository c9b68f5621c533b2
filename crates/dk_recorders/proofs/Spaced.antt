-- Blocks that are written one behind another come to what the blocks do.
use Rattle.std.proofs.Common.{◌≡◌, ◌+◌, ℕ, Bool, true, false, All, List, [], ◌∷◌, ◌++◌, codes, map, Option, Some, None, Result, Ok, Err, refl, sym, ap, ◌∙◌, if◌then◌else◌}
use Rattle.std.proofs.lemmas.List.{map-append}
use Rattle.std.proofs.lemmas.List.Elements.{All-head, All-tail}
use Rattle.std.specs.Str.{bytes_eq}
use Rattle.dk_base.specs.Reading.{LineFault, ◌>>=◌}
use Rattle.dk_base.specs.declared.why.Why.{Why}
use Rattle.dk_base.specs.declared.why.Why.TheVariants.{BadHeader}
use Rattle.dk_lines.specs.Left.{Broken, LongLine, Over, TooLong, numbered, without_cr}
use Rattle.dk_decl.specs.Headers.{awaits_word, comparability_word, first_header, header_line, with_text}
use Rattle.dk_decl.specs.LineWords.{begins, operand}
use Rattle.dk_decl.specs.declared.header.Header.{Header}
use Rattle.dk_blocks.specs.Blocks.{Group, Groups, Last, groups_of}
use Rattle.dk_blocks.specs.History.{History, Taken, effect_of}
use Rattle.dk_blocks.specs.Reading.{after_all}
use Rattle.dk_turns.specs.Blocks.{Block, at_line, block_behind, bytes_of, in_force, lines_of_block}
use Rattle.dk_recorders.specs.Blocks.{EndedBlock, after_blocks, blocks_of_groups, contents_of}
use Rattle.dk_recorders.proofs.Awaiting.{Ended, groups_over}
use Rattle.dk_recorders.proofs.Files.{Begins, HasNoHeader}
use Rattle.dk_recorders.proofs.Groups.{IsKept, behind, block_read, groups_end, last_read, lines_from, nothing_left, read_on}
use Rattle.dk_recorders.proofs.Lines.{spaced}

-- a sample block without header lines, whose lines are read as they are
pub record IsReady (b : Block) : Type 0 where
  pub no_headers : HasNoHeader b
  pub begins : Begins b
  pub kept : All IsKept b.body

-- with the numbers that their lines have behind n others, where a blank line ends each
abbrev pub numbered_blocks : ℕ → List Block → List EndedBlock
numbered_blocks n [] = []
numbered_blocks n (b ∷ bs) = record { lines = lines_from n b.body; close = behind n b.body } ∷ numbered_blocks (behind n b.body) bs

-- ---- groups of lines are read as blocks
then_read : (r : Result Taken LineFault) (f g : Taken → Result History LineFault) → ((t : Taken) → f t ≡ g t) → (r >>= f) ≡ (r >>= g)
then_read (Ok t) f g same = same t
then_read (Err fault) f g same = refl

groups_read : (ignores : Bool) (h : History) (g : Groups) → Ended (groups_end g) → after_all ignores (effect_of ignores h) g ≡ after_blocks ignores h (blocks_of_groups g)
groups_read ignores h (Group ls close rest) ended =
    then_read (effect_of ignores h ls (Some close)) (λ t. after_all ignores (effect_of ignores t.history) rest)
    (λ t. after_blocks ignores t.history (blocks_of_groups rest)) (λ t. groups_read ignores t.history rest ended)
groups_read ignores h (Last ls (Over line)) ended = refl
groups_read ignores h (Last ls Broken) ended = absurd ended
groups_read ignores h (Last ls (LongLine line)) ended = absurd ended
groups_read ignores h (Last ls (TooLong line)) ended = absurd ended

pub lines_read_as_blocks : (ignores : Bool) (h : History) (lines : List (List ℕ))
    → after_all ignores (effect_of ignores h) (groups_of (numbered 0 lines)) ≡ after_blocks ignores h (blocks_of_groups (groups_of (numbered 0 lines)))
lines_read_as_blocks ignores h lines = groups_read ignores h (groups_of (numbered 0 lines)) (groups_over 0 lines)

-- ---- what is written is read
own_lines : (b : Block) → HasNoHeader b → lines_of_block b ≡ b.body
own_lines b none = ap (λ (hs : List (List ℕ)). hs ++ b.body) none

pub blocks_read : (ignores : Bool) (bs : List Block) (h : History) (n : ℕ) → All IsReady bs
    → read_on ignores (effect_of ignores h) n (map without_cr (spaced bs)) ≡ after_blocks ignores h (numbered_blocks n bs)
blocks_read ignores [] h n ready = ap (λ (r : Result Taken LineFault). r >>= λ t. Ok t.history) (nothing_left ignores h (n + 1))
blocks_read ignores (b ∷ []) h n ready =
    let own = All-head IsReady b [] ready in
    ap (λ (ls : List (List ℕ)). read_on ignores (effect_of ignores h) n (map without_cr ls)) (own_lines b own.no_headers)
    ∙ last_read ignores (effect_of ignores h) n b.body own.kept
blocks_read ignores (b ∷ c ∷ bs) h n ready =
    let own = All-head IsReady b (c ∷ bs) ready in
    let back : List (List ℕ) = map without_cr (spaced (c ∷ bs)) in
    ap (λ (ls : List (List ℕ)). read_on ignores (effect_of ignores h) n (map without_cr (ls ++ [] ∷ spaced (c ∷ bs)))) (own_lines b own.no_headers)
    ∙ ap (λ (ls : List (List ℕ)). read_on ignores (effect_of ignores h) n ls) (map-append without_cr b.body ([] ∷ spaced (c ∷ bs)))
    ∙ block_read ignores (effect_of ignores h) n b.body back own.kept
    ∙ then_read (effect_of ignores h (lines_from n b.body) (Some (behind n b.body)))
    (λ t. read_on ignores (effect_of ignores t.history) (behind n b.body) back)
    (λ t. after_blocks ignores t.history (numbered_blocks (behind n b.body) (c ∷ bs)))
    (λ t. blocks_read ignores (c ∷ bs) t.history (behind n b.body) (All-tail IsReady b (c ∷ bs) ready))

-- ---- what the lines hold
-- a line that isn't a header line at first is none later
no_header_later : (h : Header) (line : List ℕ) → awaits_word h ≡ false → header_line first_header line ≡ None → header_line h line ≡ None
unfolding header_line
no_header_later h line word e =
    by h.awaits_word word (bytes_eq line (codes "VarComparability")) (begins (codes "var-comparability") line) (begins (codes "decl-version") line) (begins (codes "input-language") line) e
  where
    by : (w : Bool) → w ≡ false → (a b c d : Bool)
        → (if a then Some (Ok (record first_header { awaits_word = true }))
        else if b then Some (with_text (comparability_word (operand line)))
        else if c then Some (if bytes_eq (operand line) (codes "2.0") then Ok first_header else Err BadHeader)
        else if d then Some (Ok first_header)
        else None) ≡ None
        → (if w then Some (with_text (comparability_word line))
        else if a then Some (Ok (record h { awaits_word = true }))
        else if b then Some (with_text (comparability_word (operand line)))
        else if c then Some (if bytes_eq (operand line) (codes "2.0") then Ok h else Err BadHeader)
        else if d then Some (Ok h)
        else None) ≡ None
    by true f a b c d e = absurd (cc f)
    by false f true b c d e = absurd (cc e)
    by false f false true c d e = absurd (cc e)
    by false f false false true d e = absurd (cc e)
    by false f false false false true e = absurd (cc e)
    by false f false false false false e = refl

bytes_from : (n : ℕ) (lines : List (List ℕ)) → bytes_of (lines_from n lines) ≡ lines
bytes_from n [] = refl
bytes_from n (l ∷ ls) = ap (λ (ks : List (List ℕ)). l ∷ ks) (bytes_from (n + 1) ls)

body_alone : (header : Header) (b : Block) → awaits_word header ≡ false → HasNoHeader b → Begins b → block_behind header b.body ≡ b
body_alone header b word none begins =
    ap (block_behind header) begins.body
    ∙ ap (λ (c : Bool). if c then block_behind header begins.rest else at_line begins.first begins.rest (in_force header (header_line header begins.first)) (λ next. block_behind next begins.rest)) begins.no_comment
    ∙ ap (λ (o : Option (Result Header Why)). at_line begins.first begins.rest (in_force header o) (λ next. block_behind next begins.rest)) (no_header_later header begins.first word begins.no_header)
    ∙ ap (λ (ls : List (List ℕ)). let c : Block = record { headers = []; body = ls } in c) (sym begins.body)
    ∙ ap (λ (hs : List (List ℕ)). let c : Block = record { headers = hs; body = b.body } in c) (sym none)

pub numbered_contents : (bs : List Block) (header : Header) (n : ℕ) → awaits_word header ≡ false → All IsReady bs → contents_of header (numbered_blocks n bs) ≡ bs
numbered_contents [] header n word ready = refl
numbered_contents (b ∷ bs) header n word ready =
    let own = All-head IsReady b bs ready in
    let rest : List Block = contents_of header (numbered_blocks (behind n b.body) bs) in
    ap (λ (ls : List (List ℕ)). block_behind header ls ∷ rest) (bytes_from n b.body)
    ∙ ap (λ (c : Block). c ∷ rest) (body_alone header b word own.no_headers own.begins)
    ∙ ap (λ (cs : List Block). b ∷ cs) (numbered_contents bs header (behind n b.body) word (All-tail IsReady b bs ready))
