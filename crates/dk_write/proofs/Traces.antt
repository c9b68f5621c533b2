-- The text of a trace is read as its blocks, one after another.
use Rattle.std.proofs.Common.{◌≡◌, ◌≢◌, ◌+◌, ◌∙◌, ◌==◌, ◌∷◌, ◌++◌, [], ℕ, Bool, true, false, List, All, Result, Ok, Err, length, map, refl, ap, append_assoc, arith}
use Rattle.std.specs.Prelude.{IfOk}
use Rattle.std.proofs.lemmas.Bool.{ne_eqb}
use Rattle.std.proofs.lemmas.List.Elements.{All-head, All-tail}
use Rattle.dk_base.specs.Pieces.{is_empty}
use Rattle.dk_base.specs.Reading.{Line, LineFault, ◌>>=◌}
use Rattle.dk_blocks.specs.Blocks.{Group, groups_of, onto_group, trimmed_line}
use Rattle.dk_blocks.specs.History.{History, Taken, effect_of}
use Rattle.dk_blocks.specs.Reading.{after_all}
use Rattle.dk_blocks.proofs.Stepping.{grouped_blank, grouped_words}
use Rattle.dk_lines.specs.Left.{Piece, lines_of, numbered, onto_first, pieces, without_cr}
use Rattle.dk_lines.specs.Passing.{HasNoLf, joined, numbered_lines}
use Rattle.dk_trace.specs.Whole.{IsTidy}
use Rattle.dk_write.specs.Course.{AreReadable, IsReadable, done, done_all, line_behind}
use Rattle.dk_write.specs.Laws.{TracesAreRead}
use Rattle.dk_write.specs.Texts.{Begins, Declares, Records, Write, block_lines, block_text, header_lines, trace_text}
use Rattle.dk_write.specs.Names.{is_line}
use Rattle.dk_write.proofs.Blocks.{blocks_read, can_record_parts}
use Rattle.dk_write.proofs.Lines.{AreLines, all_tidy, declaration_is_lines, record_is_lines}

-- ---- lines of a text

piece_front : (l rest : List ℕ) → HasNoLf l → pieces (l ++ 10 ∷ rest) ≡ record { bytes = l; has_lf = true } ∷ pieces rest
piece_front [] rest h = refl
piece_front (b ∷ l) rest h =
    let other : (b == 10) ≡ false = ne_eqb b 10 (All-head (λ c. c ≢ 10) b l h) in
    rw other (ap (onto_first b) (piece_front l rest (All-tail (λ c. c ≢ 10) b l h)))

line_front : (l rest : List ℕ) → IsTidy l → lines_of (l ++ 10 ∷ rest) ≡ l ∷ lines_of rest
line_front l rest tidy =
    ap (map (λ (p : Piece). without_cr p.bytes)) (piece_front l rest tidy.one)
    ∙ ap (λ (x : List ℕ). x ∷ lines_of rest) tidy.no_cr

lines_front : (ls : List (List ℕ)) (rest : List ℕ) → All IsTidy ls → lines_of (joined ls ++ rest) ≡ ls ++ lines_of rest
lines_front [] rest tidy = refl
lines_front (l ∷ ls) rest tidy =
    ap lines_of (append_assoc (l ++ 10 ∷ []) (joined ls) rest ∙ append_assoc l (10 ∷ []) (joined ls ++ rest))
    ∙ line_front l (joined ls ++ rest) (All-head IsTidy l ls tidy)
    ∙ ap (λ (xs : List (List ℕ)). l ∷ xs) (lines_front ls rest (All-tail IsTidy l ls tidy))

block_front_lines : (w : Write) (rest : List ℕ) → All IsTidy (block_lines w) → lines_of (block_text w ++ rest) ≡ block_lines w ++ [] ∷ lines_of rest
unfolding block_text
block_front_lines w rest tidy =
    ap lines_of (append_assoc (joined (block_lines w)) (10 ∷ []) rest) ∙ lines_front (block_lines w) (10 ∷ rest) tidy

-- ---- groups of lines

not_empty : (l : List ℕ) → IsTidy l → is_empty l ≡ false
not_empty [] tidy = let some = tidy.some in absurd (omega (arith, some))
not_empty (b ∷ bs) tidy = refl

grouped_block : (n : ℕ) (ls more : List (List ℕ)) → All IsTidy ls
    → groups_of (numbered n (ls ++ [] ∷ more)) ≡ Group (numbered_lines (n + 1) ls) (n + 1 + length ls) (groups_of (numbered (n + 1 + length ls) more))
grouped_block n [] more tidy =
    let same : n + 1 ≡ n + 1 + 0 = omega arith in
    grouped_blank (record { number = n + 1; bytes = [] }) (numbered (n + 1) more) refl ∙ ap (λ (k : ℕ). Group [] k (groups_of (numbered k more))) same
grouped_block n (l ∷ ls) more tidy =
    let own : IsTidy l = All-head IsTidy l ls tidy in
    let line : Line = record { number = n + 1; bytes = l } in
    let last : n + 1 + 1 + length ls ≡ n + 1 + length (l ∷ ls) = omega arith in
    grouped_words line (numbered (n + 1) (ls ++ [] ∷ more)) (ap is_empty own.no_blanks ∙ not_empty l own)
    ∙ ap (onto_group (trimmed_line line)) (grouped_block (n + 1) ls more (All-tail IsTidy l ls tidy))
    ∙ ap (λ (b : List ℕ). Group (record { number = n + 1; bytes = b } ∷ numbered_lines (n + 1 + 1) ls) (n + 1 + 1 + length ls) (groups_of (numbered (n + 1 + 1 + length ls) more))) own.no_blanks
    ∙ ap (λ (k : ℕ). Group (line ∷ numbered_lines (n + 1 + 1) ls) k (groups_of (numbered k more))) last

-- ---- blocks

headers_are_lines : AreLines header_lines
unfolding is_line
headers_are_lines = refl

block_tidy : (h : History) (w : Write) → IsReadable h w → All IsTidy (block_lines w)
block_tidy h Begins readable = all_tidy header_lines headers_are_lines
block_tidy h (Declares d) readable = all_tidy (block_lines (Declares d)) (declaration_is_lines d readable.1 readable.2)
block_tidy h (Records r) readable =
    let within = readable.3 in
    all_tidy (block_lines (Records r)) (record_is_lines r readable.1 within.nonce (can_record_parts r readable.2).values)

-- ---- the trace

nothing_left : (ignores : Bool) (h : History) (n : ℕ) → after_all ignores (effect_of ignores h) (groups_of (numbered n (lines_of []))) ≡ Ok h
unfolding effect_of
nothing_left ignores h n = refl

traces_from : (ignores : Bool) (n : ℕ) (h : History) (ws : List Write) → AreReadable ignores h (n + 1) ws
    → after_all ignores (effect_of ignores h) (groups_of (numbered n (lines_of (trace_text ws)))) ≡ done_all ignores h (n + 1) ws
traces_from ignores n h [] readable = nothing_left ignores h n
traces_from ignores n h (w ∷ ws) readable =
    let tidy : All IsTidy (block_lines w) = block_tidy h w readable.0 in
    let behind : ℕ = n + 1 + length (block_lines w) in
    ap (λ (ls : List (List ℕ)). after_all ignores (effect_of ignores h) (groups_of (numbered n ls))) (block_front_lines w (trace_text ws) tidy)
    ∙ ap (after_all ignores (effect_of ignores h)) (grouped_block n (block_lines w) (lines_of (trace_text ws)) tidy)
    ∙ ap (λ (r : Result Taken LineFault). r >>= λ t. after_all ignores (effect_of ignores t.history) (groups_of (numbered behind (lines_of (trace_text ws)))))
    (blocks_read ignores h (n + 1) w readable.0)
    ∙ go (done ignores h (n + 1) w) readable.1 (λ next later. traces_from ignores behind next ws later)
  where
    go : (r : Result Taken LineFault) → IfOk r (λ t. AreReadable ignores t.history (line_behind (n + 1) w) ws)
        → ((next : History) → AreReadable ignores next (line_behind (n + 1) w) ws
        → after_all ignores (effect_of ignores next) (groups_of (numbered (n + 1 + length (block_lines w)) (lines_of (trace_text ws)))) ≡ done_all ignores next (line_behind (n + 1) w) ws)
        → (r >>= λ t. after_all ignores (effect_of ignores t.history) (groups_of (numbered (n + 1 + length (block_lines w)) (lines_of (trace_text ws)))))
        ≡ (r >>= λ t. done_all ignores t.history (line_behind (n + 1) w) ws)
    go (Ok t) readable later = later t.history readable
    go (Err fault) readable later = refl

pub traces_read : TracesAreRead
traces_read ignores h ws readable = traces_from ignores 0 h ws readable
