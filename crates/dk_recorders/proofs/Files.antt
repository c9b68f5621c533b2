-- The blocks of a file, as they are written.
use Rattle.std.proofs.Common.{◌≡◌, ◌+◌, ℕ, Bool, true, false, not, All, List, [], ◌∷◌, get_or, map, Option, Some, None, Result, Ok, Err, refl, subst, ap, ◌∙◌, if◌then◌else◌}
use Rattle.std.proofs.lemmas.List.Elements.{All-append, All-cons, All-filter, All-head, All-map, All-nil, All-tail, All-weaker, filter_passes}
use Rattle.dk_base.specs.Reading.{Line}
use Rattle.dk_base.specs.declared.why.Why.{Why}
use Rattle.dk_base.specs.Words.{is_empty, trim_blanks}
use Rattle.dk_lines.specs.Left.{lines_of, numbered}
use Rattle.dk_decl.specs.Comments.{is_comment}
use Rattle.dk_decl.specs.Headers.{first_header, header_line}
use Rattle.dk_decl.specs.declared.header.Header.{Header}
use Rattle.dk_blocks.specs.Blocks.{Group, Groups, Last, groups_of, onto_group}
use Rattle.dk_turns.specs.Blocks.{Block, at_line, begins_sample, behind_header, block_behind, block_of, blocks_of, has_lines, has_sample, in_force, lines_of_block, lines_of_groups, plain_blocks, runs_of, sample_blocks}
use Rattle.dk_recorders.proofs.Lines.{HasNoLf}
use Rattle.dk_recorders.proofs.Trimming.{lines_have_no_lf, trimmed_no_lf, trimmed_twice}

-- ---- the lines of blocks
-- a line that isn't blank, without blanks at its ends, and in which no LF stands
pub record IsTaken (line : List ℕ) : Type 0 where
  pub some : is_empty line ≡ false
  pub trimmed : trim_blanks line ≡ line
  pub no_lf : HasNoLf line

onto_taken : (l : Line) (g : Groups) → IsTaken l.bytes → All (All IsTaken) (lines_of_groups g) → All (All IsTaken) (lines_of_groups (onto_group l g))
onto_taken l (Group ls close rest) one all =
    All-cons (All IsTaken) (l.bytes ∷ map (λ (k : Line). k.bytes) ls) (lines_of_groups rest)
    (All-cons IsTaken l.bytes (map (λ (k : Line). k.bytes) ls) one (All-head (All IsTaken) (map (λ (k : Line). k.bytes) ls) (lines_of_groups rest) all))
    (All-tail (All IsTaken) (map (λ (k : Line). k.bytes) ls) (lines_of_groups rest) all)
onto_taken l (Last ls end) one all =
    All-cons (All IsTaken) (l.bytes ∷ map (λ (k : Line). k.bytes) ls) []
    (All-cons IsTaken l.bytes (map (λ (k : Line). k.bytes) ls) one (All-head (All IsTaken) (map (λ (k : Line). k.bytes) ls) [] all))
    (All-nil (All IsTaken))

groups_taken : (n : ℕ) (lines : List (List ℕ)) → All HasNoLf lines → All (All IsTaken) (lines_of_groups (groups_of (numbered n lines)))
groups_taken n [] none = All-cons (All IsTaken) [] [] (All-nil IsTaken) (All-nil (All IsTaken))
groups_taken n (l ∷ ls) none = by (is_empty (trim_blanks l)) refl (groups_taken (n + 1) ls (All-tail HasNoLf l ls none))
  where
    by : (b : Bool) → is_empty (trim_blanks l) ≡ b → All (All IsTaken) (lines_of_groups (groups_of (numbered (n + 1) ls)))
        → All (All IsTaken) (lines_of_groups (if b then Group [] (n + 1) (groups_of (numbered (n + 1) ls)) else onto_group (record { number = n + 1; bytes = trim_blanks l }) (groups_of (numbered (n + 1) ls))))
    by true e more = All-cons (All IsTaken) [] (lines_of_groups (groups_of (numbered (n + 1) ls))) (All-nil IsTaken) more
    by false e more =
        onto_taken (record { number = n + 1; bytes = trim_blanks l }) (groups_of (numbered (n + 1) ls))
        (record { some = e; trimmed = trimmed_twice l; no_lf = trimmed_no_lf l (All-head HasNoLf l ls none) }) more

runs_taken : (file : List ℕ) → All (All IsTaken) (runs_of file)
runs_taken file = groups_taken 0 (lines_of file) (lines_have_no_lf file)

block_taken : (h : Header) (run : List (List ℕ)) → All IsTaken run → All IsTaken (block_behind h run).headers × All IsTaken (block_behind h run).body
block_taken h [] all = (All-nil IsTaken, All-nil IsTaken)
block_taken h (l ∷ ls) all = by (is_comment l) (behind_header h l) (λ next. block_taken next ls (All-tail IsTaken l ls all))
  where
    at : (o : Option Header) → ((next : Header) → All IsTaken (block_behind next ls).headers × All IsTaken (block_behind next ls).body)
        → (let b : Block = at_line l ls o (λ next. block_behind next ls) in All IsTaken b.headers × All IsTaken b.body)
    at None more = (All-nil IsTaken, all)
    at (Some next) more = (All-cons IsTaken l (block_behind next ls).headers (All-head IsTaken l ls all) (more next).0, (more next).1)

    by : (b : Bool) (o : Option Header) → ((next : Header) → All IsTaken (block_behind next ls).headers × All IsTaken (block_behind next ls).body)
        → (let c : Block = if b then block_behind h ls else at_line l ls o (λ next. block_behind next ls) in All IsTaken c.headers × All IsTaken c.body)
    by true o more = more h
    by false o more = at o more

abbrev pub LinesTaken : Block → Type 0
LinesTaken b = All IsTaken (lines_of_block b)

blocks_taken : (file : List ℕ) → All LinesTaken (blocks_of file)
blocks_taken file =
    All-filter has_lines LinesTaken (map block_of (runs_of file))
    (All-map LinesTaken block_of (runs_of file)
    (All-weaker (All IsTaken) (λ run. LinesTaken (block_of run))
    (λ run all. let parts = block_taken first_header run all in All-append IsTaken (block_of run).headers (block_of run).body parts.0 parts.1)
    (runs_of file) (runs_taken file)))

pub plain_taken : (file : List ℕ) → All LinesTaken (plain_blocks file)
plain_taken file = All-filter (λ b. not (has_sample b)) LinesTaken (blocks_of file) (blocks_taken file)

pub samples_taken : (file : List ℕ) → All LinesTaken (sample_blocks file)
samples_taken file = All-filter has_sample LinesTaken (blocks_of file) (blocks_taken file)

-- ---- the first line of a record
-- no header line stands in front of the record
abbrev pub HasNoHeader : Block → Type 0
HasNoHeader b = b.headers ≡ []

-- a record begins at the line, which is neither a comment nor a header line
pub record Begins (b : Block) : Type 0 where
  pub first : List ℕ
  pub rest : List (List ℕ)
  pub body : b.body ≡ first ∷ rest
  pub no_comment : is_comment first ≡ false
  pub no_header : header_line first_header first ≡ None
  pub sample : begins_sample first ≡ true

no_header_line : (h : Header) (o : Option (Result Header Why)) → in_force h o ≡ None → o ≡ None
no_header_line h None e = refl
no_header_line h (Some (Ok next)) e = absurd (cc e)
no_header_line h (Some (Err why)) e = absurd (cc e)

run_begins : (run : List (List ℕ)) → has_sample (block_of run) ≡ true → HasNoHeader (block_of run) → Begins (block_of run)
run_begins [] sample none = absurd (cc sample)
run_begins (l ∷ ls) sample none = by (is_comment l) refl (run_begins ls) sample none
  where
    at : (o : Option Header) → behind_header first_header l ≡ o → is_comment l ≡ false → (let b : Block = at_line l ls o (λ next. block_behind next ls) in
        has_sample b ≡ true → HasNoHeader b → Begins b)
    at None e comment s n = record { first = l; rest = ls; body = refl; no_comment = comment; no_header = no_header_line first_header (header_line first_header l) e; sample = s }
    at (Some next) e comment s n = absurd (cc n)

    by : (c : Bool) → is_comment l ≡ c → (has_sample (block_of ls) ≡ true → HasNoHeader (block_of ls) → Begins (block_of ls))
        → (let b : Block = if c then block_of ls else at_line l ls (behind_header first_header l) (λ next. block_behind next ls) in
        has_sample b ≡ true → HasNoHeader b → Begins b)
    by true e more s n = more s n
    by false e more s n = at (behind_header first_header l) refl e s n

abbrev AsRun : Block → Type 0
AsRun b = (run : List (List ℕ)) × (block_of run ≡ b)

all_runs : (runs : List (List (List ℕ))) → All AsRun (map block_of runs)
all_runs runs = All-map AsRun block_of runs (λ k d lt. (get_or runs k d, refl))

block_begins : (b : Block) → AsRun b → has_sample b ≡ true → HasNoHeader b → Begins b
block_begins b of sample none =
    subst Begins of.1 (run_begins of.0 (ap has_sample of.1 ∙ sample) (ap (λ (c : Block). c.headers) of.1 ∙ none))

pub samples_begin : (file : List ℕ) → All HasNoHeader (sample_blocks file) → All Begins (sample_blocks file)
samples_begin file none k d lt =
    block_begins (get_or (sample_blocks file) k d)
    (All-filter has_sample AsRun (blocks_of file) (All-filter has_lines AsRun (map block_of (runs_of file)) (all_runs (runs_of file))) k d lt)
    (filter_passes has_sample (blocks_of file) k d lt) (none k d lt)
