-- The lines in front of a record, one after another.
use Rattle.std.proofs.Common.{◌≡◌, ℕ, Bool, true, false, not, List, [], ◌∷◌, ◌++◌, is_some, Option, Some, None, Result, Ok, Err, unwrap_or, length, ◌==◌, if◌then◌else◌, refl, sym, ◌∙◌, ap, append_assoc, append-nil, arith}
use Rattle.std.proofs.lemmas.Bool.Decides.{nat_tests}
use Rattle.dk_base.specs.Pieces.{is_empty}
use Rattle.dk_base.specs.declared.why.Why.{Why}
use Rattle.dk_decl.specs.Comments.{is_comment}
use Rattle.dk_decl.specs.Headers.{HeaderAnswers, first_header, is_implicit, with_word}
use Rattle.dk_decl.specs.declared.header.Header.{Header}
use Rattle.dk_turns.specs.Blocks.{Block, at_line, begins_sample, behind_header, block_behind, has_lines, has_sample, in_force}
use Rattle.dk_turns.specs.Reading.{behind_run, block_left, first_block, first_run, with_gap}
use Rattle.dk_turns.specs.Turns.{block_text, lines_text}

-- ---- header lines
pub taken : (o : Option (Result Header Why)) (h h' : Header) (b : Bool) → HeaderAnswers o h (Ok b) h'
    → (b ≡ is_some (in_force h o)) × (h' ≡ unwrap_or (in_force h o) h)
taken None h h' b e = let f : b ≡ false = cc (e.0) in (f, e.1)
taken (Some (Ok next)) h h' b e = let f : b ≡ true = cc (e.0) in (f, e.1)
taken (Some (Err why)) h h' b e = absurd (cc (e.0))

pub refused : (o : Option (Result Header Why)) (h h' : Header) (why : Why) → HeaderAnswers o h (Err why) h'
    → (true ≡ is_some (in_force h o)) × (with_word (is_implicit h') ≡ unwrap_or (in_force h o) h)
refused None h h' why e = absurd (cc (e.0))
refused (Some (Ok next)) h h' why e = absurd (cc (e.0))
refused (Some (Err w)) h h' why e = (refl, ap (λ (x : Header). with_word (is_implicit x)) e.1)

-- ---- blank lines
pub empty_is : (line : List ℕ) (b : Bool) → (length line == 0) ≡ b → is_empty line ≡ b
empty_is [] b e = e
empty_is (x ∷ xs) b e = sym more ∙ e where
  more : (length (x ∷ xs) == 0) ≡ false
  more = grind (arith, nat_tests)

pub blank_is : (line : List ℕ) → (length line == 0) ≡ true → line ≡ []
blank_is [] e = refl
blank_is (x ∷ xs) e = let f : false ≡ true = empty_is (x ∷ xs) true e in absurd (cc (f))

-- ---- comments
nothing_is_no_comment : is_comment [] ≡ false
unfolding is_comment
nothing_is_no_comment = refl

pub comment_passed : (h : Header) (line : List ℕ) (ls : List (List ℕ)) → is_comment line ≡ true → block_left h (line ∷ ls) ≡ block_left h ls
comment_passed h [] ls e = absurd (cc (e, nothing_is_no_comment))
comment_passed h (x ∷ xs) ls e =
    ap (λ (b : Bool). if b then block_left h ls
    else at_line (x ∷ xs) (first_run ls) (behind_header h (x ∷ xs)) (λ next. block_behind next (first_run ls))) e

-- ---- other lines
kept_line : (h : Header) (line : List ℕ) (ls : List (List ℕ)) → is_empty line ≡ false → is_comment line ≡ false
    → block_left h (line ∷ ls) ≡ at_line line (first_run ls) (behind_header h line) (λ next. block_behind next (first_run ls))
kept_line h [] ls e c = absurd (cc (e))
kept_line h (x ∷ xs) ls e c =
    ap (λ (b : Bool). if b then block_left h ls
    else at_line (x ∷ xs) (first_run ls) (behind_header h (x ∷ xs)) (λ next. block_behind next (first_run ls))) c

-- a block with a header line in front
abbrev under : List ℕ → Block → Block
under line b = record b { headers = line ∷ b.headers }

at_header : (o : Option Header) (h h' : Header) (line : List ℕ) (run : List (List ℕ)) (more : Header → Block) → is_some o ≡ true → h' ≡ unwrap_or o h
    → at_line line run o more ≡ under line (more h')
at_header None h h' line run more e f = absurd (cc (e))
at_header (Some next) h h' line run more e f = ap (λ (x : Header). under line (more x)) (sym f)

at_record : (o : Option Header) (line : List ℕ) (run : List (List ℕ)) (more : Header → Block) → is_some o ≡ false
    → at_line line run o more ≡ record { headers = []; body = line ∷ run }
at_record None line run more e = refl
at_record (Some next) line run more e = absurd (cc (e))

header_passed : (h h' : Header) (line : List ℕ) (ls : List (List ℕ)) → is_empty line ≡ false → is_comment line ≡ false
    → is_some (behind_header h line) ≡ true → h' ≡ unwrap_or (behind_header h line) h
    → block_left h (line ∷ ls) ≡ under line (block_left h' ls)
header_passed h h' line ls e c s u =
    kept_line h line ls e c ∙ at_header (behind_header h line) h h' line (first_run ls) (λ next. block_behind next (first_run ls)) s u

record_begun : (h : Header) (line : List ℕ) (ls : List (List ℕ)) → is_empty line ≡ false → is_comment line ≡ false
    → is_some (behind_header h line) ≡ false → block_left h (line ∷ ls) ≡ record { headers = []; body = line ∷ first_run ls }
record_begun h line ls e c s =
    kept_line h line ls e c ∙ at_record (behind_header h line) line (first_run ls) (λ next. block_behind next (first_run ls)) s

-- ---- whether something is left
any_kept : (o : Option Header) (line : List ℕ) (run : List (List ℕ)) (more : Header → Block) → has_lines (at_line line run o more) ≡ true
any_kept None line run more = refl
any_kept (Some next) line run more = refl

pub has_lines_at : (line : List ℕ) (ls : List (List ℕ)) → is_comment line ≡ false
    → not (length line == 0) ≡ has_lines (first_block (line ∷ ls))
has_lines_at [] ls c = refl
has_lines_at (x ∷ xs) ls c =
    ap not (sym (empty_is (x ∷ xs) (length (x ∷ xs) == 0) refl))
    ∙ sym (ap has_lines (kept_line first_header (x ∷ xs) ls refl c)
    ∙ any_kept (behind_header first_header (x ∷ xs)) (x ∷ xs) (first_run ls) (λ next. block_behind next (first_run ls)))

-- ---- whether there is a sample record
pub sample_behind : (h h' : Header) (line : List ℕ) (ls : List (List ℕ)) → (length line == 0) ≡ false → is_comment line ≡ false
    → is_some (behind_header h line) ≡ true → h' ≡ unwrap_or (behind_header h line) h
    → has_sample (block_left h' ls) ≡ has_sample (block_left h (line ∷ ls))
sample_behind h h' line ls e c s u = sym (ap has_sample (header_passed h h' line ls (empty_is line false e) c s u))

pub sample_at : (h : Header) (line : List ℕ) (ls : List (List ℕ)) → (length line == 0) ≡ false → is_comment line ≡ false
    → is_some (behind_header h line) ≡ false → has_sample (block_left h (line ∷ ls)) ≡ begins_sample line
sample_at h line ls e c s = ap has_sample (record_begun h line ls (empty_is line false e) c s)

pub no_sample_at : (h : Header) (line : List ℕ) (ls : List (List ℕ)) → (length line == 0) ≡ true → has_sample (block_left h (line ∷ ls)) ≡ false
no_sample_at h line ls e = ap (λ (l : List ℕ). has_sample (block_left h (l ∷ ls))) (blank_is line e)

-- ---- texts
pub text_behind : (h h' : Header) (line : List ℕ) (ls : List (List ℕ)) (t : List ℕ) → (length line == 0) ≡ false → is_comment line ≡ false
    → is_some (behind_header h line) ≡ true → h' ≡ unwrap_or (behind_header h line) h
    → (t ++ (line ++ 10 ∷ [])) ++ block_text (block_left h' ls) ≡ t ++ block_text (block_left h (line ∷ ls))
text_behind h h' line ls t e c s u =
    append_assoc t (line ++ 10 ∷ []) (block_text (block_left h' ls))
    ∙ ap (λ (b : Block). t ++ block_text b) (sym (header_passed h h' line ls (empty_is line false e) c s u))

pub text_at : (h : Header) (line : List ℕ) (ls : List (List ℕ)) → (length line == 0) ≡ false → is_comment line ≡ false
    → is_some (behind_header h line) ≡ false → lines_text (first_run (line ∷ ls)) ≡ block_text (block_left h (line ∷ ls))
text_at h [] ls e c s = absurd (cc (e))
text_at h (x ∷ xs) ls e c s = sym (ap block_text (record_begun h (x ∷ xs) ls refl c s))

pub no_text_at : (h : Header) (line : List ℕ) (ls : List (List ℕ)) → (length line == 0) ≡ true
    → lines_text (first_run (line ∷ ls)) ≡ block_text (block_left h (line ∷ ls))
no_text_at h line ls e =
    ap (λ (l : List ℕ). lines_text (first_run (l ∷ ls))) (blank_is line e)
    ∙ sym (ap (λ (l : List ℕ). block_text (block_left h (l ∷ ls))) (blank_is line e))

-- ---- runs
pub run_on : (line : List ℕ) (ls : List (List ℕ)) (t : List ℕ) → (length line == 0) ≡ false
    → (t ++ (line ++ 10 ∷ [])) ++ lines_text (first_run ls) ≡ t ++ lines_text (first_run (line ∷ ls))
run_on [] ls t e = absurd (cc (e))
run_on (x ∷ xs) ls t e = append_assoc t ((x ∷ xs) ++ 10 ∷ []) (lines_text (first_run ls))

pub run_over : (line : List ℕ) (ls : List (List ℕ)) (t : List ℕ) → (length line == 0) ≡ true → t ++ lines_text (first_run (line ∷ ls)) ≡ t
run_over line ls t e = ap (λ (l : List ℕ). t ++ lines_text (first_run (l ∷ ls))) (blank_is line e) ∙ append-nil t

pub behind_on : (line : List ℕ) (ls : List (List ℕ)) → (length line == 0) ≡ false → behind_run (line ∷ ls) ≡ behind_run ls
behind_on [] ls e = absurd (cc (e))
behind_on (x ∷ xs) ls e = refl

pub behind_over : (line : List ℕ) (ls : List (List ℕ)) → (length line == 0) ≡ true → behind_run (line ∷ ls) ≡ ls
behind_over line ls e = ap (λ (l : List ℕ). behind_run (l ∷ ls)) (blank_is line e)

-- ---- gaps
pub gap_none : (t : List ℕ) → (length t == 0) ≡ true → t ≡ with_gap t
gap_none t e = blank_is t e ∙ sym (ap with_gap (blank_is t e))

pub gap_some : (t : List ℕ) → (length t == 0) ≡ false → t ++ 10 ∷ [] ≡ with_gap t
gap_some [] e = absurd (cc (e))
gap_some (x ∷ xs) e = refl
