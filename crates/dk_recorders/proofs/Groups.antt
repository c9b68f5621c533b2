-- What the lines of a file come to, cut at a blank line.
use Rattle.std.proofs.Common.{◌≡◌, ◌+◌, ℕ, Bool, true, false, All, List, [], ◌∷◌, ◌++◌, map, Some, None, Result, Ok, Err, refl, sym, ap, ◌∙◌, if◌then◌else◌}
use Rattle.std.proofs.lemmas.List.Elements.{All-head, All-tail}
use Rattle.dk_base.specs.Reading.{Line, LineFault, Reads, ◌>>=◌}
use Rattle.dk_base.specs.Words.{is_empty, trim_blanks}
use Rattle.dk_lines.specs.Left.{Broken, End, Ends, Left, LongLine, Next, Over, TooLong, numbered, without_cr}
use Rattle.dk_blocks.specs.Blocks.{Group, Groups, Last, groups_of, onto_group, trimmed_line}
use Rattle.dk_blocks.specs.History.{History, Taken, effect_of, no_block}
use Rattle.dk_blocks.specs.Reading.{after_all}
use Rattle.dk_recorders.proofs.Lines.{end_of, is_past_limit}

-- what lines come to behind n others, the first block of which is read by `read`
abbrev pub read_on : Bool → Reads Taken → ℕ → List (List ℕ) → Result History LineFault
read_on ignores read n lines = after_all ignores read (groups_of (numbered n lines))

-- the number of the line behind these, which stand behind n others
abbrev pub behind : ℕ → List (List ℕ) → ℕ
behind n [] = n + 1
behind n (l ∷ ls) = behind (n + 1) ls

onto : (ignores : Bool) (read : Reads Taken) (l : Line) (g : Groups) → after_all ignores read (onto_group l g) ≡ after_all ignores (λ ls close. read (l ∷ ls) close) g
onto ignores read l (Group ls close rest) = refl
onto ignores read l (Last ls (Over line)) = refl
onto ignores read l (Last ls Broken) = refl
onto ignores read l (Last ls (LongLine line)) = refl
onto ignores read l (Last ls (TooLong line)) = refl

-- ---- how groups end
abbrev pub groups_end : Groups → End
groups_end (Group ls close rest) = groups_end rest
groups_end (Last ls end) = end

onto_ends : (l : Line) (g : Groups) → groups_end (onto_group l g) ≡ groups_end g
onto_ends l (Group ls close rest) = refl
onto_ends l (Last ls end) = refl

pub groups_end_alike : (left : Left) → groups_end (groups_of left) ≡ end_of left
groups_end_alike (Ends end) = refl
groups_end_alike (Next l rest) = by (is_empty (trim_blanks l.bytes)) (groups_end_alike rest)
  where
    by : (b : Bool) → groups_end (groups_of rest) ≡ end_of rest
        → groups_end (if b then Group [] l.number (groups_of rest) else onto_group (trimmed_line l) (groups_of rest)) ≡ end_of rest
    by true more = more
    by false more = onto_ends (trimmed_line l) (groups_of rest) ∙ more

accepted_end : (ignores : Bool) (read : Reads Taken) (g : Groups) (h : History) → after_all ignores read g ≡ Ok h → is_past_limit (groups_end g) ≡ false
accepted_end ignores read (Group ls close rest) h e = by (read ls (Some close)) e (λ next. accepted_end ignores next rest h)
  where
    by : (r : Result Taken LineFault) → (r >>= λ t. after_all ignores (effect_of ignores t.history) rest) ≡ Ok h
        → ((next : Reads Taken) → after_all ignores next rest ≡ Ok h → is_past_limit (groups_end rest) ≡ false) → is_past_limit (groups_end rest) ≡ false
    by (Err fault) f more = absurd (cc f)
    by (Ok t) f more = more (effect_of ignores t.history) f
accepted_end ignores read (Last ls (Over line)) h e = refl
accepted_end ignores read (Last ls Broken) h e = refl
accepted_end ignores read (Last ls (LongLine line)) h e = by (read ls None) e
  where
    by : (r : Result Taken LineFault) → after_all ignores (λ _ _. r) (Last ls (LongLine line)) ≡ Ok h → true ≡ false
    by (Err fault) f = absurd (cc f)
    by (Ok t) f = absurd (cc f)
accepted_end ignores read (Last ls (TooLong line)) h e = by (read ls None) e
  where
    by : (r : Result Taken LineFault) → after_all ignores (λ _ _. r) (Last ls (TooLong line)) ≡ Ok h → true ≡ false
    by (Err fault) f = absurd (cc f)
    by (Ok t) f = absurd (cc f)

-- lines that are accepted end within the limits
pub accepted_within : (ignores : Bool) (read : Reads Taken) (left : Left) (h : History) → after_all ignores read (groups_of left) ≡ Ok h
    → is_past_limit (end_of left) ≡ false
accepted_within ignores read left h e = ap is_past_limit (sym (groups_end_alike left)) ∙ accepted_end ignores read (groups_of left) h e

-- ---- at a blank line
-- where no lines are left, no block is
pub nothing_left : (ignores : Bool) (h : History) (c : ℕ) → effect_of ignores h [] (Some c) ≡ Ok (no_block h)
unfolding effect_of
nothing_left ignores h c = refl

-- at a blank line: what stands in front of it is read, and then what stands behind it
pub cut : (ignores : Bool) (read : Reads Taken) (n : ℕ) (front back : List (List ℕ))
    → read_on ignores read n (front ++ [] ∷ back) ≡ (read_on ignores read n (front ++ [] ∷ []) >>= λ h. read_on ignores (effect_of ignores h) (behind n front) back)
cut ignores read n [] back = by (read [] (Some (n + 1)))
  where
    by : (r : Result Taken LineFault) → (r >>= λ t. read_on ignores (effect_of ignores t.history) (n + 1) back)
        ≡ ((r >>= λ t. read_on ignores (effect_of ignores t.history) (n + 1) []) >>= λ h. read_on ignores (effect_of ignores h) (n + 1) back)
    by (Err e) = refl
    by (Ok t) =
        sym (ap (λ (r : Result Taken LineFault). (r >>= λ u. Ok u.history) >>= λ h. read_on ignores (effect_of ignores h) (n + 1) back) (nothing_left ignores t.history (n + 1 + 1)))
cut ignores read n (l ∷ ls) back =
    by (is_empty (trim_blanks l)) (λ r. cut ignores r (n + 1) ls back)
  where
    blank : (r : Result Taken LineFault)
        → ((next : Reads Taken) → read_on ignores next (n + 1) (ls ++ [] ∷ back) ≡ (read_on ignores next (n + 1) (ls ++ [] ∷ []) >>= λ h. read_on ignores (effect_of ignores h) (behind (n + 1) ls) back))
        → (r >>= λ t. read_on ignores (effect_of ignores t.history) (n + 1) (ls ++ [] ∷ back))
        ≡ ((r >>= λ t. read_on ignores (effect_of ignores t.history) (n + 1) (ls ++ [] ∷ [])) >>= λ h. read_on ignores (effect_of ignores h) (behind (n + 1) ls) back)
    blank (Err e) more = refl
    blank (Ok t) more = more (effect_of ignores t.history)

    by : (b : Bool)
        → ((next : Reads Taken) → read_on ignores next (n + 1) (ls ++ [] ∷ back) ≡ (read_on ignores next (n + 1) (ls ++ [] ∷ []) >>= λ h. read_on ignores (effect_of ignores h) (behind (n + 1) ls) back))
        → after_all ignores read (if b then Group [] (n + 1) (groups_of (numbered (n + 1) (ls ++ [] ∷ back))) else onto_group (record { number = n + 1; bytes = trim_blanks l }) (groups_of (numbered (n + 1) (ls ++ [] ∷ back))))
        ≡ (after_all ignores read (if b then Group [] (n + 1) (groups_of (numbered (n + 1) (ls ++ [] ∷ []))) else onto_group (record { number = n + 1; bytes = trim_blanks l }) (groups_of (numbered (n + 1) (ls ++ [] ∷ []))))
        >>= λ h. read_on ignores (effect_of ignores h) (behind (n + 1) ls) back)
    by true more = blank (read [] (Some (n + 1))) more
    by false more =
        onto ignores read (record { number = n + 1; bytes = trim_blanks l }) (groups_of (numbered (n + 1) (ls ++ [] ∷ back)))
        ∙ more (λ ks close. read (record { number = n + 1; bytes = trim_blanks l } ∷ ks) close)
        ∙ ap (λ (r : Result History LineFault). r >>= λ h. read_on ignores (effect_of ignores h) (behind (n + 1) ls) back)
        (sym (onto ignores read (record { number = n + 1; bytes = trim_blanks l }) (groups_of (numbered (n + 1) (ls ++ [] ∷ [])))))

-- ---- lines that are read as they are
pub record IsKept (line : List ℕ) : Type 0 where
  pub cut : without_cr line ≡ line
  pub trimmed : trim_blanks line ≡ line
  pub some : is_empty line ≡ false

-- these lines behind n others
abbrev pub lines_from : ℕ → List (List ℕ) → List Line
lines_from n [] = []
lines_from n (l ∷ ls) = record { number = n + 1; bytes = l } ∷ lines_from (n + 1) ls

kept_line : (ignores : Bool) (read : Reads Taken) (n : ℕ) (l : List ℕ) (rest : List (List ℕ)) → IsKept l
    → read_on ignores read n (without_cr l ∷ rest) ≡ read_on ignores (λ ls close. read (record { number = n + 1; bytes = l } ∷ ls) close) (n + 1) rest
kept_line ignores read n l rest kept =
    ap (λ (bytes : List ℕ). read_on ignores read n (bytes ∷ rest)) kept.cut
    ∙ ap (λ (bytes : List ℕ). after_all ignores read (if is_empty bytes then Group [] (n + 1) (groups_of (numbered (n + 1) rest)) else onto_group (record { number = n + 1; bytes = bytes }) (groups_of (numbered (n + 1) rest)))) kept.trimmed
    ∙ ap (λ (b : Bool). after_all ignores read (if b then Group [] (n + 1) (groups_of (numbered (n + 1) rest)) else onto_group (record { number = n + 1; bytes = l }) (groups_of (numbered (n + 1) rest)))) kept.some
    ∙ onto ignores read (record { number = n + 1; bytes = l }) (groups_of (numbered (n + 1) rest))

-- a block in front of a blank line
pub block_read : (ignores : Bool) (read : Reads Taken) (n : ℕ) (ls back : List (List ℕ)) → All IsKept ls
    → read_on ignores read n (map without_cr ls ++ [] ∷ back)
    ≡ (read (lines_from n ls) (Some (behind n ls)) >>= λ t. read_on ignores (effect_of ignores t.history) (behind n ls) back)
block_read ignores read n [] back kept = refl
block_read ignores read n (l ∷ ls) back kept =
    kept_line ignores read n l (map without_cr ls ++ [] ∷ back) (All-head IsKept l ls kept)
    ∙ block_read ignores (λ ks close. read (record { number = n + 1; bytes = l } ∷ ks) close) (n + 1) ls back (All-tail IsKept l ls kept)

-- the last block
pub last_read : (ignores : Bool) (read : Reads Taken) (n : ℕ) (ls : List (List ℕ)) → All IsKept ls
    → read_on ignores read n (map without_cr ls) ≡ (read (lines_from n ls) (Some (behind n ls)) >>= λ t. Ok t.history)
last_read ignores read n [] kept = refl
last_read ignores read n (l ∷ ls) kept =
    kept_line ignores read n l (map without_cr ls) (All-head IsKept l ls kept)
    ∙ last_read ignores (λ ks close. read (record { number = n + 1; bytes = l } ∷ ks) close) (n + 1) ls (All-tail IsKept l ls kept)
