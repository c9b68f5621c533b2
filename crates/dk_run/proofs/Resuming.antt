-- A run that is cut behind a file, and goes on from there.
use Rattle.std.proofs.Common.{◌≡◌, ◌⊎◌, inl, inr, ◌+◌, ◌-◌, ◌||◌, ℕ, List, [], ◌∷◌, ◌++◌, length, Bool, true, false, if◌then◌else◌, Some, None, Result, Ok, Err, refl, sym, ◌∙◌, ap, subst}
use Rattle.dk_base.specs.Reading.{Line, LineFault, Reads, ◌>>=◌}
use Rattle.dk_base.specs.declared.why.Why.{Why}
use Rattle.dk_lines.specs.Left.{End, Over, Broken, LongLine, TooLong, Ends, Left, Next, Piece, is_long, is_over, lined, lined_by, pieces, size_of, without_cr}
use Rattle.dk_blocks.specs.Blocks.{Group, Groups, Last, groups_of, is_blank_line, onto_group, trimmed_line}
use Rattle.dk_blocks.specs.History.{History, Taken, effect_of, file_ended}
use Rattle.dk_driver.proofs.Trails.{trail_ends}
use Rattle.dk_driver.specs.Files.{File}
use Rattle.dk_driver.specs.Trails.{Trail, goes_on, line_limit, then_files, trail_behind, trail_end, trail_of_file, trail_of_files, trail_of_groups}
use Rattle.dk_run.specs.Courses.{course_of}
use Rattle.dk_run.specs.Laws.{ResumedRunsGoOn}

-- ---- lines that end with too many bytes
abbrev IsOver : End → Type 0
IsOver (Over n) = ⊥
IsOver Broken = ⊥
IsOver (LongLine n) = Unit {0}
IsOver (TooLong n) = Unit {0}

abbrev AreOver : Left → Type 0
AreOver (Ends end) = IsOver end
AreOver (Next l rest) = AreOver rest

-- lines within two rooms are the same, unless those within one end so
abbrev Near : Left → Left → Type 0
Near a b = (a ≡ b) ⊎ (AreOver a ⊎ AreOver b)

near_next : (l : Line) (a b : Left) → Near a b → Near (Next l a) (Next l b)
near_next l a b (inl same) = inl (ap (Next l) same)
near_next l a b (inr over) = inr over

abbrev stop_at : Bool → Bool → ℕ → Left → Left
stop_at long over n left = if long then Ends (LongLine n) else if over then Ends (TooLong n) else left

near_stop : (a b c d : Bool) (n : ℕ) (left other : Left) → Near left other → Near (stop_at a b n left) (stop_at c d n other)
near_stop true b c d n left other near = inr (inl tt)
near_stop false true c d n left other near = inr (inl tt)
near_stop false false true d n left other near = inr (inr tt)
near_stop false false false true n left other near = inr (inr tt)
near_stop false false false false n left other near = near

near_go : (go : Bool) (l : Line) (a b : Left) → Near a b → Near (if go then Next l a else Ends Broken) (if go then Next l b else Ends Broken)
near_go true l a b near = near_next l a b near
near_go false l a b near = inl refl

near_lines : (limit room other : ℕ) (is_ended : Bool) (n : ℕ) (ps : List Piece) → Near (lined_by limit room is_ended n ps) (lined_by limit other is_ended n ps)
near_lines limit room other is_ended n [] = inl refl
near_lines limit room other is_ended n (p ∷ ps) =
    near_stop (is_long limit room p) (is_over room p) (is_long limit other p) (is_over other p) (n + 1)
    (if p.has_lf || is_ended then Next (record { number = n + 1; bytes = without_cr p.bytes }) (lined_by limit (room - size_of p) is_ended (n + 1) ps) else Ends Broken)
    (if p.has_lf || is_ended then Next (record { number = n + 1; bytes = without_cr p.bytes }) (lined_by limit (other - size_of p) is_ended (n + 1) ps) else Ends Broken)
    (near_go (p.has_lf || is_ended) (record { number = n + 1; bytes = without_cr p.bytes }) (lined_by limit (room - size_of p) is_ended (n + 1) ps) (lined_by limit (other - size_of p) is_ended (n + 1) ps)
    (near_lines limit (room - size_of p) (other - size_of p) is_ended (n + 1) ps))

-- ---- groups of them
abbrev GroupsOver : Groups → Type 0
GroupsOver (Group ls close rest) = GroupsOver rest
GroupsOver (Last ls end) = IsOver end

over_onto : (l : Line) (gs : Groups) → GroupsOver gs → GroupsOver (onto_group l gs)
over_onto l (Group ls close rest) over = over
over_onto l (Last ls end) over = over

over_if : (blank : Bool) (l : Line) (gs : Groups) → GroupsOver gs → GroupsOver (if blank then Group [] l.number gs else onto_group (trimmed_line l) gs)
over_if true l gs over = over
over_if false l gs over = over_onto (trimmed_line l) gs over

groups_over : (left : Left) → AreOver left → GroupsOver (groups_of left)
groups_over (Ends end) over = over
groups_over (Next l rest) over = over_if (is_blank_line l) l (groups_of rest) (groups_over rest over)

never : (place n : ℕ) (why : Why) (r : Result Taken LineFault) (more : History → Trail LineFault) (h : History) → (goes_on place (r >>= λ _. Err (record { line = n; why = why })) more).end ≡ Ok h → ⊥
never place n why (Ok t) more h e = cc (e)
never place n why (Err f) more h e = cc (e)

-- a trail over them comes to a fault
over_fails : (ignores : Bool) (place : ℕ) (read : Reads Taken) (gs : Groups) (h : History) → GroupsOver gs → (trail_of_groups ignores place read gs).end ≡ Ok h → ⊥
over_fails ignores place read (Group ls close rest) h over e = go (read ls (Some close)) (λ t. over_fails ignores place (effect_of ignores t.history) rest h over) e where
  go : (r : Result Taken LineFault) → ((t : Taken) → (trail_behind ignores place t.history rest).end ≡ Ok h → ⊥)
      → (goes_on place r (λ n. trail_behind ignores place n rest)).end ≡ Ok h → ⊥
  go (Ok t) later e = later t e
  go (Err f) later e = cc (e)
over_fails ignores place read (Last ls (Over n)) h over e = absurd over
over_fails ignores place read (Last ls Broken) h over e = absurd over
over_fails ignores place read (Last ls (LongLine n)) h over e = never place n _ (read ls None) (λ n. trail_end (Ok n)) h e
over_fails ignores place read (Last ls (TooLong n)) h over e = never place n _ (read ls None) (λ n. trail_end (Ok n)) h e

-- ---- files
-- the end doesn't say where its file stands
ends_alike : (ignores : Bool) (place from : ℕ) (read : Reads Taken) (gs : Groups) → (trail_of_groups ignores place read gs).end ≡ (trail_of_groups ignores from read gs).end
ends_alike ignores place from read gs = trail_ends ignores place read gs ∙ sym (trail_ends ignores from read gs)

near_trail : (ignores : Bool) (place from : ℕ) (h a b : History) (left other : Left) → Near left other → (trail_behind ignores place h (groups_of left)).end ≡ Ok a
    → (trail_behind ignores from h (groups_of other)).end ≡ Ok b → a ≡ b
near_trail ignores place from h a b left other (inl same) e f =
    let both = sym e ∙ ends_alike ignores place from (effect_of ignores h) (groups_of left) ∙ ap (λ (l : Left). (trail_behind ignores from h (groups_of l)).end) same ∙ f in cc (both)
near_trail ignores place from h a b left other (inr (inl over)) e f = absurd (over_fails ignores place (effect_of ignores h) (groups_of left) a (groups_over left over) e)
near_trail ignores place from h a b left other (inr (inr over)) e f = absurd (over_fails ignores from (effect_of ignores h) (groups_of other) b (groups_over other over) f)

-- a file comes to one history, however many bytes may come
same_file : (ignores : Bool) (room other place from : ℕ) (h a b : History) (file : File) → (trail_of_file ignores room h place file).end ≡ Ok a → (trail_of_file ignores other h from file).end ≡ Ok b → a ≡ b
unfolding lined
same_file ignores room other place from h a b file e f =
    near_trail ignores place from h a b (lined line_limit room 0 file.is_ended file.bytes) (lined line_limit other 0 file.is_ended file.bytes) (near_lines line_limit room other file.is_ended 0 (pieces file.bytes)) e f

-- so do files
same_files : (ignores : Bool) (room other : ℕ) (h a b : History) (place from : ℕ) (files : List File) → (trail_of_files ignores room h place files).end ≡ Ok a
    → (trail_of_files ignores other h from files).end ≡ Ok b → a ≡ b
same_files ignores room other h a b place from [] e f = let both = sym e ∙ f in cc (both)
same_files ignores room other h a b place from (x ∷ xs) e f =
    go (trail_of_file ignores room h place x).end (trail_of_file ignores other h from x).end (λ n. same_files ignores (room - length x.bytes) (other - length x.bytes) (file_ended n) a b (place + 1) (from + 1) xs) refl refl e f where
      go : (r s : Result History LineFault)
          → ((n : History) → (trail_of_files ignores (room - length x.bytes) (file_ended n) (place + 1) xs).end ≡ Ok a → (trail_of_files ignores (other - length x.bytes) (file_ended n) (from + 1) xs).end ≡ Ok b → a ≡ b)
          → (trail_of_file ignores room h place x).end ≡ r → (trail_of_file ignores other h from x).end ≡ s
          → (then_files place r (λ next. trail_of_files ignores (room - length x.bytes) (file_ended next) (place + 1) xs)).end ≡ Ok a
          → (then_files from s (λ next. trail_of_files ignores (other - length x.bytes) (file_ended next) (from + 1) xs)).end ≡ Ok b → a ≡ b
      go (Err r) s later is same e f = absurd (cc (e))
      go (Ok n) (Err s) later is same e f = absurd (cc (f))
      go (Ok n) (Ok m) later is same e f =
          later n e (subst (λ (k : History). (trail_of_files ignores (other - length x.bytes) (file_ended k) (from + 1) xs).end ≡ Ok b) (sym (same_file ignores room other place from h n m x is same)) f)

-- behind the files in front, the others come to what all of them come to
behind_front : (ignores : Bool) (room : ℕ) (h mid whole : History) (place : ℕ) (front files : List File) → (trail_of_files ignores room h place front).end ≡ Ok mid
    → (trail_of_files ignores room h place (front ++ files)).end ≡ Ok whole
    → (left : ℕ) × (from : ℕ) × ((trail_of_files ignores left mid from files).end ≡ Ok whole)
behind_front ignores room h mid whole place [] files e f =
    let same : h ≡ mid = cc (e) in
    (room, place, subst (λ (k : History). (trail_of_files ignores room k place files).end ≡ Ok whole) same f)
behind_front ignores room h mid whole place (x ∷ xs) files e f =
    go (trail_of_file ignores room h place x).end (λ n. behind_front ignores (room - length x.bytes) (file_ended n) mid whole (place + 1) xs files) e f where
      go : (r : Result History LineFault)
          → ((n : History) → (trail_of_files ignores (room - length x.bytes) (file_ended n) (place + 1) xs).end ≡ Ok mid → (trail_of_files ignores (room - length x.bytes) (file_ended n) (place + 1) (xs ++ files)).end ≡ Ok whole
          → (left : ℕ) × (from : ℕ) × ((trail_of_files ignores left mid from files).end ≡ Ok whole))
          → (then_files place r (λ next. trail_of_files ignores (room - length x.bytes) (file_ended next) (place + 1) xs)).end ≡ Ok mid
          → (then_files place r (λ next. trail_of_files ignores (room - length x.bytes) (file_ended next) (place + 1) (xs ++ files))).end ≡ Ok whole
          → (left : ℕ) × (from : ℕ) × ((trail_of_files ignores left mid from files).end ≡ Ok whole)
      go (Err r) later e f = absurd (cc (e))
      go (Ok n) later e f = later n e f

pub resumed_runs : ResumedRunsGoOn
unfolding course_of
resumed_runs start ignores front files mid resumed whole first second all =
    let (left, from, behind) = behind_front ignores start.room start.history mid whole 0 front files first all in
    same_files ignores _ left mid resumed whole 0 from files second behind
