-- Trails, a block after another.
use Rattle.std.proofs.Common.{◌≡◌, ◌+◌, ◌-◌, ℕ, zero, suc, List, [], ◌∷◌, ◌++◌, take, length, Bool, is_some, Option, Some, None, Result, Ok, Err, refl, sym, ◌∙◌, ap, if◌then◌else◌, append_assoc}
use Rattle.std.proofs.lemmas.Grind.{flat_map-append}
use Rattle.std.proofs.lemmas.List.{append-nil}
use Rattle.dk_base.specs.Reading.{LineFault, Reads, ◌>>=◌}
use Rattle.dk_base.specs.declared.why.Why.{Why}
use Rattle.dk_base.specs.declared.why.Why.TheVariants.{LongLine as WhyLong, TooLong as WhyMany}
use Rattle.dk_blocks.specs.Blocks.{Group, Groups, Last}
use Rattle.dk_blocks.specs.History.{Effect, History, Taken, effect_of, file_ended, no_block, no_history}
use Rattle.dk_blocks.specs.Reading.{Stepped, after_all, after_last, after_next, stepped, stop_or}
use Rattle.dk_blocks.specs.Steps.{IsNoBlock}
use Rattle.dk_lines.specs.Left.{End, Over, Broken, LongLine, TooLong}
use Rattle.dk_driver.specs.Consuming.{Record}
use Rattle.dk_driver.specs.Files.{FaultAt, File}
use Rattle.dk_driver.specs.Laws.{RecordsGoOn}
use Rattle.dk_driver.specs.Trails.{Step, Trail, behind_steps, goes_on, step_by, then_files, trail_behind, trail_end, trail_of, trail_of_file, trail_of_files, trail_of_groups}
use Rattle.dk_driver.specs.Walks.{fresh_start, records_by, records_of, walk_of}

-- no lines are no block
pub no_lines : (ignores : Bool) (h : History) (close : Option ℕ) → effect_of ignores h [] close ≡ Ok (no_block h)
unfolding effect_of
no_lines ignores h close = refl

pub onto_more : {F : Type 0} (a b : List Step) (t : Trail F) → behind_steps a (behind_steps b t) ≡ behind_steps (a ++ b) t
onto_more a b t = ap (λ (l : List Step). record { steps = l; end = t.end }) (sym (append_assoc a b t.steps))

-- ---- steps
-- the step of the block that was found, if one was
abbrev pub found_in : ℕ → Stepped → List Step
found_in place step = step_by place step.history step.effect

-- What a step through the groups says of the trail: it has the block that was found, and what is left then; where no block was found nothing is left.
abbrev pub Follows : Bool → ℕ → Reads Taken → Groups → Result Stepped LineFault → Type 0
Follows ignores place read gs (Ok step) =
    (trail_of_groups ignores place read gs ≡ behind_steps (found_in place step) (trail_behind ignores place step.history step.left))
    × (step.effect ≡ None → trail_of_groups ignores place read gs ≡ trail_end (Ok step.history))
Follows ignores place read gs (Err e) = trail_of_groups ignores place read gs ≡ trail_end (Err e)

abbrev then_trail : Bool → ℕ → Groups → Result Taken LineFault → Trail LineFault
then_trail ignores place rest r = goes_on place r (λ h. trail_behind ignores place h rest)

abbrev then_end : ℕ → Result Taken LineFault → Trail LineFault
then_end place r = goes_on place r (λ h. trail_end (Ok h))

abbrev then_fault : ℕ → Why → Result Taken LineFault → Result Taken LineFault
then_fault n why r = r >>= λ _. Err (record { line = n; why = why })

never : (n : ℕ) (why : Why) (r : Result Taken LineFault) (t : Taken) → then_fault n why r ≡ Ok t → ⊥
never n why (Ok u) t e = cc (e)
never n why (Err f) t e = cc (e)

pub follows : (ignores : Bool) (place : ℕ) (read : Reads Taken) (gs : Groups) → Follows ignores place read gs (after_next ignores read gs)
follows ignores place read (Group ls close rest) = go (read ls (Some close)) (λ h. follows ignores place (effect_of ignores h) rest) refl where
  counted : (t : Taken) (o : Option Effect) → t.effect ≡ o → read ls (Some close) ≡ Ok t → Follows ignores place (effect_of ignores t.history) rest (after_next ignores (effect_of ignores t.history) rest)
      → Follows ignores place read (Group ls close rest) (if is_some o then Ok (record { effect = o; history = t.history; left = rest }) else after_next ignores (effect_of ignores t.history) rest)
  counted t (Some effect) e is more = (
    ap (then_trail ignores place rest) is ∙ ap (λ (o : Option Effect). behind_steps (step_by place t.history o) (trail_behind ignores place t.history rest)) e,
    λ f. absurd (cc (f)),
  )
  counted t None e is more = on (after_next ignores (effect_of ignores t.history) rest) more where
    here : trail_of_groups ignores place read (Group ls close rest) ≡ trail_behind ignores place t.history rest
    here = ap (then_trail ignores place rest) is ∙ ap (λ (o : Option Effect). behind_steps (step_by place t.history o) (trail_behind ignores place t.history rest)) e

    on : (r : Result Stepped LineFault) → Follows ignores place (effect_of ignores t.history) rest r → Follows ignores place read (Group ls close rest) r
    on (Ok step) f = (here ∙ f.0, λ n. here ∙ f.1 n)
    on (Err e) f = here ∙ f

  go : (r : Result Taken LineFault) → ((h : History) → Follows ignores place (effect_of ignores h) rest (after_next ignores (effect_of ignores h) rest)) → read ls (Some close) ≡ r
      → Follows ignores place read (Group ls close rest) (r >>= λ t. stop_or t rest (after_next ignores (effect_of ignores t.history) rest))
  go (Err e) more is = ap (then_trail ignores place rest) is
  go (Ok t) more is = counted t t.effect refl is (more t.history)
follows ignores place read (Last ls end) = go (after_last read ls end) refl where
  empty : (h : History) (end : End) → (t : Taken) → after_last read ls end ≡ Ok t → trail_behind ignores place h (Last [] end) ≡ trail_end (Ok h)
  empty h (Over n) t e = ap (then_end place) (no_lines ignores h (Some n))
  empty h Broken t e = ap (then_end place) (no_lines ignores h None)
  empty h (LongLine n) t e = absurd (never n WhyLong (read ls None) t e)
  empty h (TooLong n) t e = absurd (never n WhyMany (read ls None) t e)

  go : (r : Result Taken LineFault) → after_last read ls end ≡ r → Follows ignores place read (Last ls end) (r >>= λ t. Ok (stepped t (Last [] end)))
  go (Err e) is = ap (then_end place) is
  go (Ok t) is = (
    ap (then_end place) is ∙ ap (λ (w : Trail LineFault). behind_steps (step_by place t.history t.effect) w) (sym (empty t.history end t is)),
    λ none. ap (then_end place) is ∙ ap (λ (o : Option Effect). behind_steps (step_by place t.history o) (trail_end (Ok t.history))) none,
  )

-- where no block is found the trail has no step
pub no_block_ends : (ignores : Bool) (place : ℕ) (read : Reads Taken) (gs : Groups) → IsNoBlock (after_next ignores read gs) → (h : History) × (trail_of_groups ignores place read gs ≡ trail_end (Ok h))
no_block_ends ignores place read gs none = go (after_next ignores read gs) none (follows ignores place read gs) where
  go : (r : Result Stepped LineFault) → IsNoBlock r → Follows ignores place read gs r → (h : History) × (trail_of_groups ignores place read gs ≡ trail_end (Ok h))
  go (Ok step) none f = (step.history, f.1 none)
  go (Err e) none f = absurd none

-- the end is the history after all groups, or the first fault
pub trail_ends : (ignores : Bool) (place : ℕ) (read : Reads Taken) (g : Groups) → (trail_of_groups ignores place read g).end ≡ after_all ignores read g
trail_ends ignores place read (Group ls close rest) = by (read ls (Some close)) (λ next. trail_ends ignores place next rest) where
  by : (r : Result Taken LineFault) → ((next : Reads Taken) → (trail_of_groups ignores place next rest).end ≡ after_all ignores next rest)
      → (goes_on place r (λ h. trail_of_groups ignores place (effect_of ignores h) rest)).end ≡ (r >>= λ t. after_all ignores (effect_of ignores t.history) rest)
  by (Ok t) more = more (effect_of ignores t.history)
  by (Err fault) more = refl
trail_ends ignores place read (Last ls end) = by (after_last read ls end) where
  by : (r : Result Taken LineFault) → (goes_on place r (λ h. trail_end (Ok h))).end ≡ (r >>= λ t. Ok t.history)
  by (Ok t) = refl
  by (Err fault) = refl

-- ---- files behind a faulty one
then_same : (place : ℕ) (r : Result History LineFault) (more other : History → Trail FaultAt) (f : FaultAt)
    → ((h : History) → (more h).end ≡ Err f → more h ≡ other h) → (then_files place r more).end ≡ Err f → then_files place r more ≡ then_files place r other
then_same place (Ok h) more other f same e = same h e
then_same place (Err l) more other f same e = refl

-- they don't change the trail
pub trail_front : (ignores : Bool) (room : ℕ) (h : History) (place : ℕ) (k : ℕ) (fs : List File) (f : FaultAt) → (trail_of_files ignores room h place (take k fs)).end ≡ Err f
    → trail_of_files ignores room h place (take k fs) ≡ trail_of_files ignores room h place fs
trail_front ignores room h place zero fs f e = absurd (cc (e))
trail_front ignores room h place (suc k) [] f e = refl
trail_front ignores room h place (suc k) (x ∷ xs) f e =
    ap (behind_steps (trail_of_file ignores room h place x).steps) (then_same place (trail_of_file ignores room h place x).end
    (λ next. trail_of_files ignores (room - length x.bytes) (file_ended next) (place + 1) (take k xs)) (λ next. trail_of_files ignores (room - length x.bytes) (file_ended next) (place + 1) xs) f
    (λ next. trail_front ignores (room - length x.bytes) (file_ended next) (place + 1) k xs f) e)

-- ---- steps behind steps
files_go_on : (ignores : Bool) (room : ℕ) (h : History) (place : ℕ) (front files : List File) (mid : History) → (trail_of_files ignores room h place front).end ≡ Ok mid
    → (more : List Step) × ((trail_of_files ignores room h place (front ++ files)).steps ≡ (trail_of_files ignores room h place front).steps ++ more)
files_go_on ignores room h place [] files mid e = ((trail_of_files ignores room h place files).steps, refl)
files_go_on ignores room h place (x ∷ xs) files mid e =
    go (trail_of_file ignores room h place x).steps (trail_of_file ignores room h place x).end (λ next. files_go_on ignores (room - length x.bytes) (file_ended next) (place + 1) xs files mid) e where
      go : (steps : List Step) (end : Result History LineFault)
          → ((next : History) → (trail_of_files ignores (room - length x.bytes) (file_ended next) (place + 1) xs).end ≡ Ok mid
          → (more : List Step) × ((trail_of_files ignores (room - length x.bytes) (file_ended next) (place + 1) (xs ++ files)).steps ≡ (trail_of_files ignores (room - length x.bytes) (file_ended next) (place + 1) xs).steps ++ more))
          → (then_files place end (λ next. trail_of_files ignores (room - length x.bytes) (file_ended next) (place + 1) xs)).end ≡ Ok mid
          → (more : List Step) × (steps ++ (then_files place end (λ next. trail_of_files ignores (room - length x.bytes) (file_ended next) (place + 1) (xs ++ files))).steps
          ≡ (steps ++ (then_files place end (λ next. trail_of_files ignores (room - length x.bytes) (file_ended next) (place + 1) xs)).steps) ++ more)
      go steps (Ok next) later e =
          let (more, same) = later next e in
          (more, ap (λ (l : List Step). steps ++ l) same ∙ sym (append_assoc steps (trail_of_files ignores (room - length x.bytes) (file_ended next) (place + 1) xs).steps more))
      go steps (Err fault) later e = absurd (cc e)

records_append : (a b : List Step) → records_of (a ++ b) ≡ records_of a ++ records_of b
records_append a b = flat_map-append _ a b

pub go_on : RecordsGoOn
unfolding walk_of
go_on ignores room front files mid e =
    let (more, same) = files_go_on ignores room no_history 0 front files mid e in
    (records_of more, ap records_of same ∙ records_append (trail_of (fresh_start room) ignores front).steps more)

-- the records behind one step more
pub records_more : (steps : List Step) (place : ℕ) (effect : Effect) (h : History)
    → records_of (steps ++ record { file = place; effect = effect; history = h } ∷ []) ≡ records_of steps ++ records_by place h.table effect
records_more steps place effect h =
    records_append steps (record { file = place; effect = effect; history = h } ∷ []) ∙ ap (λ (l : List Record). records_of steps ++ l) (append-nil (records_by place h.table effect))
