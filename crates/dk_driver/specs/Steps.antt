-- What the next block of a file comes to.
use Rattle.std.specs.Prelude.{◌≡◌, ◌++◌, ◌∷◌, [], not, is_some, Bool, true, false, List, ℕ, Option, Some, None, Result, Ok, Err}
use Rattle.dk_base.specs.declared.faults.Fault.{Fault}
use Rattle.dk_blocks.specs.History.{Effect, History, effect_of}
use Rattle.dk_blocks.specs.Steps.{FaultAnswers, Grown, Steps}
use Rattle.dk_events.specs.Standing.{ignores_of, over_of}
use Rattle.dk_lines.specs.Reading.{Reading}
use Rattle.dk_driver.specs.Consuming.{Record, Told}
use Rattle.dk_driver.specs.Standing.{StandsFor}
use Rattle.dk_driver.specs.Trails.{Step}
use Rattle.dk_driver.specs.Walks.{records_in}
use Rattle.dk_driver.specs.declared.feed.Feed.{Feed}

-- The next block of the file at this place is found: a step more, behind which this stands.
pub record FindsBlock (Stands : History → List Step → Type 0) (ignores : Bool) (place : ℕ) (history : History) (steps : List Step)
    (was_over : Bool) (old : Reading) (xs : List ℕ) (is_over : Bool) (new : Reading) (left : Option (List ℕ)) : Type 0 where
  pub next : History
  pub effect : Effect
  pub stands : Stands next (steps ++ record { file = place; effect = effect; history = next } ∷ [])
  pub ys : List ℕ
  pub left_is : left ≡ Some ys
  pub takes : Steps ignores (effect_of ignores history) was_over old xs
      (Ok (record { history = next; effect = Some effect })) is_over new ys

-- None is found: no step more.
pub record FindsNone (Stands : History → List Step → Type 0) (ignores : Bool) (history : History) (steps : List Step)
    (was_over : Bool) (old : Reading) (xs : List ℕ) (is_over : Bool) (new : Reading) (left : Option (List ℕ)) : Type 0 where
  pub next : History
  pub stands : Stands next steps
  pub ys : List ℕ
  pub left_is : left ≡ Some ys
  pub takes : Steps ignores (effect_of ignores history) was_over old xs
      (Ok (record { history = next; effect = None })) is_over new ys

-- What `next` answers in the file at a place: what is kept behind the next block, and whether there was one.
abbrev pub NextBlock : {C : Type 0} → (C → Told → Type 0) → Feed C → ℕ → History → List Record → Reading → List ℕ
    → Result (Feed C × Bool) Fault → Reading → Option (List ℕ) → Type 0
NextBlock Stands s place h records r xs (Ok a) r' left' =
    (h' : History) × ((effect : Option Effect)
    × StandsFor Stands a.0 h' (records ++ records_in place (record { history = h'; effect = effect })) × (a.1 ≡ is_some effect)
    × ((ys : List ℕ) × (left' ≡ Some ys) × Steps (ignores_of s.events) (effect_of (ignores_of s.events) h) (over_of s.events) r xs
    (Ok (record { history = h'; effect = effect })) (over_of a.0.events) r' ys))
NextBlock Stands s place h records r xs (Err fault) r' left' =
    FaultAnswers (ignores_of s.events) (effect_of (ignores_of s.events) h) (over_of s.events) r xs fault left'

-- numbers of lines and bytes, whatever is told
abbrev pub NextCounts : {C : Type 0} → Feed C → Reading → Result (Feed C × Bool) Fault → Reading → Type 0
NextCounts s r (Ok a) r' =
    (r'.limits ≡ r.limits) × (r'.is_started ≡ not (over_of a.0.events)) × (ignores_of a.0.events ≡ ignores_of s.events)
    × (a.1 ≡ false → over_of a.0.events ≡ true) × (a.1 ≡ true → over_of s.events ≡ false)
    × (a.1 ≡ true → Grown (over_of a.0.events) r r')
NextCounts s r (Err fault) r' = r'.limits ≡ r.limits
