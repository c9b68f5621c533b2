-- What a run begins with: no samples, or what its state file tells.
use Rattle.std.specs.Prelude.{◌≡◌, ◌≢◌, ◌≤◌, ◌<◌, ◌⊎◌, ◌-◌, ℕ, List, [], length, Option, Some, None}
use Rattle.std.specs.Option.{option_map_or}
use Rattle.dk_base.specs.declared.why.Why.{Why}
use Rattle.dk_base.specs.declared.why.Why.TheVariants.{BadState, TooLong}
use Rattle.dk_io.specs.Outside.{HeldFile, Absent, Holds}
use Rattle.dk_state.specs.Spelling.{IsSpelling}
use Rattle.dk_blocks.specs.History.{History}
use Rattle.dk_core.specs.Resuming.{HasTableOfState, IsStart, state_file}
use Rattle.dk_run.specs.Courses.{Outset, first_start, total_limit}

-- a history that is resumed; the bytes of its state file count
abbrev pub resumed_start : History → Outset
resumed_start h = record { history = h; room = total_limit - length (state_file h) }

-- A run that names no state file begins with no samples. One that names a state file begins with each history of which the file holds the
-- state.
abbrev pub Begins : Option (List ℕ) → (List ℕ → HeldFile) → Outset → Type 0
Begins None file start = start ≡ first_start
Begins (Some name) file start =
    (h : History) × IsStart h × (file name ≡ Holds (state_file h)) × (length (state_file h) ≤ total_limit) × (start ≡ resumed_start h)

-- As far as reading goes, a run that names a state file begins with each history between files that has the table and the comparability
-- word of the file's bytes, whether or not the file holds its state; these bytes count.
abbrev pub BeginsLike : Option (List ℕ) → (List ℕ → HeldFile) → Outset → Type 0
BeginsLike None file start = start ≡ first_start
BeginsLike (Some name) file start =
    (xs : List ℕ) × (file name ≡ Holds xs) × (length xs ≤ total_limit)
    × HasTableOfState xs start.history × (start.room ≡ total_limit - length xs)

-- what is left of the inputs when the run has begun: a state file was read to its end
abbrev pub rest_begun : Option (List ℕ) → Option (List ℕ) → Option (List ℕ)
rest_begun resume rest = option_map_or (λ name. Some []) resume rest

-- ---- the state file
-- It may be read whole, and is one.
abbrev pub IsState : List ℕ → Type 0
IsState xs = (length xs ≤ total_limit) × IsSpelling xs

-- Why it is refused: it has more bytes than all files of a run may have, or else it is none.
abbrev pub IsRefusedAs : Why → List ℕ → Type 0
IsRefusedAs why xs = ((why ≡ TooLong) × (total_limit < length xs)) ⊎ ((why ≡ BadState) × (length xs ≤ total_limit) × (IsSpelling xs → ⊥))

-- The state file is there, and is one where its bytes are told.
pub record IsThere (held : HeldFile) : Type 0 where
  pub there : held ≢ Absent
  pub is_state : (xs : List ℕ) → held ≡ Holds xs → IsState xs

-- a run that names a state file has read it
abbrev pub HasBegun : Option (List ℕ) → (List ℕ → HeldFile) → Type 0
HasBegun None file = Unit {0}
HasBegun (Some name) file = IsThere (file name)
