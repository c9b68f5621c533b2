-- What the kept parts alone say of any variables.
pub mod Levels
pub mod Memory
pub mod Parts
use Rattle.std.specs.Prelude.{◌==◌, ℕ, zero, suc, Bool, true, false, List, [], ◌∷◌, Option, Some, None, if◌then◌else◌}
use Rattle.dk_base.specs.declared.kinds.VarId.{VarId}
use Rattle.dk_base.specs.declared.values.Value.{Value}
use Rattle.dk_classes.specs.Leaders.{leader_at}
use Rattle.dk_forms.specs.declared.states.State.{State}
use Rattle.dk_forms.specs.declared.states.State.TheVariants.{Broken, Empty}
use Rattle.dk_instances.specs.Fits.{is_whole}
use Rattle.dk_meanings.specs.Meanings.{state_of}
use Rattle.dk_presence.specs.Patterns.{counted_by}
use Rattle.dk_suppress.specs.Rules.{is_suppressed}
use Rattle.dk_suppress.specs.Soundness.{holds_of}
use Rattle.dk_template.specs.Exchange.{turned_state, written_order}
use Rattle.dk_template.specs.declared.grammar.RowId.{RowId}
use Rattle.dk_engine.specs.Reading.Parts.{all_known, known_tuple, leaders_of, slot_at}
use Rattle.dk_engine.specs.declared.kept.Kept.{Kept}

-- ---- one tuple of leaders
-- the state of one tuple, which counts where no value is missing
abbrev pub state_of_one : RowId → List Value → State
state_of_one row tuple = if is_whole tuple then state_of row (tuple ∷ []) else Empty

-- The state of leaders that aren't all constant: that of their slot. Where they have none, a suppressed row holds if they are present
-- together in some sample, and any other row is Broken.
abbrev pub read_slot : Option State → Bool → ℕ → State
read_slot (Some state) suppressed count = state
read_slot None true count = holds_of count
read_slot None false count = Broken

-- The state of leaders in the row's written order. All constant, they have one tuple. Whether a rule suppresses the row is asked of
-- what answers for the rows of lower rank.
abbrev pub read_written : Kept → (RowId → List VarId → State) → RowId → List VarId → State
read_written kept lower row vars =
    if all_known kept.known vars then state_of_one row (known_tuple kept.known vars)
    else read_slot (slot_at kept.slots row vars) (is_suppressed lower row vars) (counted_by kept.held vars)

-- the same of leaders in any order
abbrev pub read_turned : Kept → (RowId → List VarId → State) → RowId → List VarId → State
read_turned kept lower row vars = turned_state row vars (read_written kept lower row (written_order row vars))

-- the state of leaders, for the rows of a rank below n
unfoldable pub read_leaders : ℕ → Kept → RowId → List VarId → State
read_leaders zero kept row vars = Broken
read_leaders (suc n) kept row vars = read_turned kept (read_leaders n kept) row vars

-- ---- any variables
-- one more than the greatest rank of a row
abbrev pub rank_bound : ℕ
rank_bound = 4

-- the state of a row over variables in any order and with any repeats; before the first sample all are Empty
unfoldable pub state_read : Kept → RowId → List VarId → State
state_read kept row vars = if kept.samples == 0 then Empty else read_leaders rank_bound kept row (leaders_of kept.leaders vars)

-- in how many samples none of the variables is missing
abbrev pub count_read : Kept → List VarId → ℕ
count_read kept vars = counted_by kept.held (leaders_of kept.leaders vars)

-- whether two variables are of one kind and have had the same values
abbrev pub agree_read : Kept → VarId → VarId → Bool
agree_read kept v w = leader_at kept.leaders v.0 == leader_at kept.leaders w.0
