-- Two lists of slots in one, ascending.
use Rattle.std.specs.Prelude.{◌≡◌, ◌<◌, ◌≤◌, ◌+◌, ◌*◌, ℕ, All, Contains, List, length, slice_index_or}
use Rattle.std.specs.List.{AllPairs}
use Rattle.dk_base.specs.declared.kinds.VarId.{VarId}
use Rattle.dk_classes.specs.Leaders.{var}
use Rattle.dk_template.specs.Templates.{arity_of}
use Rattle.dk_engine.specs.Exact.{SlotBefore}
use Rattle.dk_engine.specs.declared.slots.slot.Slot.{Slot}

-- the number of the variable at a place; 0 where there is none
abbrev pub var_in : List VarId → ℕ → ℕ
var_in vars k = (slice_index_or vars k (var 0)).0

-- one more than the greatest number of a variable
abbrev pub var_bound : ℕ
var_bound = 4294967296

-- a number by which slots ascend: the row's, and then those of the leaders
unfoldable pub slot_number : Slot → ℕ
slot_number slot =
    ((slot.row.0 * var_bound + var_in slot.leaders 0) * var_bound + var_in slot.leaders 1) * var_bound + var_in slot.leaders 2

-- as many leaders as the row has roles, each with a number of 32 bits
pub record HasNumber (slot : Slot) : Type 0 where
  pub long : length slot.leaders ≡ arity_of slot.row
  pub few : length slot.leaders ≤ 3
  pub below : All (λ (v : VarId). v.0 < var_bound) slot.leaders

-- The slots ascend, each is one of all, and for each of all there is one of the same row over the same leaders.
pub record AreTogether (all slots : List Slot) : Type 0 where
  pub ascend : AllPairs SlotBefore slots
  pub from : (slot : Slot) → Contains slots slot → Contains all slot
  pub has : (slot : Slot) → Contains all slot → (s : Slot) × Contains slots s × (s.row ≡ slot.row) × (s.leaders ≡ slot.leaders)
