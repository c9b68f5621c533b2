-- How the parts that an engine keeps are looked up.
use Rattle.std.specs.Prelude.{◌&&◌, ◌==◌, ℕ, Bool, List, [], ◌∷◌, Option, Some, None, is_some, map, slice_index_or, unwrap_or, if◌then◌else◌}
use Rattle.std.specs.List.{list_all}
use Rattle.dk_base.specs.declared.kinds.VarId.{VarId}
use Rattle.dk_base.specs.declared.values.Value.{Value}
use Rattle.dk_base.specs.declared.values.Value.TheVariants as value
use Rattle.dk_classes.specs.Leaders.{var}
use Rattle.dk_constants.specs.Known.{Entries, known_at}
use Rattle.dk_forms.specs.declared.states.State.{State}
use Rattle.dk_forms.specs.declared.states.State.TheVariants.{Empty}
use Rattle.dk_presence.specs.Patterns.{same_vars}
use Rattle.dk_template.specs.declared.grammar.RowId.{RowId}
use Rattle.dk_engine.specs.declared.slots.slot.Slot.{Slot}

-- the leader of a variable
abbrev pub leader_of : List VarId → VarId → VarId
leader_of leaders v = slice_index_or leaders v.0 (var 0)

-- the leaders of variables, role by role
abbrev pub leaders_of : List VarId → List VarId → List VarId
leaders_of leaders vars = map (leader_of leaders) vars

-- each of the leaders is constant
abbrev pub all_known : Entries → List VarId → Bool
all_known known vars = list_all (λ v. is_some (known_at known v)) vars

-- the values of constant leaders
abbrev pub known_tuple : Entries → List VarId → List Value
known_tuple known vars = map (λ v. unwrap_or (known_at known v) value.Missing) vars

-- the slot of the row over the leaders
abbrev pub is_slot_of : RowId → List VarId → Slot → Bool
is_slot_of row vars slot = slot.row.0 == row.0 && same_vars slot.leaders vars

-- its state
abbrev pub slot_at : List Slot → RowId → List VarId → Option State
slot_at [] row vars = None
slot_at (slot ∷ slots) row vars = if is_slot_of row vars slot then Some slot.state else slot_at slots row vars

-- what a place outside of the slots is read as
abbrev pub no_slot : Slot
no_slot = record { row = record { 0 = 0 }; leaders = []; state = Empty }

-- the slot at a place
abbrev pub slot_in : List Slot → ℕ → Slot
slot_in slots k = slice_index_or slots k no_slot
