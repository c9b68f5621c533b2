-- The order of slots as a test.
use Rattle.std.specs.Prelude.{◌&&◌, ◌||◌, ◌==◌, Bool, false, List, [], ◌∷◌, nat_lt}
use Rattle.dk_base.specs.declared.kinds.VarId.{VarId}
use Rattle.dk_template.specs.declared.grammar.RowId.{RowId}
use Rattle.dk_engine.specs.declared.slots.slot.Slot.{Slot}

-- at the first place at which they differ the first tuple has the earlier variable
abbrev pub precedes : List VarId → List VarId → Bool
precedes [] others = false
precedes (v ∷ vars) [] = false
precedes (v ∷ vars) (w ∷ others) = nat_lt v.0 w.0 || (v.0 == w.0 && precedes vars others)

-- the slot is of an earlier row, or of the same row with leaders that precede
abbrev pub is_slot_before : RowId → List VarId → Slot → Bool
is_slot_before row vars slot = nat_lt slot.row.0 row.0 || (slot.row.0 == row.0 && precedes slot.leaders vars)
