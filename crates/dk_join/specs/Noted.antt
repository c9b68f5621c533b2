-- Which leaders have equal numbers, as it is noted.
use Rattle.std.specs.Prelude.{◌&&◌, ◌||◌, ◌==◌, ◌∷◌, [], Bool, List, map, nat_lt}
use Rattle.dk_base.specs.declared.kinds.VarId.{VarId}
use Rattle.dk_engine.specs.Reading.{state_read}
use Rattle.dk_engine.specs.Reading.Levels.{Whole}
use Rattle.dk_engine.specs.Sweeps.Ordering.{precedes}
use Rattle.dk_engine.specs.declared.slots.slot.Slot.{Slot}
use Rattle.dk_template.specs.Admitted.{admits}
use Rattle.dk_template.specs.Fitting.{fits}
use Rattle.dk_template.specs.Numbers as number
use Rattle.dk_template.specs.declared.grammar.RowId.{RowId}

-- the row that two numbers are equal
abbrev pub equal_row : RowId
equal_row = record { 0 = number.eq_int }

-- two variables have numbers, and these are equal
abbrev pub equal_numbers : Whole → VarId → VarId → Bool
equal_numbers e v w = admits equal_row e.infos (v ∷ w ∷ []) && fits (state_read e.kept equal_row (v ∷ w ∷ []))

-- the same of each of some variables and each of others
abbrev pub equal_lines : Whole → List VarId → List VarId → List (List Bool)
equal_lines e firsts others = map (λ v. map (λ w. equal_numbers e v w) others) firsts

-- ---- slots
-- the slot is of a later row, or of the same row with leaders that these variables precede
abbrev pub is_behind : RowId → List VarId → Slot → Bool
is_behind row vars slot = nat_lt row.0 slot.row.0 || (row.0 == slot.row.0 && precedes vars slot.leaders)
