-- What is kept of a point's samples, as it is saved.
use Rattle.std.specs.Prelude.{ℕ, Bool, List, [], ◌∷◌, ◌++◌, flat_map, map, if◌then◌else◌}
use Rattle.std.specs.Fmt.{decimal}
use Rattle.dk_base.specs.Pieces.{is_empty}
use Rattle.dk_base.specs.Values.Spelling.{spelling}
use Rattle.dk_base.specs.declared.kinds.VarId.{VarId}
use Rattle.dk_engine.specs.declared.saved.parts.Parts.{Parts}
use Rattle.dk_engine.specs.declared.slots.slot.Slot.{Slot}
use Rattle.dk_snapshot.specs.declared.known.Known.{Known}
use Rattle.dk_snapshot.specs.declared.pattern.Pattern.{Pattern}
use Rattle.dk_state.specs.Lines.{state_line, var_fields}
use Rattle.dk_state.specs.States.{state_fields}

-- `class V W X`: the members of a class, ascending
abbrev pub class_line : List VarId → List ℕ
class_line members = state_line "class" (var_fields members)

-- a `1` (49) for each leader that is present, and a `0` (48) for each other one
abbrev pub bits_of : List Bool → List ℕ
bits_of present = map (λ b. if b then 49 else 48) present

-- a field that stands only where it has bytes
abbrev pub if_any : List ℕ → List (List ℕ)
if_any field = if is_empty field then [] else field ∷ []

-- `pattern COUNT BITS`; at a point without variables there are no bits
abbrev pub pattern_line : Pattern → List ℕ
pattern_line p = state_line "pattern" (decimal p.count ∷ if_any (bits_of p.present))

-- `known LEADER VALUE`
abbrev pub known_line : Known → List ℕ
known_line k = state_line "known" (decimal k.leader.0 ∷ spelling k.value ∷ [])

-- `slot ROW V W STATE`, with as many variables as the row takes
abbrev pub slot_line : Slot → List ℕ
slot_line s = state_line "slot" (decimal s.row.0 ∷ (var_fields s.leaders ++ state_fields s.state))

-- what is kept behind the classes: each pattern, ascending, each constant leader, ascending, each slot by row and then by variables, and
-- `end`
abbrev pub behind_classes : Parts → List ℕ
behind_classes parts =
    flat_map pattern_line parts.patterns
    ++ (flat_map known_line parts.known
    ++ (flat_map slot_line parts.slots
    ++ state_line "end" []))

-- what is kept behind the number of samples: each class by its leader, and what is behind them
abbrev pub behind_samples : Parts → List ℕ
behind_samples parts = flat_map class_line parts.classes ++ behind_classes parts

-- the number of samples of the point at this place, and each class
abbrev pub opening_lines : ℕ → Parts → List ℕ
opening_lines point parts = state_line "samples" (decimal point ∷ decimal parts.samples ∷ []) ++ flat_map class_line parts.classes

-- What is kept of samples of the point at this place: `samples POINT N`, and what is kept.
abbrev pub parts_lines : ℕ → Parts → List ℕ
parts_lines point parts = state_line "samples" (decimal point ∷ decimal parts.samples ∷ []) ++ behind_samples parts
