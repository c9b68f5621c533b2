-- Lines of what is kept.
use Rattle.std.specs.Prelude.{◌≡◌, ◌==◌, ◌++◌, ◌∷◌, [], ℕ, true, false, Bool, List, codes, flat_map, map, nat_eq, refl}
use Rattle.std.specs.Fmt.{decimal}
use Rattle.std.specs.List.{starts_with}
use Rattle.std.proofs.Common.{◌∙◌, ap, append_assoc}
use Rattle.std.proofs.lemmas.List.Concat.{flat_map-append}
use Rattle.dk_base.specs.declared.kinds.VarId.{VarId}
use Rattle.dk_engine.specs.declared.slots.slot.Slot.{Slot}
use Rattle.dk_snapshot.specs.declared.known.Known.{Known}
use Rattle.dk_snapshot.specs.declared.pattern.Pattern.{Pattern}
use Rattle.dk_state.specs.Kept.{bits_of, if_any, known_line, pattern_line, slot_line}
use Rattle.dk_state.specs.Lines.{behind_blank, fields_text, var_fields}
use Rattle.dk_state.specs.Reading.{BeginsWith, HasNone, begins_number, ends_field}
use Rattle.dk_state.specs.States.{state_fields}
use Rattle.dk_state.proofs.Onto.{fields_of_items, fields_onto}
use Rattle.dk_state.proofs.StateFields.{state_first}

pub lf_no_number : (rest : List ℕ) → begins_number (10 ∷ rest) ≡ false
lf_no_number [] = refl
lf_no_number (b ∷ rest) = refl

-- variables as fields
abbrev pub vars_text : List VarId → List ℕ
vars_text vars = flat_map (λ v. behind_blank (decimal v.0)) vars

pub class_onto : (members : List VarId) (rest : List ℕ) → (codes "class" ++ (fields_text (var_fields members) ++ codes "\n")) ++ rest ≡ codes "class" ++ (vars_text members ++ 10 ∷ rest)
class_onto members rest =
    append_assoc (codes "class") (fields_text (var_fields members) ++ codes "\n") rest
    ∙ ap (λ r. codes "class" ++ r) (append_assoc (fields_text (var_fields members)) (codes "\n") rest ∙ ap (λ t. t ++ 10 ∷ rest) (fields_of_items (λ v. decimal v.0) members))

-- ---- patterns
pub bits_back : (present : List Bool) → map (λ b. b == 49) (bits_of present) ≡ present
bits_back [] = refl
bits_back (true ∷ present) = ap (λ r. true ∷ r) (bits_back present)
bits_back (false ∷ present) = ap (λ r. false ∷ r) (bits_back present)

pub bits_plain : (present : List Bool) → HasNone ends_field (bits_of present)
bits_plain [] = refl
bits_plain (true ∷ present) = bits_plain present
bits_plain (false ∷ present) = bits_plain present

pub bits_first : (present : List Bool) (rest : List ℕ) → BeginsWith ends_field (fields_onto (if_any (bits_of present)) (10 ∷ rest))
bits_first [] rest = refl
bits_first (b ∷ present) rest = refl

-- ---- which lines come
pub no_class : (ps : List Pattern) (ks : List Known) (ss : List Slot) (rest : List ℕ)
    → starts_with nat_eq (flat_map pattern_line ps ++ (flat_map known_line ks ++ (flat_map slot_line ss ++ 101 ∷ 110 ∷ 100 ∷ 10 ∷ rest))) (codes "class") ≡ false
no_class (p ∷ ps) ks ss rest = refl
no_class [] (k ∷ ks) ss rest = refl
no_class [] [] (s ∷ ss) rest = refl
no_class [] [] [] rest = refl

pub no_pattern : (ks : List Known) (ss : List Slot) (rest : List ℕ)
    → starts_with nat_eq (flat_map known_line ks ++ (flat_map slot_line ss ++ 101 ∷ 110 ∷ 100 ∷ 10 ∷ rest)) (codes "pattern ") ≡ false
no_pattern (k ∷ ks) ss rest = refl
no_pattern [] (s ∷ ss) rest = refl
no_pattern [] [] rest = refl

pub no_known : (ss : List Slot) (rest : List ℕ) → starts_with nat_eq (flat_map slot_line ss ++ 101 ∷ 110 ∷ 100 ∷ 10 ∷ rest) (codes "known ") ≡ false
no_known (s ∷ ss) rest = refl
no_known [] rest = refl

-- ---- slots
pub slot_onto : (s : Slot) (rest : List ℕ)
    → slot_line s ++ rest ≡ codes "slot" ++ (behind_blank (decimal s.row.0) ++ (vars_text s.leaders ++ (fields_text (state_fields s.state) ++ 10 ∷ rest)))
slot_onto s rest =
    let vars = fields_text (var_fields s.leaders) in
    let told = fields_text (state_fields s.state) in
    let row = behind_blank (decimal s.row.0) in
    let both : fields_text (var_fields s.leaders ++ state_fields s.state) ≡ vars_text s.leaders ++ told =
    flat_map-append behind_blank (var_fields s.leaders) (state_fields s.state) ∙ ap (λ t. t ++ told) (fields_of_items (λ v. decimal v.0) s.leaders) in
    append_assoc (codes "slot") ((row ++ fields_text (var_fields s.leaders ++ state_fields s.state)) ++ codes "\n") rest
    ∙ ap (λ r. codes "slot" ++ r)
    (append_assoc (row ++ fields_text (var_fields s.leaders ++ state_fields s.state)) (codes "\n") rest
    ∙ append_assoc row (fields_text (var_fields s.leaders ++ state_fields s.state)) (10 ∷ rest)
    ∙ ap (λ r. row ++ r) (ap (λ t. t ++ 10 ∷ rest) both ∙ append_assoc (vars_text s.leaders) told (10 ∷ rest)))

pub leaders_first : (s : Slot) (vars : List VarId) (rest : List ℕ) → BeginsWith ends_field (vars_text vars ++ (fields_text (state_fields s.state) ++ 10 ∷ rest))
leaders_first s [] rest = state_first s.state (10 ∷ rest)
leaders_first s (v ∷ vars) rest = refl
