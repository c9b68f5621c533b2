-- The offset that a scan finds is the state of the row of offsets.
use Rattle.std.specs.Prelude.{◌≡◌, ◌==◌, ℤ, ◌-ℤ◌, Bool, true, false, if◌then◌else◌, List, [], ◌∷◌, length, map, zip, Some, None, refl}
use Rattle.std.proofs.Common.{ap, sym, ◌∙◌}
use Rattle.std.specs.List.{list_all}
use Rattle.std.specs.Ordering.{int_eq}
use Rattle.std.proofs.lemmas.List.Folds.{list_all-map}
use Rattle.dk_forms.specs.Known.{broken, fact}
use Rattle.dk_forms.specs.Offset.{differences, is_difference, offset_of, offset_state}
use Rattle.dk_forms.specs.declared.states.State.{State}
use Rattle.dk_forms.specs.declared.states.State.TheVariants as state
use Rattle.dk_lanes.specs.Shift.{common_difference, shift_of}
use Rattle.dk_lanes.specs.declared.offsets.Shift.{Shift}
use Rattle.dk_lanes.specs.declared.offsets.Shift.TheVariants.{Unequal, Empty, Const}

-- the state of what the scan found
abbrev pub state_of_shift : Shift → State
state_of_shift Unequal = state.Broken
state_of_shift Empty = state.Empty
state_of_shift (Const k) = state.Offset k

-- by how much the second number of a pair is above the first
abbrev pub above : ℤ × ℤ → ℤ
above p = p.1 -ℤ p.0

same_test : (d : ℤ) (ps : List (ℤ × ℤ)) → list_all (int_eq d) (map above ps) ≡ list_all (is_difference d) (map (λ (p : ℤ × ℤ). Some (above p)) ps)
same_test d ps = list_all-map (int_eq d) above ps ∙ sym (list_all-map (is_difference d) (λ (p : ℤ × ℤ). Some (above p)) ps)

chosen : (d : ℤ) (b : Bool) → state_of_shift (if b then Const d else Unequal) ≡ offset_state (if b then fact d else broken)
chosen d true = refl
chosen d false = refl

of_pairs : (ps : List (ℤ × ℤ)) → state_of_shift (common_difference (map above ps)) ≡ offset_of (map (λ (p : ℤ × ℤ). Some (above p)) ps)
of_pairs [] = refl
of_pairs (p ∷ ps) = chosen (above p) (list_all (int_eq (above p)) (map above ps)) ∙ ap (λ b. offset_state (if b then fact (above p) else broken)) (same_test (above p) ps)

of_lengths : (b : Bool) (ps : List (ℤ × ℤ)) → state_of_shift (if b then common_difference (map above ps) else Unequal) ≡ offset_of (if b then map (λ (p : ℤ × ℤ). Some (above p)) ps else None ∷ [])
of_lengths true ps = of_pairs ps
of_lengths false ps = refl

pub shift_is_offset : (s t : List ℤ) → state_of_shift (shift_of s t) ≡ offset_of (differences s t)
shift_is_offset s t = of_lengths (length s == length t) (zip s t)
