-- One leader more whose value is asked in both.
use Rattle.std.specs.Prelude.{◌≡◌, ◌<◌, ◌+◌, ◌++◌, ℕ, List, [], ◌∷◌, Option, None, Some, if◌then◌else◌, length, take}
use Rattle.std.specs.List.{cons_option}
use Rattle.std.specs.Option.{option_map}
use Rattle.std.proofs.Common.{ap, ◌∙◌, get_or, inl, inr, sym}
use Rattle.std.proofs.lemmas.Bool.{cases_Bool}
use Rattle.std.proofs.lemmas.List.{append-nil, take_more}
use Rattle.std.proofs.lemmas.List.Elements.{filter_map-append}
use Rattle.dk_base.proofs.ValueTests.{same_value-decides}
use Rattle.dk_base.specs.Values.SameValues.{same_value}
use Rattle.dk_base.specs.declared.kinds.VarId.{VarId}
use Rattle.dk_base.specs.declared.values.Value.{Value}
use Rattle.dk_constants.specs.Known.{Entries}
use Rattle.dk_engine.specs.declared.kept.Kept.{Kept}
use Rattle.dk_join.specs.Joined.{common_value, joined_known, known_in_both}

-- ---- values
pub common_then : (o p : Option Value) (x y : Value) → o ≡ Some x → p ≡ Some y → x ≡ y → Some x ≡ common_value o p
common_then o p x y is also same =
    sym (ap (λ q. common_value q p) is ∙ (ap (common_value (Some x)) also ∙ ap (λ b. if b then Some x else None) ((same_value-decides x y).1 same)))

pub common_else : (o p : Option Value) (x y : Value) → o ≡ Some x → p ≡ Some y → (x ≡ y → ⊥) → None ≡ common_value o p
common_else o p x y is also differ = elim (cases_Bool (same_value x y)) [
  | inl t ↦ absurd (differ ((same_value-decides x y).0 t))
  | inr n ↦ sym (ap (λ q. common_value q p) is ∙ (ap (common_value (Some x)) also ∙ ap (λ b. if b then Some x else None) n))
]

-- ---- leaders
abbrev entry : VarId → Option Value → Option (VarId × Value)
entry v o = option_map (λ x. (v, x)) o

module _ (first second : Kept) (v : VarId) where
  pub none_more : (known : Entries) → known_in_both first second v ≡ None → known ≡ known ++ joined_known first second (v ∷ [])
  none_more known none = sym (ap (λ o. known ++ cons_option (entry v o) []) none ∙ append-nil known)

  pub one_more : (x : Value) (known : Entries) → known_in_both first second v ≡ Some x → known ++ (v, x) ∷ [] ≡ known ++ joined_known first second (v ∷ [])
  one_more x known one = sym (ap (λ o. known ++ cons_option (entry v o) []) one)

pub known_more : (first second : Kept) (leaders : List VarId) (i : ℕ) (d : VarId) → i < length leaders
    → joined_known first second (take i leaders) ++ joined_known first second (get_or leaders i d ∷ []) ≡ joined_known first second (take (i + 1) leaders)
known_more first second leaders i d l =
    sym (ap (joined_known first second) (take_more leaders i d l) ∙ filter_map-append (λ v. entry v (known_in_both first second v)) (take i leaders) (get_or leaders i d ∷ []))
