-- What the rows over the elements of a sequence say of one tuple.
use Rattle.std.specs.Prelude.{◌≡◌, ◌&&◌, ◌||◌, Bool, true, false, not, List, [], ◌∷◌, refl}
use Rattle.std.specs.List.{list_all, list_any}
use Rattle.std.proofs.Common.{ap}
use Rattle.std.proofs.lemmas.List.{append-nil}
use Rattle.dk_base.specs.Values.Tuples.{bools_of, hashes_of, int_of, ints_of, texts_of, value_at}
use Rattle.dk_base.specs.declared.values.Value.{Value}
use Rattle.dk_forms.specs.Code.{code_of}
use Rattle.dk_forms.specs.Greatest.{greatest_of}
use Rattle.dk_forms.specs.Ints.{ints_of as few_ints}
use Rattle.dk_forms.specs.Least.{least_of}
use Rattle.dk_forms.specs.Texts.{texts_of as few_texts}
use Rattle.dk_forms.specs.Truth.{truth_of}
use Rattle.dk_lanes.specs.Lanes.{all_relate, is_sorted}
use Rattle.dk_lanes.specs.declared.relation.Rel.{Rel}
use Rattle.dk_lanes.specs.declared.relation.Rel.TheVariants.{Eq, Lt, Le, Gt, Ge}
use Rattle.dk_meanings.specs.Meanings.{meanings, relation_of, state_of}
use Rattle.dk_sequence.specs.Elements.{bound_row, bound_state, compare_number, has_no_null, non_null_row, one_of_row, one_of_state, sorted_number}
use Rattle.dk_sequence.specs.declared.elements.bound.Bound.{Bound}
use Rattle.dk_sequence.specs.declared.elements.bound.Bound.TheVariants as bound
use Rattle.dk_sequence.specs.declared.elements.non_null.NonNull.{NonNull}
use Rattle.dk_sequence.specs.declared.elements.non_null.NonNull.TheVariants as non_null
use Rattle.dk_sequence.specs.declared.elements.one_of.OneOf.{OneOf}
use Rattle.dk_sequence.specs.declared.elements.one_of.OneOf.TheVariants as one_of

-- ---- the values of one tuple are the elements
pub one_of_elements : (r : OneOf) (t : List Value) → state_of (one_of_row r) (t ∷ []) ≡ one_of_state r (value_at t 0)
unfolding state_of meanings
one_of_elements one_of.Int t = ap few_ints (append-nil (ints_of (value_at t 0)))
one_of_elements one_of.Bool t = ap truth_of (append-nil (bools_of (value_at t 0)))
one_of_elements one_of.Hash t = ap code_of (append-nil (hashes_of (value_at t 0)))
one_of_elements one_of.Str t = ap few_texts (append-nil (texts_of (value_at t 0)))

pub bound_elements : (r : Bound) (t : List Value) → state_of (bound_row r) (t ∷ []) ≡ bound_state r (ints_of (value_at t 0))
unfolding state_of meanings
bound_elements bound.Lower t = ap least_of (append-nil (ints_of (value_at t 0)))
bound_elements bound.Upper t = ap greatest_of (append-nil (ints_of (value_at t 0)))

-- ---- relations
pub non_null_relation : (r : NonNull) (t : List Value) → relation_of (non_null_row r) t ≡ has_no_null r (value_at t 0)
unfolding relation_of meanings
non_null_relation non_null.Int t = refl
non_null_relation non_null.Hash t = refl
non_null_relation non_null.Str t = refl

pub sorted_relation : (rel : Rel) (t : List Value) → relation_of (record { 0 = sorted_number rel }) t ≡ is_sorted rel (ints_of (value_at t 0))
unfolding relation_of meanings
sorted_relation Eq t = refl
sorted_relation Lt t = refl
sorted_relation Le t = refl
sorted_relation Gt t = refl
sorted_relation Ge t = refl

pub compare_relation : (rel : Rel) (t : List Value) → relation_of (record { 0 = compare_number rel }) t ≡ all_relate rel (ints_of (value_at t 0)) (int_of (value_at t 1))
unfolding relation_of meanings
compare_relation Eq t = refl
compare_relation Lt t = refl
compare_relation Le t = refl
compare_relation Gt t = refl
compare_relation Ge t = refl

-- where no element passes a test, each fails it
pub none_passes : {X : Type 0} (p : X → Bool) (xs : List X) → not (list_any p xs) ≡ list_all (λ x. not (p x)) xs
none_passes p [] = refl
none_passes p (x ∷ xs) = elim (p x) as (λ b. not (b || list_any p xs) ≡ (not b && list_all (λ y. not (p y)) xs)) [ true ↦ refl | false ↦ none_passes p xs ]
