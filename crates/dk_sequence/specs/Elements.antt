-- The numbers of the rows over the elements of a sequence, and what these rows say of the elements.
use Rattle.std.specs.Prelude.{◌≤◌, ◌⊎◌, ℕ, ℤ, Bool, List, IsTrue, refl}
use Rattle.std.specs.List.{list_all}
use Rattle.dk_base.specs.Values.Tuples.{bools_of, hashes_of, ints_of, texts_of}
use Rattle.dk_base.specs.declared.kinds.Kind.{Kind}
use Rattle.dk_base.specs.declared.kinds.Kind.TheVariants as kind
use Rattle.dk_base.specs.declared.values.Value.{Value}
use Rattle.dk_forms.specs.Code.{code_of}
use Rattle.dk_forms.specs.Greatest.{greatest_of}
use Rattle.dk_forms.specs.Ints.{ints_of as few_ints}
use Rattle.dk_forms.specs.Least.{least_of}
use Rattle.dk_forms.specs.Texts.{texts_of as few_texts}
use Rattle.dk_forms.specs.Truth.{truth_of}
use Rattle.dk_forms.specs.declared.states.State.{State}
use Rattle.dk_lanes.specs.declared.relation.Rel.{Rel}
use Rattle.dk_lanes.specs.declared.relation.Rel.TheVariants.{Eq, Lt, Le, Gt, Ge}
use Rattle.dk_meanings.specs.Laws.{is_row}
use Rattle.dk_meanings.specs.Relations.{is_nonnull, is_nonzero, is_nonzero_hash}
use Rattle.dk_sequence.specs.declared.elements.bound.Bound.{Bound}
use Rattle.dk_sequence.specs.declared.elements.bound.Bound.TheVariants as bound
use Rattle.dk_sequence.specs.declared.elements.compare.Compare.{Compare}
use Rattle.dk_sequence.specs.declared.elements.non_null.NonNull.{NonNull}
use Rattle.dk_sequence.specs.declared.elements.non_null.NonNull.TheVariants as non_null
use Rattle.dk_sequence.specs.declared.elements.one_of.OneOf.{OneOf}
use Rattle.dk_sequence.specs.declared.elements.one_of.OneOf.TheVariants as one_of
use Rattle.dk_sequence.specs.declared.elements.sorted.Sorted.{Sorted}
use Rattle.dk_template.specs.Numbers as number
use Rattle.dk_template.specs.declared.grammar.RowId.{RowId}

-- a row over the elements of a sequence, alone or with a number
abbrev pub IsElementRow : RowId → Type 0
IsElementRow r = ((35 ≤ r.0) × (r.0 ≤ 48)) ⊎ ((52 ≤ r.0) × (r.0 ≤ 56))

-- ---- the elements, where they are few
abbrev pub one_of_row : OneOf → RowId
one_of_row one_of.Int = record { 0 = number.elt_one_of_int }
one_of_row one_of.Bool = record { 0 = number.elt_one_of_bool }
one_of_row one_of.Hash = record { 0 = number.elt_one_of_hash }
one_of_row one_of.Str = record { 0 = number.elt_one_of_str }

abbrev pub one_of_kind : OneOf → Kind
one_of_kind one_of.Int = kind.IntSeq
one_of_kind one_of.Bool = kind.BoolSeq
one_of_kind one_of.Hash = kind.HashSeq
one_of_kind one_of.Str = kind.StrSeq

-- the state of the elements, of which each is a value
abbrev pub one_of_state : OneOf → Value → State
one_of_state one_of.Int s = few_ints (ints_of s)
one_of_state one_of.Bool s = truth_of (bools_of s)
one_of_state one_of.Hash s = code_of (hashes_of s)
one_of_state one_of.Str s = few_texts (texts_of s)

pub one_of_is_row : (r : OneOf) → IsTrue (is_row (one_of_row r))
one_of_is_row one_of.Int = refl
one_of_is_row one_of.Bool = refl
one_of_is_row one_of.Hash = refl
one_of_is_row one_of.Str = refl

-- ---- a bound of the elements
abbrev pub bound_row : Bound → RowId
bound_row bound.Lower = record { 0 = number.elt_lower }
bound_row bound.Upper = record { 0 = number.elt_upper }

-- the state of the elements
abbrev pub bound_state : Bound → List ℤ → State
bound_state bound.Lower s = least_of s
bound_state bound.Upper s = greatest_of s

pub bound_is_row : (r : Bound) → IsTrue (is_row (bound_row r))
bound_is_row bound.Lower = refl
bound_is_row bound.Upper = refl

-- ---- no element is 0 or `null`
abbrev pub non_null_row : NonNull → RowId
non_null_row non_null.Int = record { 0 = number.elt_non_zero }
non_null_row non_null.Hash = record { 0 = number.elt_non_null_hash }
non_null_row non_null.Str = record { 0 = number.elt_non_null_str }

abbrev pub non_null_kind : NonNull → Kind
non_null_kind non_null.Int = kind.IntSeq
non_null_kind non_null.Hash = kind.HashSeq
non_null_kind non_null.Str = kind.StrSeq

abbrev pub has_no_null : NonNull → Value → Bool
has_no_null non_null.Int s = list_all is_nonzero (ints_of s)
has_no_null non_null.Hash s = list_all is_nonzero_hash (hashes_of s)
has_no_null non_null.Str s = list_all is_nonnull (texts_of s)

pub non_null_is_row : (r : NonNull) → IsTrue (is_row (non_null_row r))
non_null_is_row non_null.Int = refl
non_null_is_row non_null.Hash = refl
non_null_is_row non_null.Str = refl

-- ---- each element is in a relation with the next
abbrev pub sorted_number : Rel → ℕ
sorted_number Lt = 39
sorted_number Le = 40
sorted_number Gt = 41
sorted_number Ge = 42
sorted_number Eq = 43

abbrev pub sorted_row : Sorted → RowId
sorted_row r = record { 0 = sorted_number r.0 }

sorted_number_is_row : (rel : Rel) → IsTrue (is_row (record { 0 = sorted_number rel }))
sorted_number_is_row Eq = refl
sorted_number_is_row Lt = refl
sorted_number_is_row Le = refl
sorted_number_is_row Gt = refl
sorted_number_is_row Ge = refl

pub sorted_is_row : (r : Sorted) → IsTrue (is_row (sorted_row r))
sorted_is_row r = sorted_number_is_row r.0

-- ---- each element is in a relation with a number
abbrev pub compare_number : Rel → ℕ
compare_number Eq = 52
compare_number Lt = 53
compare_number Le = 54
compare_number Gt = 55
compare_number Ge = 56

abbrev pub compare_row : Compare → RowId
compare_row r = record { 0 = compare_number r.0 }

compare_number_is_row : (rel : Rel) → IsTrue (is_row (record { 0 = compare_number rel }))
compare_number_is_row Eq = refl
compare_number_is_row Lt = refl
compare_number_is_row Le = refl
compare_number_is_row Gt = refl
compare_number_is_row Ge = refl

pub compare_is_row : (r : Compare) → IsTrue (is_row (compare_row r))
compare_is_row r = compare_number_is_row r.0
