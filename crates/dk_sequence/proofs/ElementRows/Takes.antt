-- The kinds and forms of the rows over the elements of a sequence.
use Rattle.std.specs.Prelude.{◌≡◌, List, [], ◌∷◌, refl}
use Rattle.dk_base.specs.declared.kinds.Kind.TheVariants as kind
use Rattle.dk_base.specs.declared.values.Value.{Value}
use Rattle.dk_lanes.specs.declared.relation.Rel.{Rel}
use Rattle.dk_lanes.specs.declared.relation.Rel.TheVariants.{Eq, Lt, Le, Gt, Ge}
use Rattle.dk_sequence.specs.Elements.{bound_row, compare_number, non_null_kind, non_null_row, one_of_kind, one_of_row, sorted_number}
use Rattle.dk_sequence.specs.declared.elements.bound.Bound.{Bound}
use Rattle.dk_sequence.specs.declared.elements.bound.Bound.TheVariants as bound
use Rattle.dk_sequence.specs.declared.elements.non_null.NonNull.{NonNull}
use Rattle.dk_sequence.specs.declared.elements.non_null.NonNull.TheVariants as non_null
use Rattle.dk_sequence.specs.declared.elements.one_of.OneOf.{OneOf}
use Rattle.dk_sequence.specs.declared.elements.one_of.OneOf.TheVariants as one_of
use Rattle.dk_template.specs.Rows.{IsTuple}
use Rattle.dk_template.specs.Templates.{form_of, role_kinds, rows}
use Rattle.dk_template.specs.declared.templates.StateForm.TheVariants as form

-- ---- kinds
pub one_of_takes : (r : OneOf) (t : List Value) → IsTuple (role_kinds (one_of_row r)) t → IsTuple (one_of_kind r ∷ []) t
unfolding rows
one_of_takes one_of.Int t is = is
one_of_takes one_of.Bool t is = is
one_of_takes one_of.Hash t is = is
one_of_takes one_of.Str t is = is

pub bound_takes : (r : Bound) (t : List Value) → IsTuple (role_kinds (bound_row r)) t → IsTuple (kind.IntSeq ∷ []) t
unfolding rows
bound_takes bound.Lower t is = is
bound_takes bound.Upper t is = is

pub non_null_takes : (r : NonNull) (t : List Value) → IsTuple (role_kinds (non_null_row r)) t → IsTuple (non_null_kind r ∷ []) t
unfolding rows
non_null_takes non_null.Int t is = is
non_null_takes non_null.Hash t is = is
non_null_takes non_null.Str t is = is

pub sorted_takes : (rel : Rel) (t : List Value) → IsTuple (role_kinds (record { 0 = sorted_number rel })) t → IsTuple (kind.IntSeq ∷ []) t
unfolding rows
sorted_takes Eq t is = is
sorted_takes Lt t is = is
sorted_takes Le t is = is
sorted_takes Gt t is = is
sorted_takes Ge t is = is

pub compare_takes : (rel : Rel) (t : List Value) → IsTuple (role_kinds (record { 0 = compare_number rel })) t → IsTuple (kind.IntSeq ∷ kind.Int ∷ []) t
unfolding rows
compare_takes Eq t is = is
compare_takes Lt t is = is
compare_takes Le t is = is
compare_takes Gt t is = is
compare_takes Ge t is = is

-- ---- forms
pub one_of_strings : form_of (one_of_row one_of.Str) ≡ form.Texts
unfolding rows
one_of_strings = refl

pub non_null_form : (r : NonNull) → form_of (non_null_row r) ≡ form.Plain
unfolding rows
non_null_form non_null.Int = refl
non_null_form non_null.Hash = refl
non_null_form non_null.Str = refl

pub sorted_form : (rel : Rel) → form_of (record { 0 = sorted_number rel }) ≡ form.Plain
unfolding rows
sorted_form Eq = refl
sorted_form Lt = refl
sorted_form Le = refl
sorted_form Gt = refl
sorted_form Ge = refl

pub compare_form : (rel : Rel) → form_of (record { 0 = compare_number rel }) ≡ form.Plain
unfolding rows
compare_form Eq = refl
compare_form Lt = refl
compare_form Le = refl
compare_form Gt = refl
compare_form Ge = refl
