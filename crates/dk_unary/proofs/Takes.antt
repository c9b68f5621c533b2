-- The kinds and forms of the rows of one variable.
use Rattle.std.specs.Prelude.{◌≡◌, List, Some, refl}
use Rattle.dk_base.specs.Values.{kind_of}
use Rattle.dk_base.specs.Values.Tuples.{value_at}
use Rattle.dk_base.specs.declared.kinds.Kind.{Kind}
use Rattle.dk_base.specs.declared.kinds.Kind.TheVariants as kind
use Rattle.dk_base.specs.declared.values.Value.{Value}
use Rattle.dk_template.specs.Rows.{IsTuple}
use Rattle.dk_template.specs.Templates.{form_of, role_kinds, rows}
use Rattle.dk_template.specs.declared.templates.StateForm.TheVariants as form
use Rattle.dk_unary.specs.Rows.{bound_row, modulus_row, non_null_row, one_of_row}
use Rattle.dk_unary.specs.declared.bound.Bound.{Bound}
use Rattle.dk_unary.specs.declared.bound.Bound.TheVariants as bound
use Rattle.dk_unary.specs.declared.non_null.NonNull.{NonNull}
use Rattle.dk_unary.specs.declared.non_null.NonNull.TheVariants as non_null
use Rattle.dk_unary.specs.declared.one_of.OneOf.{OneOf}
use Rattle.dk_unary.specs.declared.one_of.OneOf.TheVariants as one_of

-- ---- the kind of the value
abbrev pub one_of_kind : OneOf → Kind
one_of_kind one_of.Int = kind.Int
one_of_kind one_of.Bool = kind.Bool
one_of_kind one_of.Hash = kind.Hash
one_of_kind one_of.Str = kind.Str

pub one_of_takes : (r : OneOf) (t : List Value) → IsTuple (role_kinds (one_of_row r)) t → kind_of (value_at t 0) ≡ Some (one_of_kind r)
unfolding rows
one_of_takes one_of.Int t is = is.each 0
one_of_takes one_of.Bool t is = is.each 0
one_of_takes one_of.Hash t is = is.each 0
one_of_takes one_of.Str t is = is.each 0

pub bound_takes : (r : Bound) (t : List Value) → IsTuple (role_kinds (bound_row r)) t → kind_of (value_at t 0) ≡ Some kind.Int
unfolding rows
bound_takes bound.Lower t is = is.each 0
bound_takes bound.Upper t is = is.each 0

abbrev pub non_null_kind : NonNull → Kind
non_null_kind non_null.Int = kind.Int
non_null_kind non_null.Hash = kind.Hash
non_null_kind non_null.Str = kind.Str

pub non_null_takes : (r : NonNull) (t : List Value) → IsTuple (role_kinds (non_null_row r)) t → kind_of (value_at t 0) ≡ Some (non_null_kind r)
unfolding rows
non_null_takes non_null.Int t is = is.each 0
non_null_takes non_null.Hash t is = is.each 0
non_null_takes non_null.Str t is = is.each 0

pub modulus_takes : (t : List Value) → IsTuple (role_kinds modulus_row) t → kind_of (value_at t 0) ≡ Some kind.Int
unfolding rows
modulus_takes t is = is.each 0

-- ---- forms
pub one_of_ints : form_of (one_of_row one_of.Int) ≡ form.Ints
unfolding rows
one_of_ints = refl

pub one_of_bools : form_of (one_of_row one_of.Bool) ≡ form.Truth
unfolding rows
one_of_bools = refl

pub one_of_hashes : form_of (one_of_row one_of.Hash) ≡ form.Code
unfolding rows
one_of_hashes = refl

pub modulus_form : form_of modulus_row ≡ form.Modulus
unfolding rows
modulus_form = refl

pub one_of_strings : form_of (one_of_row one_of.Str) ≡ form.Texts
unfolding rows
one_of_strings = refl

pub non_null_form : (r : NonNull) → form_of (non_null_row r) ≡ form.Plain
unfolding rows
non_null_form non_null.Int = refl
non_null_form non_null.Hash = refl
non_null_form non_null.Str = refl
