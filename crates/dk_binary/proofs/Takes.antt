-- The kinds and forms of the rows of two variables.
use Rattle.std.specs.Prelude.{◌≡◌, Bool, true, false, List, [], ◌∷◌, refl}
use Rattle.dk_base.specs.declared.kinds.Kind.TheVariants as kind
use Rattle.dk_base.specs.declared.values.Value.{Value}
use Rattle.dk_binary.specs.Rows.{compare_row, equality_number, kind_by, linear_row}
use Rattle.dk_binary.specs.declared.compare.Compare.{Compare}
use Rattle.dk_binary.specs.declared.compare.Compare.TheVariants.{Equal, Different, Less, AtMost, Multiple, Square}
use Rattle.dk_binary.specs.declared.equality.Scalar.{Scalar}
use Rattle.dk_binary.specs.declared.equality.Scalar.TheVariants.{Bool as BoolScalar, Hash as HashScalar, Str as StrScalar}
use Rattle.dk_template.specs.Rows.{IsTuple}
use Rattle.dk_template.specs.Templates.{form_of, role_kinds, rows}
use Rattle.dk_template.specs.declared.templates.StateForm.TheVariants as form

pub compare_takes : (r : Compare) (t : List Value) → IsTuple (role_kinds (compare_row r)) t → IsTuple (kind.Int ∷ kind.Int ∷ []) t
unfolding rows
compare_takes Equal t is = is
compare_takes Different t is = is
compare_takes Less t is = is
compare_takes AtMost t is = is
compare_takes Multiple t is = is
compare_takes Square t is = is

pub linear_takes : (t : List Value) → IsTuple (role_kinds linear_row) t → IsTuple (kind.Int ∷ kind.Int ∷ []) t
unfolding rows
linear_takes t is = is

pub equality_takes : (k : Scalar) (equal : Bool) (t : List Value) → IsTuple (role_kinds (record { 0 = equality_number k equal })) t → IsTuple (kind_by k ∷ kind_by k ∷ []) t
unfolding rows
equality_takes BoolScalar true t is = is
equality_takes BoolScalar false t is = is
equality_takes HashScalar true t is = is
equality_takes HashScalar false t is = is
equality_takes StrScalar true t is = is
equality_takes StrScalar false t is = is

pub compare_form : (r : Compare) → form_of (compare_row r) ≡ form.Plain
unfolding rows
compare_form Equal = refl
compare_form Different = refl
compare_form Less = refl
compare_form AtMost = refl
compare_form Multiple = refl
compare_form Square = refl

pub equality_form : (k : Scalar) (equal : Bool) → form_of (record { 0 = equality_number k equal }) ≡ form.Plain
unfolding rows
equality_form BoolScalar true = refl
equality_form BoolScalar false = refl
equality_form HashScalar true = refl
equality_form HashScalar false = refl
equality_form StrScalar true = refl
equality_form StrScalar false = refl

pub linear_form : form_of linear_row ≡ form.Line
unfolding rows
linear_form = refl
