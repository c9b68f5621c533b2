-- The kinds and forms of the rows of three variables.
use Rattle.std.specs.Prelude.{◌≡◌, List, [], ◌∷◌, refl}
use Rattle.dk_base.specs.declared.kinds.Kind.TheVariants as kind
use Rattle.dk_base.specs.declared.values.Value.{Value}
use Rattle.dk_template.specs.Rows.{IsTuple}
use Rattle.dk_template.specs.Templates.{form_of, role_kinds, rows}
use Rattle.dk_template.specs.declared.templates.StateForm.TheVariants as form
use Rattle.dk_ternary.specs.Rows.{linear_ternary_row, operation_row}
use Rattle.dk_ternary.specs.declared.operation.Operation.{Operation}
use Rattle.dk_ternary.specs.declared.operation.Operation.TheVariants.{Sum, Difference, Product, Minimum, Maximum, Quotient, Remainder, And, Or, Xor, Gcd}

pub operation_takes : (r : Operation) (t : List Value) → IsTuple (role_kinds (operation_row r)) t → IsTuple (kind.Int ∷ kind.Int ∷ kind.Int ∷ []) t
unfolding rows
operation_takes Sum t is = is
operation_takes Difference t is = is
operation_takes Product t is = is
operation_takes Minimum t is = is
operation_takes Maximum t is = is
operation_takes Quotient t is = is
operation_takes Remainder t is = is
operation_takes And t is = is
operation_takes Or t is = is
operation_takes Xor t is = is
operation_takes Gcd t is = is

pub linear_ternary_takes : (t : List Value) → IsTuple (role_kinds linear_ternary_row) t → IsTuple (kind.Int ∷ kind.Int ∷ kind.Int ∷ []) t
unfolding rows
linear_ternary_takes t is = is

pub operation_form : (r : Operation) → form_of (operation_row r) ≡ form.Plain
unfolding rows
operation_form Sum = refl
operation_form Difference = refl
operation_form Product = refl
operation_form Minimum = refl
operation_form Maximum = refl
operation_form Quotient = refl
operation_form Remainder = refl
operation_form And = refl
operation_form Or = refl
operation_form Xor = refl
operation_form Gcd = refl

pub linear_ternary_form : form_of linear_ternary_row ≡ form.Plane
unfolding rows
linear_ternary_form = refl
