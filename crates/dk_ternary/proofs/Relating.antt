-- What the rows of three variables say of one tuple.
use Rattle.std.specs.Prelude.{◌≡◌, List, [], ◌∷◌, refl}
use Rattle.dk_base.specs.Values.Tuples.{int_of, value_at}
use Rattle.dk_base.specs.declared.values.Value.{Value}
use Rattle.dk_forms.specs.Plane.{plane_of}
use Rattle.dk_meanings.specs.Meanings.{meanings, relation_of, state_of}
use Rattle.dk_ternary.specs.Rows.{is_result, linear_ternary_row, operation_row}
use Rattle.dk_ternary.specs.declared.operation.Operation.{Operation}
use Rattle.dk_ternary.specs.declared.operation.Operation.TheVariants.{Sum, Difference, Product, Minimum, Maximum, Quotient, Remainder, And, Or, Xor, Gcd}

pub operation_relation : (r : Operation) (t : List Value) → relation_of (operation_row r) t ≡ is_result r (int_of (value_at t 0)) (int_of (value_at t 1)) (int_of (value_at t 2))
unfolding relation_of meanings
operation_relation Sum t = refl
operation_relation Difference t = refl
operation_relation Product t = refl
operation_relation Minimum t = refl
operation_relation Maximum t = refl
operation_relation Quotient t = refl
operation_relation Remainder t = refl
operation_relation And t = refl
operation_relation Or t = refl
operation_relation Xor t = refl
operation_relation Gcd t = refl

pub plane_of_one : (t : List Value) → state_of linear_ternary_row (t ∷ []) ≡ plane_of ((int_of (value_at t 0), int_of (value_at t 1), int_of (value_at t 2)) ∷ [])
unfolding state_of meanings
plane_of_one t = refl
