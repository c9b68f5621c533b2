-- The numbers of the rows of three variables, and what these rows state of numbers.
use Rattle.std.specs.Prelude.{◌≡◌, ◌≤◌, ◌⊎◌, ℤ, bit_and, bit_or, bit_xor, Bool, IsTrue, refl}
use Rattle.dk_meanings.specs.Laws.{is_row}
use Rattle.dk_meanings.specs.Relations.{is_bitwise, is_difference, is_gcd, is_maximum, is_minimum, is_product, is_quotient, is_remainder, is_sum}
use Rattle.dk_template.specs.Numbers as number
use Rattle.dk_template.specs.declared.grammar.RowId.{RowId}
use Rattle.dk_ternary.specs.declared.operation.Operation.{Operation}
use Rattle.dk_ternary.specs.declared.operation.Operation.TheVariants.{Sum, Difference, Product, Minimum, Maximum, Quotient, Remainder, And, Or, Xor, Gcd}

-- a row of three variables
abbrev pub IsTernary : RowId → Type 0
IsTernary r = ((24 ≤ r.0) × (r.0 ≤ 34)) ⊎ (r.0 ≡ 67)

-- ---- the result of an operation
abbrev pub operation_row : Operation → RowId
operation_row Sum = record { 0 = number.sum }
operation_row Difference = record { 0 = number.difference }
operation_row Product = record { 0 = number.product }
operation_row Minimum = record { 0 = number.minimum }
operation_row Maximum = record { 0 = number.maximum }
operation_row Quotient = record { 0 = number.quotient }
operation_row Remainder = record { 0 = number.remainder }
operation_row And = record { 0 = number.and }
operation_row Or = record { 0 = number.or }
operation_row Xor = record { 0 = number.xor }
operation_row Gcd = record { 0 = number.gcd }

-- z is the result of the operation on x and y
abbrev pub is_result : Operation → ℤ → ℤ → ℤ → Bool
is_result Sum z x y = is_sum z x y
is_result Difference z x y = is_difference z x y
is_result Product z x y = is_product z x y
is_result Minimum z x y = is_minimum z x y
is_result Maximum z x y = is_maximum z x y
is_result Quotient z x y = is_quotient z x y
is_result Remainder z x y = is_remainder z x y
is_result And z x y = is_bitwise bit_and z x y
is_result Or z x y = is_bitwise bit_or z x y
is_result Xor z x y = is_bitwise bit_xor z x y
is_result Gcd z x y = is_gcd z x y

pub operation_is_row : (r : Operation) → IsTrue (is_row (operation_row r))
operation_is_row Sum = refl
operation_is_row Difference = refl
operation_is_row Product = refl
operation_is_row Minimum = refl
operation_is_row Maximum = refl
operation_is_row Quotient = refl
operation_is_row Remainder = refl
operation_is_row And = refl
operation_is_row Or = refl
operation_is_row Xor = refl
operation_is_row Gcd = refl

-- ---- the plane
abbrev pub linear_ternary_row : RowId
linear_ternary_row = record { 0 = number.linear_ternary }

pub linear_ternary_is_row : IsTrue (is_row linear_ternary_row)
linear_ternary_is_row = refl
