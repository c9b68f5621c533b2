-- The numbers of the rows of two variables, and what these rows state of values.
use Rattle.std.specs.Prelude.{◌≤◌, ℕ, ℤ, int_le, int_lt, nat_eq, Bool, true, false, if◌then◌else◌, List, IsTrue, refl}
use Rattle.std.specs.Ordering.{int_eq}
use Rattle.std.specs.Str.{bytes_eq}
use Rattle.std.proofs.Math.Bool.{beq}
use Rattle.dk_base.specs.Values.Tuples.{bool_of, hash_of, text_of, value_at}
use Rattle.dk_base.specs.declared.kinds.Kind.{Kind}
use Rattle.dk_base.specs.declared.kinds.Kind.TheVariants as kind
use Rattle.dk_base.specs.declared.values.Value.{Value}
use Rattle.dk_binary.specs.declared.compare.Compare.{Compare}
use Rattle.dk_binary.specs.declared.compare.Compare.TheVariants.{Equal, Different, Less, AtMost, Multiple, Square}
use Rattle.dk_binary.specs.declared.equality.Equality.{Equality}
use Rattle.dk_binary.specs.declared.equality.Scalar.{Scalar}
use Rattle.dk_binary.specs.declared.equality.Scalar.TheVariants.{Bool as BoolScalar, Hash as HashScalar, Str as StrScalar}
use Rattle.dk_meanings.specs.Laws.{is_row}
use Rattle.dk_meanings.specs.Relations.{differ, is_multiple, is_square}
use Rattle.dk_template.specs.Numbers as number
use Rattle.dk_template.specs.declared.grammar.RowId.{RowId}

-- a row of two variables that aren't sequences
abbrev pub IsBinary : RowId → Type 0
IsBinary r = (11 ≤ r.0) × (r.0 ≤ 23)

-- ---- relations of two numbers
abbrev pub compare_row : Compare → RowId
compare_row Equal = record { 0 = number.eq_int }
compare_row Different = record { 0 = number.ne_int }
compare_row Less = record { 0 = number.lt }
compare_row AtMost = record { 0 = number.le }
compare_row Multiple = record { 0 = number.divides }
compare_row Square = record { 0 = number.square }

abbrev pub relates : Compare → ℤ → ℤ → Bool
relates Equal x y = int_eq x y
relates Different x y = differ int_eq x y
relates Less x y = int_lt x y
relates AtMost x y = int_le x y
relates Multiple x y = is_multiple x y
relates Square x y = is_square x y

pub compare_is_row : (r : Compare) → IsTrue (is_row (compare_row r))
compare_is_row Equal = refl
compare_is_row Different = refl
compare_is_row Less = refl
compare_is_row AtMost = refl
compare_is_row Multiple = refl
compare_is_row Square = refl

-- ---- the line
abbrev pub linear_row : RowId
linear_row = record { 0 = number.linear }

pub linear_is_row : IsTrue (is_row linear_row)
linear_is_row = refl

-- ---- equality
abbrev pub kind_by : Scalar → Kind
kind_by BoolScalar = kind.Bool
kind_by HashScalar = kind.Hash
kind_by StrScalar = kind.Str

-- the two values of a tuple are equal
abbrev pub same_by : Scalar → List Value → Bool
same_by BoolScalar t = beq (bool_of (value_at t 0)) (bool_of (value_at t 1))
same_by HashScalar t = nat_eq (hash_of (value_at t 0)) (hash_of (value_at t 1))
same_by StrScalar t = bytes_eq (text_of (value_at t 0)) (text_of (value_at t 1))

abbrev pub equality_number : Scalar → Bool → ℕ
equality_number BoolScalar equal = if equal then 18 else 19
equality_number HashScalar equal = if equal then 20 else 21
equality_number StrScalar equal = if equal then 22 else 23

abbrev pub equality_row : Equality → RowId
equality_row r = record { 0 = equality_number r.kind r.equal }

is_row_of : (k : Scalar) (equal : Bool) → IsTrue (is_row (record { 0 = equality_number k equal }))
is_row_of BoolScalar true = refl
is_row_of BoolScalar false = refl
is_row_of HashScalar true = refl
is_row_of HashScalar false = refl
is_row_of StrScalar true = refl
is_row_of StrScalar false = refl

pub equality_is_row : (r : Equality) → IsTrue (is_row (equality_row r))
equality_is_row r = is_row_of r.kind r.equal
