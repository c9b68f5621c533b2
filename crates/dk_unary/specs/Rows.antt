-- The numbers of the rows of one variable.
use Rattle.std.specs.Prelude.{◌≤◌, ℤ, IsTrue, refl}
use Rattle.dk_forms.specs.declared.states.State.{State}
use Rattle.dk_forms.specs.declared.states.State.TheVariants.{Least, Greatest}
use Rattle.dk_meanings.specs.Laws.{is_row}
use Rattle.dk_template.specs.Numbers as number
use Rattle.dk_template.specs.declared.grammar.RowId.{RowId}
use Rattle.dk_unary.specs.declared.bound.Bound.{Bound}
use Rattle.dk_unary.specs.declared.bound.Bound.TheVariants as bound
use Rattle.dk_unary.specs.declared.non_null.NonNull.{NonNull}
use Rattle.dk_unary.specs.declared.non_null.NonNull.TheVariants as non_null
use Rattle.dk_unary.specs.declared.one_of.OneOf.{OneOf}
use Rattle.dk_unary.specs.declared.one_of.OneOf.TheVariants as one_of

-- a row of one variable that isn't a sequence
abbrev pub IsUnary : RowId → Type 0
IsUnary r = (1 ≤ r.0) × (r.0 ≤ 10)

abbrev pub one_of_row : OneOf → RowId
one_of_row one_of.Int = record { 0 = number.one_of_int }
one_of_row one_of.Bool = record { 0 = number.one_of_bool }
one_of_row one_of.Hash = record { 0 = number.one_of_hash }
one_of_row one_of.Str = record { 0 = number.one_of_str }

abbrev pub bound_row : Bound → RowId
bound_row bound.Lower = record { 0 = number.lower_bound }
bound_row bound.Upper = record { 0 = number.upper_bound }

-- the state of one value
abbrev pub bound_state : Bound → ℤ → State
bound_state bound.Lower x = Least x
bound_state bound.Upper x = Greatest x

abbrev pub non_null_row : NonNull → RowId
non_null_row non_null.Int = record { 0 = number.non_zero }
non_null_row non_null.Hash = record { 0 = number.non_null_hash }
non_null_row non_null.Str = record { 0 = number.non_null_str }

abbrev pub modulus_row : RowId
modulus_row = record { 0 = number.modulus }

-- ---- each is a row of the table
pub one_of_is_row : (r : OneOf) → IsTrue (is_row (one_of_row r))
one_of_is_row one_of.Int = refl
one_of_is_row one_of.Bool = refl
one_of_is_row one_of.Hash = refl
one_of_is_row one_of.Str = refl

pub bound_is_row : (r : Bound) → IsTrue (is_row (bound_row r))
bound_is_row bound.Lower = refl
bound_is_row bound.Upper = refl

pub non_null_is_row : (r : NonNull) → IsTrue (is_row (non_null_row r))
non_null_is_row non_null.Int = refl
non_null_is_row non_null.Hash = refl
non_null_is_row non_null.Str = refl

pub modulus_is_row : IsTrue (is_row modulus_row)
modulus_is_row = refl
