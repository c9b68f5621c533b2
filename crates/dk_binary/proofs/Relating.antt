-- What the rows of two variables say of one tuple.
use Rattle.std.specs.Prelude.{◌≡◌, Bool, true, false, if◌then◌else◌, not, List, [], ◌∷◌, refl}
use Rattle.dk_base.specs.Values.Tuples.{int_of, value_at}
use Rattle.dk_base.specs.declared.values.Value.{Value}
use Rattle.dk_binary.specs.Rows.{compare_row, equality_number, linear_row, relates, same_by}
use Rattle.dk_binary.specs.declared.compare.Compare.{Compare}
use Rattle.dk_binary.specs.declared.compare.Compare.TheVariants.{Equal, Different, Less, AtMost, Multiple, Square}
use Rattle.dk_binary.specs.declared.equality.Scalar.{Scalar}
use Rattle.dk_binary.specs.declared.equality.Scalar.TheVariants.{Bool as BoolScalar, Hash as HashScalar, Str as StrScalar}
use Rattle.dk_forms.specs.Plane.Line.{line_of}
use Rattle.dk_meanings.specs.Meanings.{meanings, relation_of, state_of}

pub compare_relation : (r : Compare) (t : List Value) → relation_of (compare_row r) t ≡ relates r (int_of (value_at t 0)) (int_of (value_at t 1))
unfolding relation_of meanings
compare_relation Equal t = refl
compare_relation Different t = refl
compare_relation Less t = refl
compare_relation AtMost t = refl
compare_relation Multiple t = refl
compare_relation Square t = refl

pub linear_of_one : (t : List Value) → state_of linear_row (t ∷ []) ≡ line_of ((int_of (value_at t 0), int_of (value_at t 1)) ∷ [])
unfolding state_of meanings
linear_of_one t = refl

-- equal, or not
pub equality_relation : (k : Scalar) (equal : Bool) (t : List Value) → relation_of (record { 0 = equality_number k equal }) t ≡ (if equal then same_by k t else not (same_by k t))
unfolding relation_of meanings
equality_relation BoolScalar true t = refl
equality_relation BoolScalar false t = refl
equality_relation HashScalar true t = refl
equality_relation HashScalar false t = refl
equality_relation StrScalar true t = refl
equality_relation StrScalar false t = refl
