-- What the rows of one variable say of one tuple.
use Rattle.std.specs.Prelude.{◌≡◌, List, [], ◌∷◌, refl}
use Rattle.dk_base.specs.Values.Tuples.{bool_of, hash_of, int_of, text_of, value_at}
use Rattle.dk_base.specs.declared.values.Value.{Value}
use Rattle.dk_forms.specs.Code.{code_of}
use Rattle.dk_forms.specs.Ints.{ints_of}
use Rattle.dk_forms.specs.Known.Distinct.{put}
use Rattle.dk_forms.specs.Modulus.{modulus_of}
use Rattle.dk_forms.specs.Texts.{texts_of}
use Rattle.dk_forms.specs.Truth.{truth_of}
use Rattle.dk_forms.specs.declared.states.State.TheVariants.{Ints, Truth, Code}
use Rattle.dk_meanings.specs.Meanings.{meanings, relation_of, state_of}
use Rattle.dk_meanings.specs.Relations.{is_nonnull, is_nonzero, is_nonzero_hash}
use Rattle.dk_unary.specs.Rows.{bound_row, bound_state, modulus_row, non_null_row, one_of_row}
use Rattle.dk_unary.specs.declared.bound.Bound.{Bound}
use Rattle.dk_unary.specs.declared.bound.Bound.TheVariants as bound
use Rattle.dk_unary.specs.declared.non_null.NonNull.TheVariants as non_null
use Rattle.dk_unary.specs.declared.one_of.OneOf.TheVariants as one_of

pub one_of_int : (t : List Value) → state_of (one_of_row one_of.Int) (t ∷ []) ≡ Ints (int_of (value_at t 0) ∷ [])
unfolding state_of meanings put
one_of_int t = refl

pub one_of_bool : (t : List Value) → state_of (one_of_row one_of.Bool) (t ∷ []) ≡ Truth (bool_of (value_at t 0))
unfolding state_of meanings
one_of_bool t = refl

pub one_of_hash : (t : List Value) → state_of (one_of_row one_of.Hash) (t ∷ []) ≡ Code (hash_of (value_at t 0))
unfolding state_of meanings
one_of_hash t = refl

pub one_of_str : (t : List Value) → state_of (one_of_row one_of.Str) (t ∷ []) ≡ texts_of (text_of (value_at t 0) ∷ [])
unfolding state_of meanings
one_of_str t = refl

pub bound_point : (r : Bound) (t : List Value) → state_of (bound_row r) (t ∷ []) ≡ bound_state r (int_of (value_at t 0))
unfolding state_of meanings
bound_point bound.Lower t = refl
bound_point bound.Upper t = refl

pub modulus_of_one : (t : List Value) → state_of modulus_row (t ∷ []) ≡ modulus_of (int_of (value_at t 0) ∷ [])
unfolding state_of meanings
modulus_of_one t = refl

pub non_null_int : (t : List Value) → relation_of (non_null_row non_null.Int) t ≡ is_nonzero (int_of (value_at t 0))
unfolding relation_of meanings
non_null_int t = refl

pub non_null_hash : (t : List Value) → relation_of (non_null_row non_null.Hash) t ≡ is_nonzero_hash (hash_of (value_at t 0))
unfolding relation_of meanings
non_null_hash t = refl

pub non_null_str : (t : List Value) → relation_of (non_null_row non_null.Str) t ≡ is_nonnull (text_of (value_at t 0))
unfolding relation_of meanings
non_null_str t = refl

-- the same by the state of a list of one value
pub ints_of_one : (t : List Value) → state_of (one_of_row one_of.Int) (t ∷ []) ≡ ints_of (int_of (value_at t 0) ∷ [])
unfolding state_of meanings
ints_of_one t = refl

pub bools_of_one : (t : List Value) → state_of (one_of_row one_of.Bool) (t ∷ []) ≡ truth_of (bool_of (value_at t 0) ∷ [])
unfolding state_of meanings
bools_of_one t = refl

pub hashes_of_one : (t : List Value) → state_of (one_of_row one_of.Hash) (t ∷ []) ≡ code_of (hash_of (value_at t 0) ∷ [])
unfolding state_of meanings
hashes_of_one t = refl
