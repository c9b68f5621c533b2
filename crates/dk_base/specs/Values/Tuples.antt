-- The values of a tuple, by their roles.
use Rattle.std.specs.Prelude.{ℕ, ℤ, pos, Bool, false, List, [], slice_index_or}
use Rattle.dk_base.specs.declared.values.Value.{Value}
use Rattle.dk_base.specs.declared.values.Value.TheVariants as value

-- the value at a role of a tuple
abbrev pub value_at : List Value → ℕ → Value
value_at tuple role = slice_index_or tuple role value.Missing

-- what a value of the kind holds
abbrev pub bool_of : Value → Bool
bool_of (value.Bool b) = b
bool_of _ = false

abbrev pub int_of : Value → ℤ
int_of (value.Int z) = z
int_of _ = pos 0

abbrev pub hash_of : Value → ℕ
hash_of (value.Hash n) = n
hash_of _ = 0

abbrev pub text_of : Value → List ℕ
text_of (value.Str s) = s
text_of _ = []

abbrev pub bools_of : Value → List Bool
bools_of (value.BoolSeq bs) = bs
bools_of _ = []

abbrev pub ints_of : Value → List ℤ
ints_of (value.IntSeq zs) = zs
ints_of _ = []

abbrev pub hashes_of : Value → List ℕ
hashes_of (value.HashSeq ns) = ns
hashes_of _ = []

abbrev pub texts_of : Value → List (List ℕ)
texts_of (value.StrSeq ss) = ss
texts_of _ = []
