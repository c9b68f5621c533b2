-- What each row says, and its state of a list of tuples.
use Rattle.std.specs.Prelude.{◌-◌, ℤ, int_le, int_lt, nat_eq, bit_and, bit_or, bit_xor, Bool, false, List, [], ◌∷◌, slice_index_or}
use Rattle.std.specs.Ordering.{int_eq}
use Rattle.std.specs.Str.{bytes_eq}
use Rattle.std.specs.List.{list_all}
use Rattle.std.proofs.Math.Bool.{beq}
use Rattle.dk_base.specs.Values.Tuples.{bool_of, bools_of, hash_of, hashes_of, int_of, ints_of, text_of, texts_of, value_at}
use Rattle.dk_base.specs.declared.values.Value.{Value}
use Rattle.dk_forms.specs.Offset.{differences}
use Rattle.dk_forms.specs.declared.states.State.{State}
use Rattle.dk_meanings.specs.Meaning.{Meaning, relation, least, greatest, ints, truth, code, texts, modulus, line, plane, offset, relation_by, state_by}
use Rattle.dk_meanings.specs.Relations.{all_relate, are_pairwise, are_sorted, differ, int_ge, int_gt, is_bitwise, is_difference, is_gcd, is_maximum, is_member, is_minimum, is_multiple, is_nonnull, is_nonzero, is_nonzero_hash, is_product, is_quotient, is_remainder, is_reverse, is_square, is_subset, is_sum}
use Rattle.dk_template.specs.declared.grammar.RowId.{RowId}

-- ---- the values of a tuple, by their roles
-- a function of what the first role holds
abbrev pub of_one : {A B : Type 0} → (Value → A) → (A → B) → List Value → B
of_one get f tuple = f (get (value_at tuple 0))

-- of what the first two hold
abbrev pub of_two : {A B C : Type 0} → (Value → A) → (Value → B) → (A → B → C) → List Value → C
of_two get1 get2 f tuple = f (get1 (value_at tuple 0)) (get2 (value_at tuple 1))

-- of three numbers
abbrev pub of_three : {C : Type 0} → (ℤ → ℤ → ℤ → C) → List Value → C
of_three f tuple = f (int_of (value_at tuple 0)) (int_of (value_at tuple 1)) (int_of (value_at tuple 2))

-- the value itself, alone; and the elements of a sequence
abbrev pub itself : {A : Type 0} → A → List A
itself x = x ∷ []

abbrev pub elements : {A : Type 0} → List A → List A
elements s = s

-- The table, the first row first. The roles are x, y, or s, t, in this order; in the rows 24 to 34 they are z, x, y, in 49 to 51 x, s,
-- in 52 to 56 s, x, and in 67 x, y, z.
unfoldable pub meanings : List Meaning
meanings =
    ints (of_one int_of itself)  -- 1 OneOfInt: the values of x
    ∷ least (of_one int_of itself)  -- 2 LowerBound: the least value of x
    ∷ greatest (of_one int_of itself)  -- 3 UpperBound: the greatest value of x
    ∷ relation (of_one int_of is_nonzero)  -- 4 NonZero: x isn't 0
    ∷ modulus (of_one int_of (λ x. x))  -- 5 Modulus: the modulus of x
    ∷ truth (of_one bool_of itself)  -- 6 OneOfBool: the value of x
    ∷ code (of_one hash_of itself)  -- 7 OneOfHash: the value of x
    ∷ relation (of_one hash_of is_nonzero_hash)  -- 8 NonNullHash: x isn't 0
    ∷ texts (of_one text_of itself)  -- 9 OneOfStr: the values of x
    ∷ relation (of_one text_of is_nonnull)  -- 10 NonNullStr: x isn't `null`
    ∷ relation (of_two int_of int_of int_eq)  -- 11 EqInt: x = y
    ∷ relation (of_two int_of int_of (differ int_eq))  -- 12 NeInt: x differs from y
    ∷ relation (of_two int_of int_of int_lt)  -- 13 Lt: x < y
    ∷ relation (of_two int_of int_of int_le)  -- 14 Le: x <= y
    ∷ line (of_two int_of int_of (λ x y. (x, y)))  -- 15 Linear: the line through the points (x, y)
    ∷ relation (of_two int_of int_of is_multiple)  -- 16 Divides: y isn't 0 and divides x
    ∷ relation (of_two int_of int_of is_square)  -- 17 Square: x = y * y
    ∷ relation (of_two bool_of bool_of beq)  -- 18 EqBool: x = y
    ∷ relation (of_two bool_of bool_of (differ beq))  -- 19 NeBool: x differs from y
    ∷ relation (of_two hash_of hash_of nat_eq)  -- 20 EqHash: x = y
    ∷ relation (of_two hash_of hash_of (differ nat_eq))  -- 21 NeHash: x differs from y
    ∷ relation (of_two text_of text_of bytes_eq)  -- 22 EqStr: x = y
    ∷ relation (of_two text_of text_of (differ bytes_eq))  -- 23 NeStr: x differs from y
    ∷ relation (of_three is_sum)  -- 24 Sum: z = x + y
    ∷ relation (of_three is_difference)  -- 25 Difference: z = x - y
    ∷ relation (of_three is_product)  -- 26 Product: z = x * y
    ∷ relation (of_three is_minimum)  -- 27 Minimum: z is the smaller of x, y
    ∷ relation (of_three is_maximum)  -- 28 Maximum: z is the greater of x, y
    ∷ relation (of_three is_quotient)  -- 29 Quotient: y isn't 0, and z is x / y cut towards 0
    ∷ relation (of_three is_remainder)  -- 30 Remainder: y isn't 0, and z is the remainder of x / y cut towards 0
    ∷ relation (of_three (is_bitwise bit_and))  -- 31 And: z is the bitwise and of x, y
    ∷ relation (of_three (is_bitwise bit_or))  -- 32 Or: z is the bitwise or of x, y
    ∷ relation (of_three (is_bitwise bit_xor))  -- 33 Xor: z is the bitwise exclusive or of x, y
    ∷ relation (of_three is_gcd)  -- 34 Gcd: z is the greatest common divisor of x, y
    ∷ ints (of_one ints_of elements)  -- 35 EltOneOfInt: the elements of s
    ∷ least (of_one ints_of elements)  -- 36 EltLower: the least element of s
    ∷ greatest (of_one ints_of elements)  -- 37 EltUpper: the greatest element of s
    ∷ relation (of_one ints_of (list_all is_nonzero))  -- 38 EltNonZero: no element is 0
    ∷ relation (of_one ints_of (are_sorted int_lt))  -- 39 SortedLt: each element < the next
    ∷ relation (of_one ints_of (are_sorted int_le))  -- 40 SortedLe: each element <= the next
    ∷ relation (of_one ints_of (are_sorted int_gt))  -- 41 SortedGt: each element > the next
    ∷ relation (of_one ints_of (are_sorted int_ge))  -- 42 SortedGe: each element >= the next
    ∷ relation (of_one ints_of (are_sorted int_eq))  -- 43 EltsEqual: each element = the next
    ∷ truth (of_one bools_of elements)  -- 44 EltOneOfBool: the element of s
    ∷ code (of_one hashes_of elements)  -- 45 EltOneOfHash: the element of s
    ∷ relation (of_one hashes_of (list_all is_nonzero_hash))  -- 46 EltNonNullHash: no element is 0
    ∷ texts (of_one texts_of elements)  -- 47 EltOneOfStr: the elements of s
    ∷ relation (of_one texts_of (list_all is_nonnull))  -- 48 EltNonNullStr: no element is `null`
    ∷ relation (of_two int_of ints_of (is_member int_eq))  -- 49 MemberInt: x is an element of s
    ∷ relation (of_two hash_of hashes_of (is_member nat_eq))  -- 50 MemberHash: x is an element of s
    ∷ relation (of_two text_of texts_of (is_member bytes_eq))  -- 51 MemberStr: x is an element of s
    ∷ relation (of_two ints_of int_of (all_relate int_eq))  -- 52 EltEq: each element of s = x
    ∷ relation (of_two ints_of int_of (all_relate int_lt))  -- 53 EltLt: each element of s < x
    ∷ relation (of_two ints_of int_of (all_relate int_le))  -- 54 EltLe: each element of s <= x
    ∷ relation (of_two ints_of int_of (all_relate int_gt))  -- 55 EltGt: each element of s > x
    ∷ relation (of_two ints_of int_of (all_relate int_ge))  -- 56 EltGe: each element of s >= x
    ∷ relation (of_two ints_of ints_of (are_pairwise int_eq))  -- 57 EqIntSeq: s = t
    ∷ relation (of_two bools_of bools_of (are_pairwise beq))  -- 58 EqBoolSeq: s = t
    ∷ relation (of_two hashes_of hashes_of (are_pairwise nat_eq))  -- 59 EqHashSeq: s = t
    ∷ relation (of_two texts_of texts_of (are_pairwise bytes_eq))  -- 60 EqStrSeq: s = t
    ∷ relation (of_two ints_of ints_of (are_pairwise int_lt))  -- 61 PairLt: equal lengths, and each element of s < its partner in t
    ∷ relation (of_two ints_of ints_of (are_pairwise int_le))  -- 62 PairLe: equal lengths, and each element of s <= its partner in t
    ∷ relation (of_two ints_of ints_of (is_subset int_eq))  -- 63 SubsetInt: each element of s is one of t
    ∷ relation (of_two hashes_of hashes_of (is_subset nat_eq))  -- 64 SubsetHash: each element of s is one of t
    ∷ relation (of_two texts_of texts_of (is_subset bytes_eq))  -- 65 SubsetStr: each element of s is one of t
    ∷ relation (of_two ints_of ints_of (is_reverse int_eq))  -- 66 Reverse: s read backwards is t
    ∷ plane (of_three (λ x y z. (x, y, z)))  -- 67 LinearTernary: the plane through the points (x, y, z)
    ∷ offset (of_two ints_of ints_of differences)  -- 68 PairOffset: by how much the elements of t are greater than those of s
    ∷ []

-- what a row says
abbrev pub meaning_of : RowId → Meaning
meaning_of r = slice_index_or meanings (r.0 - 1) (relation (λ tuple. false))

-- the relation of a row that has one
unfoldable pub relation_of : RowId → List Value → Bool
relation_of r = relation_by (meaning_of r)

-- a row's state of a list of tuples
unfoldable pub state_of : RowId → List (List Value) → State
state_of r = state_by (meaning_of r)
