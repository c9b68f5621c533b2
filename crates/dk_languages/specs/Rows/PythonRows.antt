-- What the rows say in Python. Capital letters are holes, as `specs/Holes.antt` says.
use Rattle.std.specs.Prelude.{ℕ, List, [], ◌∷◌, codes, map}

-- from 0 on, which is no row
unfoldable pub python_rows : List (List ℕ)
python_rows =
    map codes (
    ""
    ∷ "X in {L}"  -- 1 OneOfInt
    ∷ "X >= A"  -- 2 LowerBound
    ∷ "X <= A"  -- 3 UpperBound
    ∷ "X != 0"  -- 4 NonZero
    ∷ "X % A == B"  -- 5 Modulus
    ∷ "X in {L}"  -- 6 OneOfBool
    ∷ "X is None"  -- 7 OneOfHash
    ∷ "X is not None"  -- 8 NonNullHash
    ∷ "X in {L}"  -- 9 OneOfStr
    ∷ "X is not None"  -- 10 NonNullStr
    ∷ "X == Y"  -- 11 EqInt
    ∷ "X != Y"  -- 12 NeInt
    ∷ "X < Y"  -- 13 Lt
    ∷ "X <= Y"  -- 14 Le
    ∷ "A * X + B * Y + C == 0"  -- 15 Linear
    ∷ "Y != 0 and X % Y == 0"  -- 16 Divides
    ∷ "X == Y * Y"  -- 17 Square
    ∷ "X == Y"  -- 18 EqBool
    ∷ "X != Y"  -- 19 NeBool
    ∷ "X is Y"  -- 20 EqHash
    ∷ "X is not Y"  -- 21 NeHash
    ∷ "X == Y"  -- 22 EqStr
    ∷ "X != Y"  -- 23 NeStr
    ∷ "X == Y + Z"  -- 24 Sum
    ∷ "X == Y - Z"  -- 25 Difference
    ∷ "X == Y * Z"  -- 26 Product
    ∷ "X == min(Y, Z)"  -- 27 Minimum
    ∷ "X == max(Y, Z)"  -- 28 Maximum
    ∷ "Z != 0 and X == (abs(Y) // abs(Z) if (Y < 0) == (Z < 0) else -(abs(Y) // abs(Z)))"  -- 29 Quotient
    ∷ "Z != 0 and X == (Y % abs(Z) if Y >= 0 else -(-Y % abs(Z)))"  -- 30 Remainder
    ∷ "X == Y & Z"  -- 31 And
    ∷ "X == Y | Z"  -- 32 Or
    ∷ "X == Y ^ Z"  -- 33 Xor
    ∷ "X == gcd(Y, Z)"  -- 34 Gcd
    ∷ "all(element in {L} for element in X)"  -- 35 EltOneOfInt
    ∷ "all(element >= A for element in X)"  -- 36 EltLower
    ∷ "all(element <= A for element in X)"  -- 37 EltUpper
    ∷ "all(element != 0 for element in X)"  -- 38 EltNonZero
    ∷ "all(element < following for element, following in zip(X, X[1:]))"  -- 39 SortedLt
    ∷ "all(element <= following for element, following in zip(X, X[1:]))"  -- 40 SortedLe
    ∷ "all(element > following for element, following in zip(X, X[1:]))"  -- 41 SortedGt
    ∷ "all(element >= following for element, following in zip(X, X[1:]))"  -- 42 SortedGe
    ∷ "all(element == following for element, following in zip(X, X[1:]))"  -- 43 EltsEqual
    ∷ "all(element in {L} for element in X)"  -- 44 EltOneOfBool
    ∷ "all(element is None for element in X)"  -- 45 EltOneOfHash
    ∷ "all(element is not None for element in X)"  -- 46 EltNonNullHash
    ∷ "all(element in {L} for element in X)"  -- 47 EltOneOfStr
    ∷ "all(element is not None for element in X)"  -- 48 EltNonNullStr
    ∷ "X in Y"  -- 49 MemberInt
    ∷ "any(element is X for element in Y)"  -- 50 MemberHash
    ∷ "X in Y"  -- 51 MemberStr
    ∷ "all(element == Y for element in X)"  -- 52 EltEq
    ∷ "all(element < Y for element in X)"  -- 53 EltLt
    ∷ "all(element <= Y for element in X)"  -- 54 EltLe
    ∷ "all(element > Y for element in X)"  -- 55 EltGt
    ∷ "all(element >= Y for element in X)"  -- 56 EltGe
    ∷ "len(X) == len(Y) and all(element == partner for element, partner in zip(X, Y))"  -- 57 EqIntSeq
    ∷ "len(X) == len(Y) and all(element == partner for element, partner in zip(X, Y))"  -- 58 EqBoolSeq
    ∷ "len(X) == len(Y) and all(element is partner for element, partner in zip(X, Y))"  -- 59 EqHashSeq
    ∷ "len(X) == len(Y) and all(element == partner for element, partner in zip(X, Y))"  -- 60 EqStrSeq
    ∷ "len(X) == len(Y) and all(element < partner for element, partner in zip(X, Y))"  -- 61 PairLt
    ∷ "len(X) == len(Y) and all(element <= partner for element, partner in zip(X, Y))"  -- 62 PairLe
    ∷ "all(element in Y for element in X)"  -- 63 SubsetInt
    ∷ "all(any(element is partner for partner in Y) for element in X)"  -- 64 SubsetHash
    ∷ "all(element in Y for element in X)"  -- 65 SubsetStr
    ∷ "len(X) == len(Y) and all(element == partner for element, partner in zip(X, reversed(Y)))"  -- 66 Reverse
    ∷ "A * X + B * Y + C * Z + D == 0"  -- 67 LinearTernary
    ∷ "len(X) == len(Y) and all(partner == element + A for element, partner in zip(X, Y))"  -- 68 PairOffset
    ∷ []
    )
