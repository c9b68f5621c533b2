-- What the rows say in SMT-LIB. Capital letters are holes, as `specs/Holes.antt` says.
use Rattle.std.specs.Prelude.{ℕ, List, [], ◌∷◌, codes, map}

-- from 0 on, which is no row
unfoldable pub smtlib_rows : List (List ℕ)
smtlib_rows =
    map codes (
    ""
    ∷ "(or false L)"  -- 1 OneOfInt
    ∷ "(>= X A)"  -- 2 LowerBound
    ∷ "(<= X A)"  -- 3 UpperBound
    ∷ "(distinct X 0)"  -- 4 NonZero
    ∷ "(= (mod X A) B)"  -- 5 Modulus
    ∷ "(or false L)"  -- 6 OneOfBool
    ∷ "(= X 0)"  -- 7 OneOfHash
    ∷ "(distinct X 0)"  -- 8 NonNullHash
    ∷ "(or false L)"  -- 9 OneOfStr
    ∷ "(distinct X \"null\")"  -- 10 NonNullStr
    ∷ "(= X Y)"  -- 11 EqInt
    ∷ "(distinct X Y)"  -- 12 NeInt
    ∷ "(< X Y)"  -- 13 Lt
    ∷ "(<= X Y)"  -- 14 Le
    ∷ "(= (+ (* A X) (* B Y) C) 0)"  -- 15 Linear
    ∷ "(and (distinct Y 0) (= (mod X Y) 0))"  -- 16 Divides
    ∷ "(= X (* Y Y))"  -- 17 Square
    ∷ "(= X Y)"  -- 18 EqBool
    ∷ "(distinct X Y)"  -- 19 NeBool
    ∷ "(= X Y)"  -- 20 EqHash
    ∷ "(distinct X Y)"  -- 21 NeHash
    ∷ "(= X Y)"  -- 22 EqStr
    ∷ "(distinct X Y)"  -- 23 NeStr
    ∷ "(= X (+ Y Z))"  -- 24 Sum
    ∷ "(= X (- Y Z))"  -- 25 Difference
    ∷ "(= X (* Y Z))"  -- 26 Product
    ∷ "(= X (ite (< Y Z) Y Z))"  -- 27 Minimum
    ∷ "(= X (ite (> Y Z) Y Z))"  -- 28 Maximum
    ∷ "(and (distinct Z 0) (= X (ite (>= Y 0) (div Y Z) (- (div (- Y) Z)))))"  -- 29 Quotient
    ∷ "(and (distinct Z 0) (= X (ite (>= Y 0) (mod Y Z) (- (mod (- Y) Z)))))"  -- 30 Remainder
    ∷ "(= ((_ int2bv 64) X) (bvand ((_ int2bv 64) Y) ((_ int2bv 64) Z)))"  -- 31 And
    ∷ "(= ((_ int2bv 64) X) (bvor ((_ int2bv 64) Y) ((_ int2bv 64) Z)))"  -- 32 Or
    ∷ "(= ((_ int2bv 64) X) (bvxor ((_ int2bv 64) Y) ((_ int2bv 64) Z)))"  -- 33 Xor
    ∷ "(= X (dk_gcd (abs Y) (abs Z)))"  -- 34 Gcd
    ∷ "(forall ((i Int)) (=> (and (<= F i) (< i T)) (or false L)))"  -- 35 EltOneOfInt
    ∷ "(forall ((i Int)) (=> (and (<= F i) (< i T)) (>= (select X i) A)))"  -- 36 EltLower
    ∷ "(forall ((i Int)) (=> (and (<= F i) (< i T)) (<= (select X i) A)))"  -- 37 EltUpper
    ∷ "(forall ((i Int)) (=> (and (<= F i) (< i T)) (distinct (select X i) 0)))"  -- 38 EltNonZero
    ∷ "(forall ((i Int)) (=> (and (<= F i) (< (+ i 1) T)) (< (select X i) (select X (+ i 1)))))"  -- 39 SortedLt
    ∷ "(forall ((i Int)) (=> (and (<= F i) (< (+ i 1) T)) (<= (select X i) (select X (+ i 1)))))"  -- 40 SortedLe
    ∷ "(forall ((i Int)) (=> (and (<= F i) (< (+ i 1) T)) (> (select X i) (select X (+ i 1)))))"  -- 41 SortedGt
    ∷ "(forall ((i Int)) (=> (and (<= F i) (< (+ i 1) T)) (>= (select X i) (select X (+ i 1)))))"  -- 42 SortedGe
    ∷ "(forall ((i Int)) (=> (and (<= F i) (< (+ i 1) T)) (= (select X i) (select X (+ i 1)))))"  -- 43 EltsEqual
    ∷ "(forall ((i Int)) (=> (and (<= F i) (< i T)) (or false L)))"  -- 44 EltOneOfBool
    ∷ "(forall ((i Int)) (=> (and (<= F i) (< i T)) (= (select X i) 0)))"  -- 45 EltOneOfHash
    ∷ "(forall ((i Int)) (=> (and (<= F i) (< i T)) (distinct (select X i) 0)))"  -- 46 EltNonNullHash
    ∷ "(forall ((i Int)) (=> (and (<= F i) (< i T)) (or false L)))"  -- 47 EltOneOfStr
    ∷ "(forall ((i Int)) (=> (and (<= F i) (< i T)) (distinct (select X i) \"null\")))"  -- 48 EltNonNullStr
    ∷ "(exists ((i Int)) (and (<= G i) (< i U) (= (select Y i) X)))"  -- 49 MemberInt
    ∷ "(exists ((i Int)) (and (<= G i) (< i U) (= (select Y i) X)))"  -- 50 MemberHash
    ∷ "(exists ((i Int)) (and (<= G i) (< i U) (= (select Y i) X)))"  -- 51 MemberStr
    ∷ "(forall ((i Int)) (=> (and (<= F i) (< i T)) (= (select X i) Y)))"  -- 52 EltEq
    ∷ "(forall ((i Int)) (=> (and (<= F i) (< i T)) (< (select X i) Y)))"  -- 53 EltLt
    ∷ "(forall ((i Int)) (=> (and (<= F i) (< i T)) (<= (select X i) Y)))"  -- 54 EltLe
    ∷ "(forall ((i Int)) (=> (and (<= F i) (< i T)) (> (select X i) Y)))"  -- 55 EltGt
    ∷ "(forall ((i Int)) (=> (and (<= F i) (< i T)) (>= (select X i) Y)))"  -- 56 EltGe
    ∷ "(and (= (- T F) (- U G)) (forall ((i Int)) (=> (and (<= F i) (< i T)) (= (select X i) (select Y (+ (- i F) G))))))"  -- 57 EqIntSeq
    ∷ "(and (= (- T F) (- U G)) (forall ((i Int)) (=> (and (<= F i) (< i T)) (= (select X i) (select Y (+ (- i F) G))))))"  -- 58 EqBoolSeq
    ∷ "(and (= (- T F) (- U G)) (forall ((i Int)) (=> (and (<= F i) (< i T)) (= (select X i) (select Y (+ (- i F) G))))))"  -- 59 EqHashSeq
    ∷ "(and (= (- T F) (- U G)) (forall ((i Int)) (=> (and (<= F i) (< i T)) (= (select X i) (select Y (+ (- i F) G))))))"  -- 60 EqStrSeq
    ∷ "(and (= (- T F) (- U G)) (forall ((i Int)) (=> (and (<= F i) (< i T)) (< (select X i) (select Y (+ (- i F) G))))))"  -- 61 PairLt
    ∷ "(and (= (- T F) (- U G)) (forall ((i Int)) (=> (and (<= F i) (< i T)) (<= (select X i) (select Y (+ (- i F) G))))))"  -- 62 PairLe
    -- 63 SubsetInt
    ∷ "(forall ((i Int)) (=> (and (<= F i) (< i T)) (exists ((j Int)) (and (<= G j) (< j U) (= (select X i) (select Y j))))))"
    -- 64 SubsetHash
    ∷ "(forall ((i Int)) (=> (and (<= F i) (< i T)) (exists ((j Int)) (and (<= G j) (< j U) (= (select X i) (select Y j))))))"
    -- 65 SubsetStr
    ∷ "(forall ((i Int)) (=> (and (<= F i) (< i T)) (exists ((j Int)) (and (<= G j) (< j U) (= (select X i) (select Y j))))))"
    ∷ "(and (= (- T F) (- U G)) (forall ((i Int)) (=> (and (<= F i) (< i T)) (= (select X i) (select Y (- U 1 (- i F)))))))"  -- 66 Reverse
    ∷ "(= (+ (* A X) (* B Y) (* C Z) D) 0)"  -- 67 LinearTernary
    -- 68 PairOffset
    ∷ "(and (= (- T F) (- U G)) (forall ((i Int)) (=> (and (<= F i) (< i T)) (= (select Y (+ (- i F) G)) (+ (select X i) A)))))"
    ∷ []
    )
