-- The kinds of property by which a page groups the lines of a point.
use Rattle.std.specs.Prelude.{◌||◌, ℕ, Bool, false, List, [], ◌∷◌, Option, Some, None, codes, if◌then◌else◌, nat_eq, slice_index_or}
use Rattle.std.specs.List.{starts_with}
use Rattle.dk_page.specs.declared.groups.Group.{Group}
use Rattle.dk_page.specs.declared.groups.Group.TheVariants as group
use Rattle.dk_template.specs.declared.grammar.RowId.{RowId}

-- ---- groups
-- in the order of a page
abbrev pub groups : List Group
groups =
    group.FewValues ∷ group.Bounds ∷ group.NeverNull ∷ group.Remainders ∷ group.Equal ∷ group.NeverEqual ∷ group.Ordered ∷ group.Linear
    ∷ group.Arithmetic ∷ group.Elements ∷ group.Order ∷ group.Membership ∷ group.Elementwise ∷ group.Conditional ∷ group.Other ∷ []

-- in words
abbrev pub heading : Group → List ℕ
heading group.FewValues = codes "Few values"
heading group.Bounds = codes "Bounds"
heading group.NeverNull = codes "Never 0 or null"
heading group.Remainders = codes "Remainders and divisors"
heading group.Equal = codes "Equal"
heading group.NeverEqual = codes "Never equal"
heading group.Ordered = codes "Smaller and greater"
heading group.Linear = codes "Linear equations"
heading group.Arithmetic = codes "Arithmetic"
heading group.Elements = codes "Elements"
heading group.Order = codes "Order of elements"
heading group.Membership = codes "Membership and subsets"
heading group.Elementwise = codes "Two sequences, element by element"
heading group.Conditional = codes "Under a condition"
heading group.Other = codes "Other lines"

-- its place among them
abbrev pub place_of : Group → ℕ
place_of group.FewValues = 0
place_of group.Bounds = 1
place_of group.NeverNull = 2
place_of group.Remainders = 3
place_of group.Equal = 4
place_of group.NeverEqual = 5
place_of group.Ordered = 6
place_of group.Linear = 7
place_of group.Arithmetic = 8
place_of group.Elements = 9
place_of group.Order = 10
place_of group.Membership = 11
place_of group.Elementwise = 12
place_of group.Conditional = 13
place_of group.Other = 14

-- ---- of which group a line is
-- the groups of the rows, from 0 on, which is no row
unfoldable pub row_groups : List Group
row_groups =
    group.Other
    ∷ group.FewValues  -- 1 OneOfInt
    ∷ group.Bounds  -- 2 LowerBound
    ∷ group.Bounds  -- 3 UpperBound
    ∷ group.NeverNull  -- 4 NonZero
    ∷ group.Remainders  -- 5 Modulus
    ∷ group.FewValues  -- 6 OneOfBool
    ∷ group.FewValues  -- 7 OneOfHash
    ∷ group.NeverNull  -- 8 NonNullHash
    ∷ group.FewValues  -- 9 OneOfStr
    ∷ group.NeverNull  -- 10 NonNullStr
    ∷ group.Equal  -- 11 EqInt
    ∷ group.NeverEqual  -- 12 NeInt
    ∷ group.Ordered  -- 13 Lt
    ∷ group.Ordered  -- 14 Le
    ∷ group.Linear  -- 15 Linear
    ∷ group.Remainders  -- 16 Divides
    ∷ group.Arithmetic  -- 17 Square
    ∷ group.Equal  -- 18 EqBool
    ∷ group.NeverEqual  -- 19 NeBool
    ∷ group.Equal  -- 20 EqHash
    ∷ group.NeverEqual  -- 21 NeHash
    ∷ group.Equal  -- 22 EqStr
    ∷ group.NeverEqual  -- 23 NeStr
    ∷ group.Arithmetic  -- 24 Sum
    ∷ group.Arithmetic  -- 25 Difference
    ∷ group.Arithmetic  -- 26 Product
    ∷ group.Arithmetic  -- 27 Minimum
    ∷ group.Arithmetic  -- 28 Maximum
    ∷ group.Arithmetic  -- 29 Quotient
    ∷ group.Arithmetic  -- 30 Remainder
    ∷ group.Arithmetic  -- 31 And
    ∷ group.Arithmetic  -- 32 Or
    ∷ group.Arithmetic  -- 33 Xor
    ∷ group.Arithmetic  -- 34 Gcd
    ∷ group.Elements  -- 35 EltOneOfInt
    ∷ group.Elements  -- 36 EltLower
    ∷ group.Elements  -- 37 EltUpper
    ∷ group.Elements  -- 38 EltNonZero
    ∷ group.Order  -- 39 SortedLt
    ∷ group.Order  -- 40 SortedLe
    ∷ group.Order  -- 41 SortedGt
    ∷ group.Order  -- 42 SortedGe
    ∷ group.Order  -- 43 EltsEqual
    ∷ group.Elements  -- 44 EltOneOfBool
    ∷ group.Elements  -- 45 EltOneOfHash
    ∷ group.Elements  -- 46 EltNonNullHash
    ∷ group.Elements  -- 47 EltOneOfStr
    ∷ group.Elements  -- 48 EltNonNullStr
    ∷ group.Membership  -- 49 MemberInt
    ∷ group.Membership  -- 50 MemberHash
    ∷ group.Membership  -- 51 MemberStr
    ∷ group.Elements  -- 52 EltEq
    ∷ group.Elements  -- 53 EltLt
    ∷ group.Elements  -- 54 EltLe
    ∷ group.Elements  -- 55 EltGt
    ∷ group.Elements  -- 56 EltGe
    ∷ group.Equal  -- 57 EqIntSeq
    ∷ group.Equal  -- 58 EqBoolSeq
    ∷ group.Equal  -- 59 EqHashSeq
    ∷ group.Equal  -- 60 EqStrSeq
    ∷ group.Elementwise  -- 61 PairLt
    ∷ group.Elementwise  -- 62 PairLe
    ∷ group.Membership  -- 63 SubsetInt
    ∷ group.Membership  -- 64 SubsetHash
    ∷ group.Membership  -- 65 SubsetStr
    ∷ group.Elementwise  -- 66 Reverse
    ∷ group.Linear  -- 67 LinearTernary
    ∷ group.Elementwise  -- 68 PairOffset
    ∷ []

abbrev pub row_group : RowId → Group
row_group r = slice_index_or row_groups r.0 group.Other

-- a text that says something under a condition: ` ==> ` stands in it
abbrev pub is_conditional : List ℕ → Bool
is_conditional [] = false
is_conditional (b ∷ bs) = starts_with nat_eq (b ∷ bs) (codes " ==> ") || is_conditional bs

-- the group of a text, and of the row of which it is, if it is of one
abbrev pub group_of : Option RowId → List ℕ → Group
group_of (Some row) text = row_group row
group_of None text = if is_conditional text then group.Conditional else group.Other
