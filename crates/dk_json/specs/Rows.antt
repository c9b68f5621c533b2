-- The names of the rows.
use Rattle.std.specs.Prelude.{ℕ, List, [], ◌∷◌, codes, map, slice_index_or}
use Rattle.dk_template.specs.declared.grammar.RowId.{RowId}

-- from 0 on, which is no row
unfoldable pub row_names : List (List ℕ)
row_names =
    map codes (
    ""
    ∷ "OneOfInt"  -- 1
    ∷ "LowerBound"  -- 2
    ∷ "UpperBound"  -- 3
    ∷ "NonZero"  -- 4
    ∷ "Modulus"  -- 5
    ∷ "OneOfBool"  -- 6
    ∷ "OneOfHash"  -- 7
    ∷ "NonNullHash"  -- 8
    ∷ "OneOfStr"  -- 9
    ∷ "NonNullStr"  -- 10
    ∷ "EqInt"  -- 11
    ∷ "NeInt"  -- 12
    ∷ "Lt"  -- 13
    ∷ "Le"  -- 14
    ∷ "Linear"  -- 15
    ∷ "Divides"  -- 16
    ∷ "Square"  -- 17
    ∷ "EqBool"  -- 18
    ∷ "NeBool"  -- 19
    ∷ "EqHash"  -- 20
    ∷ "NeHash"  -- 21
    ∷ "EqStr"  -- 22
    ∷ "NeStr"  -- 23
    ∷ "Sum"  -- 24
    ∷ "Difference"  -- 25
    ∷ "Product"  -- 26
    ∷ "Minimum"  -- 27
    ∷ "Maximum"  -- 28
    ∷ "Quotient"  -- 29
    ∷ "Remainder"  -- 30
    ∷ "And"  -- 31
    ∷ "Or"  -- 32
    ∷ "Xor"  -- 33
    ∷ "Gcd"  -- 34
    ∷ "EltOneOfInt"  -- 35
    ∷ "EltLower"  -- 36
    ∷ "EltUpper"  -- 37
    ∷ "EltNonZero"  -- 38
    ∷ "SortedLt"  -- 39
    ∷ "SortedLe"  -- 40
    ∷ "SortedGt"  -- 41
    ∷ "SortedGe"  -- 42
    ∷ "EltsEqual"  -- 43
    ∷ "EltOneOfBool"  -- 44
    ∷ "EltOneOfHash"  -- 45
    ∷ "EltNonNullHash"  -- 46
    ∷ "EltOneOfStr"  -- 47
    ∷ "EltNonNullStr"  -- 48
    ∷ "MemberInt"  -- 49
    ∷ "MemberHash"  -- 50
    ∷ "MemberStr"  -- 51
    ∷ "EltEq"  -- 52
    ∷ "EltLt"  -- 53
    ∷ "EltLe"  -- 54
    ∷ "EltGt"  -- 55
    ∷ "EltGe"  -- 56
    ∷ "EqIntSeq"  -- 57
    ∷ "EqBoolSeq"  -- 58
    ∷ "EqHashSeq"  -- 59
    ∷ "EqStrSeq"  -- 60
    ∷ "PairLt"  -- 61
    ∷ "PairLe"  -- 62
    ∷ "SubsetInt"  -- 63
    ∷ "SubsetHash"  -- 64
    ∷ "SubsetStr"  -- 65
    ∷ "Reverse"  -- 66
    ∷ "LinearTernary"  -- 67
    ∷ "PairOffset"  -- 68
    ∷ []
    )

-- no bytes for what isn't a row of the table
abbrev pub row_name : RowId → List ℕ
row_name r = slice_index_or row_names r.0 []
