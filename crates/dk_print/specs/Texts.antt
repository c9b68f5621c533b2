-- The texts of all rows.
use Rattle.std.specs.Prelude.{ℕ, List, [], ◌∷◌, map, slice_index_or}
use Rattle.dk_base.specs.declared.kinds.VarId.{VarId}
use Rattle.dk_base.specs.declared.kinds.VarInfo.{VarInfo}
use Rattle.dk_forms.specs.declared.states.State.{State}
use Rattle.dk_template.specs.declared.grammar.RowId.{RowId}
use Rattle.dk_filters.specs.Facts.{info_at}
use Rattle.dk_print.specs.Parts.{Part, named, bound, values, remainder, modulus, lead, term, constant, step, says, text_by, unless_null}

-- ---- names by their roles
abbrev pub with_one_name : (Part → List Part) → List Part
with_one_name text = text (named 0)

abbrev pub with_two_names : (Part → Part → List Part) → List Part
with_two_names text = text (named 0) (named 1)

abbrev pub with_three_names : (Part → Part → Part → List Part) → List Part
with_three_names text = text (named 0) (named 1) (named 2)

-- The table, the first row first. The roles are x, y, or s, t, in this order; in the rows 24 to 34 they are z, x, y, in 49 to 51 x, s,
-- in 52 to 56 s, x, and in 67 x, y, z.
unfoldable pub row_texts : List (List Part)
row_texts =
    with_one_name (λ x. x ∷ values ∷ [])  -- 1 OneOfInt
    ∷ with_one_name (λ x. x ∷ says " >= " ∷ bound ∷ [])  -- 2 LowerBound
    ∷ with_one_name (λ x. x ∷ says " <= " ∷ bound ∷ [])  -- 3 UpperBound
    ∷ with_one_name (λ x. x ∷ says " != 0" ∷ [])  -- 4 NonZero
    ∷ with_one_name (λ x. x ∷ says " == " ∷ remainder ∷ says " (mod " ∷ modulus ∷ says ")" ∷ [])  -- 5 Modulus
    ∷ with_one_name (λ x. x ∷ values ∷ [])  -- 6 OneOfBool
    ∷ with_one_name (λ x. x ∷ unless_null " has only one value" ∷ [])  -- 7 OneOfHash
    ∷ with_one_name (λ x. x ∷ says " != null" ∷ [])  -- 8 NonNullHash
    ∷ with_one_name (λ x. x ∷ values ∷ [])  -- 9 OneOfStr
    ∷ with_one_name (λ x. x ∷ says " != null" ∷ [])  -- 10 NonNullStr
    ∷ with_two_names (λ x y. x ∷ says " == " ∷ y ∷ [])  -- 11 EqInt
    ∷ with_two_names (λ x y. x ∷ says " != " ∷ y ∷ [])  -- 12 NeInt
    ∷ with_two_names (λ x y. x ∷ says " < " ∷ y ∷ [])  -- 13 Lt
    ∷ with_two_names (λ x y. x ∷ says " <= " ∷ y ∷ [])  -- 14 Le
    ∷ (lead 0 ∷ term 1 ∷ constant ∷ says " == 0" ∷ [])  -- 15 Linear
    ∷ with_two_names (λ x y. x ∷ says " % " ∷ y ∷ says " == 0" ∷ [])  -- 16 Divides
    ∷ with_two_names (λ x y. x ∷ says " == " ∷ y ∷ says " * " ∷ y ∷ [])  -- 17 Square
    ∷ with_two_names (λ x y. x ∷ says " == " ∷ y ∷ [])  -- 18 EqBool
    ∷ with_two_names (λ x y. x ∷ says " != " ∷ y ∷ [])  -- 19 NeBool
    ∷ with_two_names (λ x y. x ∷ says " == " ∷ y ∷ [])  -- 20 EqHash
    ∷ with_two_names (λ x y. x ∷ says " != " ∷ y ∷ [])  -- 21 NeHash
    ∷ with_two_names (λ x y. x ∷ says " == " ∷ y ∷ [])  -- 22 EqStr
    ∷ with_two_names (λ x y. x ∷ says " != " ∷ y ∷ [])  -- 23 NeStr
    ∷ with_three_names (λ z x y. z ∷ says " == " ∷ x ∷ says " + " ∷ y ∷ [])  -- 24 Sum
    ∷ with_three_names (λ z x y. z ∷ says " == " ∷ x ∷ says " - " ∷ y ∷ [])  -- 25 Difference
    ∷ with_three_names (λ z x y. z ∷ says " == " ∷ x ∷ says " * " ∷ y ∷ [])  -- 26 Product
    ∷ with_three_names (λ z x y. z ∷ says " == min(" ∷ x ∷ says ", " ∷ y ∷ says ")" ∷ [])  -- 27 Minimum
    ∷ with_three_names (λ z x y. z ∷ says " == max(" ∷ x ∷ says ", " ∷ y ∷ says ")" ∷ [])  -- 28 Maximum
    ∷ with_three_names (λ z x y. z ∷ says " == " ∷ x ∷ says " / " ∷ y ∷ [])  -- 29 Quotient
    ∷ with_three_names (λ z x y. z ∷ says " == " ∷ x ∷ says " % " ∷ y ∷ [])  -- 30 Remainder
    ∷ with_three_names (λ z x y. z ∷ says " == " ∷ x ∷ says " & " ∷ y ∷ [])  -- 31 And
    ∷ with_three_names (λ z x y. z ∷ says " == " ∷ x ∷ says " | " ∷ y ∷ [])  -- 32 Or
    ∷ with_three_names (λ z x y. z ∷ says " == " ∷ x ∷ says " ^ " ∷ y ∷ [])  -- 33 Xor
    ∷ with_three_names (λ z x y. z ∷ says " == gcd(" ∷ x ∷ says ", " ∷ y ∷ says ")" ∷ [])  -- 34 Gcd
    ∷ with_one_name (λ s. s ∷ says " elements" ∷ values ∷ [])  -- 35 EltOneOfInt
    ∷ with_one_name (λ s. s ∷ says " elements >= " ∷ bound ∷ [])  -- 36 EltLower
    ∷ with_one_name (λ s. s ∷ says " elements <= " ∷ bound ∷ [])  -- 37 EltUpper
    ∷ with_one_name (λ s. s ∷ says " elements != 0" ∷ [])  -- 38 EltNonZero
    ∷ with_one_name (λ s. s ∷ says " sorted by <" ∷ [])  -- 39 SortedLt
    ∷ with_one_name (λ s. s ∷ says " sorted by <=" ∷ [])  -- 40 SortedLe
    ∷ with_one_name (λ s. s ∷ says " sorted by >" ∷ [])  -- 41 SortedGt
    ∷ with_one_name (λ s. s ∷ says " sorted by >=" ∷ [])  -- 42 SortedGe
    ∷ with_one_name (λ s. s ∷ says " elements are equal" ∷ [])  -- 43 EltsEqual
    ∷ with_one_name (λ s. s ∷ says " elements" ∷ values ∷ [])  -- 44 EltOneOfBool
    ∷ with_one_name (λ s. s ∷ says " elements" ∷ unless_null " have only one value" ∷ [])  -- 45 EltOneOfHash
    ∷ with_one_name (λ s. s ∷ says " elements != null" ∷ [])  -- 46 EltNonNullHash
    ∷ with_one_name (λ s. s ∷ says " elements" ∷ values ∷ [])  -- 47 EltOneOfStr
    ∷ with_one_name (λ s. s ∷ says " elements != null" ∷ [])  -- 48 EltNonNullStr
    ∷ with_two_names (λ x s. x ∷ says " in " ∷ s ∷ [])  -- 49 MemberInt
    ∷ with_two_names (λ x s. x ∷ says " in " ∷ s ∷ [])  -- 50 MemberHash
    ∷ with_two_names (λ x s. x ∷ says " in " ∷ s ∷ [])  -- 51 MemberStr
    ∷ with_two_names (λ s x. s ∷ says " elements == " ∷ x ∷ [])  -- 52 EltEq
    ∷ with_two_names (λ s x. s ∷ says " elements < " ∷ x ∷ [])  -- 53 EltLt
    ∷ with_two_names (λ s x. s ∷ says " elements <= " ∷ x ∷ [])  -- 54 EltLe
    ∷ with_two_names (λ s x. s ∷ says " elements > " ∷ x ∷ [])  -- 55 EltGt
    ∷ with_two_names (λ s x. s ∷ says " elements >= " ∷ x ∷ [])  -- 56 EltGe
    ∷ with_two_names (λ s t. s ∷ says " == " ∷ t ∷ [])  -- 57 EqIntSeq
    ∷ with_two_names (λ s t. s ∷ says " == " ∷ t ∷ [])  -- 58 EqBoolSeq
    ∷ with_two_names (λ s t. s ∷ says " == " ∷ t ∷ [])  -- 59 EqHashSeq
    ∷ with_two_names (λ s t. s ∷ says " == " ∷ t ∷ [])  -- 60 EqStrSeq
    ∷ with_two_names (λ s t. s ∷ says " < " ∷ t ∷ says " (elementwise)" ∷ [])  -- 61 PairLt
    ∷ with_two_names (λ s t. s ∷ says " <= " ∷ t ∷ says " (elementwise)" ∷ [])  -- 62 PairLe
    ∷ with_two_names (λ s t. s ∷ says " is a subset of " ∷ t ∷ [])  -- 63 SubsetInt
    ∷ with_two_names (λ s t. s ∷ says " is a subset of " ∷ t ∷ [])  -- 64 SubsetHash
    ∷ with_two_names (λ s t. s ∷ says " is a subset of " ∷ t ∷ [])  -- 65 SubsetStr
    ∷ with_two_names (λ s t. s ∷ says " is the reverse of " ∷ t ∷ [])  -- 66 Reverse
    ∷ (lead 0 ∷ term 1 ∷ term 2 ∷ constant ∷ says " == 0" ∷ [])  -- 67 LinearTernary
    ∷ with_two_names (λ s t. t ∷ says " == " ∷ s ∷ step ∷ says " (elementwise)" ∷ [])  -- 68 PairOffset
    ∷ []

-- the parts of a row's text; there are none for what isn't a row of the table
abbrev pub parts_of_row : RowId → List Part
parts_of_row r = slice_index_or ([] ∷ row_texts) r.0 []

-- the text of a row over variables of these names, by role, with this state
unfoldable pub row_text : RowId → List (List ℕ) → State → List ℕ
row_text r names s = text_by (parts_of_row r) names s

-- the names of variables
abbrev pub var_names : List VarInfo → List VarId → List (List ℕ)
var_names infos vars = map (λ v. (info_at infos v).name) vars

-- the text of an instance
abbrev pub instance_text : List VarInfo → RowId → List VarId → State → List ℕ
instance_text infos r vars s = row_text r (var_names infos vars) s
