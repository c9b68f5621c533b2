-- The rows of the grammar: what each takes, which of its roles may be exchanged, the form of its states, and its rank.
use Rattle.std.specs.Prelude.{◌≤◌, ◌-◌, ℕ, Bool, true, false, List, [], ◌∷◌, length, map, slice_index_or}
use Rattle.std.specs.List.{list_all}
use Rattle.dk_base.specs.declared.kinds.Kind.{Kind}
use Rattle.dk_base.specs.declared.kinds.Kind.TheVariants as kind
use Rattle.dk_template.specs.declared.grammar.Grammar.{Grammar}
use Rattle.dk_template.specs.declared.grammar.Grammar.TheVariants as grammar
use Rattle.dk_template.specs.declared.grammar.RowId.{RowId}
use Rattle.dk_template.specs.declared.templates.Role.{Role}
use Rattle.dk_template.specs.declared.templates.Role.TheVariants.{Any, Base}
use Rattle.dk_template.specs.declared.templates.RowInfo.{RowInfo}
use Rattle.dk_template.specs.declared.templates.StateForm.{StateForm}
use Rattle.dk_template.specs.declared.templates.StateForm.TheVariants as form
use Rattle.dk_template.specs.declared.templates.Symmetry.{Symmetry}
use Rattle.dk_template.specs.declared.templates.Symmetry.TheVariants as exchange
use Rattle.dk_template.specs.declared.templates.Takes.{Takes}
use Rattle.dk_template.specs.declared.templates.Takes.TheVariants.{One, Two, Three}
use Rattle.dk_template.specs.declared.templates.Template.{Template}

abbrev pub row : Takes → Symmetry → StateForm → ℕ → Template
row takes symmetry form rank = record { takes = takes; symmetry = symmetry; form = form; rank = rank }

-- The table of the rows, the first one first. x, y and z are numbers, truth values, codes or strings, s and t sequences, in the
-- order of the roles; in the rows 24 to 34 the roles are z, x, y, and the arguments are x and y.
unfoldable pub rows : List Template
rows =
    row (One (Any kind.Int)) exchange.Fixed form.Ints 0  -- 1 OneOfInt: the values of x
    ∷ row (One (Any kind.Int)) exchange.Fixed form.Least 0  -- 2 LowerBound: the least value of x
    ∷ row (One (Any kind.Int)) exchange.Fixed form.Greatest 0  -- 3 UpperBound: the greatest value of x
    ∷ row (One (Any kind.Int)) exchange.Fixed form.Plain 1  -- 4 NonZero: x isn't 0
    ∷ row (One (Any kind.Int)) exchange.Fixed form.Modulus 0  -- 5 Modulus: the modulus of x
    ∷ row (One (Any kind.Bool)) exchange.Fixed form.Truth 0  -- 6 OneOfBool: the value of x
    ∷ row (One (Any kind.Hash)) exchange.Fixed form.Code 0  -- 7 OneOfHash: the value of x
    ∷ row (One (Any kind.Hash)) exchange.Fixed form.Plain 0  -- 8 NonNullHash: x isn't 0
    ∷ row (One (Any kind.Str)) exchange.Fixed form.Texts 0  -- 9 OneOfStr: the values of x
    ∷ row (One (Any kind.Str)) exchange.Fixed form.Plain 0  -- 10 NonNullStr: x isn't `null`
    ∷ row (Two (Any kind.Int) (Any kind.Int)) exchange.All form.Plain 0  -- 11 EqInt: x = y
    ∷ row (Two (Any kind.Int) (Any kind.Int)) exchange.All form.Plain 1  -- 12 NeInt: x differs from y
    ∷ row (Two (Any kind.Int) (Any kind.Int)) exchange.Fixed form.Plain 0  -- 13 Lt: x < y
    ∷ row (Two (Any kind.Int) (Any kind.Int)) exchange.Fixed form.Plain 1  -- 14 Le: x <= y
    ∷ row (Two (Any kind.Int) (Any kind.Int)) exchange.All form.Line 0  -- 15 Linear: the line through the points (x, y)
    ∷ row (Two (Base kind.Int) (Base kind.Int)) exchange.Fixed form.Plain 2  -- 16 Divides: y isn't 0 and divides x
    ∷ row (Two (Base kind.Int) (Base kind.Int)) exchange.Fixed form.Plain 1  -- 17 Square: x = y * y
    ∷ row (Two (Any kind.Bool) (Any kind.Bool)) exchange.All form.Plain 0  -- 18 EqBool: x = y
    ∷ row (Two (Any kind.Bool) (Any kind.Bool)) exchange.All form.Plain 0  -- 19 NeBool: x differs from y
    ∷ row (Two (Any kind.Hash) (Any kind.Hash)) exchange.All form.Plain 0  -- 20 EqHash: x = y
    ∷ row (Two (Any kind.Hash) (Any kind.Hash)) exchange.All form.Plain 0  -- 21 NeHash: x differs from y
    ∷ row (Two (Any kind.Str) (Any kind.Str)) exchange.All form.Plain 0  -- 22 EqStr: x = y
    ∷ row (Two (Any kind.Str) (Any kind.Str)) exchange.All form.Plain 0  -- 23 NeStr: x differs from y
    ∷ row (Three (Base kind.Int) (Base kind.Int) (Base kind.Int)) exchange.Arguments form.Plain 1  -- 24 Sum: z = x + y
    ∷ row (Three (Base kind.Int) (Base kind.Int) (Base kind.Int)) exchange.Fixed form.Plain 2  -- 25 Difference: z = x - y
    ∷ row (Three (Base kind.Int) (Base kind.Int) (Base kind.Int)) exchange.Arguments form.Plain 1  -- 26 Product: z = x * y
    ∷ row (Three (Base kind.Int) (Base kind.Int) (Base kind.Int)) exchange.Arguments form.Plain 2  -- 27 Minimum: z is the smaller of x, y
    ∷ row (Three (Base kind.Int) (Base kind.Int) (Base kind.Int)) exchange.Arguments form.Plain 2  -- 28 Maximum: z is the greater of x, y
    -- 29 Quotient: y isn't 0, and z is x / y cut towards 0
    ∷ row (Three (Base kind.Int) (Base kind.Int) (Base kind.Int)) exchange.Fixed form.Plain 2
    -- 30 Remainder: y isn't 0, and z is the remainder of x / y cut towards 0
    ∷ row (Three (Base kind.Int) (Base kind.Int) (Base kind.Int)) exchange.Fixed form.Plain 3
    ∷ row (Three (Base kind.Int) (Base kind.Int) (Base kind.Int)) exchange.Arguments form.Plain 1  -- 31 And: z is the bitwise and of x, y
    ∷ row (Three (Base kind.Int) (Base kind.Int) (Base kind.Int)) exchange.Arguments form.Plain 1  -- 32 Or: z is the bitwise or of x, y
    -- 33 Xor: z is the bitwise exclusive or of x, y
    ∷ row (Three (Base kind.Int) (Base kind.Int) (Base kind.Int)) exchange.Arguments form.Plain 1
    -- 34 Gcd: z is the greatest common divisor of x, y
    ∷ row (Three (Base kind.Int) (Base kind.Int) (Base kind.Int)) exchange.Arguments form.Plain 3
    ∷ row (One (Any kind.IntSeq)) exchange.Fixed form.Ints 0  -- 35 EltOneOfInt: the elements of s
    ∷ row (One (Any kind.IntSeq)) exchange.Fixed form.Least 0  -- 36 EltLower: the least element of s
    ∷ row (One (Any kind.IntSeq)) exchange.Fixed form.Greatest 0  -- 37 EltUpper: the greatest element of s
    ∷ row (One (Any kind.IntSeq)) exchange.Fixed form.Plain 1  -- 38 EltNonZero: no element is 0
    ∷ row (One (Any kind.IntSeq)) exchange.Fixed form.Plain 0  -- 39 SortedLt: each element < the next
    ∷ row (One (Any kind.IntSeq)) exchange.Fixed form.Plain 1  -- 40 SortedLe: each element <= the next
    ∷ row (One (Any kind.IntSeq)) exchange.Fixed form.Plain 0  -- 41 SortedGt: each element > the next
    ∷ row (One (Any kind.IntSeq)) exchange.Fixed form.Plain 1  -- 42 SortedGe: each element >= the next
    ∷ row (One (Any kind.IntSeq)) exchange.Fixed form.Plain 0  -- 43 EltsEqual: each element = the next
    ∷ row (One (Any kind.BoolSeq)) exchange.Fixed form.Truth 0  -- 44 EltOneOfBool: the element of s
    ∷ row (One (Any kind.HashSeq)) exchange.Fixed form.Code 0  -- 45 EltOneOfHash: the element of s
    ∷ row (One (Any kind.HashSeq)) exchange.Fixed form.Plain 0  -- 46 EltNonNullHash: no element is 0
    ∷ row (One (Any kind.StrSeq)) exchange.Fixed form.Texts 0  -- 47 EltOneOfStr: the elements of s
    ∷ row (One (Any kind.StrSeq)) exchange.Fixed form.Plain 0  -- 48 EltNonNullStr: no element is `null`
    ∷ row (Two (Base kind.Int) (Base kind.IntSeq)) exchange.Fixed form.Plain 0  -- 49 MemberInt: x is an element of s
    ∷ row (Two (Base kind.Hash) (Base kind.HashSeq)) exchange.Fixed form.Plain 0  -- 50 MemberHash: x is an element of s
    ∷ row (Two (Base kind.Str) (Base kind.StrSeq)) exchange.Fixed form.Plain 0  -- 51 MemberStr: x is an element of s
    ∷ row (Two (Any kind.IntSeq) (Base kind.Int)) exchange.Fixed form.Plain 0  -- 52 EltEq: each element of s = x
    ∷ row (Two (Any kind.IntSeq) (Base kind.Int)) exchange.Fixed form.Plain 0  -- 53 EltLt: each element of s < x
    ∷ row (Two (Any kind.IntSeq) (Base kind.Int)) exchange.Fixed form.Plain 1  -- 54 EltLe: each element of s <= x
    ∷ row (Two (Any kind.IntSeq) (Base kind.Int)) exchange.Fixed form.Plain 0  -- 55 EltGt: each element of s > x
    ∷ row (Two (Any kind.IntSeq) (Base kind.Int)) exchange.Fixed form.Plain 1  -- 56 EltGe: each element of s >= x
    ∷ row (Two (Any kind.IntSeq) (Any kind.IntSeq)) exchange.All form.Plain 0  -- 57 EqIntSeq: s = t
    ∷ row (Two (Any kind.BoolSeq) (Any kind.BoolSeq)) exchange.All form.Plain 0  -- 58 EqBoolSeq: s = t
    ∷ row (Two (Any kind.HashSeq) (Any kind.HashSeq)) exchange.All form.Plain 0  -- 59 EqHashSeq: s = t
    ∷ row (Two (Any kind.StrSeq) (Any kind.StrSeq)) exchange.All form.Plain 0  -- 60 EqStrSeq: s = t
    -- 61 PairLt: equal lengths, and each element of s < its partner in t
    ∷ row (Two (Base kind.IntSeq) (Base kind.IntSeq)) exchange.Fixed form.Plain 0
    -- 62 PairLe: equal lengths, and each element of s <= its partner in t
    ∷ row (Two (Base kind.IntSeq) (Base kind.IntSeq)) exchange.Fixed form.Plain 1
    ∷ row (Two (Base kind.IntSeq) (Base kind.IntSeq)) exchange.Fixed form.Plain 2  -- 63 SubsetInt: each element of s is one of t
    ∷ row (Two (Base kind.HashSeq) (Base kind.HashSeq)) exchange.Fixed form.Plain 1  -- 64 SubsetHash: each element of s is one of t
    ∷ row (Two (Base kind.StrSeq) (Base kind.StrSeq)) exchange.Fixed form.Plain 1  -- 65 SubsetStr: each element of s is one of t
    ∷ row (Two (Base kind.IntSeq) (Base kind.IntSeq)) exchange.All form.Plain 1  -- 66 Reverse: s read backwards is t
    -- 67 LinearTernary: the plane through the points (x, y, z)
    ∷ row (Three (Base kind.Int) (Base kind.Int) (Base kind.Int)) exchange.All form.Plane 0
    -- 68 PairOffset: by how much the elements of t are greater than those of s
    ∷ row (Two (Base kind.IntSeq) (Base kind.IntSeq)) exchange.All form.Offset 0
    ∷ []

-- ---- what the table says of a row
-- a row of the table
abbrev pub IsRow : RowId → Type 0
IsRow r = (1 ≤ r.0) × (r.0 ≤ 68)

abbrev pub template_of : RowId → Template
template_of r = slice_index_or rows (r.0 - 1) (row (One (Any kind.Int)) exchange.Fixed form.Plain 0)

abbrev pub roles_of : Takes → List Role
roles_of (One a) = a ∷ []
roles_of (Two a b) = a ∷ b ∷ []
roles_of (Three a b c) = a ∷ b ∷ c ∷ []

abbrev pub kind_of : Role → Kind
kind_of (Any k) = k
kind_of (Base k) = k

abbrev pub is_base : Role → Bool
is_base (Any k) = false
is_base (Base k) = true

-- the kinds of a row, by role
abbrev pub role_kinds : RowId → List Kind
role_kinds r = map kind_of (roles_of (template_of r).takes)

abbrev pub arity_of : RowId → ℕ
arity_of r = length (roles_of (template_of r).takes)

-- the form of a row's states
abbrev pub form_of : RowId → StateForm
form_of r = (template_of r).form

abbrev pub rank_of : RowId → ℕ
rank_of r = (template_of r).rank

abbrev pub is_symmetric : Symmetry → Bool
is_symmetric exchange.Fixed = false
is_symmetric exchange.All = true
is_symmetric exchange.Arguments = true

-- a row with a relation
abbrev pub is_plain : StateForm → Bool
is_plain form.Plain = true
is_plain _ = false

-- a row takes base variables alone where each of its roles does
abbrev pub info_of : RowId → RowInfo
info_of r = record {
  arity = arity_of r;
  symmetric = is_symmetric (template_of r).symmetry;
  base = list_all is_base (roles_of (template_of r).takes);
  plain = is_plain (form_of r);
  rank = rank_of r;
}

-- ---- the grammars
abbrev pub rows_in : Grammar → ℕ
rows_in grammar.One = 66
rows_in grammar.Two = 68

-- a row of the grammar
abbrev pub IsRowOf : Grammar → RowId → Type 0
IsRowOf g r = (1 ≤ r.0) × (r.0 ≤ rows_in g)
