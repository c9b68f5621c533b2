-- Small examples, computed from the definitions.
use Prim.Native.String.{String}
use Rattle.std.specs.Prelude.{◌≡◌, ℕ, pos, negsuc, List, [], ◌∷◌, codes, refl}
use Rattle.std.specs.Fmt.{digits}
use Rattle.std.proofs.Common.{arith, inl}
use Rattle.std.proofs.lemmas.Int.{ints}
use Rattle.dk_arith.specs.Gcd.{gcd}
use Rattle.dk_base.specs.declared.kinds.Form.TheVariants as shape
use Rattle.dk_base.specs.declared.kinds.Kind.{Kind}
use Rattle.dk_base.specs.declared.kinds.Kind.TheVariants as kind
use Rattle.dk_base.specs.declared.kinds.VarId.{VarId}
use Rattle.dk_base.specs.declared.kinds.VarInfo.{VarInfo}
use Rattle.dk_base.specs.declared.values.Value.{Value}
use Rattle.dk_base.specs.declared.values.Value.TheVariants as value
use Rattle.dk_forms.specs.Modulus.{class, remainder}
use Rattle.dk_forms.specs.declared.states.State.{State}
use Rattle.dk_forms.specs.declared.states.State.TheVariants.{Empty, Broken, Least, Greatest, Code, Modulus, Straight}
use Rattle.dk_meanings.specs.Meanings.{meanings, state_of}
use Rattle.dk_print.specs.Texts.{row_text, row_texts}
use Rattle.dk_template.specs.Templates.{rows}
use Rattle.dk_template.specs.declared.grammar.RowId.{RowId}
use Rattle.dk_expr.specs.Reads.{HasText, told_state}
use Rattle.dk_expr.specs.Violations.{IsUpheld, IsViolated, kept_state, with_tuple}

abbrev row : ℕ → RowId
row n = record { 0 = n }

abbrev v : ℕ → VarId
v n = record { 0 = n }

abbrev named : String → Kind → VarInfo
named literal k = record { name = codes literal; kind = k; form = shape.Declared; compar = record { elem = pos 1; index = pos 1 } }

abbrev int : ℕ → List Value
int n = value.Int (pos n) ∷ []

-- ---- a number x, and what is asserted of it
abbrev x : List VarInfo
x = named "x" kind.Int ∷ []

bound : HasText x (codes "x >= 1") (row 2) (v 0 ∷ []) (Least (pos 1))
unfolding row_text row_texts rows digits
bound = record { instance = record { of_grammar = (omega arith, omega arith); asked = refl }; proper = tt; holds = refl; held = refl; prints = refl }

other_bound : HasText x (codes "x <= 7") (row 3) (v 0 ∷ []) (Greatest (pos 7))
unfolding row_text row_texts rows digits
other_bound = record { instance = record { of_grammar = (omega arith, omega arith); asked = refl }; proper = tt; holds = refl; held = refl; prints = refl }

-- 1 and 2 leave the bounds 1 and 7 as they are, and 0 violates the first
abbrev with_int : ℕ → State → ℕ → State
with_int n s k = with_tuple (row n) s (int k)

above : IsUpheld (Least (pos 1)) (with_int 2 (Least (pos 1)) 1) × IsUpheld (Least (pos 1)) (with_int 2 (Least (pos 1)) 2)
unfolding state_of meanings rows
above = (refl, refl)

below : IsUpheld (Greatest (pos 7)) (with_int 3 (Greatest (pos 7)) 0) × IsUpheld (Greatest (pos 7)) (with_int 3 (Greatest (pos 7)) 2)
unfolding state_of meanings rows
below = (refl, refl)

violated : IsViolated (Least (pos 1)) (with_int 2 (Least (pos 1)) 0)
unfolding state_of meanings rows
violated = λ e. let same : Least (pos 0) ≡ Least (pos 1) = e in cc

kept : kept_state (Least (pos 1)) (with_int 2 (Least (pos 1)) 0) ≡ Least (pos 1)
kept = refl

-- a remainder: odd numbers, and then an even one
odd : with_int 5 (Modulus 2 1) 9 ≡ Modulus 2 1
unfolding state_of meanings rows class gcd remainder
odd = refl

even : with_int 5 (Modulus 2 1) 4 ≡ Broken
unfolding state_of meanings rows class gcd remainder
even = refl

-- ---- two numbers on a line
abbrev xy : List VarInfo
xy = named "x" kind.Int ∷ named "y" kind.Int ∷ []

line : HasText xy (codes "x - 2 * y + 1 == 0") (row 15) (v 0 ∷ v 1 ∷ []) (Straight (pos 1) (negsuc 1) (pos 1))
unfolding row_text row_texts rows digits gcd
line =
    record {
      instance = record { of_grammar = (omega arith, omega arith); asked = refl };
      proper = record { normal = record { lowest = refl; sign = inl (omega (arith, ints)) }; a = omega arith; b = omega arith; c = omega arith };
      holds = refl;
      held = refl;
      prints = refl;
    }

-- ---- a hash code of which only is said that there is one
abbrev h : List VarInfo
h = named "h" kind.Hash ∷ []

unknown : told_state (Code 31) ≡ Empty
unknown = refl

null : told_state (Code 0) ≡ Code 0
null = refl

only : HasText h (codes "h has only one value") (row 7) (v 0 ∷ []) (Code 31)
unfolding row_text row_texts rows digits
only = record { instance = record { of_grammar = (omega arith, omega arith); asked = refl }; proper = tt; holds = refl; held = refl; prints = refl }

-- the first code is known from then on, and another one violates it
first : kept_state Empty (with_tuple (row 7) Empty (value.Hash 5 ∷ [])) ≡ Code 5
unfolding state_of meanings rows
first = refl

another : with_tuple (row 7) (Code 5) (value.Hash 6 ∷ []) ≡ Broken
unfolding state_of meanings rows
another = refl

-- elements: none tell nothing, and two that differ violate it at once
no_elements : kept_state Empty (with_tuple (row 45) Empty (value.HashSeq [] ∷ [])) ≡ Empty
unfolding state_of meanings rows
no_elements = refl

two_elements : IsViolated Empty (with_tuple (row 45) Empty (value.HashSeq (5 ∷ 6 ∷ []) ∷ []))
unfolding state_of meanings rows
two_elements = refl
