-- Small examples, computed from the definitions.
use Rattle.std.specs.Prelude.{◌≡◌, ℕ, pos, negsuc, true, false, List, [], ◌∷◌, refl}
use Rattle.dk_arith.specs.Directions.{divisor}
use Rattle.dk_arith.specs.Gcd.{gcd}
use Rattle.dk_base.specs.declared.kinds.Form.TheVariants as shape
use Rattle.dk_base.specs.declared.kinds.Kind.TheVariants as kind
use Rattle.dk_base.specs.declared.kinds.VarId.{VarId}
use Rattle.dk_base.specs.declared.kinds.VarInfo.{VarInfo}
use Rattle.dk_base.specs.declared.values.Value.{Value}
use Rattle.dk_base.specs.declared.values.Value.TheVariants as value
use Rattle.dk_forms.specs.Plane.Line.{through}
use Rattle.dk_forms.specs.declared.states.State.TheVariants.{Empty, Broken, Holds, Greatest, Straight, Plane}
use Rattle.dk_instances.specs.Fits.{fit, holds, premise_holds, tuples_of}
use Rattle.dk_instances.specs.Instances.{asked_of, instances_of, tuples_over}
use Rattle.dk_meanings.specs.Meanings.{meanings, state_of}
use Rattle.dk_presence.specs.Patterns.{count_of}
use Rattle.dk_template.specs.Exchange.{turned_state, written_order}
use Rattle.dk_template.specs.Templates.{rows}
use Rattle.dk_template.specs.declared.answers.Premise.TheVariants.{LeastAtLeast}
use Rattle.dk_template.specs.declared.grammar.Grammar.TheVariants as grammar
use Rattle.dk_template.specs.declared.grammar.RowId.{RowId}

abbrev x : VarId
x = record { 0 = 0 }

abbrev y : VarId
y = record { 0 = 1 }

abbrev z : VarId
z = record { 0 = 2 }

abbrev row : ℕ → RowId
row n = record { 0 = n }

abbrev int : ℕ → Value
int n = value.Int (pos n)

-- three samples of two numbers; the second number is missing in the third sample
abbrev samples : List (List Value)
samples = (int 1 ∷ int 2 ∷ []) ∷ (int 3 ∷ int 4 ∷ []) ∷ (int 9 ∷ value.Missing ∷ []) ∷ []

both : tuples_of (x ∷ y ∷ []) samples ≡ (int 1 ∷ int 2 ∷ []) ∷ (int 3 ∷ int 4 ∷ []) ∷ []
both = refl

turned : tuples_of (y ∷ x ∷ []) samples ≡ (int 2 ∷ int 1 ∷ []) ∷ (int 4 ∷ int 3 ∷ []) ∷ []
turned = refl

counted : count_of (x ∷ y ∷ []) samples ≡ 2
counted = refl

-- x < y in the samples in which both are present; y < x isn't so; and of no samples a row says nothing
less : fit (row 13) (x ∷ y ∷ []) samples ≡ Holds
unfolding fit state_of meanings
less = refl

not_less : fit (row 13) (y ∷ x ∷ []) samples ≡ Broken
unfolding fit state_of meanings
not_less = refl

nothing : fit (row 13) (x ∷ y ∷ []) [] ≡ Empty
unfolding fit state_of meanings
nothing = refl

-- the greatest value of x counts the third sample, and x <= x holds
greatest : fit (row 3) (x ∷ []) samples ≡ Greatest (pos 9)
unfolding fit state_of meanings
greatest = refl

repeated : holds (row 14) (x ∷ x ∷ []) samples ≡ true
unfolding fit state_of meanings
repeated = refl

-- x is at least 1, and so it is at least 0, but not at least 2
at_least_none : premise_holds samples (LeastAtLeast (row 2) 0 (pos 0)) (x ∷ y ∷ []) ≡ true
unfolding fit state_of meanings
at_least_none = refl

at_least_two : premise_holds samples (LeastAtLeast (row 2) 0 (pos 2)) (x ∷ y ∷ []) ≡ false
unfolding fit state_of meanings
at_least_two = refl

-- y is x + 1, and so x is y - 1; the line in the other order is the first one, turned
line : fit (row 15) (x ∷ y ∷ []) samples ≡ Straight (pos 1) (negsuc 0) (pos 1)
unfolding fit state_of meanings through divisor gcd
line = refl

line_turned : fit (row 15) (y ∷ x ∷ []) samples ≡ Straight (pos 1) (negsuc 0) (negsuc 0)
unfolding fit state_of meanings through divisor gcd
line_turned = refl

in_order : written_order (row 15) (y ∷ x ∷ []) ≡ x ∷ y ∷ []
unfolding rows
in_order = refl

turned_back : turned_state (row 15) (y ∷ x ∷ []) (Straight (pos 1) (negsuc 0) (pos 1)) ≡ Straight (pos 1) (negsuc 0) (negsuc 0)
unfolding rows
turned_back = refl

-- 2 * x + 3 * y - z + 1 = 0, said of z, y, x
plane_turned : turned_state (row 67) (z ∷ y ∷ x ∷ []) (Plane (pos 2) (pos 3) (negsuc 0) (pos 1)) ≡ Plane (pos 1) (negsuc 2) (negsuc 1) (negsuc 0)
unfolding rows
plane_turned = refl

-- ---- instances
abbrev number : VarInfo
number = record { name = []; kind = kind.Int; form = shape.Declared; compar = record { elem = negsuc 0; index = negsuc 0 } }

-- all pairs of two variables, in order
pairs : tuples_over 2 (x ∷ y ∷ []) ≡ (x ∷ x ∷ []) ∷ (x ∷ y ∷ []) ∷ (y ∷ x ∷ []) ∷ (y ∷ y ∷ []) ∷ []
pairs = refl

-- of two numbers: a row of one is asked about each, a symmetric row of two about them in order, another one both ways round, and a
-- row of three about none
of_one : asked_of (number ∷ number ∷ []) (row 4) ≡ (x ∷ []) ∷ (y ∷ []) ∷ []
unfolding rows
of_one = refl

of_two : asked_of (number ∷ number ∷ []) (row 11) ≡ (x ∷ y ∷ []) ∷ []
unfolding rows
of_two = refl

of_ordered : asked_of (number ∷ number ∷ []) (row 13) ≡ (x ∷ y ∷ []) ∷ (y ∷ x ∷ []) ∷ []
unfolding rows
of_ordered = refl

of_three : asked_of (number ∷ number ∷ []) (row 24) ≡ []
unfolding rows
of_three = refl

of_sequences : asked_of (number ∷ number ∷ []) (row 39) ≡ []
unfolding rows
of_sequences = refl

-- all instances of two numbers
abbrev asked : ℕ → List VarId → RowId × List VarId
asked n vars = (row n, vars)

of_two_numbers :
    instances_of grammar.One (number ∷ number ∷ [])
    ≡ asked 1 (x ∷ []) ∷ asked 1 (y ∷ []) ∷ asked 2 (x ∷ []) ∷ asked 2 (y ∷ []) ∷ asked 3 (x ∷ []) ∷ asked 3 (y ∷ []) ∷ asked 4 (x ∷ []) ∷ asked 4 (y ∷ []) ∷ asked 5 (x ∷ []) ∷ asked 5 (y ∷ [])
    ∷ asked 11 (x ∷ y ∷ []) ∷ asked 12 (x ∷ y ∷ []) ∷ asked 13 (x ∷ y ∷ []) ∷ asked 13 (y ∷ x ∷ []) ∷ asked 14 (x ∷ y ∷ []) ∷ asked 14 (y ∷ x ∷ []) ∷ asked 15 (x ∷ y ∷ [])
    ∷ asked 16 (x ∷ y ∷ []) ∷ asked 16 (y ∷ x ∷ []) ∷ asked 17 (x ∷ y ∷ []) ∷ asked 17 (y ∷ x ∷ []) ∷ []
unfolding rows instances_of
of_two_numbers = refl
