-- For each rule samples under which it suppresses its conclusion, and samples under which it doesn't.
use Rattle.std.specs.Prelude.{◌≡◌, ◌&&◌, ℕ, ℤ, pos, negsuc, Bool, true, not, List, [], ◌∷◌, codes, length, refl, take, zip}
use Rattle.std.specs.List.{list_all}
use Rattle.dk_base.specs.declared.kinds.VarId.{VarId}
use Rattle.dk_base.specs.declared.values.Value.{Value}
use Rattle.dk_base.specs.declared.values.Value.TheVariants as value
use Rattle.dk_forms.specs.Known.Distinct.{put}
use Rattle.dk_instances.specs.Fits.{fit}
use Rattle.dk_meanings.specs.Meanings.{meanings, state_of}
use Rattle.dk_suppress.specs.Rules.{Rule, rules}
use Rattle.dk_suppress.specs.Soundness.{fit_of}
use Rattle.dk_template.specs.Premises.{premise_fits}
use Rattle.dk_template.specs.Templates.{arity_of, rows}
use Rattle.dk_template.specs.declared.grammar.RowId.{RowId}

abbrev var : ℕ → VarId
var n = record { 0 = n }

abbrev int : ℤ → Value
int x = value.Int x

abbrev ints : List ℤ → Value
ints s = value.IntSeq s

abbrev hashes : List ℕ → Value
hashes s = value.HashSeq s

abbrev texts : List (List ℕ) → Value
texts s = value.StrSeq s

-- as many variables as the row has roles
abbrev vars_of : RowId → List VarId
vars_of row = take (arity_of row) (var 0 ∷ var 1 ∷ var 2 ∷ [])

-- all premises of the rule fit on the samples
abbrev suppresses : Rule → List (List Value) → Bool
suppresses r samples = list_all (λ p. premise_fits (fit_of samples) p (vars_of r.0)) r.1

-- in the order of the rules: samples with which a rule suppresses, and samples with which it doesn't
abbrev Shown : Type 0
Shown = List (List Value) × List (List Value)

abbrev shown : List Shown
shown =
    (((int (pos 1) ∷ []) ∷ (int (pos 2) ∷ []) ∷ []), ((int (pos 1) ∷ []) ∷ (int (negsuc 1) ∷ []) ∷ []))  -- x != 0: x >= 1
    ∷ (((int (negsuc 0) ∷ []) ∷ (int (negsuc 2) ∷ []) ∷ []), ((int (negsuc 0) ∷ []) ∷ (int (pos 0) ∷ []) ∷ []))  -- x != 0: x <= -1
    ∷ (((int (negsuc 0) ∷ int (pos 2) ∷ []) ∷ (int (negsuc 1) ∷ int (pos 2) ∷ []) ∷ []), ((int (pos 0) ∷ int (pos 2) ∷ []) ∷ (int (pos 3) ∷ int (pos 0) ∷ []) ∷ []))  -- x != y: x < y
    ∷ (((int (negsuc 0) ∷ int (negsuc 2) ∷ []) ∷ (int (pos 2) ∷ int (negsuc 0) ∷ []) ∷ []), ((int (pos 1) ∷ int (pos 0) ∷ []) ∷ (int (pos 0) ∷ int (pos 1) ∷ []) ∷ []))  -- x != y: y < x
    ∷ (((int (pos 2) ∷ int (pos 6) ∷ []) ∷ (int (negsuc 0) ∷ int (pos 0) ∷ []) ∷ []), ((int (negsuc 0) ∷ int (pos 0) ∷ []) ∷ (int (negsuc 0) ∷ int (negsuc 0) ∷ []) ∷ []))  -- x <= y: x < y
    ∷ (((int (pos 4) ∷ int (pos 4) ∷ []) ∷ (int (pos 0) ∷ int (pos 0) ∷ []) ∷ []), ((int (pos 0) ∷ int (pos 0) ∷ []) ∷ (int (pos 2) ∷ int (pos 1) ∷ []) ∷ []))  -- x <= y: x == y
    ∷ (((int (pos 3) ∷ int (pos 3) ∷ []) ∷ (int (negsuc 0) ∷ int (negsuc 0) ∷ []) ∷ []), ((int (pos 2) ∷ int (pos 2) ∷ []) ∷ (int (pos 0) ∷ int (pos 0) ∷ []) ∷ []))  -- x % y == 0: x == y and y != 0
    ∷ (((int (negsuc 1) ∷ int (pos 1) ∷ []) ∷ (int (pos 1) ∷ int (pos 1) ∷ []) ∷ []), ((int (negsuc 0) ∷ int (pos 1) ∷ []) ∷ (int (pos 0) ∷ int (pos 2) ∷ []) ∷ []))  -- x % y == 0: y is only 1
    ∷ (((int (pos 1) ∷ int (negsuc 0) ∷ []) ∷ (int (negsuc 0) ∷ int (negsuc 0) ∷ []) ∷ []), ((int (pos 2) ∷ int (negsuc 0) ∷ []) ∷ (int (pos 0) ∷ int (pos 4) ∷ []) ∷ []))  -- x % y == 0: y is only -1
    ∷ (((int (pos 0) ∷ int (pos 1) ∷ []) ∷ (int (pos 0) ∷ int (pos 3) ∷ []) ∷ []), ((int (pos 0) ∷ int (negsuc 1) ∷ []) ∷ (int (pos 2) ∷ int (negsuc 2) ∷ []) ∷ []))  -- x % y == 0: x is only 0 and y != 0
    ∷ (((int (pos 0) ∷ int (pos 0) ∷ []) ∷ (int (pos 1) ∷ int (pos 1) ∷ []) ∷ []), ((int (pos 0) ∷ int (pos 0) ∷ []) ∷ (int (pos 1) ∷ int (negsuc 0) ∷ []) ∷ []))  -- x == y * y: x == y and x >= 0 and x <= 1
    ∷ (((int (pos 0) ∷ int (pos 0) ∷ int (pos 0) ∷ []) ∷ (int (pos 2) ∷ int (pos 2) ∷ int (pos 0) ∷ []) ∷ []), ((int (negsuc 0) ∷ int (negsuc 0) ∷ int (pos 0) ∷ []) ∷ (int (negsuc 2) ∷ int (negsuc 0) ∷ int (pos 6) ∷ []) ∷ []))  -- z == x + y: z == x and y is only 0
    ∷ (((int (pos 6) ∷ int (pos 0) ∷ int (pos 6) ∷ []) ∷ (int (pos 0) ∷ int (pos 0) ∷ int (pos 0) ∷ []) ∷ []), ((int (negsuc 0) ∷ int (pos 0) ∷ int (negsuc 0) ∷ []) ∷ (int (pos 2) ∷ int (pos 0) ∷ int (pos 1) ∷ []) ∷ []))  -- z == x + y: z == y and x is only 0
    ∷ (((int (negsuc 0) ∷ int (negsuc 0) ∷ int (pos 0) ∷ []) ∷ (int (negsuc 2) ∷ int (negsuc 0) ∷ int (pos 2) ∷ []) ∷ []), ((int (pos 2) ∷ int (negsuc 0) ∷ int (negsuc 2) ∷ []) ∷ (int (pos 2) ∷ int (pos 0) ∷ int (pos 0) ∷ []) ∷ []))  -- z == x - y: x == z + y
    ∷ (((int (pos 2) ∷ int (pos 2) ∷ int (pos 1) ∷ []) ∷ (int (negsuc 0) ∷ int (negsuc 0) ∷ int (pos 1) ∷ []) ∷ []), ((int (pos 4) ∷ int (pos 4) ∷ int (pos 1) ∷ []) ∷ (int (pos 1) ∷ int (pos 1) ∷ int (pos 2) ∷ []) ∷ []))  -- z == x * y: z == x and y is only 1
    ∷ (((int (pos 0) ∷ int (pos 1) ∷ int (pos 0) ∷ []) ∷ (int (pos 1) ∷ int (pos 1) ∷ int (pos 1) ∷ []) ∷ []), ((int (pos 0) ∷ int (pos 1) ∷ int (pos 0) ∷ []) ∷ (int (negsuc 0) ∷ int (pos 2) ∷ int (negsuc 1) ∷ []) ∷ []))  -- z == x * y: z == y and x is only 1
    ∷ (((int (pos 0) ∷ int (pos 0) ∷ int (pos 3) ∷ []) ∷ (int (pos 0) ∷ int (pos 0) ∷ int (negsuc 0) ∷ []) ∷ []), ((int (pos 0) ∷ int (pos 0) ∷ int (pos 1) ∷ []) ∷ (int (pos 2) ∷ int (pos 0) ∷ int (negsuc 0) ∷ []) ∷ []))  -- z == x * y: z is only 0 and x is only 0
    ∷ (((int (pos 0) ∷ int (negsuc 1) ∷ int (pos 0) ∷ []) ∷ (int (pos 0) ∷ int (pos 6) ∷ int (pos 0) ∷ []) ∷ []), ((int (pos 0) ∷ int (pos 1) ∷ int (pos 0) ∷ []) ∷ (int (pos 1) ∷ int (negsuc 0) ∷ int (pos 1) ∷ []) ∷ []))  -- z == x * y: z is only 0 and y is only 0
    ∷ (((int (negsuc 0) ∷ int (negsuc 0) ∷ int (pos 1) ∷ []) ∷ (int (negsuc 0) ∷ int (negsuc 0) ∷ int (pos 6) ∷ []) ∷ []), ((int (negsuc 0) ∷ int (negsuc 0) ∷ int (pos 1) ∷ []) ∷ (int (pos 1) ∷ int (negsuc 0) ∷ int (negsuc 0) ∷ []) ∷ []))  -- z == min(x, y): z == x and x <= y
    ∷ (((int (pos 0) ∷ int (pos 0) ∷ int (pos 0) ∷ []) ∷ (int (pos 2) ∷ int (pos 2) ∷ int (pos 2) ∷ []) ∷ []), ((int (pos 1) ∷ int (pos 2) ∷ int (pos 1) ∷ []) ∷ (int (pos 6) ∷ int (negsuc 2) ∷ int (negsuc 0) ∷ []) ∷ []))  -- z == min(x, y): z == y and y <= x
    ∷ (((int (pos 1) ∷ int (pos 1) ∷ int (negsuc 0) ∷ []) ∷ (int (pos 2) ∷ int (pos 2) ∷ int (negsuc 0) ∷ []) ∷ []), ((int (pos 2) ∷ int (pos 2) ∷ int (negsuc 0) ∷ []) ∷ (int (pos 0) ∷ int (negsuc 2) ∷ int (negsuc 2) ∷ []) ∷ []))  -- z == max(x, y): z == x and y <= x
    ∷ (((int (pos 2) ∷ int (negsuc 0) ∷ int (pos 2) ∷ []) ∷ (int (negsuc 0) ∷ int (negsuc 0) ∷ int (negsuc 0) ∷ []) ∷ []), ((int (pos 3) ∷ int (pos 1) ∷ int (pos 3) ∷ []) ∷ (int (negsuc 0) ∷ int (pos 0) ∷ int (negsuc 1) ∷ []) ∷ []))  -- z == max(x, y): z == y and x <= y
    ∷ (((int (pos 0) ∷ int (pos 0) ∷ int (pos 1) ∷ []) ∷ (int (negsuc 0) ∷ int (negsuc 0) ∷ int (pos 1) ∷ []) ∷ []), ((int (negsuc 0) ∷ int (negsuc 0) ∷ int (pos 1) ∷ []) ∷ (int (pos 2) ∷ int (pos 0) ∷ int (pos 2) ∷ []) ∷ []))  -- z == x / y: z == x and y is only 1
    ∷ (((int (pos 0) ∷ int (pos 0) ∷ int (negsuc 0) ∷ []) ∷ (int (pos 0) ∷ int (pos 0) ∷ int (pos 1) ∷ []) ∷ []), ((int (pos 0) ∷ int (pos 0) ∷ int (pos 2) ∷ []) ∷ (int (pos 4) ∷ int (pos 0) ∷ int (negsuc 0) ∷ []) ∷ []))  -- z == x / y: z is only 0 and x is only 0 and y != 0
    ∷ (((int (pos 1) ∷ int (pos 3) ∷ int (pos 3) ∷ []) ∷ (int (pos 1) ∷ int (negsuc 0) ∷ int (negsuc 0) ∷ []) ∷ []), ((int (pos 1) ∷ int (pos 1) ∷ int (pos 1) ∷ []) ∷ (int (pos 3) ∷ int (pos 1) ∷ int (pos 0) ∷ []) ∷ []))  -- z == x / y: z is only 1 and x == y and y != 0
    ∷ (((int (pos 0) ∷ int (pos 0) ∷ int (pos 1) ∷ []) ∷ (int (pos 0) ∷ int (pos 4) ∷ int (pos 6) ∷ []) ∷ []), ((int (pos 0) ∷ int (pos 2) ∷ int (pos 6) ∷ []) ∷ (int (pos 6) ∷ int (pos 2) ∷ int (pos 6) ∷ []) ∷ []))  -- z == x / y: z is only 0 and x >= 0 and x < y
    ∷ (((int (pos 0) ∷ int (negsuc 0) ∷ int (pos 1) ∷ []) ∷ (int (pos 0) ∷ int (pos 4) ∷ int (negsuc 0) ∷ []) ∷ []), ((int (pos 0) ∷ int (negsuc 1) ∷ int (pos 1) ∷ []) ∷ (int (negsuc 0) ∷ int (negsuc 0) ∷ int (pos 2) ∷ []) ∷ []))  -- z == x % y: z is only 0 and x % y == 0
    ∷ (((int (pos 0) ∷ int (pos 0) ∷ int (pos 4) ∷ []) ∷ (int (pos 0) ∷ int (pos 0) ∷ int (pos 1) ∷ []) ∷ []), ((int (pos 0) ∷ int (pos 0) ∷ int (pos 1) ∷ []) ∷ (int (negsuc 0) ∷ int (pos 1) ∷ int (pos 0) ∷ []) ∷ []))  -- z == x % y: z == x and x >= 0 and x < y
    ∷ (((int (pos 2) ∷ int (pos 2) ∷ int (pos 2) ∷ []) ∷ (int (pos 0) ∷ int (pos 0) ∷ int (pos 0) ∷ []) ∷ []), ((int (pos 0) ∷ int (pos 0) ∷ int (pos 0) ∷ []) ∷ (int (negsuc 0) ∷ int (pos 1) ∷ int (negsuc 0) ∷ []) ∷ []))  -- z == x & y: z == x and x == y
    ∷ (((int (pos 0) ∷ int (pos 0) ∷ int (negsuc 0) ∷ []) ∷ (int (pos 0) ∷ int (pos 0) ∷ int (pos 6) ∷ []) ∷ []), ((int (pos 0) ∷ int (pos 0) ∷ int (negsuc 0) ∷ []) ∷ (int (negsuc 1) ∷ int (pos 1) ∷ int (pos 4) ∷ []) ∷ []))  -- z == x & y: z is only 0 and x is only 0
    ∷ (((int (pos 0) ∷ int (pos 1) ∷ int (pos 0) ∷ []) ∷ (int (pos 0) ∷ int (negsuc 2) ∷ int (pos 0) ∷ []) ∷ []), ((int (pos 0) ∷ int (negsuc 2) ∷ int (pos 0) ∷ []) ∷ (int (pos 6) ∷ int (pos 1) ∷ int (negsuc 0) ∷ []) ∷ []))  -- z == x & y: z is only 0 and y is only 0
    ∷ (((int (pos 2) ∷ int (pos 2) ∷ int (negsuc 0) ∷ []) ∷ (int (pos 6) ∷ int (pos 6) ∷ int (negsuc 0) ∷ []) ∷ []), ((int (pos 2) ∷ int (pos 2) ∷ int (negsuc 0) ∷ []) ∷ (int (pos 1) ∷ int (negsuc 0) ∷ int (negsuc 0) ∷ []) ∷ []))  -- z == x & y: z == x and y is only -1
    ∷ (((int (negsuc 0) ∷ int (negsuc 0) ∷ int (negsuc 0) ∷ []) ∷ (int (pos 2) ∷ int (negsuc 0) ∷ int (pos 2) ∷ []) ∷ []), ((int (negsuc 0) ∷ int (negsuc 0) ∷ int (negsuc 0) ∷ []) ∷ (int (negsuc 0) ∷ int (pos 2) ∷ int (pos 0) ∷ []) ∷ []))  -- z == x & y: z == y and x is only -1
    ∷ (((int (pos 1) ∷ int (pos 1) ∷ int (pos 1) ∷ []) ∷ (int (pos 2) ∷ int (pos 2) ∷ int (pos 2) ∷ []) ∷ []), ((int (negsuc 0) ∷ int (negsuc 0) ∷ int (negsuc 0) ∷ []) ∷ (int (pos 0) ∷ int (negsuc 0) ∷ int (pos 1) ∷ []) ∷ []))  -- z == x | y: z == x and x == y
    ∷ (((int (pos 6) ∷ int (pos 6) ∷ int (pos 0) ∷ []) ∷ (int (negsuc 0) ∷ int (negsuc 0) ∷ int (pos 0) ∷ []) ∷ []), ((int (pos 0) ∷ int (pos 0) ∷ int (pos 0) ∷ []) ∷ (int (pos 2) ∷ int (negsuc 0) ∷ int (pos 2) ∷ []) ∷ []))  -- z == x | y: z == x and y is only 0
    ∷ (((int (negsuc 0) ∷ int (pos 0) ∷ int (negsuc 0) ∷ []) ∷ (int (pos 2) ∷ int (pos 0) ∷ int (pos 2) ∷ []) ∷ []), ((int (pos 1) ∷ int (pos 0) ∷ int (pos 1) ∷ []) ∷ (int (pos 4) ∷ int (negsuc 0) ∷ int (pos 2) ∷ []) ∷ []))  -- z == x | y: z == y and x is only 0
    ∷ (((int (negsuc 0) ∷ int (negsuc 0) ∷ int (pos 0) ∷ []) ∷ (int (pos 2) ∷ int (pos 2) ∷ int (pos 0) ∷ []) ∷ []), ((int (negsuc 0) ∷ int (negsuc 0) ∷ int (pos 0) ∷ []) ∷ (int (pos 0) ∷ int (pos 6) ∷ int (negsuc 0) ∷ []) ∷ []))  -- z == x ^ y: z == x and y is only 0
    ∷ (((int (pos 2) ∷ int (pos 0) ∷ int (pos 2) ∷ []) ∷ (int (pos 0) ∷ int (pos 0) ∷ int (pos 0) ∷ []) ∷ []), ((int (pos 2) ∷ int (pos 0) ∷ int (pos 2) ∷ []) ∷ (int (pos 2) ∷ int (pos 2) ∷ int (pos 0) ∷ []) ∷ []))  -- z == x ^ y: z == y and x is only 0
    ∷ (((int (pos 0) ∷ int (pos 2) ∷ int (pos 2) ∷ []) ∷ (int (pos 0) ∷ int (negsuc 0) ∷ int (negsuc 0) ∷ []) ∷ []), ((int (pos 0) ∷ int (pos 1) ∷ int (pos 1) ∷ []) ∷ (int (negsuc 0) ∷ int (pos 1) ∷ int (pos 3) ∷ []) ∷ []))  -- z == x ^ y: z is only 0 and x == y
    ∷ (((int (pos 1) ∷ int (pos 1) ∷ int (pos 1) ∷ []) ∷ (int (pos 1) ∷ int (pos 1) ∷ int (pos 0) ∷ []) ∷ []), ((int (pos 1) ∷ int (pos 1) ∷ int (pos 1) ∷ []) ∷ (int (pos 1) ∷ int (negsuc 0) ∷ int (pos 0) ∷ []) ∷ []))  -- z == gcd(x, y): z is only 1 and x is only 1
    ∷ (((int (pos 1) ∷ int (pos 0) ∷ int (pos 1) ∷ []) ∷ (int (pos 1) ∷ int (negsuc 2) ∷ int (pos 1) ∷ []) ∷ []), ((int (pos 1) ∷ int (pos 1) ∷ int (pos 1) ∷ []) ∷ (int (pos 4) ∷ int (pos 1) ∷ int (negsuc 2) ∷ []) ∷ []))  -- z == gcd(x, y): z is only 1 and y is only 1
    ∷ (((int (pos 1) ∷ int (pos 1) ∷ int (pos 2) ∷ []) ∷ (int (pos 1) ∷ int (pos 1) ∷ int (negsuc 2) ∷ []) ∷ []), ((int (pos 1) ∷ int (pos 1) ∷ int (negsuc 0) ∷ []) ∷ (int (pos 2) ∷ int (pos 0) ∷ int (negsuc 0) ∷ []) ∷ []))  -- z == gcd(x, y): z == x and x >= 1 and y % x == 0
    ∷ (((int (pos 2) ∷ int (pos 4) ∷ int (pos 2) ∷ []) ∷ (int (pos 1) ∷ int (pos 2) ∷ int (pos 1) ∷ []) ∷ []), ((int (pos 1) ∷ int (pos 0) ∷ int (pos 1) ∷ []) ∷ (int (pos 0) ∷ int (pos 1) ∷ int (pos 4) ∷ []) ∷ []))  -- z == gcd(x, y): z == y and y >= 1 and x % y == 0
    ∷ (((ints (pos 1 ∷ pos 1 ∷ pos 3 ∷ []) ∷ []) ∷ (ints (pos 1 ∷ pos 3 ∷ []) ∷ []) ∷ []), ((ints (pos 3 ∷ []) ∷ []) ∷ (ints (negsuc 1 ∷ []) ∷ []) ∷ []))  -- s elements != 0: s elements >= 1
    ∷ (((ints (negsuc 1 ∷ []) ∷ []) ∷ (ints (negsuc 0 ∷ []) ∷ []) ∷ []), ((ints (negsuc 0 ∷ []) ∷ []) ∷ (ints (pos 3 ∷ pos 0 ∷ []) ∷ []) ∷ []))  -- s elements != 0: s elements <= -1
    ∷ (((ints (pos 0 ∷ []) ∷ []) ∷ (ints (pos 0 ∷ pos 3 ∷ []) ∷ []) ∷ []), ((ints (negsuc 0 ∷ pos 0 ∷ []) ∷ []) ∷ (ints (pos 0 ∷ pos 2 ∷ pos 2 ∷ []) ∷ []) ∷ []))  -- s sorted by <=: s sorted by <
    ∷ (((ints (pos 2 ∷ []) ∷ []) ∷ (ints (negsuc 1 ∷ []) ∷ []) ∷ []), ((ints (pos 0 ∷ []) ∷ []) ∷ (ints (pos 3 ∷ negsuc 1 ∷ pos 3 ∷ []) ∷ []) ∷ []))  -- s sorted by <=: s elements are equal
    ∷ (((ints (pos 1 ∷ negsuc 1 ∷ []) ∷ []) ∷ (ints (pos 3 ∷ negsuc 1 ∷ []) ∷ []) ∷ []), ((ints (pos 1 ∷ negsuc 1 ∷ []) ∷ []) ∷ (ints (negsuc 1 ∷ negsuc 1 ∷ negsuc 0 ∷ []) ∷ []) ∷ []))  -- s sorted by >=: s sorted by >
    ∷ (((ints (pos 0 ∷ pos 0 ∷ []) ∷ []) ∷ (ints (pos 3 ∷ pos 3 ∷ []) ∷ []) ∷ []), ((ints (pos 2 ∷ []) ∷ []) ∷ (ints (pos 1 ∷ negsuc 0 ∷ []) ∷ []) ∷ []))  -- s sorted by >=: s elements are equal
    ∷ (((ints ([]) ∷ int (pos 2) ∷ []) ∷ (ints ([]) ∷ int (pos 1) ∷ []) ∷ []), ((ints (negsuc 0 ∷ negsuc 0 ∷ []) ∷ int (pos 2) ∷ []) ∷ (ints (negsuc 1 ∷ pos 1 ∷ []) ∷ int (pos 1) ∷ []) ∷ []))  -- s elements <= x: s elements < x
    ∷ (((ints ([]) ∷ int (pos 1) ∷ []) ∷ (ints (negsuc 0 ∷ []) ∷ int (negsuc 0) ∷ []) ∷ []), ((ints ([]) ∷ int (pos 0) ∷ []) ∷ (ints (pos 1 ∷ negsuc 0 ∷ pos 3 ∷ []) ∷ int (negsuc 1) ∷ []) ∷ []))  -- s elements <= x: s elements == x
    ∷ (((ints (negsuc 1 ∷ pos 0 ∷ []) ∷ int (negsuc 2) ∷ []) ∷ (ints ([]) ∷ int (negsuc 1) ∷ []) ∷ []), ((ints (pos 0 ∷ pos 2 ∷ []) ∷ int (negsuc 1) ∷ []) ∷ (ints (negsuc 1 ∷ pos 2 ∷ []) ∷ int (pos 0) ∷ []) ∷ []))  -- s elements >= x: s elements > x
    ∷ (((ints ([]) ∷ int (pos 1) ∷ []) ∷ (ints ([]) ∷ int (negsuc 0) ∷ []) ∷ []), ((ints ([]) ∷ int (pos 0) ∷ []) ∷ (ints (pos 1 ∷ pos 3 ∷ []) ∷ int (pos 0) ∷ []) ∷ []))  -- s elements >= x: s elements == x
    ∷ (((ints (negsuc 0 ∷ negsuc 1 ∷ []) ∷ ints (pos 2 ∷ pos 0 ∷ []) ∷ []) ∷ (ints (pos 0 ∷ negsuc 1 ∷ []) ∷ ints (pos 2 ∷ pos 3 ∷ []) ∷ []) ∷ []), ((ints ([]) ∷ ints ([]) ∷ []) ∷ (ints (pos 0 ∷ pos 3 ∷ pos 1 ∷ []) ∷ ints (pos 3 ∷ []) ∷ []) ∷ []))  -- s <= t, pair by pair: s < t, pair by pair
    ∷ (((ints (negsuc 0 ∷ negsuc 1 ∷ []) ∷ ints (negsuc 0 ∷ negsuc 1 ∷ []) ∷ []) ∷ (ints (pos 2 ∷ pos 1 ∷ []) ∷ ints (pos 2 ∷ pos 1 ∷ []) ∷ []) ∷ []), ((ints (pos 0 ∷ []) ∷ ints (pos 0 ∷ []) ∷ []) ∷ (ints (pos 1 ∷ pos 2 ∷ []) ∷ ints (negsuc 0 ∷ pos 3 ∷ []) ∷ []) ∷ []))  -- s <= t, pair by pair: s == t
    ∷ (((ints (negsuc 1 ∷ []) ∷ ints (negsuc 1 ∷ []) ∷ []) ∷ (ints (pos 1 ∷ pos 1 ∷ []) ∷ ints (pos 1 ∷ pos 1 ∷ []) ∷ []) ∷ []), ((ints ([]) ∷ ints ([]) ∷ []) ∷ (ints (pos 1 ∷ []) ∷ ints (pos 1 ∷ pos 0 ∷ negsuc 0 ∷ []) ∷ []) ∷ []))  -- s is a subset of t (numbers): s == t
    ∷ (((ints (negsuc 1 ∷ pos 3 ∷ pos 2 ∷ []) ∷ ints (pos 2 ∷ pos 3 ∷ negsuc 1 ∷ []) ∷ []) ∷ (ints ([]) ∷ ints ([]) ∷ []) ∷ []), ((ints (pos 0 ∷ []) ∷ ints (pos 0 ∷ []) ∷ []) ∷ (ints (pos 0 ∷ pos 2 ∷ []) ∷ ints (pos 1 ∷ negsuc 0 ∷ []) ∷ []) ∷ []))  -- s is a subset of t (numbers): s is the reverse of t
    ∷ (((hashes ([]) ∷ hashes ([]) ∷ []) ∷ (hashes (1 ∷ []) ∷ hashes (1 ∷ []) ∷ []) ∷ []), ((hashes ([]) ∷ hashes ([]) ∷ []) ∷ (hashes (31 ∷ 0 ∷ []) ∷ hashes ([]) ∷ []) ∷ []))  -- s is a subset of t (hash codes): s == t
    ∷ (((texts (codes "\"b\"" ∷ codes "null" ∷ []) ∷ texts (codes "\"b\"" ∷ codes "null" ∷ []) ∷ []) ∷ (texts (codes "\"b\"" ∷ []) ∷ texts (codes "\"b\"" ∷ []) ∷ []) ∷ []), ((texts (codes "\"b\"" ∷ []) ∷ texts (codes "\"b\"" ∷ []) ∷ []) ∷ (texts (codes "\"a\"" ∷ []) ∷ texts (codes "null" ∷ codes "null" ∷ []) ∷ []) ∷ []))  -- s is a subset of t (strings): s == t
    ∷ (((ints (negsuc 0 ∷ []) ∷ ints (negsuc 0 ∷ []) ∷ []) ∷ (ints ([]) ∷ ints ([]) ∷ []) ∷ []), ((ints ([]) ∷ ints ([]) ∷ []) ∷ (ints (negsuc 0 ∷ pos 2 ∷ pos 3 ∷ []) ∷ ints (pos 3 ∷ negsuc 1 ∷ pos 2 ∷ []) ∷ []) ∷ []))  -- s is the reverse of t: s == t and s elements are equal
    ∷ []

abbrev is_shown : Rule × Shown → Bool
is_shown c = suppresses c.0 c.1.0 && not (suppresses c.0 c.1.1)

one_for_each : length shown ≡ 60
one_for_each = refl

each_rule_is_shown : list_all is_shown (zip rules shown) ≡ true
unfolding rules fit state_of meanings rows put
each_rule_is_shown = refl
