-- The rules of suppression, and what follows from them of a row.
use Rattle.std.specs.Prelude.{◌&&◌, ◌==◌, ◌++◌, ℕ, ℤ, pos, negsuc, Bool, true, false, List, [], ◌∷◌, filter, flat_map, fold, map, if◌then◌else◌}
use Rattle.std.specs.List.{dedup, list_all, list_any, range_with_len}
use Rattle.std.specs.Ordering.{int_eq}
use Rattle.dk_base.specs.declared.kinds.VarId.{VarId}
use Rattle.dk_forms.specs.declared.states.State.{State}
use Rattle.dk_template.specs.Numbers.{and, difference, divides, elt_eq, elt_ge, elt_gt, elt_le, elt_lower, elt_lt, elt_non_zero, elt_upper, elts_equal, eq_hash_seq, eq_int, eq_int_seq, eq_str_seq, gcd, le, linear_ternary, lower_bound, lt, maximum, minimum, ne_int, non_zero, or, pair_le, pair_lt, product, quotient, remainder, reverse, sorted_ge, sorted_gt, sorted_le, sorted_lt, square, subset_hash, subset_int, subset_str, sum, upper_bound, xor}
use Rattle.dk_template.specs.Premises.{premise_fits, row_of}
use Rattle.dk_template.specs.declared.answers.Premise.{Premise}
use Rattle.dk_template.specs.declared.answers.Premise.TheVariants.{Holds, LeastAtLeast, GreatestAtMost, Only}
use Rattle.dk_template.specs.declared.grammar.RowId.{RowId}

-- ---- the table
-- the roles of a conclusion
abbrev pub first : ℕ
first = 0

abbrev pub second : ℕ
second = 1

abbrev pub third : ℕ
third = 2

-- what is written for a role that a row doesn't have
abbrev pub no_role : ℕ
no_role = 0

-- a rule: its conclusion, and its premises over the roles of the conclusion
abbrev pub Rule : Type 0
Rule = RowId × List Premise

abbrev pub rule : ℕ → List Premise → Rule
rule conclusion premises = (record { 0 = conclusion }, premises)

-- the row holds over the roles
abbrev pub holds_of_one : ℕ → ℕ → Premise
holds_of_one row a = Holds (record { 0 = row }) (a ∷ no_role ∷ no_role ∷ [])

abbrev pub holds_of_two : ℕ → ℕ → ℕ → Premise
holds_of_two row a b = Holds (record { 0 = row }) (a ∷ b ∷ no_role ∷ [])

abbrev pub holds_of_three : ℕ → ℕ → ℕ → ℕ → Premise
holds_of_three row a b c = Holds (record { 0 = row }) (a ∷ b ∷ c ∷ [])

-- the least number is at least k, the greatest at most k
abbrev pub least : ℕ → ℕ → ℤ → Premise
least row role k = LeastAtLeast (record { 0 = row }) role k

abbrev pub greatest : ℕ → ℕ → ℤ → Premise
greatest row role k = GreatestAtMost (record { 0 = row }) role k

-- The rules, by their conclusions. x, y and z are numbers, s and t sequences. The roles are x, y, or s and t, or s and x, and from
-- Sum to Gcd they are z, x, y.
unfoldable pub rules : List Rule
rules =
    rule non_zero (least lower_bound first (pos 1) ∷ [])  -- x != 0: x >= 1
    ∷ rule non_zero (greatest upper_bound first (negsuc 0) ∷ [])  -- x != 0: x <= -1
    ∷ rule ne_int (holds_of_two lt first second ∷ [])  -- x != y: x < y
    ∷ rule ne_int (holds_of_two lt second first ∷ [])  -- x != y: y < x
    ∷ rule le (holds_of_two lt first second ∷ [])  -- x <= y: x < y
    ∷ rule le (holds_of_two eq_int first second ∷ [])  -- x <= y: x == y
    ∷ rule divides (holds_of_two eq_int first second ∷ holds_of_one non_zero second ∷ [])  -- x % y == 0: x == y and y != 0
    ∷ rule divides (Only second (pos 1) ∷ [])  -- x % y == 0: y is only 1
    ∷ rule divides (Only second (negsuc 0) ∷ [])  -- x % y == 0: y is only -1
    ∷ rule divides (Only first (pos 0) ∷ holds_of_one non_zero second ∷ [])  -- x % y == 0: x is only 0 and y != 0
    -- x == y * y: x == y and x >= 0 and x <= 1
    ∷ rule square (holds_of_two eq_int first second ∷ least lower_bound first (pos 0) ∷ greatest upper_bound first (pos 1) ∷ [])
    ∷ rule sum (holds_of_two eq_int first second ∷ Only third (pos 0) ∷ [])  -- z == x + y: z == x and y is only 0
    ∷ rule sum (holds_of_two eq_int first third ∷ Only second (pos 0) ∷ [])  -- z == x + y: z == y and x is only 0
    ∷ rule difference (holds_of_three sum second first third ∷ [])  -- z == x - y: x == z + y
    ∷ rule product (holds_of_two eq_int first second ∷ Only third (pos 1) ∷ [])  -- z == x * y: z == x and y is only 1
    ∷ rule product (holds_of_two eq_int first third ∷ Only second (pos 1) ∷ [])  -- z == x * y: z == y and x is only 1
    ∷ rule product (Only first (pos 0) ∷ Only second (pos 0) ∷ [])  -- z == x * y: z is only 0 and x is only 0
    ∷ rule product (Only first (pos 0) ∷ Only third (pos 0) ∷ [])  -- z == x * y: z is only 0 and y is only 0
    ∷ rule minimum (holds_of_two eq_int first second ∷ holds_of_two le second third ∷ [])  -- z == min(x, y): z == x and x <= y
    ∷ rule minimum (holds_of_two eq_int first third ∷ holds_of_two le third second ∷ [])  -- z == min(x, y): z == y and y <= x
    ∷ rule maximum (holds_of_two eq_int first second ∷ holds_of_two le third second ∷ [])  -- z == max(x, y): z == x and y <= x
    ∷ rule maximum (holds_of_two eq_int first third ∷ holds_of_two le second third ∷ [])  -- z == max(x, y): z == y and x <= y
    ∷ rule quotient (holds_of_two eq_int first second ∷ Only third (pos 1) ∷ [])  -- z == x / y: z == x and y is only 1
    -- z == x / y: z is only 0 and x is only 0 and y != 0
    ∷ rule quotient (Only first (pos 0) ∷ Only second (pos 0) ∷ holds_of_one non_zero third ∷ [])
    -- z == x / y: z is only 1 and x == y and y != 0
    ∷ rule quotient (Only first (pos 1) ∷ holds_of_two eq_int second third ∷ holds_of_one non_zero third ∷ [])
    -- z == x / y: z is only 0 and x >= 0 and x < y
    ∷ rule quotient (Only first (pos 0) ∷ least lower_bound second (pos 0) ∷ holds_of_two lt second third ∷ [])
    ∷ rule remainder (Only first (pos 0) ∷ holds_of_two divides second third ∷ [])  -- z == x % y: z is only 0 and x % y == 0
    -- z == x % y: z == x and x >= 0 and x < y
    ∷ rule remainder (holds_of_two eq_int first second ∷ least lower_bound second (pos 0) ∷ holds_of_two lt second third ∷ [])
    ∷ rule and (holds_of_two eq_int first second ∷ holds_of_two eq_int second third ∷ [])  -- z == x & y: z == x and x == y
    ∷ rule and (Only first (pos 0) ∷ Only second (pos 0) ∷ [])  -- z == x & y: z is only 0 and x is only 0
    ∷ rule and (Only first (pos 0) ∷ Only third (pos 0) ∷ [])  -- z == x & y: z is only 0 and y is only 0
    ∷ rule and (holds_of_two eq_int first second ∷ Only third (negsuc 0) ∷ [])  -- z == x & y: z == x and y is only -1
    ∷ rule and (holds_of_two eq_int first third ∷ Only second (negsuc 0) ∷ [])  -- z == x & y: z == y and x is only -1
    ∷ rule or (holds_of_two eq_int first second ∷ holds_of_two eq_int second third ∷ [])  -- z == x | y: z == x and x == y
    ∷ rule or (holds_of_two eq_int first second ∷ Only third (pos 0) ∷ [])  -- z == x | y: z == x and y is only 0
    ∷ rule or (holds_of_two eq_int first third ∷ Only second (pos 0) ∷ [])  -- z == x | y: z == y and x is only 0
    ∷ rule xor (holds_of_two eq_int first second ∷ Only third (pos 0) ∷ [])  -- z == x ^ y: z == x and y is only 0
    ∷ rule xor (holds_of_two eq_int first third ∷ Only second (pos 0) ∷ [])  -- z == x ^ y: z == y and x is only 0
    ∷ rule xor (Only first (pos 0) ∷ holds_of_two eq_int second third ∷ [])  -- z == x ^ y: z is only 0 and x == y
    ∷ rule gcd (Only first (pos 1) ∷ Only second (pos 1) ∷ [])  -- z == gcd(x, y): z is only 1 and x is only 1
    ∷ rule gcd (Only first (pos 1) ∷ Only third (pos 1) ∷ [])  -- z == gcd(x, y): z is only 1 and y is only 1
    -- z == gcd(x, y): z == x and x >= 1 and y % x == 0
    ∷ rule gcd (holds_of_two eq_int first second ∷ least lower_bound second (pos 1) ∷ holds_of_two divides third second ∷ [])
    -- z == gcd(x, y): z == y and y >= 1 and x % y == 0
    ∷ rule gcd (holds_of_two eq_int first third ∷ least lower_bound third (pos 1) ∷ holds_of_two divides second third ∷ [])
    ∷ rule elt_non_zero (least elt_lower first (pos 1) ∷ [])  -- s elements != 0: s elements >= 1
    ∷ rule elt_non_zero (greatest elt_upper first (negsuc 0) ∷ [])  -- s elements != 0: s elements <= -1
    ∷ rule sorted_le (holds_of_one sorted_lt first ∷ [])  -- s sorted by <=: s sorted by <
    ∷ rule sorted_le (holds_of_one elts_equal first ∷ [])  -- s sorted by <=: s elements are equal
    ∷ rule sorted_ge (holds_of_one sorted_gt first ∷ [])  -- s sorted by >=: s sorted by >
    ∷ rule sorted_ge (holds_of_one elts_equal first ∷ [])  -- s sorted by >=: s elements are equal
    ∷ rule elt_le (holds_of_two elt_lt first second ∷ [])  -- s elements <= x: s elements < x
    ∷ rule elt_le (holds_of_two elt_eq first second ∷ [])  -- s elements <= x: s elements == x
    ∷ rule elt_ge (holds_of_two elt_gt first second ∷ [])  -- s elements >= x: s elements > x
    ∷ rule elt_ge (holds_of_two elt_eq first second ∷ [])  -- s elements >= x: s elements == x
    ∷ rule pair_le (holds_of_two pair_lt first second ∷ [])  -- s <= t, pair by pair: s < t, pair by pair
    ∷ rule pair_le (holds_of_two eq_int_seq first second ∷ [])  -- s <= t, pair by pair: s == t
    ∷ rule subset_int (holds_of_two eq_int_seq first second ∷ [])  -- s is a subset of t (numbers): s == t
    ∷ rule subset_int (holds_of_two reverse first second ∷ [])  -- s is a subset of t (numbers): s is the reverse of t
    ∷ rule subset_hash (holds_of_two eq_hash_seq first second ∷ [])  -- s is a subset of t (hash codes): s == t
    ∷ rule subset_str (holds_of_two eq_str_seq first second ∷ [])  -- s is a subset of t (strings): s == t
    -- s is the reverse of t: s == t and s elements are equal
    ∷ rule reverse (holds_of_two eq_int_seq first second ∷ holds_of_one elts_equal first ∷ [])
    ∷ []

-- ---- what the table says of a row
-- the row has a rule
abbrev pub has_rule : RowId → Bool
has_rule row = list_any (λ (r : Rule). r.0.0 == row.0) rules

-- all premises of some rule of the row fit
abbrev pub is_suppressed : (RowId → List VarId → State) → RowId → List VarId → Bool
is_suppressed answered row vars = list_any (λ (r : Rule). r.0.0 == row.0 && list_all (λ p. premise_fits answered p vars) r.1) rules

-- a premise of the rule is about the row
abbrev pub asks : RowId → Rule → Bool
asks row r = list_any (λ p. (row_of p).0 == row.0) r.1

-- The conclusions of the rules with a premise about the row, each once. The rules of a conclusion stand together in the table.
unfoldable pub freed : RowId → List RowId
freed row = dedup (λ (a b : RowId). a.0 == b.0) (map (λ (r : Rule). r.0) (filter (asks row) rules))

-- what each number below that of planes frees; no premise is about planes or a later row
abbrev pub freed_by_number : List (List RowId)
freed_by_number = map (λ n. freed (record { 0 = n })) (range_with_len 0 linear_ternary)

-- ---- what the rules ask of a row
-- two premises about one row are content with the same states
abbrev pub ask_alike : Premise → Premise → Bool
ask_alike (Holds r a) (Holds s b) = true
ask_alike (LeastAtLeast r a k) (LeastAtLeast s b l) = int_eq k l
ask_alike (GreatestAtMost r a k) (GreatestAtMost s b l) = int_eq k l
ask_alike (Only a k) (Only b l) = int_eq k l
ask_alike _ _ = false

-- with a premise, unless one of them asks the same
abbrev pub with_premise : List Premise → Premise → List Premise
with_premise asked p = if list_any (ask_alike p) asked then asked else asked ++ p ∷ []

-- the premises about a row, of those that ask the same the first
unfoldable pub asked_of : RowId → List Premise
asked_of row = fold with_premise [] (filter (λ p. (row_of p).0 == row.0) (flat_map (λ (r : Rule). r.1) rules))

-- those about each number below that of planes; no premise is about planes or a later row
unfoldable pub asked_by_number : List (List Premise)
asked_by_number = map (λ n. asked_of (record { 0 = n })) (range_with_len 0 linear_ternary)
