-- Facts of small examples, computed from the definitions: for each clause of each fact where it drops and where it doesn't.
use Rattle.std.specs.Prelude.{◌≡◌, ◌&&◌, ◌==◌, ℕ, ℤ, pos, negsuc, Bool, true, false, List, [], ◌∷◌, ◌++◌, codes, map, take, refl, Option, Some, None, if◌then◌else◌}
use Rattle.std.specs.Cmp.Lexicographic.{pointwise}
use Rattle.dk_arith.specs.Directions.{divisor}
use Rattle.dk_arith.specs.Gcd.{gcd}
use Rattle.dk_base.specs.Shapes.{var}
use Rattle.dk_base.specs.declared.kinds.Form.{Form}
use Rattle.dk_base.specs.declared.kinds.Form.TheVariants as form
use Rattle.dk_base.specs.declared.kinds.Kind.{Kind}
use Rattle.dk_base.specs.declared.kinds.Kind.TheVariants as kind
use Rattle.dk_base.specs.declared.kinds.VarId.{VarId}
use Rattle.dk_base.specs.declared.kinds.VarInfo.{VarInfo}
use Rattle.dk_base.specs.declared.values.Value.{Value}
use Rattle.dk_base.specs.declared.values.Value.TheVariants as value
use Rattle.dk_instances.specs.Fits.{fit}
use Rattle.dk_forms.specs.Known.Distinct.{put}
use Rattle.dk_forms.specs.Plane.Line.{through}
use Rattle.dk_meanings.specs.Meanings.{meanings, state_of}
use Rattle.dk_forms.specs.declared.states.State.TheVariants as state
use Rattle.dk_suppress.specs.Rules.{rules}
use Rattle.dk_template.specs.Templates.{rows}
use Rattle.dk_template.specs.declared.grammar.RowId.{RowId}
use Rattle.dk_filters.specs.Answers.{Answers, Parent}
use Rattle.dk_filters.specs.Facts.{facts_of, has_few_samples, has_one_value, is_at_parent, is_constant_instance, is_further_member, is_implied, is_incomparable, row_of_number}
use Rattle.dk_filters.specs.OfSamples.{answers_of}
use Rattle.dk_filters.specs.declared.facts.Facts.{Facts}

abbrev of : Kind → Form → ℤ → ℤ → VarInfo
of k f e i = record { name = []; kind = k; form = f; compar = record { elem = e; index = i } }

abbrev int : ℤ → VarInfo
int e = of kind.Int form.Declared e (negsuc 0)

abbrev x : VarId
x = var 0

abbrev y : VarId
y = var 1

abbrev z : VarId
z = var 2

abbrev i : ℕ → Value
i n = value.Int (pos n)

-- an instance by its row's number
abbrev at : ℕ → List VarId → ℕ × List VarId
at r vars = (r, vars)

abbrev all_of : (RowId → List VarId → Bool) → List (ℕ × List VarId) → List Bool
all_of fact instances = map (λ (e : ℕ × List VarId). fact (row_of_number e.0) e.1) instances

-- ---- a point
-- Three numbers, of which the first two agree; the third one is 7 wherever it is there.
abbrev samples : List (List Value)
samples =
    (i 1 ∷ i 1 ∷ i 7 ∷ [])
    ∷ (i 2 ∷ i 2 ∷ i 7 ∷ [])
    ∷ (i 4 ∷ i 4 ∷ value.Missing ∷ [])
    ∷ (i 5 ∷ i 5 ∷ i 7 ∷ [])
    ∷ []

abbrev here : Answers
here = answers_of (int (pos 1) ∷ int (pos 1) ∷ int (pos 1) ∷ []) samples

-- ---- few: there are four samples, in three of them with z
few_of_x : map (λ least. has_few_samples least here (x ∷ [])) (3 ∷ 4 ∷ 5 ∷ []) ≡ false ∷ false ∷ true ∷ []
few_of_x = refl

few_of_z : map (λ least. has_few_samples least here (x ∷ z ∷ [])) (3 ∷ 4 ∷ []) ≡ false ∷ true ∷ []
few_of_z = refl

-- ---- incomparable
-- numbers of different comparability, and one that may be compared with each
incomparable : map (is_incomparable (int (pos 1) ∷ int (pos 2) ∷ int (negsuc 0) ∷ [])) ((x ∷ y ∷ []) ∷ (x ∷ z ∷ []) ∷ (x ∷ []) ∷ (z ∷ x ∷ y ∷ []) ∷ []) ≡ true ∷ false ∷ false ∷ true ∷ []
incomparable = refl

-- the number of its indices plays no part
of_indices : is_incomparable (of kind.IntSeq form.Declared (pos 1) (pos 3) ∷ of kind.IntSeq form.Declared (pos 1) (pos 4) ∷ []) (x ∷ y ∷ []) ≡ false
of_indices = refl

-- a sequence whose indices have the number 3, an index of number 3 and one of number 4, and what each takes
abbrev taken : Form → List VarInfo
taken shape =
    of kind.IntSeq form.Declared (pos 1) (pos 3)
    ∷ int (pos 3)
    ∷ int (pos 4)
    ∷ of kind.Int shape (pos 1) (negsuc 0)
    ∷ []

abbrev taken_by_index : (VarId → Form) → List Bool
taken_by_index shape = map (λ index. is_incomparable (taken (shape index)) (var 3 ∷ [])) (var 1 ∷ var 2 ∷ [])

foreign : map taken_by_index ((λ v. form.At (var 0) v) ∷ (λ v. form.Upto (var 0) v) ∷ (λ v. form.Before (var 0) v) ∷ (λ v. form.Since (var 0) v) ∷ (λ v. form.After (var 0) v) ∷ [])
    ≡ (false ∷ true ∷ []) ∷ (false ∷ true ∷ []) ∷ (false ∷ true ∷ []) ∷ (false ∷ true ∷ []) ∷ (false ∷ true ∷ []) ∷ []
foreign = refl

-- a size, a first or a last element has no index
no_index : map (λ f. is_incomparable (taken f) (var 3 ∷ [])) (form.Size (var 0) ∷ form.First (var 0) ∷ form.Last (var 0) ∷ []) ≡ false ∷ false ∷ false ∷ []
no_index = refl

-- ---- member
-- y isn't the first of those like it; the equality that tells so is kept, and a line isn't
members : all_of (is_further_member here) (at 2 (x ∷ []) ∷ at 2 (y ∷ []) ∷ at 2 (z ∷ []) ∷ at 11 (x ∷ y ∷ []) ∷ at 15 (x ∷ y ∷ []) ∷ at 14 (y ∷ z ∷ []) ∷ []) ≡ false ∷ true ∷ false ∷ false ∷ true ∷ true ∷ []
members = refl

-- of three that agree the equality of the later two is dropped
abbrev three : Answers
three = answers_of (int (pos 1) ∷ int (pos 1) ∷ int (pos 1) ∷ []) ((i 1 ∷ i 1 ∷ i 1 ∷ []) ∷ (value.Missing ∷ value.Missing ∷ value.Missing ∷ []) ∷ [])

equalities_of_three : all_of (is_further_member three) (at 11 (x ∷ y ∷ []) ∷ at 11 (x ∷ z ∷ []) ∷ at 11 (y ∷ z ∷ []) ∷ []) ≡ false ∷ false ∷ true ∷ []
equalities_of_three = refl

-- variables stand for each other only where both numbers of their comparability are the same, and where they agree
apart : map (λ infos. is_further_member (answers_of infos samples) (row_of_number 2) (y ∷ [])) ((int (pos 1) ∷ int (pos 2) ∷ []) ∷ (int (pos 1) ∷ of kind.Int form.Declared (pos 1) (pos 0) ∷ []) ∷ []) ≡ false ∷ false ∷ []
apart = refl

one_missing : is_further_member (answers_of (int (pos 1) ∷ int (pos 1) ∷ []) ((i 1 ∷ i 1 ∷ []) ∷ (i 2 ∷ value.Missing ∷ []) ∷ [])) (row_of_number 2) (y ∷ []) ≡ false
one_missing = refl

-- the equality of each kind is kept, and no other row
abbrev alike : Kind → Answers
alike k = record { infos = of k form.Declared (pos 1) (pos 1) ∷ of k form.Declared (pos 1) (pos 1) ∷ []; answered = λ r vars. state.Holds; counted = λ vars. 1; agreeing = λ v w. true }

of_each_kind : all_of (is_further_member (alike kind.Int)) (map (λ r. at r (x ∷ y ∷ [])) (11 ∷ 18 ∷ 20 ∷ 22 ∷ 57 ∷ 58 ∷ 59 ∷ 60 ∷ [])) ++ all_of (is_further_member (alike kind.Int)) (map (λ r. at r (x ∷ y ∷ [])) (12 ∷ 14 ∷ 16 ∷ 62 ∷ 63 ∷ 66 ∷ 68 ∷ []))
    ≡ (false ∷ false ∷ false ∷ false ∷ false ∷ false ∷ false ∷ false ∷ []) ++ (true ∷ true ∷ true ∷ true ∷ true ∷ true ∷ true ∷ [])
of_each_kind = refl

-- ---- implied
-- z is only 7, so its bounds, its modulus and that it isn't 0 are implied; that x isn't 0 follows from x >= 1, and its bounds from nothing
of_numbers : all_of (is_implied here) (at 2 (z ∷ []) ∷ at 3 (z ∷ []) ∷ at 4 (z ∷ []) ∷ at 1 (z ∷ []) ∷ at 4 (x ∷ []) ∷ at 3 (x ∷ []) ∷ []) ≡ true ∷ true ∷ true ∷ false ∷ true ∷ false ∷ []
unfolding fit state_of meanings rules put
of_numbers = refl

-- 1 and 3 leave 1 by 2, and are two values; 1, 3, 5 and 7 are too many
abbrev odd : List ℕ → Answers
odd values = answers_of (int (pos 1) ∷ []) (map (λ n. i n ∷ []) values)

of_modulus : map (λ values. is_implied (odd values) (row_of_number 5) (x ∷ [])) ((1 ∷ 3 ∷ []) ∷ (1 ∷ 3 ∷ 5 ∷ 7 ∷ []) ∷ []) ≡ true ∷ false ∷ []
unfolding fit state_of meanings rules put
of_modulus = refl

-- a code or a string that is one value isn't null
abbrev codes_of : List ℕ → Answers
codes_of values = answers_of (of kind.Hash form.Declared (pos 1) (negsuc 0) ∷ []) (map (λ n. value.Hash n ∷ []) values)

of_codes : map (λ values. is_implied (codes_of values) (row_of_number 8) (x ∷ [])) ((5 ∷ 5 ∷ []) ∷ (5 ∷ 6 ∷ []) ∷ []) ≡ true ∷ false ∷ []
unfolding fit state_of meanings rules
of_codes = refl

-- an equality says more than a line
of_lines : map (λ (h : Answers). is_implied h (row_of_number 15) (x ∷ y ∷ [])) (here ∷ answers_of (int (pos 1) ∷ int (pos 1) ∷ []) ((i 1 ∷ i 3 ∷ []) ∷ (i 2 ∷ i 5 ∷ []) ∷ []) ∷ []) ≡ true ∷ false ∷ []
unfolding fit state_of meanings rules put through divisor gcd
of_lines = refl

-- A sum says more than a plane, whichever of the three variables it is: the answers hold for one order of the variables.
abbrev sum_alone : List VarId → Answers
sum_alone sum = record { infos = []; answered = λ r vars. if r.0 == 24 && pointwise (λ (v w : VarId). v.0 == w.0) vars sum then state.Holds else state.Broken; counted = λ vars. 0; agreeing = λ v w. false }

of_planes : map (λ sum. is_implied (sum_alone sum) (row_of_number 67) (x ∷ y ∷ z ∷ [])) ((x ∷ y ∷ z ∷ []) ∷ (y ∷ x ∷ z ∷ []) ∷ (z ∷ x ∷ y ∷ []) ∷ []) ≡ true ∷ true ∷ true ∷ []
unfolding rules rows
of_planes = refl

no_sum : map (λ (e : ℕ × List VarId). is_implied (sum_alone e.1) (row_of_number e.0) (x ∷ y ∷ z ∷ [])) (at 67 [] ∷ at 28 (x ∷ y ∷ z ∷ []) ∷ []) ≡ false ∷ false ∷ []
unfolding rules rows
no_sum = refl

-- the same of strings, and of the elements of sequences: one value says more than that it isn't null, few values than their bounds
abbrev strings_of : List (List ℕ) → Answers
strings_of values = answers_of (of kind.Str form.Declared (pos 1) (negsuc 0) ∷ []) (map (λ t. value.Str t ∷ []) values)

abbrev a_b_c_d : List (List ℕ)
a_b_c_d = codes "\"a\"" ∷ codes "\"b\"" ∷ codes "\"c\"" ∷ codes "\"d\"" ∷ []

of_strings : map (λ values. is_implied (strings_of values) (row_of_number 10) (x ∷ [])) (take 3 a_b_c_d ∷ a_b_c_d ∷ []) ≡ true ∷ false ∷ []
unfolding fit state_of meanings rules put
of_strings = refl

abbrev sequence_of : Kind → Value → Answers
sequence_of k s = answers_of (of k form.Declared (pos 1) (pos 1) ∷ []) ((s ∷ []) ∷ [])

abbrev elements : List ℕ → Answers
elements values = sequence_of kind.IntSeq (value.IntSeq (map pos values))

of_elements : map (λ values. all_of (is_implied (elements values)) (at 36 (x ∷ []) ∷ at 37 (x ∷ []) ∷ at 38 (x ∷ []) ∷ at 35 (x ∷ []) ∷ [])) ((0 ∷ 5 ∷ 6 ∷ []) ∷ (0 ∷ 5 ∷ 6 ∷ 7 ∷ []) ∷ [])
    ≡ (true ∷ true ∷ true ∷ false ∷ []) ∷ (false ∷ false ∷ false ∷ false ∷ []) ∷ []
unfolding fit state_of meanings rules put
of_elements = refl

of_element_codes : map (λ values. is_implied (sequence_of kind.HashSeq (value.HashSeq values)) (row_of_number 46) (x ∷ [])) ((5 ∷ 5 ∷ []) ∷ (5 ∷ 6 ∷ []) ∷ []) ≡ true ∷ false ∷ []
unfolding fit state_of meanings rules
of_element_codes = refl

of_element_strings : map (λ values. is_implied (sequence_of kind.StrSeq (value.StrSeq values)) (row_of_number 48) (x ∷ [])) (take 3 a_b_c_d ∷ a_b_c_d ∷ []) ≡ true ∷ false ∷ []
unfolding fit state_of meanings rules put
of_element_strings = refl

-- ---- constant
-- z has one value: what is said of it and another variable is dropped, what is said of it alone isn't
constants : all_of (is_constant_instance here) (at 13 (x ∷ z ∷ []) ∷ at 13 (z ∷ x ∷ []) ∷ at 11 (x ∷ y ∷ []) ∷ at 1 (z ∷ []) ∷ []) ≡ true ∷ true ∷ false ∷ false ∷ []
unfolding fit state_of meanings put
constants = refl

-- the equality that tells of a variable like another one is kept, also of one value; a line isn't
constant_equality : all_of (is_constant_instance (answers_of (int (pos 1) ∷ int (pos 1) ∷ []) ((i 7 ∷ i 7 ∷ []) ∷ []))) (at 11 (x ∷ y ∷ []) ∷ at 14 (x ∷ y ∷ []) ∷ []) ≡ false ∷ true ∷ []
unfolding fit state_of meanings put
constant_equality = refl

-- a truth value, a code or a string that has one value is as constant as a number; it has not where it has two
abbrev beside_number : Kind → List Value → Answers
beside_number k values = answers_of (of k form.Declared (pos 1) (pos 1) ∷ int (pos 1) ∷ []) (map (λ v. v ∷ i 1 ∷ []) values)

abbrev of_kind : Kind → Value → Value → List Bool
of_kind k v w = map (λ values. has_one_value (beside_number k values) x) ((v ∷ v ∷ []) ∷ (v ∷ w ∷ []) ∷ [])

one_value_of_each_kind : of_kind kind.Bool (value.Bool true) (value.Bool false) ++ of_kind kind.Hash (value.Hash 5) (value.Hash 6) ++ of_kind kind.Str (value.Str (codes "\"a\"")) (value.Str (codes "\"b\""))
    ≡ (true ∷ false ∷ []) ++ (true ∷ false ∷ []) ++ (true ∷ false ∷ [])
unfolding fit state_of meanings put
one_value_of_each_kind = refl

-- a sequence is no scalar, also where it has one value
sequence : is_constant_instance (answers_of (of kind.IntSeq form.Declared (pos 1) (pos 1) ∷ int (pos 1) ∷ []) ((value.IntSeq (pos 7 ∷ []) ∷ i 1 ∷ []) ∷ (value.IntSeq (pos 7 ∷ []) ∷ i 2 ∷ []) ∷ [])) (row_of_number 53) (x ∷ y ∷ []) ≡ false
unfolding fit state_of meanings put
sequence = refl

-- ---- parent
-- a point and its parent, which has the same two numbers the other way round and the same samples
abbrev child : Answers
child = answers_of (int (pos 1) ∷ int (pos 1) ∷ []) ((i 1 ∷ i 3 ∷ []) ∷ (i 2 ∷ i 5 ∷ []) ∷ [])

abbrev parent_of : List VarInfo → List (List Value) → List (Option VarId) → List Parent
parent_of infos samples partners = record { answers = answers_of infos samples; partners = partners } ∷ []

abbrev numbers : List VarInfo
numbers = int (pos 1) ∷ int (pos 1) ∷ []

abbrev exchanged_samples : List (List Value)
exchanged_samples = (i 3 ∷ i 1 ∷ []) ∷ (i 5 ∷ i 2 ∷ []) ∷ []

-- the line through the child's points is the same at the parent, in the child's order of roles
at_parent : all_of (is_at_parent child (parent_of numbers exchanged_samples (Some y ∷ Some x ∷ []))) (at 15 (x ∷ y ∷ []) ∷ at 13 (x ∷ y ∷ []) ∷ at 1 (x ∷ []) ∷ []) ≡ true ∷ true ∷ true ∷ []
unfolding fit state_of meanings put through divisor gcd
at_parent = refl

-- without a parent, without a partner, with partners for the other role, or with another state it doesn't stand there
elsewhere : map (λ parents. is_at_parent child parents (row_of_number 2) (x ∷ [])) (
    []
    ∷ parent_of numbers exchanged_samples (Some y ∷ None ∷ [])
    ∷ parent_of numbers exchanged_samples (Some x ∷ Some y ∷ [])
    ∷ parent_of numbers ((i 5 ∷ i 2 ∷ []) ∷ []) (Some y ∷ Some x ∷ [])
    ∷ []) ≡ false ∷ false ∷ false ∷ false ∷ []
unfolding fit state_of meanings
elsewhere = refl

-- neither does one that is incomparable there, though it isn't here; some choice of the parent's variables is enough
choices : map (λ parents. is_at_parent child parents (row_of_number 13) (x ∷ y ∷ [])) (
    parent_of (int (pos 1) ∷ int (pos 2) ∷ []) exchanged_samples (Some y ∷ Some x ∷ [])
    ∷ parent_of (int (pos 1) ∷ int (pos 2) ∷ int (pos 1) ∷ []) ((i 3 ∷ i 1 ∷ i 1 ∷ []) ∷ (i 5 ∷ i 2 ∷ i 2 ∷ []) ∷ []) (Some y ∷ Some x ∷ Some x ∷ [])
    ∷ []) ≡ false ∷ true ∷ []
unfolding fit state_of meanings
choices = refl

-- ---- all six
-- x and y agree, z is 7 throughout, t is missing once, and u isn't comparable with the others; a parent has a variable like u.
abbrev all_samples : List (List Value)
all_samples =
    (i 1 ∷ i 1 ∷ i 7 ∷ i 100 ∷ i 3 ∷ [])
    ∷ (i 2 ∷ i 2 ∷ i 7 ∷ value.Missing ∷ i 9 ∷ [])
    ∷ (i 4 ∷ i 4 ∷ i 7 ∷ i 300 ∷ i 8 ∷ [])
    ∷ (i 5 ∷ i 5 ∷ i 7 ∷ i 500 ∷ i 20 ∷ [])
    ∷ []

abbrev point : Answers
point = answers_of (int (pos 1) ∷ int (pos 1) ∷ int (pos 1) ∷ int (pos 1) ∷ int (pos 2) ∷ []) all_samples

abbrev parents : List Parent
parents = parent_of (int (pos 2) ∷ []) ((i 3 ∷ []) ∷ (i 8 ∷ []) ∷ (i 9 ∷ []) ∷ (i 20 ∷ []) ∷ []) (Some (var 4) ∷ [])

-- few, incomparable, member, implied, constant, parent
abbrev six : Bool → Bool → Bool → Bool → Bool → Bool → Facts
six f i m im c p = record { few = f; incomparable = i; member = m; implied = im; constant = c; parent = p }

abbrev facts_by : List (ℕ × List VarId) → List Facts
facts_by instances = map (λ (e : ℕ × List VarId). facts_of 4 point parents (row_of_number e.0) e.1) instances

abbrev t : VarId
t = var 3

abbrev u : VarId
u = var 4

all_six : facts_by (
    at 2 (x ∷ [])  -- x >= 1
    ∷ at 11 (x ∷ y ∷ [])  -- x == y
    ∷ at 1 (t ∷ [])  -- t one of { 100, 300, 500 }, in three samples of four
    ∷ at 13 (x ∷ u ∷ [])  -- x < u
    ∷ at 2 (y ∷ [])  -- y >= 1
    ∷ at 4 (x ∷ [])  -- x != 0
    ∷ at 13 (x ∷ z ∷ [])  -- x < z
    ∷ at 2 (u ∷ [])  -- u >= 3
    ∷ at 12 (x ∷ z ∷ [])  -- x != z, as x < z
    ∷ at 2 (t ∷ [])  -- t >= 100
    ∷ at 13 (y ∷ u ∷ [])  -- y < u
    ∷ [])
    ≡ six false false false false false false
    ∷ six false false false false false false
    ∷ six true false false false false false
    ∷ six false true false false false false
    ∷ six false false true false false false
    ∷ six false false false true false false
    ∷ six false false false false true false
    ∷ six false false false false false true
    ∷ six false false false true true false
    ∷ six true false false true false false
    ∷ six false true true false false false
    ∷ []
unfolding facts_of fit state_of meanings rules rows put
all_six = refl
