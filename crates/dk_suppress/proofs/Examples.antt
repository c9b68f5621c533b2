-- Small examples, computed from the definitions.
use Rattle.std.specs.Prelude.{◌≡◌, ℕ, true, false, pos, List, [], ◌∷◌, length, map, refl}
use Rattle.dk_base.specs.declared.kinds.VarId.{VarId}
use Rattle.dk_forms.specs.declared.states.State.{State}
use Rattle.dk_forms.specs.declared.states.State.TheVariants.{Ints, Least}
use Rattle.dk_suppress.specs.Rules.{freed, is_suppressed, rules}
use Rattle.dk_template.specs.declared.grammar.RowId.{RowId}

-- there are sixty rules
number_of_rules : length rules ≡ 60
unfolding rules
number_of_rules = refl

abbrev numbers : List RowId → List ℕ
numbers rows = map (λ (r : RowId). r.0) rows

-- what an only value frees; a least value; a sequence whose elements are equal; and a row that is no premise
freed_by_only : numbers (freed (record { 0 = 1 })) ≡ 16 ∷ 24 ∷ 26 ∷ 29 ∷ 30 ∷ 31 ∷ 32 ∷ 33 ∷ 34 ∷ []
unfolding rules freed
freed_by_only = refl

freed_by_least : numbers (freed (record { 0 = 2 })) ≡ 4 ∷ 17 ∷ 29 ∷ 30 ∷ 34 ∷ []
unfolding rules freed
freed_by_least = refl

freed_by_equal_elements : numbers (freed (record { 0 = 43 })) ≡ 40 ∷ 42 ∷ 66 ∷ []
unfolding rules freed
freed_by_equal_elements = refl

freed_by_line : freed (record { 0 = 15 }) ≡ []
unfolding rules freed
freed_by_line = refl

-- where each row has the same state
abbrev always : State → RowId → List VarId → State
always s row vars = s

abbrev x : VarId
x = record { 0 = 0 }

-- a least value of 1 says that no value is 0, and one of 0 doesn't
nonzero_from_one : is_suppressed (always (Least (pos 1))) (record { 0 = 4 }) (x ∷ []) ≡ true
unfolding rules
nonzero_from_one = refl

nonzero_from_none : is_suppressed (always (Least (pos 0))) (record { 0 = 4 }) (x ∷ []) ≡ false
unfolding rules
nonzero_from_none = refl

-- a value that is only 1 divides; one of two values isn't only 1
divides_by_one : is_suppressed (always (Ints (pos 1 ∷ []))) (record { 0 = 16 }) (x ∷ x ∷ []) ≡ true
unfolding rules
divides_by_one = refl
