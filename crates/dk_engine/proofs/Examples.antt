-- Three samples of which a step is easily got wrong, computed from the definitions.
use Rattle.std.specs.Prelude.{◌≡◌, ◌++◌, ◌==◌, ℕ, pos, Bool, true, false, List, [], ◌∷◌, filter, map, refl}
use Rattle.std.specs.List.{dedup, list_any}
use Rattle.dk_base.specs.declared.kinds.VarId.{VarId}
use Rattle.dk_base.specs.declared.values.Value.{Value}
use Rattle.dk_base.specs.declared.values.Value.TheVariants as value
use Rattle.dk_forms.specs.Known.Distinct.{put}
use Rattle.dk_forms.specs.declared.states.State.{State}
use Rattle.dk_forms.specs.declared.states.State.TheVariants.{Empty, Broken, Holds}
use Rattle.dk_instances.specs.Fits.{fit}
use Rattle.dk_meanings.specs.Meanings.{meanings, state_of}
use Rattle.dk_suppress.specs.Rules.{Rule, asks, is_suppressed, holds_of_one, holds_of_two, rules}
use Rattle.dk_suppress.specs.Soundness.{fit_of}
use Rattle.dk_template.specs.Templates.{rows}
use Rattle.dk_template.specs.declared.answers.Premise.{Premise}
use Rattle.dk_template.specs.declared.grammar.RowId.{RowId}
use Rattle.dk_engine.specs.Feeding.Step.{asks_elements, is_lost, slot_vars}

abbrev x : VarId
x = record { 0 = 0 }

abbrev y : VarId
y = record { 0 = 1 }

abbrev row : ℕ → RowId
row n = record { 0 = n }

abbrev int : ℕ → Value
int n = value.Int (pos n)

-- a row's states and whether it is suppressed, before a sample and after it
abbrev Turn : Type 0
Turn = (State × Bool) × (State × Bool)

abbrev turn : List (List Value) → List Value → RowId → List VarId → Turn
turn samples sample r vars =
    ((fit r vars samples, is_suppressed (fit_of samples) r vars), (fit r vars (samples ++ sample ∷ []), is_suppressed (fit_of (samples ++ sample ∷ [])) r vars))

-- ---- a slot that closes though it wasn't Empty
-- The sequence x was there, without elements, and was missing. It has the element 5 now. That no element is 0 held and holds; but the
-- least element, Empty so far, begins to suppress it. The sample leaves the state as it is, and its pattern isn't new.
abbrev no_elements : List (List Value)
no_elements = (value.IntSeq [] ∷ []) ∷ (value.Missing ∷ []) ∷ []

abbrev one_element : List Value
one_element = value.IntSeq (pos 5 ∷ []) ∷ []

least_element : fit (row 36) (x ∷ []) no_elements ≡ Empty
unfolding fit state_of meanings rows
least_element = refl

closes : turn no_elements one_element (row 38) (x ∷ []) ≡ ((Holds, false), (Holds, true))
unfolding fit state_of meanings rows rules
closes = refl

-- the row of the rules that ask for the least or the greatest element
closing_rows : map (λ (r : Rule). r.0.0) (filter asks_elements rules) ≡ 38 ∷ 38 ∷ []
unfolding rules
closing_rows = refl

-- the conclusions that are premises in turn
asked_conclusions : map (λ (r : RowId). r.0) (filter (λ r. list_any (asks r) rules) (dedup (λ (a b : RowId). a.0 == b.0) (map (λ (r : Rule). r.0) rules))) ≡ 4 ∷ 14 ∷ 16 ∷ 24 ∷ 66 ∷ []
unfolding rules
asked_conclusions = refl

-- ---- a premise that stands the other way round in its slot
-- x and y were equal where both were there. Now y is twice x: that x divides y is freed. Its premise, that y equals x, has the slot of
-- x and y: the slot's variables stand in the roles of the conclusion in either order.
abbrev equal_numbers : List (List Value)
equal_numbers = (int 1 ∷ int 1 ∷ []) ∷ (value.Missing ∷ int 3 ∷ []) ∷ []

abbrev twice : List Value
twice = int 2 ∷ int 4 ∷ []

abbrev equality : Premise
equality = holds_of_two 11 0 1

freed_backwards : turn equal_numbers twice (row 16) (y ∷ x ∷ []) ≡ ((Holds, true), (Holds, false))
unfolding fit state_of meanings rows rules put
freed_backwards = refl

freed_forwards : turn equal_numbers twice (row 16) (x ∷ y ∷ []) ≡ ((Holds, true), (Broken, false))
unfolding fit state_of meanings rows rules put
freed_forwards = refl

lost_backwards : is_lost (fit_of equal_numbers) (fit_of (equal_numbers ++ twice ∷ [])) equality (y ∷ x ∷ []) ≡ true
unfolding fit state_of meanings rows
lost_backwards = refl

slot_backwards : slot_vars equality (y ∷ x ∷ []) ≡ x ∷ y ∷ []
unfolding rows
slot_backwards = refl

-- ---- a lost premise that had no slot
-- x and y were equal where both were there, and y was at least 1. Now x is missing and y is 0. That y divides x still holds, and is
-- freed. Its premises are that x equals y, which isn't lost, and that y isn't 0, which is; but that had no slot: the least number of y
-- suppressed it. So it is a candidate, is found Broken, and only through it is that y divides x reached.
abbrev positive_numbers : List (List Value)
positive_numbers = (int 1 ∷ int 1 ∷ []) ∷ (int 2 ∷ int 2 ∷ []) ∷ (value.Missing ∷ int 3 ∷ []) ∷ []

abbrev zero_alone : List Value
zero_alone = value.Missing ∷ int 0 ∷ []

freed_by_candidate : turn positive_numbers zero_alone (row 16) (x ∷ y ∷ []) ≡ ((Holds, true), (Holds, false))
unfolding fit state_of meanings rows rules put
freed_by_candidate = refl

candidate : turn positive_numbers zero_alone (row 4) (y ∷ []) ≡ ((Holds, true), (Broken, false))
unfolding fit state_of meanings rows rules put
candidate = refl

equality_stays : is_lost (fit_of positive_numbers) (fit_of (positive_numbers ++ zero_alone ∷ [])) equality (x ∷ y ∷ []) ≡ false
unfolding fit state_of meanings rows
equality_stays = refl

nonzero_is_lost : is_lost (fit_of positive_numbers) (fit_of (positive_numbers ++ zero_alone ∷ [])) (holds_of_one 4 1) (x ∷ y ∷ []) ≡ true
unfolding fit state_of meanings rows
nonzero_is_lost = refl
