-- The definitions at small cases that were worked out by hand.
use Rattle.std.specs.Prelude.{◌≡◌, ℕ, pos, negsuc, true, false, [], ◌∷◌, refl}
use Rattle.dk_base.specs.declared.kinds.Kind.TheVariants as kind
use Rattle.dk_base.specs.declared.kinds.VarId.{VarId}
use Rattle.dk_forms.specs.declared.states.State.TheVariants as state
use Rattle.dk_template.specs.Admitted.{is_written}
use Rattle.dk_template.specs.Exchange.{exchanged_state, span_between, written_order}
use Rattle.dk_template.specs.Fitting.{fits}
use Rattle.dk_template.specs.Premises.{premise_fits}
use Rattle.dk_template.specs.Templates.{form_of, info_of, rank_of, role_kinds, rows}
use Rattle.dk_template.specs.declared.answers.Premise.TheVariants.{GreatestAtMost, LeastAtLeast, Only}
use Rattle.dk_template.specs.declared.exchange.Exchange.TheVariants.{First, Last}
use Rattle.dk_template.specs.declared.grammar.RowId.{RowId}
use Rattle.dk_template.specs.declared.templates.StateForm.TheVariants as form

abbrev row : ℕ → RowId
row n = record { 0 = n }

abbrev var : ℕ → VarId
var n = record { 0 = n }

-- an element is looked for in a sequence of its kind
kinds-member : role_kinds (row 50) ≡ kind.Hash ∷ kind.HashSeq ∷ []
unfolding rows
kinds-member = refl

-- the remainder is asked about last
rank-remainder : rank_of (row 30) ≡ 3
unfolding rows
rank-remainder = refl

-- any sequence against base numbers
info-elements : info_of (row 54) ≡ record { arity = 2; symmetric = false; base = false; plain = true; rank = 1 }
unfolding rows
info-elements = refl

form-last : form_of (row 68) ≡ form.Offset
unfolding rows
form-last = refl

-- the value stands first, and its arguments ascend
written-sum : is_written (row 24) (var 2 ∷ var 0 ∷ var 1 ∷ []) ≡ true
unfolding rows
written-sum = refl

arguments-in_order : written_order (row 24) (var 0 ∷ var 2 ∷ var 1 ∷ []) ≡ var 0 ∷ var 1 ∷ var 2 ∷ []
unfolding rows
arguments-in_order = refl

all-in_order : written_order (row 67) (var 2 ∷ var 1 ∷ var 0 ∷ []) ≡ var 0 ∷ var 1 ∷ var 2 ∷ []
unfolding rows
all-in_order = refl

-- 7 * x - y - 16 = 0 fits, and y = -5 doesn't
line-fits : fits (state.Straight (pos 7) (negsuc 0) (negsuc 15)) ≡ true
line-fits = refl

level-doesnt_fit : fits (state.Straight (pos 0) (pos 1) (pos 5)) ≡ false
level-doesnt_fit = refl

-- x - 2 * y + 3 = 0 with the two exchanged is 2 * x - y - 3 = 0
line-exchanged : exchanged_state First (state.Straight (pos 1) (negsuc 1) (pos 3)) ≡ state.Straight (pos 2) (negsuc 0) (negsuc 2)
line-exchanged = refl

plane-exchanged : exchanged_state Last (state.Plane (pos 2) (pos 3) (negsuc 0) (pos 1)) ≡ state.Plane (pos 2) (negsuc 0) (pos 3) (pos 1)
plane-exchanged = refl

span-exchanged : exchanged_state First (state.Span (pos 1) (pos 5) (pos 0) (pos 2) (pos 4) (pos 0)) ≡ state.Span (pos 4) (pos 2) (pos 0) (pos 5) (pos 1) (pos 0)
unfolding span_between
span-exchanged = refl

-- premises about x, whose least number is 1, and which is only 5
least-suffices : premise_fits (λ r vars. state.Least (pos 1)) (LeastAtLeast (row 2) 0 (pos 1)) (var 0 ∷ []) ≡ true
least-suffices = refl

greatest-doesnt : premise_fits (λ r vars. state.Greatest (pos 1)) (GreatestAtMost (row 3) 0 (negsuc 0)) (var 0 ∷ []) ≡ false
greatest-doesnt = refl

only-five : premise_fits (λ r vars. state.Ints (pos 5 ∷ [])) (Only 0 (pos 5)) (var 0 ∷ []) ≡ true
only-five = refl

five-or_six : premise_fits (λ r vars. state.Ints (pos 5 ∷ pos 6 ∷ [])) (Only 0 (pos 5)) (var 0 ∷ []) ≡ false
five-or_six = refl
