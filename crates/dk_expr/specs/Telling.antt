-- What is found tells a state.
use Rattle.std.specs.Prelude.{◌≡◌, ◌==◌, ℕ, pos, List, drop, if◌then◌else◌}
use Rattle.dk_forms.specs.declared.states.State.{State}
use Rattle.dk_forms.specs.declared.states.State.TheVariants as state
use Rattle.dk_print.specs.Parts.{known_text}
use Rattle.dk_expr.specs.Readable.{says_null}
use Rattle.dk_expr.specs.declared.found.Parsed.{Parsed}

-- a state that prints the same: of a hash code only whether it is null is printed
abbrev pub printed_state : State → State
printed_state (state.Code h) = state.Code (if h == 0 then 0 else 1)
printed_state s = s

-- what is found in the text is what the state has to tell
abbrev pub Tells : List ℕ → Parsed → State → Type 0
Tells text f (state.Least k) = f.bound ≡ k
Tells text f (state.Greatest k) = f.bound ≡ k
Tells text f (state.Ints ks) = drop f.values text ≡ known_text (state.Ints ks)
Tells text f (state.Truth b) = drop f.values text ≡ known_text (state.Truth b)
Tells text f (state.Code h) = says_null (drop f.code text) ≡ (h == 0)
Tells text f (state.Texts ts) = drop f.values text ≡ known_text (state.Texts ts)
Tells text f (state.Modulus m r) = (f.modulus ≡ pos m) × (f.remainder ≡ pos r)
Tells text f (state.Straight a b c) = (f.first_factor ≡ a) × (f.second_factor ≡ b) × (f.constant ≡ c)
Tells text f (state.Plane a b c d) = (f.first_factor ≡ a) × (f.second_factor ≡ b) × (f.third_factor ≡ c) × (f.constant ≡ d)
Tells text f (state.Offset k) = f.offset ≡ k
Tells text f s = Unit {0}
