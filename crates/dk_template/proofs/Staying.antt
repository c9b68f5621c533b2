-- Whether a tuple leaves a state as it is, for a row whose form and state of the tuple are known.
use Rattle.std.specs.Prelude.{◌≡◌, ◌↔◌, Bool, IsTrue}
use Rattle.std.proofs.Common.{sym, subst}
use Rattle.dk_forms.specs.declared.states.State.{State}
use Rattle.dk_template.specs.Joins.{joined}
use Rattle.dk_template.specs.Proper.{IsProper}
use Rattle.dk_template.specs.declared.templates.StateForm.{StateForm}

-- a state of the row is one of the form
pub proper_by : {form other : StateForm} → form ≡ other → (state : State) → IsProper form state → IsProper other state
proper_by e state p = subst (λ f. IsProper f state) e p

-- what tells it of the form's join and the known state tells it of the row's
pub stays_as : {form other : StateForm} {point known : State} (state : State) {result : Bool} → form ≡ other → point ≡ known
    → IsTrue result ↔ (joined other state known ≡ state) → IsTrue result ↔ (joined form state point ≡ state)
stays_as {other = other} {point = point} state {result = result} e k h =
    subst (λ f. IsTrue result ↔ (joined f state point ≡ state)) (sym e) (subst (λ p. IsTrue result ↔ (joined other state p ≡ state)) (sym k) h)
