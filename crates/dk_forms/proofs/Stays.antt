-- From a test of what a value changes to a state that was read, and a result that was computed.
use Rattle.std.specs.Prelude.{◌≡◌, ◌↔◌, Bool, true, IsTrue}
use Rattle.std.specs.Bool.{Decides}
use Rattle.std.proofs.Common.{sym, subst}
use Rattle.dk_forms.specs.declared.states.State.{State}

pub stays_by : (join : State → State → State) (point : State) {read state : State} {result test : Bool} → read ≡ state → result ≡ test → Decides test (join state point ≡ state)
    → IsTrue result ↔ (join read point ≡ read)
stays_by join point {state = state} {result = result} is e d =
    subst (λ s. IsTrue result ↔ (join s point ≡ s)) (sym is) (subst (λ r. IsTrue r ↔ (join state point ≡ state)) (sym e) d)
