-- Whether a tuple leaves a state as it is, by a row that is known by its number.
use Rattle.std.specs.Prelude.{◌≡◌, ◌↔◌, ℕ, Bool, IsTrue, List, [], ◌∷◌}
use Rattle.std.proofs.Common.{sym, subst}
use Rattle.dk_base.specs.declared.values.Value.{Value}
use Rattle.dk_forms.specs.declared.states.State.{State}
use Rattle.dk_meanings.specs.Meanings.{state_of}
use Rattle.dk_template.specs.Joins.{joined}
use Rattle.dk_template.specs.Templates.{form_of}
use Rattle.dk_template.specs.declared.grammar.RowId.{RowId}

pub stays_by_number : (r : RowId) (n : ℕ) (state : State) (t : List Value) {result : Bool} → r.0 ≡ n
    → IsTrue result ↔ (joined (form_of (record { 0 = n })) state (state_of (record { 0 = n }) (t ∷ [])) ≡ state)
    → IsTrue result ↔ (joined (form_of r) state (state_of r (t ∷ [])) ≡ state)
stays_by_number r n state t {result = result} e h =
    subst (λ (k : ℕ). IsTrue result ↔ (joined (form_of (record { 0 = k })) state (state_of (record { 0 = k }) (t ∷ [])) ≡ state)) (sym e) h
