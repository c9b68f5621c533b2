-- A state with a sample in which none of a tuple's variables is missing.
use Rattle.std.specs.Prelude.{◌≡◌, ℕ, true, List, [], ◌∷◌, if◌then◌else◌}
use Rattle.std.proofs.Common.{◌∙◌, ap}
use Rattle.dk_base.specs.declared.kinds.VarId.{VarId}
use Rattle.dk_base.specs.declared.values.Value.{Value}
use Rattle.dk_forms.specs.declared.states.State.{State}
use Rattle.dk_instances.specs.Fits.{is_whole, tuple_in}
use Rattle.dk_meanings.specs.Meanings.{state_of}
use Rattle.dk_template.specs.Joins.{joined}
use Rattle.dk_template.specs.Templates.{form_of}
use Rattle.dk_template.specs.declared.grammar.RowId.{RowId}
use Rattle.dk_template.specs.declared.templates.StateForm.{StateForm}
use Rattle.dk_engine.specs.Feeding.{with_sample}
use Rattle.dk_engine.specs.declared.slots.slot.Slot.{Slot}

-- by the state of the one tuple
pub with_tuple : (row : RowId) (f : StateForm) (vars : List VarId) (sample : List Value) (t : List Value) (point : State) → form_of row ≡ f → tuple_in vars sample ≡ t
    → is_whole t ≡ true → state_of row (t ∷ []) ≡ point → (s : State) → with_sample row vars sample s ≡ joined f s point
with_tuple row f vars sample t point is tuple whole says s =
    let joining : List Value → State = λ i. if is_whole i then joined (form_of row) s (state_of row (i ∷ [])) else s in
    ap joining tuple
    ∙ (ap (λ b. if b then joined (form_of row) s (state_of row (t ∷ [])) else s) whole ∙ (ap (joined (form_of row) s) says ∙ ap (λ g. joined g s point) is))

abbrev pub row_by : ℕ → RowId
row_by n = record { 0 = n }

-- a slot by its row and its leaders
pub slot_by : (slot : Slot) (n : ℕ) → slot.row.0 ≡ n → (vars : List VarId) → slot.leaders ≡ vars → (sample : List Value)
    → with_sample slot.row slot.leaders sample slot.state ≡ with_sample (row_by n) vars sample slot.state
slot_by slot n e vars over sample =
    ap (λ (m : ℕ). with_sample (row_by m) slot.leaders sample slot.state) e ∙ ap (λ vs. with_sample (row_by n) vs sample slot.state) over
