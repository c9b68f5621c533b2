-- A greatest value with a number more.
use Rattle.std.specs.Prelude.{◌≡◌, ℤ, ◌∷◌, [], List, refl}
use Rattle.std.proofs.Common.{◌∙◌, ap, sym}
use Rattle.dk_base.specs.Values.Tuples.{int_of, value_at}
use Rattle.dk_base.specs.declared.kinds.VarId.{VarId}
use Rattle.dk_base.specs.declared.values.Value.{Value}
use Rattle.dk_base.specs.declared.values.Value.TheVariants as value
use Rattle.dk_forms.specs.Greatest.{greatest_join, greatest_of}
use Rattle.dk_forms.specs.declared.states.State.{State}
use Rattle.dk_instances.specs.Fits.{tuple_in}
use Rattle.dk_meanings.specs.Meanings.{meanings, state_of}
use Rattle.dk_samples.specs.Samples.{value_in}
use Rattle.dk_template.specs.Templates.{form_of, rows}
use Rattle.dk_template.specs.declared.grammar.RowId.{RowId}
use Rattle.dk_template.specs.declared.templates.StateForm.TheVariants as form
use Rattle.dk_engine.proofs.OneTuple.{slot_by, with_tuple}
use Rattle.dk_engine.specs.Feeding.{with_sample}
use Rattle.dk_engine.specs.declared.slots.slot.Slot.{Slot}

abbrev upper_row : RowId
upper_row = record { 0 = 3 }

upper_form : form_of upper_row ≡ form.Greatest
unfolding rows
upper_form = refl

upper_point : (t : List Value) → state_of upper_row (t ∷ []) ≡ greatest_of (int_of (value_at t 0) ∷ [])
unfolding state_of meanings
upper_point t = refl

upper_sample : (v : VarId) (sample : List Value) (x : ℤ) → value_in sample v ≡ value.Int x
    → (s : State) → greatest_join s (greatest_of (x ∷ [])) ≡ with_sample upper_row (v ∷ []) sample s
upper_sample v sample x at s =
    let ints : List Value = value.Int x ∷ [] in
    let tuple : tuple_in (v ∷ []) sample ≡ ints = ap (λ (i : Value). (let l : List Value = i ∷ [] in l)) at in
    sym (with_tuple upper_row form.Greatest (v ∷ []) sample ints (greatest_of (x ∷ [])) upper_form tuple refl (upper_point ints) s)

-- the same of a slot
pub upper_slot : (slot : Slot) → slot.row.0 ≡ 3 → (v : VarId) → slot.leaders ≡ v ∷ [] → (sample : List Value) (x : ℤ) → value_in sample v ≡ value.Int x
    → greatest_join slot.state (greatest_of (x ∷ [])) ≡ with_sample slot.row slot.leaders sample slot.state
upper_slot slot e v over sample x at = upper_sample v sample x at slot.state ∙ sym (slot_by slot 3 e (v ∷ []) over sample)
