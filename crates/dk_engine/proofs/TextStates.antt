-- A proper state of texts is one of a row that wants memory.
use Rattle.std.specs.Prelude.{◌≡◌, refl}
use Rattle.dk_forms.specs.Copies.{IsTexts}
use Rattle.dk_forms.specs.declared.states.State.{State}
use Rattle.dk_forms.specs.declared.states.State.TheVariants as state
use Rattle.dk_template.specs.Proper.{IsProper}
use Rattle.dk_template.specs.Templates.{IsRow, form_of}
use Rattle.dk_template.specs.declared.grammar.RowId.{RowId}
use Rattle.dk_template.specs.declared.templates.StateForm.{StateForm}
use Rattle.dk_template.specs.declared.templates.StateForm.TheVariants as form
use Rattle.dk_engine.proofs.Memories.{texts_want}
use Rattle.dk_engine.specs.Reading.Memory.{wants_memory}
use Rattle.std.specs.Prelude.{true}

texts_form : (f : StateForm) (s : State) → IsProper f s → IsTexts s → f ≡ form.Texts
texts_form form.Texts s p i = refl
texts_form form.Plain (state.Texts t) p i = absurd p
texts_form form.Least (state.Texts t) p i = absurd p
texts_form form.Greatest (state.Texts t) p i = absurd p
texts_form form.Ints (state.Texts t) p i = absurd p
texts_form form.Truth (state.Texts t) p i = absurd p
texts_form form.Code (state.Texts t) p i = absurd p
texts_form form.Modulus (state.Texts t) p i = absurd p
texts_form form.Line (state.Texts t) p i = absurd p
texts_form form.Plane (state.Texts t) p i = absurd p
texts_form form.Offset (state.Texts t) p i = absurd p.0
texts_form _ _ p i = absurd i

pub texts_state_wants : (row : RowId) → IsRow row → (s : State) → IsProper (form_of row) s → IsTexts s → wants_memory row ≡ true
texts_state_wants row is s p i = texts_want row is (texts_form (form_of row) s p i)
