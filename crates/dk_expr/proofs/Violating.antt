-- What a test of an assertion comes to.
use Rattle.std.specs.Prelude.{◌≡◌, ◌↔◌, [], ◌∷◌, Bool, true, false, not, IsTrue, List, refl}
use Rattle.std.proofs.Common.{◌∙◌, ap, subst, sym}
use Rattle.std.proofs.lemmas.Bool.{false≢true}
use Rattle.std.proofs.lemmas.List.Elements.{All-cons, All-nil}
use Rattle.dk_base.specs.declared.values.Value.{Value}
use Rattle.dk_forms.specs.declared.states.State.{State}
use Rattle.dk_forms.specs.declared.states.State.TheVariants as state
use Rattle.dk_meanings.proofs.RowLaws.{laws_at}
use Rattle.dk_meanings.specs.Meanings.{state_of}
use Rattle.dk_template.specs.Proper.{IsProper}
use Rattle.dk_template.specs.Rows.{IsTuple}
use Rattle.dk_template.specs.Templates.{IsRow, form_of, role_kinds}
use Rattle.dk_template.specs.declared.grammar.RowId.{RowId}
use Rattle.dk_template.specs.declared.templates.StateForm.{StateForm}
use Rattle.dk_template.specs.declared.templates.StateForm.TheVariants as form
use Rattle.dk_expr.specs.Violations.{IsUpheld, IsViolated, kept_state, with_tuple}

-- ---- a state that isn't Empty
pub other_violated : (s next : State) (stays : Bool) → (s ≡ state.Empty → ⊥) → (IsTrue stays ↔ (next ≡ s)) → IsTrue (not stays) ↔ IsViolated s next
other_violated state.Empty next stays h k = absurd (h refl)
other_violated s next true h k = ((λ e. absurd (false≢true e)), (λ n. absurd (n (k.0 refl))))
other_violated s next false h k = ((λ e same. false≢true (k.1 same)), (λ n. refl))

pub other_kept : (s next : State) → (s ≡ state.Empty → ⊥) → kept_state s next ≡ s
other_kept state.Empty next h = absurd (h refl)
other_kept s next h = refl

pub other_upheld : (s next : State) (stays : Bool) → (s ≡ state.Empty → ⊥) → (IsTrue stays ↔ (next ≡ s)) → IsTrue (not (not stays)) → IsUpheld s next
other_upheld state.Empty next stays h k e = absurd (h refl)
other_upheld s next true h k e = k.0 refl
other_upheld s next false h k e = absurd (false≢true e)

-- a state that a test tells from another one
pub is_other : (is_same : Bool) (s other : State) → is_same ≡ false → (IsTrue is_same ↔ (s ≡ other)) → s ≡ other → ⊥
is_other is_same s other differs tells is = false≢true (sym differs ∙ tells.1 is)

-- ---- a first tuple
empty_proper : (form : StateForm) → IsProper form state.Empty
empty_proper form.Texts = (tt, tt)
empty_proper form.Offset = (tt, tt)
empty_proper _ = tt

stays_proper : (form : StateForm) (next : State) → IsProper form next → IsProper form (kept_state state.Empty next)
stays_proper form state.Broken p = empty_proper form
stays_proper form next p = p

module _ (row : RowId) (is : IsRow row) (tuple : List Value) (of : IsTuple (role_kinds row) tuple) where
  pub first_proper : IsProper (form_of row) (state_of row (tuple ∷ []))
  first_proper = (laws_at row is refl refl).proper (tuple ∷ []) (All-cons (IsTuple (role_kinds row)) tuple [] of (All-nil (IsTuple (role_kinds row))))

  pub first_tuple : with_tuple row state.Empty tuple ≡ state_of row (tuple ∷ [])
  first_tuple = (laws_at row is refl refl).joins.neutral (state_of row (tuple ∷ [])) first_proper

  -- it is the state of the tuple
  pub first_next : (next : State) → next ≡ state_of row (tuple ∷ []) → next ≡ with_tuple row state.Empty tuple
  first_next next is = is ∙ sym first_tuple

  pub first_not_violated : (next : State) → next ≡ state_of row (tuple ∷ []) → (next ≡ state.Broken → ⊥) → IsTrue false ↔ (with_tuple row state.Empty tuple ≡ state.Broken)
  first_not_violated next is other = ((λ e. absurd (false≢true e)), (λ e. absurd (other (first_next next is ∙ e))))

  pub first_kept : (next : State) → next ≡ state_of row (tuple ∷ []) → (next ≡ state.Broken → ⊥) → next ≡ kept_state state.Empty (with_tuple row state.Empty tuple)
  first_kept next is other = sym (kept next other) ∙ ap (kept_state state.Empty) (first_next next is)
    where
      kept : (next : State) → (next ≡ state.Broken → ⊥) → kept_state state.Empty next ≡ next
      kept state.Broken h = absurd (h refl)
      kept next h = refl

  -- and proper
  pub kept_proper : (new_row : RowId) (new : State) → new_row ≡ row → new ≡ kept_state state.Empty (with_tuple row state.Empty tuple) → IsProper (form_of new_row) new
  kept_proper new_row new same e =
      subst (λ r. IsProper (form_of r) new) (sym same)
      (subst (IsProper (form_of row)) (sym e)
      (stays_proper (form_of row) (with_tuple row state.Empty tuple) (subst (IsProper (form_of row)) (sym first_tuple) first_proper)))

pub first_upheld : (next : State) (violated : Bool) → (IsTrue violated ↔ (next ≡ state.Broken)) → IsTrue (not violated) → IsUpheld state.Empty next
first_upheld next true tells e broken = false≢true e
first_upheld next false tells e broken = false≢true (tells.1 broken)
