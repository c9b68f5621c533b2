-- What is read is proper, and so is what is read with one sample more.
use Rattle.std.specs.Prelude.{◌≡◌, ◌==◌, ℕ, zero, suc, true, false, List, [], ◌∷◌, cond, refl}
use Rattle.std.proofs.lemmas.List.Elements.{All-cons, All-nil}
use Rattle.dk_base.specs.declared.kinds.VarId.{VarId}
use Rattle.dk_base.specs.declared.kinds.VarInfo.{VarInfo}
use Rattle.dk_base.specs.declared.values.Value.{Value}
use Rattle.dk_forms.specs.declared.states.State.{State}
use Rattle.dk_forms.specs.declared.states.State.TheVariants as state
use Rattle.dk_instances.proofs.Whole.{is_tuple}
use Rattle.dk_instances.specs.Fits.{is_whole, tuple_in}
use Rattle.dk_instances.specs.Laws.{IsSample}
use Rattle.dk_meanings.proofs.RowLaws.{laws_of}
use Rattle.dk_meanings.specs.Meanings.{state_of}
use Rattle.dk_template.proofs.Exchanges.{proper_disarranged}
use Rattle.dk_template.proofs.ProperStates.{proper_laws}
use Rattle.dk_template.proofs.WrittenOrder.{written_tuples_are_admitted}
use Rattle.dk_template.specs.Admitted.{admits}
use Rattle.dk_template.specs.Exchange.{written_order}
use Rattle.dk_template.specs.Joins.{joined}
use Rattle.dk_template.specs.Proper.{IsProper}
use Rattle.dk_template.specs.Rows.{IsTuple}
use Rattle.dk_template.specs.Templates.{IsRow, IsRowOf, form_of, role_kinds, template_of}
use Rattle.dk_template.specs.declared.grammar.Grammar.{Grammar}
use Rattle.dk_template.specs.declared.grammar.RowId.{RowId}
use Rattle.dk_engine.proofs.Leading.{admit_all}
use Rattle.dk_engine.proofs.Readings.{row_is}
use Rattle.dk_engine.proofs.WellKept.{read_written_proper}
use Rattle.dk_engine.specs.Exact.{AreOfPoint}
use Rattle.dk_engine.specs.Feeding.{read_after, with_sample}
use Rattle.dk_engine.specs.Reading.{read_leaders, read_written, state_read}
use Rattle.dk_engine.specs.Reading.Parts.{leaders_of}
use Rattle.dk_engine.specs.Saved.Conditions.{CanBeRead}
use Rattle.dk_engine.specs.declared.kept.Kept.{Kept}

module _ (infos : List VarInfo) (sample : List Value) (sampled : IsSample infos sample) where
  pub with_sample_proper : (row : RowId) → IsRow row → (vars : List VarId) → admits row infos vars ≡ true → (s : State) → IsProper (form_of row) s → IsProper (form_of row) (with_sample row vars sample s)
  with_sample_proper row is vars a s p =
      let t = tuple_in vars sample in
      elim (is_whole t) as (λ b. is_whole t ≡ b → IsProper (form_of row) (cond b (joined (form_of row) s (state_of row (t ∷ []))) s)) [
        | true ↦ λ w. (proper_laws (form_of row)).closed s (state_of row (t ∷ [])) p
            ((laws_of row is).proper (t ∷ []) (All-cons (IsTuple (role_kinds row)) t [] (is_tuple infos sample sampled row vars a w) (All-nil (IsTuple (role_kinds row)))))
        | false ↦ λ w. p
      ] refl

module _ (g : Grammar) (infos : List VarInfo) (point : AreOfPoint infos) (kept : Kept) (can : CanBeRead infos kept) where
  read_leaders_proper : (n : ℕ) (row : RowId) → IsRowOf g row → (vars : List VarId) → admits row infos vars ≡ true → IsProper (form_of row) (read_leaders n kept row vars)
  unfolding read_leaders
  read_leaders_proper zero row of vars a = (proper_laws (form_of row)).broken_proper
  read_leaders_proper (suc n) row of vars a =
      proper_disarranged (form_of row) (template_of row).symmetry vars (read_written kept (read_leaders n kept) row (written_order row vars))
      (read_written_proper g infos kept can (read_leaders n kept) row (written_order row vars) of (written_tuples_are_admitted row (row_is g row of) infos vars a))

  pub read_proper : (row : RowId) → IsRowOf g row → (vars : List VarId) → admits row infos vars ≡ true → IsProper (form_of row) (state_read kept row vars)
  unfolding state_read
  read_proper row of vars a = elim (kept.samples == 0) as (λ b. IsProper (form_of row) (cond b state.Empty (read_leaders 4 kept row (leaders_of kept.leaders vars)))) [
    | true ↦ (proper_laws (form_of row)).empty_proper
    | false ↦ read_leaders_proper 4 row of (leaders_of kept.leaders vars) (admit_all infos point kept.leaders can.leaders row vars a)
  ]

  pub read_after_proper : (sample : List Value) → IsSample infos sample → (row : RowId) → IsRowOf g row → (vars : List VarId) → admits row infos vars ≡ true → IsProper (form_of row) (read_after kept sample row vars)
  unfolding read_after
  read_after_proper sample sampled row of vars a = with_sample_proper infos sample sampled row (row_is g row of) vars a (state_read kept row vars) (read_proper row of vars a)
