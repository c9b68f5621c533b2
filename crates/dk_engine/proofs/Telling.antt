-- What tells the fits of samples tells which premises fit and what is suppressed.
use Rattle.std.specs.Prelude.{◌≡◌, IsTrue, List, refl}
use Rattle.std.proofs.Common.{ap, inl, inr, sym, ◌∙◌}
use Rattle.std.proofs.lemmas.Bool.{cases_Bool, true≢false}
use Rattle.dk_base.specs.declared.kinds.VarId.{VarId}
use Rattle.dk_base.specs.declared.kinds.VarInfo.{VarInfo}
use Rattle.dk_base.specs.declared.values.Value.{Value}
use Rattle.dk_instances.specs.Fits.{premise_holds}
use Rattle.dk_suppress.specs.Rules.{is_suppressed}
use Rattle.dk_suppress.specs.Soundness.{fit_of}
use Rattle.dk_template.specs.Admitted.{admits}
use Rattle.dk_template.specs.Premises.{premise_fits, row_of, suffices, vars_of}
use Rattle.dk_template.specs.declared.answers.Premise.{Premise}
use Rattle.dk_template.specs.declared.grammar.Grammar.{Grammar}
use Rattle.dk_template.specs.declared.grammar.RowId.{RowId}
use Rattle.dk_engine.proofs.PremiseSlots.{usable}
use Rattle.dk_engine.proofs.LostPremises.{answers_differ}
use Rattle.dk_engine.specs.Feeding.Step.{Answer, IsPremiseOf, Tells}

-- the fits tell themselves
pub fits_tell : (grammar : Grammar) (infos : List VarInfo) (samples : List (List Value)) → Tells grammar infos samples (fit_of samples)
fits_tell grammar infos samples = record { each = λ row is vars admitted. refl }

module _ {grammar : Grammar} {infos : List VarInfo} {samples : List (List Value)} {answered : Answer} (tells : Tells grammar infos samples answered) (row : RowId) (vars : List VarId) (admitted : IsTrue (admits row infos vars)) where
  -- a premise of one of the row's rules
  pub premise_told : (p : Premise) → IsPremiseOf row p → premise_fits answered p vars ≡ premise_holds samples p vars
  premise_told p of = let can = usable grammar infos vars row admitted p of in ap (suffices p) (tells.each (row_of p) can.row (vars_of p vars) can.admitted)

  pub suppressed_told : is_suppressed answered row vars ≡ is_suppressed (fit_of samples) row vars
  suppressed_told = elim (cases_Bool (is_suppressed answered row vars)) [
    | inl so ↦ elim (cases_Bool (is_suppressed (fit_of samples) row vars)) [
      | inl also ↦ so ∙ sym also
      | inr not_so ↦ let d = answers_differ answered (fit_of samples) row vars so not_so in absurd (true≢false (sym d.2 ∙ (premise_told d.0 d.1 ∙ d.3)))
    ]
    | inr none ↦ elim (cases_Bool (is_suppressed (fit_of samples) row vars)) [
      | inl so ↦ let d = answers_differ (fit_of samples) answered row vars so none in absurd (true≢false (sym d.2 ∙ (sym (premise_told d.0 d.1) ∙ d.3)))
      | inr also ↦ none ∙ sym also
    ]
  ]
