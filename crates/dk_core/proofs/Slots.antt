-- The slots of samples are within the types of their parts.
use Rattle.std.proofs.Common.{◌≡◌, ◌∙◌, ◌-◌, ◌<◌, ◌≤◌, ◌&&◌, ◌==◌, All, Bool, true, false, List, [], get_or, length, refl, sym, subst, arith}
use Rattle.std.specs.Prelude.{slice_get, zip}
use Rattle.std.specs.List.{list_all}
use Rattle.std.proofs.lemmas.Bool.{eqb-true}
use Rattle.std.proofs.lemmas.List.{length-map}
use Rattle.std.proofs.lemmas.List.Elements.{All-nil, Contains-get_or}
use Rattle.dk_base.specs.declared.kinds.VarId.{VarId}
use Rattle.dk_base.specs.declared.kinds.VarInfo.{VarInfo}
use Rattle.dk_base.specs.declared.values.Value.{Value}
use Rattle.dk_classes.proofs.OwnLeaders.{leads_from_own}
use Rattle.dk_engine.specs.Exact.{AreOfPoint, AreSamples, IsKeptOf, IsSlot}
use Rattle.dk_engine.specs.declared.kept.Kept.{Kept}
use Rattle.dk_engine.specs.declared.slots.slot.Slot.{Slot}
use Rattle.dk_forms.specs.declared.states.State.TheVariants.{Broken}
use Rattle.dk_instances.proofs.Whole.{are_tuples, fit_is_proper}
use Rattle.dk_instances.specs.Fits.{fit, tuples_of}
use Rattle.dk_meanings.specs.Meaning.{Meaning, form_by, relation, state_by}
use Rattle.dk_meanings.specs.Meanings.{meaning_of, state_of}
use Rattle.dk_state.proofs.CompactParts.{kept_exact}
use Rattle.dk_state.specs.Compact.{compact_form_of}
use Rattle.dk_state.specs.Fitting.{FitsSlot, FitsState}
use Rattle.dk_template.specs.Admitted.{admits, suits}
use Rattle.dk_template.specs.Proper.{IsProper}
use Rattle.dk_template.specs.Templates.{IsRow, IsRowOf, form_of, role_kinds, roles_of, template_of}
use Rattle.dk_template.specs.declared.grammar.Grammar.{Grammar}
use Rattle.dk_template.specs.declared.grammar.Grammar.TheVariants as grammar
use Rattle.dk_template.specs.declared.grammar.RowId.{RowId}
use Rattle.dk_template.specs.declared.templates.Role.{Role}
use Rattle.dk_template.specs.declared.templates.StateForm.{StateForm}
use Rattle.dk_template.specs.declared.templates.Takes.{Takes}
use Rattle.dk_template.specs.declared.templates.Takes.TheVariants.{One, Two, Three}
use Rattle.dk_core.proofs.RowsFit.{row_form, row_within}
use Rattle.dk_core.proofs.StatesFit.{meant_fits}

row_of : (g : Grammar) (row : RowId) → IsRowOf g row → IsRow row
row_of grammar.One row is = (is.0, omega (arith, is.1))
row_of grammar.Two row is = (is.0, omega (arith, is.1))

first_of : (a b : Bool) → (a && b) ≡ true → a ≡ true
first_of true b e = refl
first_of false b e = absurd (cc e)

few_roles : (takes : Takes) → length (roles_of takes) ≤ 3
few_roles (One a) = omega arith
few_roles (Two a b) = omega arith
few_roles (Three a b c) = omega arith

-- a row takes at most three variables
few_admitted : (row : RowId) (infos : List VarInfo) (vars : List VarId) → admits row infos vars ≡ true → length vars ≤ 3
few_admitted row infos vars a =
    let roles = roles_of (template_of row).takes in
    let same : length vars ≡ length roles =
    eqb-true (length vars) (length roles) (first_of (length vars == length roles) (list_all (λ (p : Role × VarId). suits p.0 (slice_get infos p.1.0)) (zip roles vars)) a) in
    let few = few_roles (template_of row).takes in
    omega (arith, same, few)

-- the state of samples, where it isn't broken
pub fit_fits : (row : RowId) → IsRow row → (infos : List VarInfo) (vars : List VarId) → admits row infos vars ≡ true → (samples : List (List Value)) → AreSamples infos samples
    → (fit row vars samples ≡ Broken → ⊥) → FitsState (fit row vars samples)
unfolding fit state_of
fit_fits row is infos vars a samples all unbroken =
    let low = is.0 in
    let high = is.1 in
    let within : row.0 - 1 < 68 = omega (arith, low, high) in
    let none : Meaning = relation (λ tuple. false) in
    let form : form_by (meaning_of row) ≡ form_of row = row_form row in
    let proper : IsProper (form_of row) (state_by (meaning_of row) (tuples_of vars samples)) = fit_is_proper row is infos vars a samples all in
    let P : StateForm → Type 0 = λ f. IsProper f (state_by (meaning_of row) (tuples_of vars samples)) in
    meant_fits (role_kinds row) (meaning_of row) (row_within (row.0 - 1) within none (role_kinds row)) (tuples_of vars samples) (are_tuples row infos vars a samples all) (subst P (sym form) proper) unbroken

slot_fits : (g : Grammar) (infos : List VarInfo) (samples : List (List Value)) (kept : Kept) (slot : Slot) → AreOfPoint infos → AreSamples infos samples → IsKeptOf g infos samples kept
    → IsSlot g infos samples kept.leaders kept.known slot → FitsSlot slot
slot_fits g infos samples kept slot point all is own =
    let row = row_of g slot.row own.over.of_grammar in
    let fits : FitsState (fit slot.row slot.leaders samples) = fit_fits slot.row row infos slot.leaders own.over.admitted samples all (λ e. own.unbroken (own.state ∙ e)) in
    record {
      row = omega (arith, row.1);
      few = few_admitted slot.row infos slot.leaders own.over.admitted;
      leaders = λ k d l.
          let leads = (leads_from_own kept.leaders (get_or slot.leaders k d) (own.over.lead k d l)).0 in
          let many : length kept.leaders ≡ length infos = is.leaders.long ∙ length-map infos (λ (v : VarInfo). v.kind) in
          let few = point.few in
          omega (arith, leads, many, few);
      state = subst FitsState (sym own.state) fits;
    }

pub slots_fit : (g : Grammar) (infos : List VarInfo) (samples : List (List Value)) → AreOfPoint infos → AreSamples infos samples → All FitsSlot (compact_form_of g infos samples).slots
slots_fit g infos samples point all =
    let kept = compact_form_of g infos samples in
    let is = kept_exact g infos samples in
    λ k d l. slot_fits g infos samples kept (get_or kept.slots k d) point all is ((is.slots.each (get_or kept.slots k d)).0 (Contains-get_or kept.slots k d l))

pub no_slots : (g : Grammar) (infos : List VarInfo) → All FitsSlot (compact_form_of g infos []).slots
unfolding compact_form_of
no_slots g infos = All-nil FitsSlot
