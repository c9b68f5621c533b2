use Rattle.std.specs.Prelude.{◌≡◌, ◌<◌, ◌^◌, ◌+◌, ◌++◌, ◌∷◌, All, Err, List, length, refl}
use Rattle.std.specs.Fmt.{decimal}
use Rattle.std.proofs.Common.{◌∙◌, ap, arith, subst, sym}
use Rattle.dk_base.specs.declared.kinds.VarInfo.{VarInfo}
use Rattle.dk_base.specs.declared.values.Value.{Value}
use Rattle.dk_derive.proofs.Deriving.{length_with_derived}
use Rattle.dk_derive.specs.Vars.{with_derived_vars}
use Rattle.dk_engine.specs.Exact.{AreOfPoint, AreSamples, IsKeptOf}
use Rattle.dk_engine.specs.Saved.{AreSavedParts, parts_of}
use Rattle.dk_engine.specs.declared.kept.Kept.{Kept}
use Rattle.dk_engine.specs.declared.saved.parts.Parts.{Parts}
use Rattle.dk_engine.specs.declared.saved.PartsFault.{PartsFault}
use Rattle.dk_hierarchy.proofs.OfPoint.{of_point}
use Rattle.dk_hierarchy.specs.Samples.{all_vars_of}
use Rattle.dk_state.specs.Fitting.{FitsParts, FitsSlot}
use Rattle.dk_state.specs.Kept.{behind_samples}
use Rattle.dk_state.specs.Lines.{behind_blank}
use Rattle.dk_state.specs.Loading.{saved_blocks}
use Rattle.dk_state.proofs.Blocks.{block_first}
use Rattle.dk_state.proofs.PartsFit.{parts_fit}
use Rattle.dk_state.proofs.loading.engine_with.Goals as goal

pub from_parts-requires : goal.from_parts-requires
from_parts-requires c =
    let base = c.vars.result.now in
    let few : length (with_derived_vars base) < 2 ^ 32 = omega (arith, length_with_derived base, c.vars.ensures.few) in
    subst AreOfPoint (sym c.in_ok-vars.ensures.vars) (of_point base c.vars.ensures.base few)

pub returns-in-Ok-clause-read : goal.returns-in-Ok-clause-read
returns-in-Ok-clause-read c saved more few at is =
    let p = c.args.p.0 in
    let ps = c.args.points.now in
    let g = c.args.grammar in
    let base = c.vars.result.now in
    let long : length (with_derived_vars base) < 2 ^ 32 = omega (arith, length_with_derived base, c.vars.ensures.few) in
    let own : c.in_ok-vars.vars ≡ all_vars_of ps p = c.in_ok-vars.ensures.vars ∙ ap with_derived_vars c.vars.ensures.vars in
    let seen = c.as_slice.ensures ∙ own in
    let small : length (all_vars_of ps p) < 2 ^ 32 = subst (λ vars. length vars < 2 ^ 32) (ap with_derived_vars c.vars.ensures.vars) long in
    let rest = saved_blocks (p + 1) more in
    let behind = behind_blank (decimal saved.samples) ++ 10 ∷ (behind_samples saved ++ rest) in
    let passed = c.pass.ensures.read (behind_blank (decimal p) ++ behind) (is ∙ block_first p saved more) in
    let place = c.place.ensures.read p behind few refl passed in
    let fit = subst (λ vars. FitsParts vars saved) (sym seen) (parts_fit g (all_vars_of ps p) saved small at.meet at.within) in
    let parts = c.in_ok-parts.ensures.read saved rest fit place.1 in
    let e = c.in-Ok.engine in
    let Stands : List VarInfo → Type 0 = λ vars. (samples : List (List Value)) (kept : Kept) → AreSamples vars samples → IsKeptOf g vars samples kept
    → parts_of kept ≡ c.in_ok-parts.parts → IsKeptOf g vars samples e.kept in
    let stands = subst Stands own c.in-Ok.ensures.stands in
    ((c.in-Ok.ensures.parts ∙ parts.0, λ samples kept are is same. stands samples kept are is (same ∙ sym parts.0)), parts.1)

pub returns-in-Err-Bad-clause-read : goal.returns-in-Err-Bad-clause-read
returns-in-Err-Bad-clause-read c saved more few at is =
    let p = c.args.p.0 in
    let ps = c.args.points.now in
    let g = c.args.grammar in
    let base = c.vars.result.now in
    let long : length (with_derived_vars base) < 2 ^ 32 = omega (arith, length_with_derived base, c.vars.ensures.few) in
    let own : c.in_ok-vars.vars ≡ all_vars_of ps p = c.in_ok-vars.ensures.vars ∙ ap with_derived_vars c.vars.ensures.vars in
    let seen = c.as_slice.ensures ∙ own in
    let small : length (all_vars_of ps p) < 2 ^ 32 = subst (λ vars. length vars < 2 ^ 32) (ap with_derived_vars c.vars.ensures.vars) long in
    let rest = saved_blocks (p + 1) more in
    let behind = behind_blank (decimal saved.samples) ++ 10 ∷ (behind_samples saved ++ rest) in
    let passed = c.pass.ensures.read (behind_blank (decimal p) ++ behind) (is ∙ block_first p saved more) in
    let place = c.place.ensures.read p behind few refl passed in
    let fit = subst (λ vars. FitsParts vars saved) (sym seen) (parts_fit g (all_vars_of ps p) saved small at.meet at.within) in
    let parts = c.in_ok-parts.ensures.read saved rest fit place.1 in
    let meet : AreSavedParts g c.in_ok-vars.vars c.in_ok-parts.parts = subst (λ vars. AreSavedParts g vars c.in_ok-parts.parts) (sym own) (subst (AreSavedParts g (all_vars_of ps p)) (sym parts.0) at.meet) in
    c.in-Err-Bad.ensures.bad (ap (λ (e : PartsFault). Err e) c.in-Err-Bad.field-0-is) meet

pub returns-in-Ok-clause-saved : goal.returns-in-Ok-clause-saved
returns-in-Ok-clause-saved c =
    let p = c.args.p.0 in
    let ps = c.args.points.now in
    let own : c.in_ok-vars.vars ≡ all_vars_of ps p = c.in_ok-vars.ensures.vars ∙ ap with_derived_vars c.vars.ensures.vars in
    let same = sym c.in-Ok.ensures.parts in
    let meet = subst (λ vars. AreSavedParts c.args.grammar vars c.in_ok-parts.parts) own c.in-Ok.ensures.conditions in
    (subst (AreSavedParts c.args.grammar (all_vars_of ps p)) same meet, subst (λ (parts : Parts). All FitsSlot parts.slots) same c.in_ok-parts.ensures.within)
