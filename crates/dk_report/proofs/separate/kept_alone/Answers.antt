use Rattle.std.specs.Prelude.{◌≡◌, ◌<◌, ◌^◌, [], ◌∷◌, All, List, length, map, ℕ, refl}
use Rattle.std.specs.List.{AllZip}
use Rattle.std.proofs.Common.{◌∙◌, ap, arith, subst, sym}
use Rattle.std.proofs.lemmas.List.Elements.{All-nil}
use Rattle.dk_base.specs.declared.kinds.VarInfo.{VarInfo}
use Rattle.dk_base.specs.declared.values.Value.{Value}
use Rattle.dk_engine.specs.Reading.Levels.{Whole}
use Rattle.dk_filters.specs.Answers.{Parent}
use Rattle.dk_filters.specs.Candidates.{candidates_kept, candidates_of}
use Rattle.dk_filters.specs.Found.{found_of}
use Rattle.dk_filters.specs.Laws.{ShowTheSame}
use Rattle.dk_filters.specs.OfSamples.{answers_of}
use Rattle.dk_filters.specs.Parents.{IsViewOf, answers_by}
use Rattle.dk_filters.specs.declared.parents.ParentView.{ParentView}
use Rattle.dk_hierarchy.proofs.Alone.{each_stands}
use Rattle.dk_hierarchy.specs.Merging.{Joint, merged_agree, merged_count, merged_state}
use Rattle.dk_hierarchy.specs.Standing.{EngineStandsFor, EnginesStandFor}
use Rattle.dk_report.proofs.Listable.{IsOne}
use Rattle.dk_report.proofs.Reported.{if_ok}
use Rattle.dk_report.proofs.Telling.{same-candidates, tells_of}
use Rattle.dk_report.specs.Asked.{answers_of_joint, parent_of_view}
use Rattle.dk_report.specs.Keeping.{keeps}
use Rattle.dk_report.specs.Parents.{IsViewBy}
use Rattle.dk_report.specs.declared.parents.MergedParent.{MergedParent}
use Rattle.dk_report.proofs.separate.kept_alone.Goals as goal

no_views : (views : List (ParentView Joint)) (parents : List MergedParent) → parents ≡ [] → AllZip IsViewBy views parents → views ≡ []
no_views [] parents none zip = refl
no_views (view ∷ views) parents none zip = absurd (subst (AllZip IsViewBy (view ∷ views)) none zip)

pub of-requires-clause-small : goal.of-requires-clause-small
of-requires-clause-small c =
    let few = c.requires.few in
    let same = ap (λ (vs : List VarInfo). length vs) (c.vars.ensures ∙ ap (λ (e : Whole). e.infos) c.in_ok-here.ensures.here) in
    omega (arith, few, same)

pub of-requires-clause-parents : goal.of-requires-clause-parents
of-requires-clause-parents c =
    let none = no_views c.in_ok-views.views.items c.as_slice.result.now (c.as_slice.ensures.value ∙ c.new-parents.ensures.items) c.in_ok-views.ensures in
    let small = λ (view : ParentView Joint). length view.vars.now < 2 ^ 32 in
    subst (All small) (sym (c.as_slice-2.ensures.value ∙ none)) (All-nil small)

pub list_candidates-requires-clause-few : goal.list_candidates-requires-clause-few
list_candidates-requires-clause-few c =
    let few = c.requires.few in
    let same = ap (λ (e : Whole). length e.infos) c.in_ok-here.ensures.here in
    omega (arith, few, same)

pub list_candidates-requires-clause-asked : goal.list_candidates-requires-clause-asked
list_candidates-requires-clause-asked c =
    let joint : Joint = c.in_ok-here.here in
    let none = no_views c.in_ok-views.views.items c.as_slice.result.now (c.as_slice.ensures.value ∙ c.new-parents.ensures.items) c.in_ok-views.ensures in
    let slices : c.as_slice-2.result.now ≡ c.as_slice-3.result.now = c.as_slice-2.ensures.value ∙ sym c.as_slice-3.ensures.value in
    let told_is = λ (vs : List VarInfo). answers_by vs (merged_state joint) (merged_count joint) (merged_agree joint) in
    let can_show = λ (view : ParentView Joint). (view.answers.now.here.grammar ≡ joint.here.grammar) × IsViewOf view.answers.now.here.infos joint.here.infos (parent_of_view view) in
    record {
      grammar = c.grammar.ensures ∙ ap (λ (e : Whole). e.grammar) (sym c.in_ok-here.ensures.here);
      parents = subst (All can_show) (sym (c.as_slice-3.ensures.value ∙ none)) (All-nil can_show);
      found =
          c.in_ok-found.ensures
          ∙ (ap (λ (vs : List VarInfo). found_of (told_is vs) (map parent_of_view c.as_slice-2.result.now)) c.vars.ensures
          ∙ ap (λ (views : List (ParentView Joint)). found_of (answers_of_joint joint) (map parent_of_view views)) slices);
    }

pub returns : goal.returns
returns c =
    let engine : Whole = c.args.engine.now in
    let options = c.args.options.now in
    let joint : Joint = c.in_ok-here.here in
    let same : joint.here ≡ engine = c.in_ok-here.ensures.here in
    let none = no_views c.in_ok-views.views.items c.as_slice.result.now (c.as_slice.ensures.value ∙ c.new-parents.ensures.items) c.in_ok-views.ensures in
    let views : List (ParentView Joint) = c.as_slice-3.result.now in
    let nothing : views ≡ [] = c.as_slice-3.ensures.value ∙ none in
    let lists = λ (e : Whole) (samples : List (List Value)). candidates_kept (keeps options) (candidates_of e.grammar options.least (answers_of e.infos samples) []) in
    let asked = λ (vs : List (ParentView Joint)). candidates_kept (keeps options) (candidates_of joint.here.grammar options.least (answers_of_joint joint) (map parent_of_view vs)) in
    let Shown : List (ParentView Joint) → Type 0 = λ vs. AllZip (ShowTheSame joint.here.grammar joint.here.infos) (map parent_of_view vs) [] in
    record {
      instances =
          if_ok c.list_candidates.result (All (IsOne joint.here.grammar joint.here.infos)) (All (IsOne engine.grammar engine.infos))
          (λ list all. subst (λ (e : Whole). All (IsOne e.grammar e.infos) list) same all) c.list_candidates.ensures.instances;
      kept =
          if_ok c.list_candidates.result
          (λ list. (samples : ℕ → List (List Value)) (parents : List Parent) → EnginesStandFor c.from_ref.result.now samples → AllZip (ShowTheSame joint.here.grammar joint.here.infos) (map parent_of_view views) parents → list ≡ asked views)
          (λ list. (samples : List (List Value)) → EngineStandsFor engine samples → list ≡ lists engine samples)
          (λ list is samples stand.
          is (λ i. samples) [] (subst (λ (es : List Whole). EnginesStandFor es (λ i. samples)) (sym c.from_ref.ensures.value) (each_stands engine samples stand)) (subst Shown (sym nothing) tt)
          ∙ (ap asked nothing
          ∙ (ap (candidates_kept (keeps options))
          (same-candidates joint.here.grammar (answers_of_joint joint) (answers_of joint.here.infos samples) (tells_of joint samples (c.in_ok-here.ensures.stands samples stand)) [] [] tt options.least)
          ∙ ap (λ (e : Whole). lists e samples) same)))
          c.list_candidates.ensures.kept;
    }
