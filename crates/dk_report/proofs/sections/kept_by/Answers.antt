use Rattle.std.specs.Prelude.{◌≡◌, ◌<◌, ◌^◌, List, length, map, ℕ}
use Rattle.std.specs.List.{AllZip}
use Rattle.std.proofs.Common.{◌∙◌, ap, arith, subst, sym}
use Rattle.std.proofs.lemmas.List.Elements.{All-same}
use Rattle.dk_base.specs.declared.kinds.VarInfo.{VarInfo}
use Rattle.dk_base.specs.declared.values.Value.{Value}
use Rattle.dk_engine.specs.Reading.Levels.{Whole}
use Rattle.dk_filters.specs.Answers.{Parent}
use Rattle.dk_filters.specs.Candidates.{candidates_kept, candidates_of}
use Rattle.dk_filters.specs.Found.{found_of}
use Rattle.dk_filters.specs.Laws.{ShowTheSame}
use Rattle.dk_filters.specs.Parents.{IsViewOf, answers_by}
use Rattle.dk_filters.specs.declared.parents.ParentView.{ParentView}
use Rattle.dk_graph.proofs.Places.{some-injective}
use Rattle.dk_graph.specs.Graphs.{edges_from}
use Rattle.dk_hierarchy.proofs.TableEngines.{engine_got}
use Rattle.dk_hierarchy.specs.Merging.{Joint, merged_agree, merged_count, merged_state}
use Rattle.dk_hierarchy.specs.Samples.{own_samples_of}
use Rattle.dk_hierarchy.specs.Standing.{EnginesStandFor}
use Rattle.dk_points.specs.Links.{nodes}
use Rattle.dk_report.proofs.Reported.{if_ok, reported, small_views, views_can_show, views_show}
use Rattle.dk_report.specs.Asked.{answers_of_joint, parent_of_view}
use Rattle.dk_report.specs.Keeping.{keeps}
use Rattle.dk_report.specs.Parents.{IsParentBy}
use Rattle.dk_report.specs.Reports.{parents_of}
use Rattle.dk_report.specs.declared.parents.MergedParent.{MergedParent}
use Rattle.dk_report.proofs.sections.kept_by.Goals as goal

pub of-requires-clause-small : goal.of-requires-clause-small
of-requires-clause-small c =
    let joint = c.args.here.now in
    let few = (c.requires.engines.variables c.args.p.0 joint.here c.requires.here).1.few in
    let same = ap (λ (vs : List VarInfo). length vs) c.vars.ensures in
    omega (arith, few, same)

pub of-requires-clause-parents : goal.of-requires-clause-parents
of-requires-clause-parents c =
    let ps = c.args.points.now in
    let es = c.args.engines.now in
    let joint : Joint = c.args.here.now in
    let by = subst (λ (qs : List MergedParent). AllZip (IsParentBy ps es) qs (edges_from (nodes ps) c.args.p.0)) (sym c.as_slice.ensures.value) c.in_ok-parents.ensures in
    All-same (λ (view : ParentView Joint). length view.vars.now < 2 ^ 32) c.as_slice-2.result.now c.in_ok-views.views.items c.as_slice-2.ensures.value
    (small_views ps es c.requires.engines c.args.p.0 joint c.requires.here c.requires.stands c.in_ok-views.views.items c.as_slice.result.now c.in_ok-views.ensures by)

pub list_candidates-requires-clause-asked : goal.list_candidates-requires-clause-asked
list_candidates-requires-clause-asked c =
    let ps = c.args.points.now in
    let es = c.args.engines.now in
    let p = c.args.p.0 in
    let joint : Joint = c.args.here.now in
    let by = subst (λ (qs : List MergedParent). AllZip (IsParentBy ps es) qs (edges_from (nodes ps) p)) (sym c.as_slice.ensures.value) c.in_ok-parents.ensures in
    let got = engine_got ps es c.requires.engines p c.index-engines-p.result c.requires.point c.index-engines-p.is in
    let same : c.index-engines-p.result ≡ joint.here = some-injective (sym got ∙ c.requires.here) in
    let slices : c.as_slice-2.result.now ≡ c.as_slice-3.result.now = c.as_slice-2.ensures.value ∙ sym c.as_slice-3.ensures.value in
    let told_is = λ (vs : List VarInfo). answers_by vs (merged_state joint) (merged_count joint) (merged_agree joint) in
    record {
      grammar = c.grammar.ensures ∙ ap (λ (e : Whole). e.grammar) same;
      parents =
          All-same (λ (view : ParentView Joint). (view.answers.now.here.grammar ≡ joint.here.grammar) × IsViewOf view.answers.now.here.infos joint.here.infos (parent_of_view view))
          c.as_slice-3.result.now c.in_ok-views.views.items c.as_slice-3.ensures.value
          (views_can_show ps es c.requires.engines p joint c.requires.here c.requires.stands c.in_ok-views.views.items c.as_slice.result.now c.in_ok-views.ensures by);
      found =
          c.in_ok-found.ensures
          ∙ (ap (λ (vs : List VarInfo). found_of (told_is vs) (map parent_of_view c.as_slice-2.result.now)) c.vars.ensures
          ∙ ap (λ (views : List (ParentView Joint)). found_of (answers_of_joint joint) (map parent_of_view views)) slices);
    }

pub list_candidates-requires-clause-few : goal.list_candidates-requires-clause-few
list_candidates-requires-clause-few c =
    let joint : Joint = c.args.here.now in
    (c.requires.engines.variables c.args.p.0 joint.here c.requires.here).1.few

pub list_candidates-requires-clause-paths : goal.list_candidates-requires-clause-paths
list_candidates-requires-clause-paths c = c.requires.paths

pub returns : goal.returns
returns c =
    let ps = c.args.points.now in
    let es = c.args.engines.now in
    let p = c.args.p.0 in
    let options = c.args.options.now in
    let joint : Joint = c.args.here.now in
    let by = subst (λ (qs : List MergedParent). AllZip (IsParentBy ps es) qs (edges_from (nodes ps) p)) (sym c.as_slice.ensures.value) c.in_ok-parents.ensures in
    let lists = λ (views : List (ParentView Joint)). candidates_kept (keeps options) (candidates_of joint.here.grammar options.least (answers_of_joint joint) (map parent_of_view views)) in
    if_ok c.list_candidates.result
    (λ list. (samples : ℕ → List (List Value)) (parents : List Parent) → EnginesStandFor es samples → AllZip (ShowTheSame joint.here.grammar joint.here.infos) (map parent_of_view c.as_slice-3.result.now) parents → list ≡ lists c.as_slice-3.result.now) _
    (λ list is own stand.
    let shows = views_show ps es c.requires.engines p joint c.requires.here c.requires.stands c.in_ok-views.views.items c.as_slice.result.now c.in_ok-views.ensures by own stand in
    let show = subst (λ (views : List (ParentView Joint)). AllZip (ShowTheSame joint.here.grammar joint.here.infos) (map parent_of_view views) (parents_of ps own p)) (sym c.as_slice-3.ensures.value) shows in
    reported ps es c.requires.engines p joint c.requires.here c.requires.stands c.in_ok-views.views.items c.as_slice.result.now c.in_ok-views.ensures by options list
    (is (own_samples_of ps own) (parents_of ps own p) stand show ∙ ap lists c.as_slice-3.ensures.value) own stand)
    c.list_candidates.ensures.kept
