use Rattle.std.specs.Prelude.{◌≡◌, All, List, flat_map}
use Rattle.std.proofs.Common.{◌∙◌, subst, sym}
use Rattle.dk_engine.specs.Reading.Levels.{Whole}
use Rattle.dk_filters.specs.Candidates.{candidates_kept, candidates_of}
use Rattle.dk_filters.specs.declared.candidate.Candidate.{Candidate}
use Rattle.dk_hierarchy.specs.Standing.{EnginesStandFor}
use Rattle.dk_instances.specs.Instances.{rows_of}
use Rattle.dk_report.proofs.Alone.{narrowed_is}
use Rattle.dk_report.proofs.Listable.{IsOne, candidates_listable, narrowed_listable}
use Rattle.dk_report.proofs.Reported.{if_ok}
use Rattle.dk_report.specs.Asked.{here_of, views_of}
use Rattle.dk_report.specs.Keeping.{keeps}
use Rattle.dk_report.specs.Narrowing.{candidates_left, fixed_vars}
use Rattle.dk_report.proofs.asking.Asking.list_candidates.Goals as goal

pub returns-in-Some : goal.returns-in-Some
returns-in-Some c =
    let asking = c.args.self.now in
    let of = c.in_ok-standing.standing in
    let engine : Whole = c.in-Some.engine.now in
    let is_narrowed = λ (list : List Candidate). list ≡ flat_map (candidates_left engine.kept asking of (fixed_vars engine.kept of)) (rows_of asking.here.now.here.grammar) in
    record {
      instances =
          if_ok c.narrow_to.result is_narrowed (All (IsOne asking.here.now.here.grammar asking.here.now.here.infos))
          (λ list is. subst (All (IsOne asking.here.now.here.grammar asking.here.now.here.infos)) (sym is) (narrowed_listable asking engine.kept of (fixed_vars engine.kept of))) c.narrow_to.ensures;
      kept =
          if_ok c.narrow_to.result is_narrowed _
          (λ list is samples parents stand show.
          is ∙ narrowed_is asking c.requires.asked of c.in_ok-standing.ensures engine c.in-Some.ensures c.requires.paths samples (subst (λ (es : List Whole). EnginesStandFor es samples) (sym c.requires.engines) stand) parents show)
          c.narrow_to.ensures;
    }

pub returns : goal.returns
returns c =
    let asking = c.args.self.now in
    let here = here_of asking in
    let options = asking.options.now in
    let is_swept = λ (list : List Candidate). list ≡ candidates_kept (keeps options) (candidates_of asking.here.now.here.grammar options.least here (views_of asking)) in
    record {
      instances =
          if_ok c.list_by_view.result is_swept (All (IsOne asking.here.now.here.grammar asking.here.now.here.infos))
          (λ list is. subst (All (IsOne asking.here.now.here.grammar asking.here.now.here.infos)) (sym is) (candidates_listable asking.here.now.here.grammar options here (views_of asking))) c.list_by_view.ensures;
      kept = if_ok c.list_by_view.result is_swept _ (λ list is samples parents stand show. is) c.list_by_view.ensures;
    }
