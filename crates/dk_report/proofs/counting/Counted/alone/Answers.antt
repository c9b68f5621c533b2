use Rattle.std.specs.Prelude.{◌≡◌, ◌<◌, [], ◌∷◌, All, List}
use Rattle.std.proofs.Common.{◌∙◌, ap, subst, sym}
use Rattle.dk_base.specs.declared.values.Value.{Value}
use Rattle.dk_engine.specs.Reading.Levels.{Whole}
use Rattle.dk_hierarchy.specs.Merging.{Joint}
use Rattle.dk_hierarchy.specs.Standing.{EngineStandsFor, JointStandsFor}
use Rattle.dk_hierarchy.specs.declared.way.Way.{Way}
use Rattle.dk_report.proofs.Reported.{if_ok}
use Rattle.dk_report.proofs.counting.Counted.alone.Goals as goal

pub of-requires : goal.of-requires
of-requires c = c.in_ok-merged.ensures.engines ∙ sym c.from_ref.ensures.value

pub returns-clause-here : goal.returns-clause-here
returns-clause-here c =
    let merged : Joint = c.in_ok-merged.merged in
    let is_here = λ (j : Joint). j.here ≡ c.args.engine.now in
    if_ok c.of.result (λ j. j ≡ merged) is_here (λ j is. subst is_here (sym is) c.in_ok-merged.ensures.here) c.of.ensures

pub returns-clause-engines : goal.returns-clause-engines
returns-clause-engines c =
    let merged : Joint = c.in_ok-merged.merged in
    let engine : Whole = c.args.engine.now in
    if_ok c.of.result (λ j. j ≡ merged) (λ j. j.engines ≡ engine ∷ []) (λ j is. ap (λ (k : Joint). k.engines) is ∙ c.in_ok-merged.ensures.engines) c.of.ensures

pub returns-clause-paths : goal.returns-clause-paths
returns-clause-paths c =
    let merged : Joint = c.in_ok-merged.merged in
    let have_paths = λ (j : Joint). All (λ (way : Way). 0 < way.paths) j.ways in
    if_ok c.of.result (λ j. j ≡ merged) have_paths (λ j is. subst have_paths (sym is) c.in_ok-merged.ensures.paths) c.of.ensures

pub returns-clause-stands : goal.returns-clause-stands
returns-clause-stands c =
    let merged : Joint = c.in_ok-merged.merged in
    let stands = λ (j : Joint). (samples : List (List Value)) → EngineStandsFor c.args.engine.now samples → JointStandsFor j samples in
    if_ok c.of.result (λ j. j ≡ merged) stands (λ j is. subst stands (sym is) c.in_ok-merged.ensures.stands) c.of.ensures
