use Rattle.std.specs.Prelude.{◌≡◌, ◌<◌, All, Some, slice_get}
use Rattle.std.proofs.Common.{◌∙◌, ap, subst, sym}
use Rattle.std.proofs.lemmas.List.Elements.{All-weaker}
use Rattle.dk_hierarchy.specs.Descent.{IsWayDown}
use Rattle.dk_hierarchy.specs.Merging.{Joint}
use Rattle.dk_hierarchy.specs.Standing.{IsMergedAt}
use Rattle.dk_hierarchy.specs.declared.way.Way.{Way}
use Rattle.dk_report.proofs.Reported.{if_ok}
use Rattle.dk_report.proofs.counting.merge_counted.Goals as goal

pub returns-clause-here : goal.returns-clause-here
returns-clause-here c =
    let merged : Joint = c.in_ok-merged.merged in
    let is_here = λ (j : Joint). slice_get c.args.engines.now c.args.p.0 ≡ Some j.here in
    if_ok c.of.result (λ j. j ≡ merged) is_here (λ j is. subst is_here (sym is) c.in_ok-merged.ensures.here) c.of.ensures

pub returns-clause-engines : goal.returns-clause-engines
returns-clause-engines c =
    let merged : Joint = c.in_ok-merged.merged in
    if_ok c.of.result (λ j. j ≡ merged) (λ j. j.engines ≡ c.args.engines.now) (λ j is. ap (λ (k : Joint). k.engines) is ∙ c.in_ok-merged.ensures.engines) c.of.ensures

pub returns-clause-paths : goal.returns-clause-paths
returns-clause-paths c =
    let merged : Joint = c.in_ok-merged.merged in
    let some = λ (j : Joint). All (λ (way : Way). 0 < way.paths) j.ways in
    let each = All-weaker (IsWayDown c.args.points.now c.args.p.0) (λ (way : Way). 0 < way.paths) (λ way is. is.some) merged.ways c.in_ok-merged.ensures.ways.done in
    if_ok c.of.result (λ j. j ≡ merged) some (λ j is. subst some (sym is) each) c.of.ensures

pub returns-clause-stands : goal.returns-clause-stands
returns-clause-stands c =
    let merged : Joint = c.in_ok-merged.merged in
    let stands = IsMergedAt c.args.points.now c.args.engines.now c.args.p.0 in
    if_ok c.of.result (λ j. j ≡ merged) stands (λ j is. subst stands (sym is) c.in_ok-merged.ensures.stands) c.of.ensures
