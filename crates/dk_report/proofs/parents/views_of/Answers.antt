use Rattle.std.specs.Prelude.{◌+◌, List, take}
use Rattle.std.specs.List.{AllZip}
use Rattle.std.proofs.Common.{subst, sym}
use Rattle.dk_filters.specs.declared.parents.ParentView.{ParentView}
use Rattle.dk_hierarchy.specs.Merging.{Joint}
use Rattle.dk_report.proofs.Zips.{zip-more}
use Rattle.dk_report.specs.Parents.{IsViewBy}
use Rattle.dk_report.proofs.parents.views_of.Goals as goal

pub loop-parent-preserved : goal.loop-parent-preserved
loop-parent-preserved c =
    let i = c.loop-parent.parent-index in
    let item = c.parent-item.result in
    subst (λ (vs : List (ParentView Joint)). AllZip IsViewBy vs (take (i + 1) c.args.parents.now)) (sym c.in_ok-push.ensures.items)
    (zip-more IsViewBy c.loop-parent.views.items c.args.parents.now i c.view_of.result item c.loop-parent-test.true c.loop-parent.invariant (subst (IsViewBy c.view_of.result) c.parent-item.is c.view_of.ensures))
