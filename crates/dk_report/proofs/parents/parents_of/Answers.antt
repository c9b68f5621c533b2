use Rattle.std.specs.Prelude.{◌<◌, ◌+◌, List, [], length, take}
use Rattle.std.specs.List.{AllZip}
use Rattle.std.proofs.Common.{◌∙◌, subst, sym}
use Rattle.std.proofs.lemmas.List.{take_all}
use Rattle.dk_graph.specs.declared.nodes.Edge.{Edge}
use Rattle.dk_report.proofs.Zips.{zip-more}
use Rattle.dk_report.specs.Parents.{IsParentBy}
use Rattle.dk_report.specs.declared.parents.MergedParent.{MergedParent}
use Rattle.dk_report.proofs.parents.parents_of.Goals as goal

pub loop-edge-init : goal.loop-edge-init
loop-edge-init c =
    let R = IsParentBy c.args.points.now c.args.engines.now in
    subst (λ (ps : List MergedParent). AllZip R ps []) (sym c.new-parents.ensures.items) tt

pub loop-edge-preserved : goal.loop-edge-preserved
loop-edge-preserved c =
    let R = IsParentBy c.args.points.now c.args.engines.now in
    let es : List Edge = c.from-edge-items.result.now in
    let i = c.loop-edge.edge-index in
    let none : Edge = record { child = record { 0 = 0 }; parent = record { 0 = 0 }; number = 0 } in
    let within : i < length es = c.loop-edge-test.true in
    subst (λ (ps : List MergedParent). AllZip R ps (take (i + 1) es)) (sym c.in_ok-push.ensures.items)
    (zip-more R c.loop-edge.parents.items es i c.in_ok-parent_by.field-0 none within c.loop-edge.invariant c.in_ok-parent_by.ensures)

pub returns : goal.returns
returns c =
    let R = IsParentBy c.args.points.now c.args.engines.now in
    let es : List Edge = c.from-edge-items.result.now in
    subst (AllZip R c.loop-edge.parents.items) (take_all c.loop-edge.edge-index es c.loop-edge-test.false ∙ c.from-edge-items.ensures.edges) c.loop-edge.invariant
