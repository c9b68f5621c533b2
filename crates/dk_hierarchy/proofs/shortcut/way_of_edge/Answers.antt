use Rattle.std.specs.Prelude.{length}
use Rattle.std.proofs.Common.{ap, arith}
use Rattle.dk_engine.specs.Reading.Levels.{Whole}
use Rattle.dk_hierarchy.proofs.TableEngines.{vars_few}
use Rattle.dk_hierarchy.proofs.shortcut.way_of_edge.Goals as goal

pub partners_of-requires-clause-few_above : goal.partners_of-requires-clause-few_above
partners_of-requires-clause-few_above c =
    let few = vars_few c.args.points.now c.args.engines.now c.requires.engines c.args.edge.parent.0 c.index-engines-edge.result c.requires.parent c.index-engines-edge.is in
    let same = ap length c.vars-parent.ensures in
    let read = ap (λ (e : Whole). length e.infos) c.index-engines-edge.is in
    omega (arith, few, same, read)

pub partners_of-requires-clause-few_below : goal.partners_of-requires-clause-few_below
partners_of-requires-clause-few_below c =
    let few = vars_few c.args.points.now c.args.engines.now c.requires.engines c.args.edge.child.0 c.index-engines-edge-2.result c.requires.child c.index-engines-edge-2.is in
    let same = ap length c.vars-child.ensures in
    let read = ap (λ (e : Whole). length e.infos) c.index-engines-edge-2.is in
    omega (arith, few, same, read)
