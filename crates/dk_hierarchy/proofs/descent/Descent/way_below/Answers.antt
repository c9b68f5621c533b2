use Rattle.std.specs.Prelude.{length}
use Rattle.std.proofs.Common.{ap, arith}
use Rattle.dk_engine.specs.Reading.Levels.{Whole}
use Rattle.dk_hierarchy.proofs.TableEngines.{vars_few}
use Rattle.dk_hierarchy.proofs.descent.Descent.way_below.Goals as goal

pub partners_of-requires-clause-few_above : goal.partners_of-requires-clause-few_above
partners_of-requires-clause-few_above c =
    let d = c.args.self.now in
    let few = vars_few d.points.now d.engines.now c.requires.engines c.args.edge.parent.0 c.index-self-edge.result c.requires.parent c.index-self-edge.is in
    let same = ap length c.vars-parent.ensures in
    let read = ap (λ (e : Whole). length e.infos) c.index-self-edge.is in
    omega (arith, few, same, read)

pub partners_of-requires-clause-few_below : goal.partners_of-requires-clause-few_below
partners_of-requires-clause-few_below c =
    let d = c.args.self.now in
    let few = vars_few d.points.now d.engines.now c.requires.engines c.args.edge.child.0 c.index-self-edge-2.result c.requires.child c.index-self-edge-2.is in
    let same = ap length c.vars-child.ensures in
    let read = ap (λ (e : Whole). length e.infos) c.index-self-edge-2.is in
    omega (arith, few, same, read)
