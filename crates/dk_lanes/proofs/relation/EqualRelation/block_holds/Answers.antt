use Rattle.std.proofs.Common.{eqb}
use Rattle.std.specs.Ordering.{int_eq}
use Rattle.dk_lanes.proofs.LaneLemmas.{block_compared, eq_agrees}
use Rattle.dk_lanes.proofs.relation.EqualRelation.block_holds.Goals as goal

pub returns : goal.returns
returns c = block_compared eqb int_eq eq_agrees c.args.left.now _ _ _ _ c.args.right.now _ _ _ _ c.of-l.ensures c.of-r.ensures
