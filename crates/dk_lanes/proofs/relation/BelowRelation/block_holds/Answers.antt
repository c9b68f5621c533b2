use Rattle.std.proofs.Common.{to_z, w64}
use Rattle.std.specs.Prelude.{int_lt}
use lib.Signed.{lt_z}
use Rattle.dk_lanes.proofs.LaneLemmas.{block_compared, lt_agrees}
use Rattle.dk_lanes.proofs.relation.BelowRelation.block_holds.Goals as goal

pub returns : goal.returns
returns c = block_compared (λ a b. lt_z (to_z w64 a) (to_z w64 b)) int_lt lt_agrees c.args.left.now _ _ _ _ c.args.right.now _ _ _ _ c.of-l.ensures c.of-r.ensures
