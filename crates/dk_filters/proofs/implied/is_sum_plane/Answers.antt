use Rattle.std.specs.Prelude.{[]}
use Rattle.std.proofs.Common.{arith}
use Rattle.dk_filters.proofs.Sharper.{plane-usable}
use Rattle.dk_filters.proofs.implied.is_sum_plane.Goals as goal

pub is_sum-requires : goal.is_sum-requires
is_sum-requires g c =
    plane-usable (g.A.Answers.grammar c.args.here.now) (g.A.Answers.infos c.args.here.now) c.args.row c.args.tuple.now c.if-row-eq-LINEAR_TERNARY.true c.requires 0 [] (omega arith)

pub is_sum-requires-else-is_sum : goal.is_sum-requires-else-is_sum
is_sum-requires-else-is_sum g c =
    plane-usable (g.A.Answers.grammar c.args.here.now) (g.A.Answers.infos c.args.here.now) c.args.row c.args.tuple.now c.if-row-eq-LINEAR_TERNARY.true c.requires 1 [] (omega arith)

pub is_sum-requires-else-is_sum-2 : goal.is_sum-requires-else-is_sum-2
is_sum-requires-else-is_sum-2 g c =
    plane-usable (g.A.Answers.grammar c.args.here.now) (g.A.Answers.infos c.args.here.now) c.args.row c.args.tuple.now c.if-row-eq-LINEAR_TERNARY.true c.requires 2 [] (omega arith)
