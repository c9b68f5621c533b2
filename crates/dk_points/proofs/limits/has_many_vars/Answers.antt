use Rattle.std.proofs.Common.{arith}
use Rattle.dk_points.proofs.Counting.{many-is}
use Rattle.dk_points.proofs.limits.has_many_vars.Goals as goal

pub returns : goal.returns
returns c = many-is c.args.declared c.args.vars.now c.number_of_derived.result c.number_of_derived-2.result (omega arith) c.number_of_derived.ensures.number c.number_of_derived-2.ensures.number
