use Rattle.std.specs.Prelude.{length}
use Rattle.std.proofs.Common.{ap, arith}
use Rattle.dk_engine.proofs.Sizes.{few_constants, few_leaders}
use Rattle.dk_engine.proofs.engine.Engine.counts.Goals as goal

pub overflow_cast-result : goal.overflow_cast-result
overflow_cast-result c =
    let e = c.self.inside in
    let few = few_leaders e.grammar e.infos e.kept c.self.invariant.1 in
    let point = c.self.invariant.0.few in
    let same = ap length c.leaders.ensures.all in
    omega (arith, few, point, same)

pub overflow_cast-result-2 : goal.overflow_cast-result-2
overflow_cast-result-2 c =
    let e = c.self.inside in
    let few = few_constants e.grammar e.infos e.kept c.self.invariant.1 c.entries.ensures.ascend in
    let point = c.self.invariant.0.few in
    let same = ap length c.entries.ensures.all in
    omega (arith, few, point, same)
