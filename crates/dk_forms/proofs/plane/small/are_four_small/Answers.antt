use Rattle.std.proofs.Common.{◌≤◌, ◌^◌, subst, unsigned_abs}
use Rattle.std.specs.Int.{w128}
use Rattle.std.proofs.lemmas.Int.{to_z-of_z}
use Rattle.dk_arith.proofs.Registers.{wide_is}
use Rattle.dk_forms.proofs.SmallNumbers.{below_left, below_right}
use Rattle.dk_forms.proofs.plane.small.are_four_small.Goals as goal

pub returns-clause-a : goal.returns-clause-a
returns-clause-a c h = subst (λ t. unsigned_abs t ≤ 2 ^ 30) (to_z-of_z w128 c.args.a c.ranges.a) (c.spread_of_two.ensures.a (below_left c.spread_of_two.result c.spread_of_two-2.result (2 ^ 31) h))

pub returns-clause-b : goal.returns-clause-b
returns-clause-b c h = subst (λ t. unsigned_abs t ≤ 2 ^ 30) (to_z-of_z w128 c.args.b c.ranges.b) (c.spread_of_two.ensures.b (below_left c.spread_of_two.result c.spread_of_two-2.result (2 ^ 31) h))

pub returns-clause-x : goal.returns-clause-x
returns-clause-x c h = subst (λ t. unsigned_abs t ≤ 2 ^ 30) (wide_is c.args.x c.ranges.x) (c.spread_of_two-2.ensures.a (below_right c.spread_of_two.result c.spread_of_two-2.result (2 ^ 31) h))

pub returns-clause-y : goal.returns-clause-y
returns-clause-y c h = subst (λ t. unsigned_abs t ≤ 2 ^ 30) (wide_is c.args.y c.ranges.y) (c.spread_of_two-2.ensures.b (below_right c.spread_of_two.result c.spread_of_two-2.result (2 ^ 31) h))
