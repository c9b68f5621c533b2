use Rattle.std.proofs.Common.{arith, subst, unsigned_abs, ◌≤◌, ◌^◌}
use Rattle.std.specs.Int.{w128}
use Rattle.std.proofs.lemmas.Int.{to_z-of_z}
use Rattle.std.proofs.lemmas.Nat.{le_or_l, le_or_r}
use Rattle.dk_forms.proofs.plane.small.spread_of_three.Goals as goal

pub returns-clause-a : goal.returns-clause-a
returns-clause-a c h = let l = le_or_l c.spread_of_two.result c.spread.result in subst (λ t. unsigned_abs t ≤ 2 ^ 30) (to_z-of_z w128 c.args.a c.ranges.a) (c.spread_of_two.ensures.a (omega (arith, l, h)))

pub returns-clause-b : goal.returns-clause-b
returns-clause-b c h = let l = le_or_l c.spread_of_two.result c.spread.result in subst (λ t. unsigned_abs t ≤ 2 ^ 30) (to_z-of_z w128 c.args.b c.ranges.b) (c.spread_of_two.ensures.b (omega (arith, l, h)))

pub returns-clause-c : goal.returns-clause-c
returns-clause-c c h = let l = le_or_r c.spread_of_two.result c.spread.result in subst (λ t. unsigned_abs t ≤ 2 ^ 30) (to_z-of_z w128 c.args.c c.ranges.c) (c.spread.ensures (omega (arith, l, h)))
