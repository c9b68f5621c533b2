use Rattle.std.proofs.Common.{arith, subst, unsigned_abs, ◌≤◌, ◌^◌}
use Rattle.std.specs.Int.{w128}
use Rattle.std.proofs.lemmas.Int.{to_z-of_z}
use Rattle.std.proofs.lemmas.Nat.{le_or_l, le_or_r}
use Rattle.dk_forms.proofs.plane.small.spread_of_two.Goals as goal

pub returns-clause-a : goal.returns-clause-a
returns-clause-a c h = let l = le_or_l c.spread.result c.spread-2.result in subst (λ t. unsigned_abs t ≤ 2 ^ 30) (to_z-of_z w128 c.args.a c.ranges.a) (c.spread.ensures (omega (arith, l, h)))

pub returns-clause-b : goal.returns-clause-b
returns-clause-b c h = let l = le_or_r c.spread.result c.spread-2.result in subst (λ t. unsigned_abs t ≤ 2 ^ 30) (to_z-of_z w128 c.args.b c.ranges.b) (c.spread-2.ensures (omega (arith, l, h)))
