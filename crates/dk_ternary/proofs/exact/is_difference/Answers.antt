use Rattle.std.proofs.Common.{rules, ◌-ℤ◌, FitsSigned}
use Rattle.std.specs.Int.{w128}
use Rattle.dk_arith.proofs.Registers.{wide_test}
use Rattle.dk_ternary.proofs.exact.is_difference.Goals as goal

pub returns : goal.returns
returns c =
    let fits : FitsSigned w128 (c.args.x -ℤ c.args.y) = search rules in
    wide_test c.args.z c.args.x c.args.y (λ x y. x -ℤ y) c.ranges.z c.ranges.x c.ranges.y fits
