use Rattle.std.proofs.Common.{arith, ◌*ℤ◌, ◌^◌, ◌≤◌, FitsSigned}
use Rattle.std.proofs.lemmas.Int.{ints, fits_signed_mul}
use Rattle.std.specs.Prelude.{unsigned_abs}
use Rattle.std.specs.Int.{w128}
use Rattle.dk_arith.proofs.Registers.{wide_test}
use Rattle.dk_ternary.proofs.exact.is_product.Goals as goal

pub returns : goal.returns
returns c =
    let small_x : unsigned_abs c.args.x ≤ 2 ^ 63 = omega (arith, ints) in
    let small_y : unsigned_abs c.args.y ≤ 2 ^ 63 = omega (arith, ints) in
    let fits : FitsSigned w128 (c.args.x *ℤ c.args.y) = fits_signed_mul w128 c.args.x c.args.y (2 ^ 63) (2 ^ 63) small_x small_y (omega arith) in
    wide_test c.args.z c.args.x c.args.y (λ x y. x *ℤ y) c.ranges.z c.ranges.x c.ranges.y fits
