use Rattle.std.proofs.Common.{◌≡◌, ◌-◌, ◌<◌, ◌^◌, ℕ, arith, subst}
use Rattle.std.proofs.lemmas.Nat.{leading_length}
use Rattle.std.specs.Int.Count.{count_leading_zeros}
use Rattle.dk_bitmaps.proofs.maps.width.Goals as goal

pub returns : goal.returns
returns c =
    let long = leading_length 64 c.args.number c.ranges.number.fits in
    let zeros = count_leading_zeros 64 c.args.number in
    let sum = long.1 in
    let is : long.0 ≡ 64 - zeros = omega (arith, sum) in
    subst (λ (n : ℕ). c.args.number < 2 ^ n) is long.2
