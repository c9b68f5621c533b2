use Rattle.std.proofs.Common.{pos, ap, ◌∙◌, arith, ◌<ℤ◌, ◌≤ℤ◌, w64}
use Rattle.std.specs.Prelude.{unsigned_abs}
use Rattle.std.proofs.lemmas.Int.{ints, to_z-of_z}
use Rattle.dk_forms.proofs.ModulusLaws.{remainder-natural, remainder-negative}
use Rattle.dk_forms.proofs.modulus.remainder_of.Goals as goal

pub returns-then-x-lt0 : goal.returns-then-x-lt0
returns-then-x-lt0 c =
    let x = c.args.x in
    let negative : x <ℤ pos 0 = grind (arith, ints, c.ranges.x, c.if-x-lt0.true) in
    remainder-negative c.args.m c.unsigned_abs-size.result x c.requires (c.unsigned_abs-size.ensures.value ∙ ap unsigned_abs (to_z-of_z w64 x c.ranges.x)) negative

pub returns-else-x-lt0 : goal.returns-else-x-lt0
returns-else-x-lt0 c =
    let x = c.args.x in
    let natural : pos 0 ≤ℤ x = grind (arith, ints, c.ranges.x, c.if-x-lt0.false) in
    remainder-natural c.args.m c.unsigned_abs-size.result x c.requires (c.unsigned_abs-size.ensures.value ∙ ap unsigned_abs (to_z-of_z w64 x c.ranges.x)) natural
