use Rattle.std.proofs.Common.{◌<◌, arith}
use Rattle.dk_forms.proofs.ModulusLaws.{gcd_some}
use Rattle.dk_forms.proofs.modulus.join_classes.Goals as goal

pub class_state-requires : goal.class_state-requires
class_state-requires c =
    let both : 0 < c.gcd_of.result = omega (arith, c.gcd_of.ensures, gcd_some c.args.m c.args.n (omega arith)) in
    omega (arith, c.gcd_of-2.ensures, gcd_some c.gcd_of.result c.abs_diff.result both)
