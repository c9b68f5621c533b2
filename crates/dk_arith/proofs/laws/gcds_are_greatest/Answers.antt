use Rattle.dk_arith.proofs.GcdLaws.{IsGcd-gcd}
use Rattle.dk_arith.proofs.laws.gcds_are_greatest.Goals as goal

pub returns : goal.returns
returns c = IsGcd-gcd
