use Rattle.dk_claims.proofs.Lining.{whole_file}
use Rattle.dk_claims.proofs.laws.whole_file.Goals as goal

pub returns : goal.returns
returns c = whole_file
