use Rattle.dk_claims.proofs.Claiming.{headings_part}
use Rattle.dk_claims.proofs.laws.headings_part.Goals as goal

pub returns : goal.returns
returns c = headings_part
