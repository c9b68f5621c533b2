use Rattle.dk_claims.proofs.Claiming.{lines_below_a_heading_claim}
use Rattle.dk_claims.proofs.laws.lines_below_a_heading_claim.Goals as goal

pub returns : goal.returns
returns c = lines_below_a_heading_claim
