use Rattle.dk_claims.proofs.Sectioning.{claims_are_of_sections}
use Rattle.dk_claims.proofs.laws.claims_are_of_sections.Goals as goal

pub returns : goal.returns
returns c = claims_are_of_sections
