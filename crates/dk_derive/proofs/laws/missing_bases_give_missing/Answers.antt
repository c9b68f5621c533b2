use Rattle.dk_derive.proofs.Ranges.{missing_bases_give_missing}
use Rattle.dk_derive.proofs.laws.missing_bases_give_missing.Goals as goal

pub returns : goal.returns
returns c = missing_bases_give_missing
