use Rattle.dk_report.proofs.Partners.{parents_are_like}
use Rattle.dk_report.proofs.laws.parents_are_like.Goals as goal

pub returns : goal.returns
returns c = parents_are_like
