use Rattle.dk_formats.proofs.Once.{told_once}
use Rattle.dk_formats.proofs.laws.reports_are_told_once.Goals as goal

pub returns : goal.returns
returns c = told_once
