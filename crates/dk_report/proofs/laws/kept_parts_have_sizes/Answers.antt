use Rattle.dk_report.proofs.Sized.{kept_parts_have_sizes}
use Rattle.dk_report.proofs.laws.kept_parts_have_sizes.Goals as goal

pub returns : goal.returns
returns c = kept_parts_have_sizes
