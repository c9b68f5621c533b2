use Rattle.dk_lines.proofs.Whole.{whole_file}
use Rattle.dk_lines.proofs.laws.whole_file.Goals as goal

pub returns : goal.returns
returns c = whole_file
