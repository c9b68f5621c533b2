use Rattle.dk_decl.proofs.LastLines.{last_lines_count}
use Rattle.dk_decl.proofs.laws.last_lines_count.Goals as goal

pub returns : goal.returns
returns c = last_lines_count
