use Rattle.dk_decl.proofs.PastLines.{other_lines}
use Rattle.dk_decl.proofs.laws.other_lines_are_read_past.Goals as goal

pub returns : goal.returns
returns c = other_lines
