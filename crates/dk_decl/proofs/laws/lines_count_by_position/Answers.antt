use Rattle.dk_decl.proofs.ByPosition.{by_position}
use Rattle.dk_decl.proofs.laws.lines_count_by_position.Goals as goal

pub returns : goal.returns
returns c = by_position
