use Rattle.dk_trace.proofs.ByPosition.{by_position}
use Rattle.dk_trace.proofs.laws.lines_count_by_position.Goals as goal

pub returns : goal.returns
returns c = by_position
