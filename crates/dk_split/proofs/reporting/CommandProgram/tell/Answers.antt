use Rattle.dk_implications.specs.Reports.{implications_report}
use Rattle.dk_split.proofs.reporting.CommandProgram.tell.Goals as goal

pub returns : goal.returns
unfolding implications_report
returns g c = c.tell_parts.ensures
