use Rattle.dk_write.proofs.Traces.{traces_read}
use Rattle.dk_write.proofs.laws.traces_are_read.Goals as goal

pub returns : goal.returns
returns c = traces_read
