use Rattle.dk_write.proofs.Written.{written_read}
use Rattle.dk_write.proofs.laws.written_are_read.Goals as goal

pub returns : goal.returns
returns c = written_read
