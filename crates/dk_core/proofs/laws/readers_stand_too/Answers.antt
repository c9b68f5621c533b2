use Rattle.dk_core.proofs.Taking.{reads_of}
use Rattle.dk_core.proofs.laws.readers_stand_too.Goals as goal

pub returns : goal.returns
returns c = reads_of
