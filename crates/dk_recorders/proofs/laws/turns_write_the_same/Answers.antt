use Rattle.dk_recorders.proofs.Outputs.{turns_write_the_same}
use Rattle.dk_recorders.proofs.laws.turns_write_the_same.Goals as goal

pub returns : goal.returns
returns c = turns_write_the_same
