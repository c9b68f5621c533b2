use Rattle.dk_run.proofs.Starts.{starts_begin_alike}
use Rattle.dk_run.proofs.laws.starts_begin_alike.Goals as goal

pub returns : goal.returns
returns c = starts_begin_alike
