use Rattle.dk_print.proofs.Telling.{texts_tell}
use Rattle.dk_print.proofs.laws.texts_tell_instances.Goals as goal

pub returns : goal.returns
returns c = texts_tell
