use Rattle.dk_template.proofs.WrittenOrder.{written_tuples_are_admitted}
use Rattle.dk_template.proofs.laws.written_tuples_are_admitted.Goals as goal

pub returns : goal.returns
returns c = written_tuples_are_admitted
