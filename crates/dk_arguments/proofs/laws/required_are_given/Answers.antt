use Rattle.dk_arguments.proofs.Required.{required_are_given}
use Rattle.dk_arguments.proofs.laws.required_are_given.Goals as goal

pub returns : goal.returns
returns c = required_are_given
