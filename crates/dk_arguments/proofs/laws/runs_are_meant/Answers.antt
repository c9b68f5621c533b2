use Rattle.dk_arguments.proofs.Meaning.{runs_are_meant}
use Rattle.dk_arguments.proofs.laws.runs_are_meant.Goals as goal

pub returns : goal.returns
returns g c = runs_are_meant g.A.Arguments.command g.A.Arguments.meant
