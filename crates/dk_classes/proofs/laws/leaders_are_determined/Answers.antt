use Rattle.dk_classes.proofs.Determined.{leaders_are_determined}
use Rattle.dk_classes.proofs.laws.leaders_are_determined.Goals as goal

pub returns : goal.returns
returns c = leaders_are_determined
