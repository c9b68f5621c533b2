use Rattle.dk_presence.proofs.Determined.{patterns_are_determined}
use Rattle.dk_presence.proofs.laws.patterns_are_determined.Goals as goal

pub returns : goal.returns
returns c = patterns_are_determined
