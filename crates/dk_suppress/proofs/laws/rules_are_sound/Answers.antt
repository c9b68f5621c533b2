use Rattle.dk_suppress.proofs.Sound.{rules_are_sound}
use Rattle.dk_suppress.proofs.laws.rules_are_sound.Goals as goal

pub returns : goal.returns
returns c = rules_are_sound
