use Rattle.dk_hierarchy.proofs.Going.{same_samples}
use Rattle.dk_hierarchy.proofs.laws.same_samples_say_the_same.Goals as goal

pub returns : goal.returns
returns c = same_samples
