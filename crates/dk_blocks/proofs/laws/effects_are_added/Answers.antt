use Rattle.dk_blocks.proofs.Added.{added}
use Rattle.dk_blocks.proofs.laws.effects_are_added.Goals as goal

pub returns : goal.returns
returns c = added
