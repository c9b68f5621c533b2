use Rattle.dk_template.proofs.Absorbing.{broken_absorbs}
use Rattle.dk_template.proofs.laws.broken_absorbs.Goals as goal

pub returns : goal.returns
returns c = broken_absorbs
