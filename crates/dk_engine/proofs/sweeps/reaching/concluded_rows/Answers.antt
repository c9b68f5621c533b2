use Rattle.std.specs.Prelude.{refl}
use Rattle.dk_suppress.specs.Rules.{rules}
use Rattle.dk_engine.specs.Sweeps.Reached.{concluded_by_number}
use Rattle.dk_engine.proofs.sweeps.reaching.concluded_rows.Goals as goal

pub returns : goal.returns
unfolding concluded_by_number rules
returns c = refl
