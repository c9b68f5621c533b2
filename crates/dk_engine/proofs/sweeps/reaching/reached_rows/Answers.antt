use Rattle.std.specs.Prelude.{refl}
use Rattle.dk_suppress.specs.Rules.{freed, rules}
use Rattle.dk_engine.specs.Sweeps.Reached.{reached_by_number, reached_from}
use Rattle.dk_engine.proofs.sweeps.reaching.reached_rows.Goals as goal

pub returns : goal.returns
unfolding reached_by_number reached_from freed rules
returns c = refl
