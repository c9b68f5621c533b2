use Rattle.std.specs.Prelude.{refl}
use Rattle.dk_suppress.specs.Rules.{freed, rules}
use Rattle.dk_suppress.proofs.freeing.freed_rows.Goals as goal

pub returns : goal.returns
unfolding freed rules
returns c = refl
