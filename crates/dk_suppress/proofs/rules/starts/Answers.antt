use Rattle.std.specs.Prelude.{refl}
use Rattle.dk_suppress.specs.Parts.{starts}
use Rattle.dk_suppress.specs.Rules.{rules}
use Rattle.dk_suppress.proofs.rules.starts.Goals as goal

pub returns : goal.returns
unfolding starts rules
returns c = refl
