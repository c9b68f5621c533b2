use Rattle.std.specs.Prelude.{refl}
use Rattle.dk_suppress.specs.Rules.{asked_by_number, asked_of, rules}
use Rattle.dk_suppress.proofs.rules.asked_rows.Goals as goal

pub returns : goal.returns
unfolding asked_by_number asked_of rules
returns c = refl
