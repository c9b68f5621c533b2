use Rattle.dk_template.proofs.Exchanges.{offsets_exchange}
use Rattle.dk_template.proofs.laws.offsets_exchange.Goals as goal

pub returns : goal.returns
returns c = offsets_exchange
