use Rattle.dk_template.proofs.Exchanges.{planes_exchange}
use Rattle.dk_template.proofs.laws.planes_exchange.Goals as goal

pub returns : goal.returns
returns c = planes_exchange
