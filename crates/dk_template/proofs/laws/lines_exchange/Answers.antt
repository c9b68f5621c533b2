use Rattle.dk_template.proofs.Exchanges.{lines_exchange}
use Rattle.dk_template.proofs.laws.lines_exchange.Goals as goal

pub returns : goal.returns
returns c = lines_exchange
