use Rattle.dk_driver.proofs.Trails.{go_on}
use Rattle.dk_driver.proofs.laws.records_go_on.Goals as goal

pub returns : goal.returns
returns c = go_on
