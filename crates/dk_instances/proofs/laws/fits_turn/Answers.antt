use Rattle.dk_instances.proofs.Turning.{fits_exchange, fits_turn}
use Rattle.dk_instances.proofs.laws.fits_turn.Goals as goal

pub returns-clause-exchanged : goal.returns-clause-exchanged
returns-clause-exchanged c = fits_exchange

pub returns-clause-turned : goal.returns-clause-turned
returns-clause-turned c = fits_turn
