use Rattle.dk_engine.proofs.SlotLists.{slots_of_fits_exact}
use Rattle.dk_engine.proofs.laws.slots_of_fits_are_exact.Goals as goal

pub returns : goal.returns
returns c = slots_of_fits_exact
