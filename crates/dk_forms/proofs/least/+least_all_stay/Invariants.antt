use Rattle.std.proofs.Common.{length}
use Rattle.dk_forms.proofs.least.+least_all_stay.Given as goal

abbrev pub decreases-least_all_stay : goal.decreases-least_all_stay
decreases-least_all_stay l = length l.values.now
