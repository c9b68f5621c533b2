use Rattle.std.proofs.Common.{length}
use Rattle.dk_forms.proofs.greatest.+greatest_all_stay.Given as goal

abbrev pub decreases-greatest_all_stay : goal.decreases-greatest_all_stay
decreases-greatest_all_stay l = length l.values.now
