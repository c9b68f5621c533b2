use Rattle.std.proofs.Common.{length}
use Rattle.dk_forms.proofs.few.ints.+ints_all_stay.Given as goal

abbrev pub decreases-ints_all_stay : goal.decreases-ints_all_stay
decreases-ints_all_stay l = length l.values.now
