use Rattle.std.proofs.Common.{length}
use Rattle.dk_forms.proofs.truth.+truth_all_stay.Given as goal

abbrev pub decreases-truth_all_stay : goal.decreases-truth_all_stay
decreases-truth_all_stay l = length l.values.now
