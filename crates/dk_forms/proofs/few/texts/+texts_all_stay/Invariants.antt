use Rattle.std.proofs.Common.{length}
use Rattle.dk_forms.proofs.few.texts.+texts_all_stay.Given as goal

abbrev pub decreases-texts_all_stay : goal.decreases-texts_all_stay
decreases-texts_all_stay l = length l.values.now
