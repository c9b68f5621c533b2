use Rattle.std.proofs.Common.{length}
use Rattle.dk_forms.proofs.code.+code_all_stay.Given as goal

abbrev pub decreases-code_all_stay : goal.decreases-code_all_stay
decreases-code_all_stay l = length l.values.now
