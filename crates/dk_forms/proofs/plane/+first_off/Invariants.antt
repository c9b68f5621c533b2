use Rattle.std.proofs.Common.{length}
use Rattle.dk_forms.proofs.plane.+first_off.Given as goal

abbrev pub decreases-first_off : goal.decreases-first_off
decreases-first_off l = length l.points.now
