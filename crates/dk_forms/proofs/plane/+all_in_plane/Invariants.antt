use Rattle.std.proofs.Common.{length}
use Rattle.dk_forms.proofs.plane.+all_in_plane.Given as goal

abbrev pub decreases-all_in_plane : goal.decreases-all_in_plane
decreases-all_in_plane l = length l.points.now
