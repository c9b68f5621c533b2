use Rattle.std.specs.Prelude.{length}
use Rattle.dk_filters.proofs.comparing.+are_comparable.Given as goal

abbrev pub decreases-are_comparable : goal.decreases-are_comparable
decreases-are_comparable l = length l.tuple.now
