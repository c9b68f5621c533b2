use Rattle.std.specs.Prelude.{length}
use Rattle.dk_filters.proofs.instances.+are_distinct.Given as goal

abbrev pub decreases-are_distinct : goal.decreases-are_distinct
decreases-are_distinct l = length l.vars.now
