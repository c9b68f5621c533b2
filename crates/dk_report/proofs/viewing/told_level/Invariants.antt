use Rattle.std.specs.Prelude.{◌≡◌, [], ◌∷◌, map, take}
use Rattle.dk_instances.specs.Instances.{rows_of}
use Rattle.dk_report.specs.Viewing.{left_of_shown}
use Rattle.dk_report.proofs.viewing.told_level.Given as goal

abbrev pub invariant-loop-n : goal.invariant-loop-n
invariant-loop-n l = l.rows.items ≡ [] ∷ map (left_of_shown l.shown l.below) (take l.n (rows_of l.fn.grammar))
