use Rattle.std.specs.Prelude.{◌≡◌, map}
use Rattle.dk_filters.specs.Facts.{has_one_value}
use Rattle.dk_filters.specs.Found.{vars_below}
use Rattle.dk_filters.specs.Parents.{answers_by}
use Rattle.dk_filters.proofs.found.one_values.Given as goal

abbrev pub invariant-loop-n : goal.invariant-loop-n
invariant-loop-n g l = l.list ≡ map (has_one_value (answers_by l.vars (g.A.Answers.answered l.here) (g.A.Answers.counted l.here) (g.A.Answers.agreeing l.here))) (vars_below l.n)
