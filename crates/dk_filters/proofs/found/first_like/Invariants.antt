use Rattle.std.specs.Prelude.{◌≡◌, None, find}
use Rattle.dk_filters.specs.Facts.{are_alike}
use Rattle.dk_filters.specs.Found.{vars_below}
use Rattle.dk_filters.specs.Parents.{answers_by}
use Rattle.dk_filters.proofs.found.first_like.Given as goal

-- none of the variables so far is like it
abbrev pub invariant-loop-n : goal.invariant-loop-n
invariant-loop-n g l = find (are_alike (answers_by l.vars (g.A.Answers.answered l.here) (g.A.Answers.counted l.here) (g.A.Answers.agreeing l.here)) l.v) (vars_below l.n) ≡ None
