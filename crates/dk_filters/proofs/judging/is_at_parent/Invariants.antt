use Rattle.std.specs.Prelude.{◌≡◌, drop}
use Rattle.std.specs.List.{list_any}
use Rattle.dk_filters.proofs.AtParents.{is_at_view}
use Rattle.dk_filters.proofs.judging.is_at_parent.Given as goal

-- what is left of the parents tells
abbrev pub invariant-loop-place : goal.invariant-loop-place
invariant-loop-place g l =
    let stands = is_at_view g.P.Answers.answered g.P.Answers.counted g.P.Answers.agreeing l.row l.state l.tuple in
    list_any stands (drop l.place l.parents) ≡ list_any stands l.parents
