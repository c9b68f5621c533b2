use Rattle.std.specs.Prelude.{◌≡◌, ◌-◌, drop, length}
use Rattle.std.specs.List.{list_any}
use Rattle.dk_filters.specs.Facts.{stands_there}
use Rattle.dk_filters.specs.Parents.{answers_by}
use Rattle.dk_filters.proofs.Somewhere.{next}
use Rattle.dk_filters.proofs.parents.Sought.+stands_somewhere.Given as goal

-- what is left of the listed variables tells
abbrev pub invariant-loop-w : goal.invariant-loop-w
invariant-loop-w g l =
    let told_there = answers_by l.self.vars.now (g.P.Answers.answered l.self.there.now) (g.P.Answers.counted l.self.there.now) (g.P.Answers.agreeing l.self.there.now) in
    let stands = next (stands_there told_there l.self.row l.self.state.now) l.listed l.tuple l.chosen l.role in
    list_any stands (drop l.w-index l.w-items) ≡ list_any stands l.w-items

abbrev pub decreases-stands_somewhere : goal.decreases-stands_somewhere
decreases-stands_somewhere g l = length l.tuple.now - l.role
