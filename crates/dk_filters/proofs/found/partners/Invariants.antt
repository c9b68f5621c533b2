use Rattle.std.specs.Prelude.{◌≡◌, map, take}
use Rattle.dk_filters.specs.Found.{by_partner}
use Rattle.dk_filters.specs.Parents.{parent_shown}
use Rattle.dk_filters.proofs.found.partners.Given as goal

abbrev pub invariant-loop-parent : goal.invariant-loop-parent
invariant-loop-parent g l = l.lists ≡ map (λ p. by_partner l.vars (parent_shown g.P.Answers.answered g.P.Answers.counted g.P.Answers.agreeing p)) (take l.parent-index l.parents)
