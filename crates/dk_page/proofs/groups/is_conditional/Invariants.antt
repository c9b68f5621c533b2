use Rattle.std.proofs.Common.{◌≡◌, length}
use Rattle.dk_page.specs.Groups.{is_conditional}
use Rattle.dk_page.proofs.groups.is_conditional.Given as goal

abbrev pub invariant-places : goal.invariant-places
invariant-places l = is_conditional l.left ≡ is_conditional l.text

abbrev pub decreases-places : goal.decreases-places
decreases-places l = length l.left
