use Rattle.std.specs.Prelude.{◌≡◌}
use Rattle.dk_hierarchy.specs.Descent.{own_partners}
use Rattle.dk_hierarchy.proofs.composing.own_partners.Given as goal

abbrev pub invariant-loop-v : goal.invariant-loop-v
invariant-loop-v l = l.partners ≡ own_partners l.v
