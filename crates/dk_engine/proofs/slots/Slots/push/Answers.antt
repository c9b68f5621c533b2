use Rattle.std.specs.Prelude.{◌≡◌, []}
use Rattle.std.proofs.Common.{rules, subst, sym}
use Rattle.dk_engine.proofs.Passing.{none_passed}
use Rattle.dk_engine.specs.Idle.{AreSkips}
use Rattle.dk_engine.proofs.slots.Slots.push.Goals as goal

pub invariant_of-self : goal.invariant_of-self
invariant_of-self c =
    let none : c.clear.new.self.items ≡ [] = search rules in
    subst (AreSkips _ _) (sym none) (none_passed _ _)

pub invariant_of-self-2 : goal.invariant_of-self-2
invariant_of-self-2 c =
    let none : c.clear.new.self.items ≡ [] = search rules in
    subst (AreSkips _ _) (sym none) (none_passed _ _)
