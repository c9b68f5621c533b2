use Rattle.std.specs.Prelude.{◌≡◌, None, replicate}
use Rattle.dk_hierarchy.proofs.shortcut.at_first.Given as goal

abbrev pub invariant-loop : goal.invariant-loop
invariant-loop l = l.shortcuts.items ≡ replicate l.counter None
