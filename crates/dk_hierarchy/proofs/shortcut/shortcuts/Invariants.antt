use Rattle.std.specs.Prelude.{◌≡◌, length}
use Rattle.dk_hierarchy.specs.Shortcuts.{AreShortcuts}
use Rattle.dk_hierarchy.proofs.shortcut.shortcuts.Given as goal

abbrev pub invariant-loop-p : goal.invariant-loop-p
invariant-loop-p l = (length l.shortcuts.items ≡ length l.points) × AreShortcuts l.points l.engines l.shortcuts.items
