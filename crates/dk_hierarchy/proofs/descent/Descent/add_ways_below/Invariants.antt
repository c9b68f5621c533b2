use Rattle.std.specs.Prelude.{◌≡◌, take}
use Rattle.dk_hierarchy.proofs.Following.{with_each}
use Rattle.dk_hierarchy.proofs.descent.Descent.add_ways_below.Given as goal

abbrev pub invariant-loop-edge : goal.invariant-loop-edge
invariant-loop-edge l = l.levels ≡ with_each l.self.points.now l.self.ranks.now l.self.shortcuts.now l.way l.fn.levels (take l.edge-index l.edge-items)
