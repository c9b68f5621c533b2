use Rattle.std.specs.Prelude.{◌≡◌, ◌++◌, drop, take}
use Rattle.dk_hierarchy.specs.Ways.{with_way}
use Rattle.dk_hierarchy.proofs.levels.with_way.Given as goal

abbrev pub invariant-loop-i : goal.invariant-loop-i
invariant-loop-i l = (l.all.items ≡ l.fn.ways) × (with_way l.fn.ways l.way ≡ take l.i l.fn.ways ++ with_way (drop l.i l.fn.ways) l.way)
