use Rattle.std.specs.Prelude.{◌++◌, [], ◌∷◌}
use Rattle.std.proofs.Common.{vec_len}
use Rattle.dk_hierarchy.specs.Descent.{AreBelow, AreLevels, ways_in}
use Rattle.dk_hierarchy.specs.Shortcuts.{IsDescentBy}
use Rattle.dk_hierarchy.proofs.descent.Descent.follow.Given as goal

abbrev pub invariant-loop-way : goal.invariant-loop-way
invariant-loop-way l =
    IsDescentBy l.self.points.now l.self.shortcuts.now l.self.top.0 l.ways (ways_in l.levels ++ l.level.items)
    × AreLevels l.self.ranks.now (l.levels ++ (l.rank, l.level.items) ∷ [])
    × AreBelow l.rank l.levels

abbrev pub decreases-loop-way : goal.decreases-loop-way
decreases-loop-way l = vec_len l.level
