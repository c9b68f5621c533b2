use Rattle.dk_hierarchy.proofs.MoreWays.{above_all}
use Rattle.dk_hierarchy.specs.Descent.{AreLevels, ways_in}
use Rattle.dk_hierarchy.specs.Shortcuts.{IsDescentBy}
use Rattle.dk_hierarchy.proofs.descent.ways_down.Given as goal

abbrev pub invariant-loop-rank : goal.invariant-loop-rank
invariant-loop-rank l = IsDescentBy l.points l.descent.shortcuts.now l.fn.top.0 l.ways (ways_in l.levels) × AreLevels l.descent.ranks.now l.levels

abbrev pub decreases-loop-rank : goal.decreases-loop-rank
decreases-loop-rank l = above_all l.levels
