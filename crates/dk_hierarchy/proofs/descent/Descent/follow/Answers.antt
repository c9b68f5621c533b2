use Rattle.std.specs.Prelude.{◌≡◌, ◌++◌, [], ◌∷◌, ℕ, List, length}
use Rattle.std.proofs.Common.{◌∙◌, ap, arith, subst, sym}
use Rattle.std.proofs.lemmas.List.{append-nil, nil_from_length}
use Rattle.dk_graph.proofs.Ranked.{deeper, no-cycle}
use Rattle.dk_points.specs.Links.{nodes}
use Rattle.dk_hierarchy.proofs.Following.{below_now, followed, levels_now, point_within}
use Rattle.dk_hierarchy.proofs.MoreWays.{IsLevel, all_parts}
use Rattle.dk_hierarchy.specs.Descent.{AreBelow, AreLevels, ways_in}
use Rattle.dk_hierarchy.specs.Shortcuts.{IsDescentBy}
use Rattle.dk_hierarchy.specs.declared.way.Way.{Way}
use Rattle.dk_hierarchy.proofs.descent.Descent.follow.Goals as goal

pub add_ways_below-requires-clause-point : goal.add_ways_below-requires-clause-point
add_ways_below-requires-clause-point c =
    let d = c.args.self.now in
    let ps = d.points.now in
    let ranks = d.ranks.now in
    point_within ps (deeper (nodes ps) (no-cycle (nodes ps) ranks c.requires.ranks)) ranks c.requires.ranks d.top.0 d.shortcuts.now c.requires.shortcuts c.loop-way.ways c.loop-way.levels c.loop-way.level.items
    c.pop.new.self.items c.in-Some.way c.in-Some.ensures.items c.loop-way.invariant.0

pub loop-way-preserved : goal.loop-way-preserved
loop-way-preserved c =
    let d = c.args.self.now in
    let ps = d.points.now in
    let ranks = d.ranks.now in
    let p = d.top.0 in
    let shortcuts = d.shortcuts.now in
    let down = c.requires.shortcuts in
    let ways = c.loop-way.ways in
    let levels = c.loop-way.levels in
    let way = c.in-Some.way in
    let old : List Way = c.loop-way.level.items in
    let level : List Way = c.pop.new.self.items in
    let deep = deeper (nodes ps) (no-cycle (nodes ps) ranks c.requires.ranks) in
    let are = c.requires.ranks in
    let popped = c.in-Some.ensures.items in
    let is = c.loop-way.invariant.0 in
    let added = c.in_ok-add_ways_below.ensures in (
      subst (λ (ws : List Way). IsDescentBy ps shortcuts p ws (ways_in c.add_ways_below.new.levels ++ level)) (sym c.in_ok-push.ensures.ok)
          (subst (λ (ls : List (ℕ × List Way)). IsDescentBy ps shortcuts p (ways ++ way ∷ []) (ways_in ls ++ level)) (sym added)
          (followed ps deep ranks are p shortcuts down ways levels old level way popped is)),
      subst (λ (ls : List (ℕ × List Way)). AreLevels ranks (ls ++ (c.args.rank, level) ∷ [])) (sym added)
          (levels_now ps deep ranks are p shortcuts down ways levels old level way popped is c.args.rank c.loop-way.invariant.1 c.loop-way.invariant.2),
      subst (AreBelow c.args.rank) (sym added)
          (below_now ps deep ranks are p shortcuts down ways levels old level way popped is c.args.rank c.loop-way.invariant.1 c.loop-way.invariant.2),
    )

pub returns-clause-descent : goal.returns-clause-descent
returns-clause-descent c =
    let d = c.args.self.now in
    let none : length c.loop-way.level.items ≡ 0 = omega (arith, c.in_default.ensures.cases) in
    subst (IsDescentBy d.points.now d.shortcuts.now d.top.0 c.loop-way.ways)
    (ap (λ (l : List Way). ways_in c.loop-way.levels ++ l) (nil_from_length c.loop-way.level.items none) ∙ append-nil (ways_in c.loop-way.levels)) c.loop-way.invariant.0

pub returns-clause-levels : goal.returns-clause-levels
returns-clause-levels c =
    let d = c.args.self.now in
    (all_parts (IsLevel d.ranks.now) c.loop-way.levels ((c.args.rank, c.loop-way.level.items) ∷ []) c.loop-way.invariant.1).0
