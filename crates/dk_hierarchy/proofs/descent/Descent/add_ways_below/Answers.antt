use Rattle.std.specs.Prelude.{◌≡◌, ℕ, List}
use Rattle.std.proofs.Common.{◌∙◌, ap, arith, get_or}
use Rattle.dk_graph.specs.declared.nodes.Edge.{Edge}
use Rattle.dk_points.proofs.Nodes.{length-nodes}
use Rattle.dk_hierarchy.proofs.Following.{one_edge_more, with_edge}
use Rattle.dk_hierarchy.proofs.Shortening.{on_within}
use Rattle.dk_hierarchy.specs.Shortcuts.{shortcut_at, shortened, way_on, with_ranked}
use Rattle.dk_hierarchy.specs.declared.way.Way.{Way}
use Rattle.dk_hierarchy.proofs.descent.Descent.add_ways_below.Goals as goal

pub bounds-self-on : goal.bounds-self-on
bounds-self-on c =
    let d = c.args.self.now in
    let ps = d.points.now in
    let none : Edge = record { child = record { 0 = 0 }; parent = record { 0 = 0 }; number = 0 } in
    let e : Edge = get_or c.into-edge-items.result.now c.loop-edge.edge-index none in
    let into = c.into-edge-items.ensures.ends c.loop-edge.edge-index none c.loop-edge-test.true in
    let within = on_within ps d.shortcuts.now c.requires.shortcuts c.args.way.now e into.0 in
    let on : c.go_on.new.way ≡ way_on ps d.shortcuts.now c.args.way.now e =
    c.in_ok-go_on.ensures ∙ ap (λ (w : Way). shortened (shortcut_at d.shortcuts.now w.point.0) w) c.in_ok-on.ensures in
    let point = ap (λ (w : Way). w.point.0) on in
    let all = c.requires.ranks.all in
    let long = length-nodes ps in
    omega (arith, within, point, all, long)

pub loop-edge-preserved : goal.loop-edge-preserved
loop-edge-preserved c =
    let d = c.args.self.now in
    let ps = d.points.now in
    let ranks = d.ranks.now in
    let way = c.args.way.now in
    let i = c.loop-edge.edge-index in
    let none : Edge = record { child = record { 0 = 0 }; parent = record { 0 = 0 }; number = 0 } in
    let items = c.into-edge-items.result.now in
    let e : Edge = get_or items i none in
    let on : c.go_on.new.way ≡ way_on ps d.shortcuts.now way e =
    c.in_ok-go_on.ensures ∙ ap (λ (w : Way). shortened (shortcut_at d.shortcuts.now w.point.0) w) c.in_ok-on.ensures in
    c.in_ok-add.ensures
    ∙ (ap (with_ranked ranks c.loop-edge.levels) on
    ∙ (ap (λ (ls : List (ℕ × List Way)). with_edge ps ranks d.shortcuts.now way ls e) c.loop-edge.invariant
    ∙ one_edge_more ps ranks d.shortcuts.now way c.args.levels.now items i none c.loop-edge-test.true))
