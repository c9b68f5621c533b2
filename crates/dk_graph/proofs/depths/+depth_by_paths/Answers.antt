use Rattle.std.proofs.Common.{◌≡◌, ◌∙◌, ◌+◌, ◌<◌, ◌≤◌, ap, arith, drop, get_or, length, slice_index, subst, sym}
use Rattle.std.proofs.lemmas.List.{drop_all}
use Rattle.dk_graph.specs.Graphs.{depth_of, edges_into, highest}
use Rattle.dk_graph.specs.declared.nodes.Edge.{Edge}
use Rattle.dk_graph.proofs.Links.{edge-below}
use Rattle.dk_graph.proofs.Ranked.{depth-into, depth-low, highest-step, into-row, max-is, no-cycle, nought-max}
use Rattle.dk_graph.proofs.depths.+depth_by_paths.Goals as goal

abbrev none : Edge
none = record { child = record { 0 = 0 }; parent = record { 0 = 0 }; number = 0 }

pub loop-edge-init : goal.loop-edge-init
loop-edge-init t c =
    let ns = c.args.nodes.now in
    let p = c.args.p.0 in
    nought-max (highest (depth_of ns) p c.edges_into-row.result.now)
    ∙ (ap (highest (depth_of ns) p) c.edges_into-row.ensures ∙ depth-into ns (no-cycle ns c.args.ranks.now c.requires.ranks) p c.requires.point)

pub depth_by_paths-requires : goal.depth_by_paths-requires
depth_by_paths-requires t c =
    let ns = c.args.nodes.now in
    let row = c.edges_into-row.result.now in
    let i = c.loop-edge.edge-index in
    let e : Edge = get_or row i none in
    let into = into-row ns c.args.p.0 row i none c.edges_into-row.ensures c.loop-edge-test.true in
    let climbs = subst (λ q. slice_index c.args.ranks.now e.child.0 < slice_index c.args.ranks.now q) into.1 (c.requires.ranks.climb e into.0) in
    let below = edge-below ns e into.0 in
    (omega (arith, climbs, c.decreases), (c.requires.ranks, below.0))

pub overflow_add-depth_by_paths : goal.overflow_add-depth_by_paths
overflow_add-depth_by_paths t c =
    let ns = c.args.nodes.now in
    let row = c.edges_into-row.result.now in
    let i = c.loop-edge.edge-index in
    let e : Edge = get_or row i none in
    let into = into-row ns c.args.p.0 row i none c.edges_into-row.ensures c.loop-edge-test.true in
    let below = edge-below ns e into.0 in
    let less = depth-low ns (no-cycle ns c.args.ranks.now c.requires.ranks) e.child.0 below.0 in
    let few = c.len-count.ensures.few in
    omega (arith, less, few, c.depth_by_paths.ensures)

pub loop-edge-preserved : goal.loop-edge-preserved
loop-edge-preserved t c =
    let ns = c.args.nodes.now in
    let p = c.args.p.0 in
    let row = c.edges_into-row.result.now in
    let i = c.loop-edge.edge-index in
    let into = into-row ns p row i none c.edges_into-row.ensures c.loop-edge-test.true in
    let step = highest-step (depth_of ns) p row i none c.loop-edge-test.true into.1 in
    let more = c.max-depth.ensures ∙ max-is c.loop-edge.depth (c.depth_by_paths.result + 1) in
    omega (arith, c.loop-edge.invariant, step, more, c.depth_by_paths.ensures)

pub returns : goal.returns
returns t c =
    let ns = c.args.nodes.now in
    let p = c.args.p.0 in
    let row = c.edges_into-row.result.now in
    let i = c.loop-edge.edge-index in
    let past : length row ≤ i = c.loop-edge-test.false in
    let end : highest (depth_of ns) p (drop i row) ≡ 0 = ap (highest (depth_of ns) p) (drop_all i row past) in
    omega (arith, c.loop-edge.invariant, end)
