use Rattle.std.proofs.Common.{◌≡◌, drop, max, slice_index}
use Rattle.dk_graph.specs.Graphs.{depth_of, highest}
use Rattle.dk_graph.proofs.depths.+depth_by_paths.Given as goal

abbrev pub decreases-depth_by_paths : goal.decreases-depth_by_paths
decreases-depth_by_paths l = slice_index l.ranks.now l.p.0

abbrev pub invariant-loop-edge : goal.invariant-loop-edge
invariant-loop-edge l = max l.depth (highest (depth_of l.nodes) l.fn.p.0 (drop l.edge-index l.row)) ≡ depth_of l.nodes l.fn.p.0
