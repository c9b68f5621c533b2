use Rattle.std.proofs.Common.{◌≡◌, drop}
use Rattle.std.specs.List.{list_any}
use Rattle.dk_points.specs.Links.{same_edge}
use Rattle.dk_points.proofs.links.has_edge.Given as goal

abbrev pub invariant-loop-other : goal.invariant-loop-other
invariant-loop-other l = list_any (same_edge l.edge) (drop l.other-index l.edges) ≡ list_any (same_edge l.edge) l.edges
