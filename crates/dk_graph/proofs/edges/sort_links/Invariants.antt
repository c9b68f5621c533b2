use Rattle.std.proofs.Common.{◌≡◌, ◌++◌, filter_map}
use Rattle.dk_graph.specs.Graphs.{edge_of, links_to_parents}
use Rattle.dk_graph.specs.Kept.{waited}
use Rattle.dk_graph.proofs.Sorting.{links_from}
use Rattle.dk_graph.proofs.edges.sort_links.Given as goal

abbrev pub invariant-loop-number : goal.invariant-loop-number
invariant-loop-number l = record {
  own : l.own ++ filter_map (edge_of l.names) (links_from l.child.0 l.links l.number) ≡ l.initial.own ++ filter_map (edge_of l.names) (links_to_parents l.child.0 l.links);
  waiting : waited l.names (links_from l.child.0 l.links l.number) l.waiting ≡ waited l.names (links_to_parents l.child.0 l.links) l.initial.waiting;
}
