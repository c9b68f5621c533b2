-- The parts of points with their edges.
use Rattle.dk_graph.specs.Kept.{IsJoined}
use Rattle.dk_graph.specs.declared.edges.Parts.{Parts}

-- the rows and the links that wait are those of the points
abbrev pub AreJoined : Parts → Type 0
AreJoined p = IsJoined p.nodes p.names p.waiting p.from.items p.into.items
