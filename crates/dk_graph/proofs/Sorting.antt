-- The links of a point from a number on.
use Rattle.std.proofs.Common.{ℕ, List, drop, map}
use Rattle.std.specs.List.{enumerate_from}
use Rattle.dk_graph.specs.Graphs.{Link}

module _ (child : ℕ) (parents : List (List ℕ)) where
  abbrev pub link : ℕ × List ℕ → Link
  link l = record { child = child; number = l.0; parent = l.1 }

  -- the links from a number on
  abbrev pub links_from : ℕ → List Link
  links_from i = map link (enumerate_from i (drop i parents))
