-- What is kept beside the points: their edges by child and by parent, the links that wait for their parents, and the ranks.
use Rattle.std.specs.Prelude.{◌≡◌, ℕ, ◌≤◌, List, [], ◌∷◌, length, map, filter, is_none, None, bytes_eq, if◌then◌else◌}
use Rattle.dk_graph.specs.Names.{place_of}
use Rattle.dk_graph.specs.Notes.{noted, noted_under}
use Rattle.dk_graph.specs.Graphs.{Link, node_names, links, edges, edges_from, edges_into}
use Rattle.dk_graph.specs.Raising.{IsRisen, IsRising}
use Rattle.dk_graph.specs.Rows.{row}
use Rattle.dk_graph.specs.declared.nodes.Edge.{Edge}
use Rattle.dk_graph.specs.declared.nodes.Node.{Node}
use Rattle.dk_graph.specs.declared.nodes.Waiting.{Waiting}

-- a link as it waits for its parent
abbrev pub waiting_link : Link → Waiting
waiting_link l = record { child = record { 0 = l.child }; number = l.number }

-- links whose parents are not among the names are noted under them
abbrev pub waited : List (List ℕ) → List Link → List (List ℕ × List Waiting) → List (List ℕ × List Waiting)
waited all [] notes = notes
waited all (l ∷ ls) notes = waited all ls (if is_none (place_of all l.parent) then noted notes l.parent (waiting_link l) else notes)

-- the links to a name, by child and then by number
abbrev pub links_to : List Node → List ℕ → List Waiting
links_to ns name = map waiting_link (filter (λ l. bytes_eq l.parent name) (links ns))

pub record IsJoined (ns : List Node) (all : List (List ℕ))
    (waiting : List (List ℕ × List Waiting)) (from into : List (List Edge)) : Type 0 where
  pub named : all ≡ node_names ns
  pub from_all : length from ≡ length ns
  pub from_are : (p : ℕ) → row from p ≡ edges_from ns p
  pub into_all : length into ≡ length ns
  pub into_are : (p : ℕ) → row into p ≡ edges_into ns p
  pub waits : (name : List ℕ) → place_of all name ≡ None → noted_under waiting name ≡ links_to ns name
  pub few : length ns ≤ 65535

pub record HasRanks (ns : List Node) (ranks : List ℕ) : Type 0 where
  pub all : length ranks ≡ length ns
  pub risen : IsRisen (length ns) (edges ns) ranks

-- ranks before their parents are raised
pub record HasRisingRanks (ns : List Node) (ranks queue : List ℕ) : Type 0 where
  pub all : length ranks ≡ length ns
  pub rising : IsRising (length ns) (edges ns) (record { ranks = ranks; queue = queue })
