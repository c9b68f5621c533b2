-- The edges that points have to parents, whether the table has the parents or not.
use Rattle.std.specs.Prelude.{ℕ, ◌==◌, ◌&&◌, ◌||◌, ◌++◌, Bool, false, not, List, [], ◌∷◌, filter, map, bytes_eq, if◌then◌else◌}
use Rattle.std.specs.List.{enumerate_from, list_any}
use Rattle.std.specs.Option.{option_map_or}
use Rattle.dk_decl.specs.declared.decls.EdgeDecl.{EdgeDecl}
use Rattle.dk_graph.specs.declared.nodes.Node.{Node}
use Rattle.dk_points.specs.Names.{combined_name, is_subexit, role_of}
use Rattle.dk_points.specs.Table.{Point, name_of, point_of}

abbrev pub is_to : List ℕ → EdgeDecl → Bool
is_to name e = bytes_eq e.parent name

-- one parent and one ID
abbrev pub same_edge : EdgeDecl → EdgeDecl → Bool
same_edge a b = bytes_eq a.parent b.parent && a.id == b.id

-- the edges that the implicit exit of this name was made with; none where the point of this name is no implicit exit
abbrev pub edges_of_implicit : List Point → List ℕ → List EdgeDecl
edges_of_implicit ps name = option_map_or (λ p. if p.is_implicit then p.decl.edges else []) (point_of ps name) []

-- Whether an edge of its declaration is dropped from a point behind these: an implicit exit has none to itself, and a subexit none
-- to its combined exit and, where that is implicit, none that it was made with.
abbrev pub is_dropped : List Point → Point → EdgeDecl → Bool
is_dropped ps p e =
    if p.is_implicit then is_to (combined_name p.decl.name) e
    else if is_subexit (role_of p.decl.name)
    then is_to (combined_name p.decl.name) e || list_any (same_edge e) (edges_of_implicit ps (combined_name p.decl.name))
    else false

-- the declared edges that are not dropped, each with its place in the declaration
unfoldable pub kept_edges : List Point → Point → List (ℕ × EdgeDecl)
kept_edges ps p = filter (λ e. not (is_dropped ps p e.1)) (enumerate_from 0 p.decl.edges)

-- a subexit has an edge to its combined exit by equal names, behind the declared ones
abbrev pub made_links : Point → List (List ℕ)
made_links p = if not p.is_implicit && is_subexit (role_of p.decl.name) then combined_name p.decl.name ∷ [] else []

-- the parents of a point behind these, by name, one for each edge in the order of their numbers
abbrev pub links_of : List Point → Point → List (List ℕ)
links_of ps p = map (λ e. e.1.parent) (kept_edges ps p) ++ made_links p

-- a point behind these, as the graph of points has it
abbrev pub node_of : List Point → Point → Node
node_of ps p = record { name = name_of p; links = links_of ps p }

abbrev pub nodes_behind : List Point → List Point → List Node
nodes_behind before [] = []
nodes_behind before (p ∷ ps) = node_of before p ∷ nodes_behind (before ++ p ∷ []) ps

-- The graph of the points: what stands before a point decides its links.
unfoldable pub nodes : List Point → List Node
nodes ps = nodes_behind [] ps
