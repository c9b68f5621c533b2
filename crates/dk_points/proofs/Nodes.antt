-- The graph of the points, point by point.
use Rattle.std.proofs.Common.{◌≡◌, ◌∙◌, suc, List, [], ◌∷◌, ◌++◌, length, refl, sym, ap, append_assoc}
use Rattle.dk_graph.specs.Graphs.{node_names as graph_names}
use Rattle.dk_points.specs.Links.{node_of, nodes, nodes_behind}
use Rattle.dk_points.specs.Table.{Point, name_of, names}

names_behind : (before ps : List Point) → graph_names (nodes_behind before ps) ≡ names ps
names_behind before [] = refl
names_behind before (p ∷ ps) = ap (λ ns. name_of p ∷ ns) (names_behind (before ++ p ∷ []) ps)

length_behind : (before ps : List Point) → length (nodes_behind before ps) ≡ length ps
length_behind before [] = refl
length_behind before (p ∷ ps) = ap suc (length_behind (before ++ p ∷ []) ps)

push_behind : (before ps : List Point) (q : Point) → nodes_behind before (ps ++ q ∷ []) ≡ nodes_behind before ps ++ node_of (before ++ ps) q ∷ []
push_behind before [] q = ap (λ xs. node_of xs q ∷ []) (sym (append_nil before))
  where
    append_nil : (xs : List Point) → xs ++ [] ≡ xs
    append_nil [] = refl
    append_nil (x ∷ xs) = ap (λ ys. x ∷ ys) (append_nil xs)
push_behind before (p ∷ ps) q =
    let rest : nodes_behind (before ++ p ∷ []) (ps ++ q ∷ []) ≡ nodes_behind (before ++ p ∷ []) ps ++ node_of (before ++ p ∷ ps) q ∷ [] =
    push_behind (before ++ p ∷ []) ps q
    ∙ ap (λ xs. nodes_behind (before ++ p ∷ []) ps ++ node_of xs q ∷ []) (append_assoc before (p ∷ []) ps) in
    ap (λ ns. node_of before p ∷ ns) rest

pub names-nodes : (ps : List Point) → graph_names (nodes ps) ≡ names ps
unfolding nodes
names-nodes ps = names_behind [] ps

pub length-nodes : (ps : List Point) → length (nodes ps) ≡ length ps
unfolding nodes
length-nodes ps = length_behind [] ps

-- one point more is one node more, whose links the points before it decide
pub nodes-push : (ps : List Point) (q : Point) → nodes (ps ++ q ∷ []) ≡ nodes ps ++ node_of ps q ∷ []
unfolding nodes
nodes-push ps q = push_behind [] ps q
