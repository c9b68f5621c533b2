-- Edges are between points of the table.
use Rattle.std.proofs.Common.{◌≡◌, ℕ, suc, ◌+◌, ◌<◌, ◌==◌, List, [], ◌∷◌, length, filter_map, All, Option, Some, None, IfSome, option_map, subst, arith}
use Rattle.std.proofs.lemmas.Bool.Decides.{Decides-eqb}
use Rattle.std.proofs.lemmas.List.{length-map}
use Rattle.std.proofs.lemmas.List.Elements.{All-append, All-cons, All-filter, All-head, All-map, All-nil, All-tail, filter_passes}
use Rattle.std.specs.List.{cons_option, enumerate_from, flat_map}
use Rattle.dk_graph.specs.Graphs.{Link, edge_of, edges, edges_from, edges_into, links, links_at, node_names}
use Rattle.dk_graph.specs.Names.{place_of}
use Rattle.dk_graph.specs.declared.nodes.Edge.{Edge}
use Rattle.dk_graph.specs.declared.nodes.Node.{Node}
use Rattle.dk_points.proofs.Keeping.{place-within}
use Rattle.dk_points.specs.Ends.{AreFrom, AreInto}

pub all-filter_map : {X Y : Type 0} (f : X → Option Y) (Q : X → Type 0) (P : Y → Type 0) → ((x : X) → Q x → IfSome (f x) P) → (xs : List X) → All Q xs → All P (filter_map f xs)
all-filter_map f Q P gives [] all = All-nil P
all-filter_map {X} {Y} f Q P gives (x ∷ xs) all = go (f x) (gives x (All-head Q x xs all)) (all-filter_map f Q P gives xs (All-tail Q x xs all))
  where
    go : (o : Option Y) → IfSome o P → All P (filter_map f xs) → All P (cons_option o (filter_map f xs))
    go None h rest = rest
    go (Some y) h rest = All-cons P y (filter_map f xs) h rest

pub always : {X : Type 0} (P : X → Type 0) → ((x : X) → P x) → (xs : List X) → All P xs
always P h xs = λ k d within. h _

links-behind : (n : ℕ) (ns : List Node) → All (λ l. l.child < n + length ns) (flat_map links_at (enumerate_from n ns))
links-behind n [] = All-nil (λ l. l.child < n + 0)
links-behind n (x ∷ ns) =
    let here : n < n + suc (length ns) = omega arith in
    let rest : All (λ l. l.child < n + suc (length ns)) (flat_map links_at (enumerate_from (n + 1) ns)) =
    subst (λ m. All (λ l. l.child < m) (flat_map links_at (enumerate_from (n + 1) ns))) (moved n (length ns)) (links-behind (n + 1) ns) in
    All-append (λ l. l.child < n + suc (length ns)) (links_at (n, x)) (flat_map links_at (enumerate_from (n + 1) ns))
    (All-map (λ l. l.child < n + suc (length ns)) (λ l. record { child = n; number = l.0; parent = l.1 }) (enumerate_from 0 x.links) (always (λ l. n < n + suc (length ns)) (λ l. here) (enumerate_from 0 x.links)))
    rest
  where
    moved : (n m : ℕ) → n + 1 + m ≡ n + suc m
    moved n m = omega arith

abbrev IsBetween : ℕ → Edge → Type 0
IsBetween n e = (e.child.0 < n) × (e.parent.0 < n)

edge-between : (ns : List Node) (l : Link) → l.child < length ns → IfSome (edge_of (node_names ns) l) (IsBetween (length ns))
edge-between ns l h = go (place_of (node_names ns) l.parent) (subst (λ n. IfSome (place_of (node_names ns) l.parent) (λ i. i < n)) (length-map ns (λ n. n.name)) (place-within (node_names ns) l.parent))
  where
    go : (o : Option ℕ) → IfSome o (λ i. i < length ns) → IfSome (option_map (λ j. record { child = record { 0 = l.child }; parent = record { 0 = j }; number = l.number }) o) (IsBetween (length ns))
    go None p = tt
    go (Some j) p = (h, p)

edges-between : (ns : List Node) → All (IsBetween (length ns)) (edges ns)
unfolding edges links
edges-between ns =
    all-filter_map (edge_of (node_names ns)) (λ l. l.child < length ns) (IsBetween (length ns)) (edge-between ns) (flat_map links_at (enumerate_from 0 ns))
    (subst (λ m. All (λ l. l.child < m) (flat_map links_at (enumerate_from 0 ns))) (zero_plus (length ns)) (links-behind 0 ns))
  where
    zero_plus : (n : ℕ) → 0 + n ≡ n
    zero_plus n = omega arith

pub edges-into : (ns : List Node) (n p : ℕ) → length ns ≡ n → AreInto n p (edges_into ns p)
unfolding edges_into
edges-into ns n p is = λ k d within.
    let between = All-filter (λ e. e.parent.0 == p) (IsBetween (length ns)) (edges ns) (edges-between ns) k d within in
    let passes = filter_passes (λ e. e.parent.0 == p) (edges ns) k d within in
    (omega (arith, between.0, is), (Decides-eqb _ p).0 passes)

pub edges-from : (ns : List Node) (n p : ℕ) → length ns ≡ n → AreFrom n p (edges_from ns p)
unfolding edges_from
edges-from ns n p is = λ k d within.
    let between = All-filter (λ e. e.child.0 == p) (IsBetween (length ns)) (edges ns) (edges-between ns) k d within in
    let passes = filter_passes (λ e. e.child.0 == p) (edges ns) k d within in
    ((Decides-eqb _ p).0 passes, omega (arith, between.1, is))
