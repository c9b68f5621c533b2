-- Links of points, and the edges that they are.
use Rattle.std.proofs.Common.{◌≡◌, ◌∙◌, ℕ, ◌+◌, ◌<◌, inl, inr, List, [], ◌∷◌, length, flat_map, Option, None, Some, option_map, bytes_eq, Contains, refl, ap, subst, sym, arith}
use Rattle.std.specs.List.{enumerate_from}
use Rattle.std.proofs.lemmas.List.Quantifiers.{position-Some}
use Rattle.dk_graph.specs.Names.{place_of}
use Rattle.dk_graph.specs.Graphs.{Link, node_names, links, links_at, edge_of, edges}
use Rattle.dk_graph.specs.declared.nodes.Edge.{Edge}
use Rattle.dk_graph.specs.declared.nodes.Node.{Node}
use Rattle.dk_graph.proofs.Places.{some-injective, length-map}
use Rattle.dk_graph.proofs.Members.{Has, has-contained, has-append, has-map, has-filter_map}

pub place-below : (all : List (List ℕ)) (name : List ℕ) (j : ℕ) → place_of all name ≡ Some j → j < length all
unfolding place_of
place-below all name j at = (position-Some (bytes_eq name) all j [] at).0

-- an edge has its child and its number from its link, and its parent has the link's name
abbrev pub IsEdgeOf : List (List ℕ) → Link → Edge → Type 0
IsEdgeOf all l e = (place_of all l.parent ≡ Some e.parent.0) × (e.child.0 ≡ l.child) × (e.number ≡ l.number)

pub is-edge-of : (all : List (List ℕ)) (l : Link) (e : Edge) → edge_of all l ≡ Some e → IsEdgeOf all l e
is-edge-of all l e h = by (place_of all l.parent) refl h
  where
    made : ℕ → Edge
    made j = record { child = record { 0 = l.child }; parent = record { 0 = j }; number = l.number }

    by : (o : Option ℕ) → place_of all l.parent ≡ o → option_map made o ≡ Some e → IsEdgeOf all l e
    by None is h = absurd (cc)
    by (Some j) is h =
        let same : made j ≡ e = some-injective h in
        (is ∙ ap (λ f. Some f.parent.0) same, ap (λ f. f.child.0) (sym same), ap (λ f. f.number) (sym same))

links-below : (i : ℕ) (ns : List Node) (l : Link) → Has (flat_map links_at (enumerate_from i ns)) l → l.child < i + length ns
links-below i [] l h = absurd (cc)
links-below i (n ∷ ns) l h = elim (has-append (links_at (i, n)) (flat_map links_at (enumerate_from (i + 1) ns)) l h) [
  | inl here ↦ let found = has-map (λ x. record { child = i; number = x.0; parent = x.1 }) (enumerate_from 0 n.links) l here in
      let same : i ≡ l.child = ap (λ m. m.child) found.2 in omega (arith, same)
  | inr later ↦ omega (arith, links-below (i + 1) ns l later)
]

zero-plus : (n : ℕ) → 0 + n ≡ n
zero-plus n = omega arith

pub link-below : (ns : List Node) (l : Link) → Has (links ns) l → l.child < length ns
unfolding links
link-below ns l h = subst (λ n. l.child < n) (zero-plus (length ns)) (links-below 0 ns l h)

pub edge-has : (ns : List Node) (e : Edge) → Has (edges ns) e → (e.child.0 < length ns) × (e.parent.0 < length ns)
unfolding edges
edge-has ns e h =
    let found = has-filter_map (edge_of (node_names ns)) (links ns) e h in
    let is = is-edge-of (node_names ns) found.0 e found.2 in (
      subst (λ c. c < length ns) (sym is.1) (link-below ns found.0 found.1),
      subst (λ n. e.parent.0 < n) (length-map (λ n. n.name) ns) (place-below (node_names ns) found.0.parent e.parent.0 is.0),
    )

pub edge-below : (ns : List Node) (e : Edge) → Contains (edges ns) e → (e.child.0 < length ns) × (e.parent.0 < length ns)
edge-below ns e there = edge-has ns e (has-contained (edges ns) e there)
