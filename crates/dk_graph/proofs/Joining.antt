-- What is kept once one point more has come.
use Rattle.std.proofs.Common.{◌≡◌, ◌∙◌, ℕ, ◌+◌, ◌<◌, inl, inr, Bool, List, [], ◌∷◌, ◌++◌, length, map, filter, filter_map, bytes_eq, slice_get, Option, None, Some, refl, ap, subst, sym, length-append, arith}
use Rattle.dk_graph.specs.Names.{place_of}
use Rattle.dk_graph.specs.Notes.{noted_under}
use Rattle.dk_graph.specs.Graphs.{node_names, links, links_to_parents, edge_of, edges_from, edges_into}
use Rattle.dk_graph.specs.Kept.{IsJoined, links_to, waited, waiting_link}
use Rattle.dk_graph.specs.Raising.{ParentsBelow}
use Rattle.dk_graph.specs.Rows.{row, edge_to, inserted, spread, ChildrenBelow}
use Rattle.dk_graph.specs.declared.nodes.Edge.{Edge}
use Rattle.dk_graph.specs.declared.nodes.Node.{Node}
use Rattle.dk_graph.specs.declared.nodes.Waiting.{Waiting}
use Rattle.dk_graph.proofs.Added.{come, own, own-edge, from-old, from-new, into-old, into-come, links_to-push, from_child, into_parent}
use Rattle.dk_graph.proofs.Links.{link-below}
use Rattle.dk_graph.proofs.Members.{Has, has-map, has-filter}
use Rattle.dk_graph.proofs.Orders.{put_in, inserted-row, length-inserted, spread-row, length-spread, row-push-old, row-push-new}
use Rattle.dk_graph.proofs.Places.{length-map, map-append}
use Rattle.dk_graph.proofs.Positions.{or_last, place_of-push}
use Rattle.dk_graph.proofs.Steps.{eq_or_not}
use Rattle.dk_graph.proofs.Waits.{to_name, waited-under}

length-push : {X : Type 0} (xs : List X) (x : X) → length (xs ++ x ∷ []) ≡ length xs + 1
length-push xs x = length-append xs (x ∷ [])

module _ (ns : List Node) (n : Node) (waiting : List (List ℕ × List Waiting)) (from into : List (List Edge))
    (kept : IsJoined ns (node_names ns) waiting from into) (none : place_of (node_names ns) n.name ≡ None) (few : length ns < 65535)
    (children : List Edge) (came : children ≡ map (edge_to (record { 0 = length ns })) (noted_under waiting n.name)) where
  length-names : length ns ≡ length (node_names ns)
  length-names = sym (length-map (λ m. m.name) ns)

  came-is : children ≡ come (node_names ns) n.name none (links ns)
  came-is =
      came
      ∙ ap (map (edge_to (record { 0 = length ns }))) (kept.waits n.name none)
      ∙ ap (λ k. map (edge_to (record { 0 = k })) (links_to ns n.name)) length-names

  come-child : (e : Edge) → Has (come (node_names ns) n.name none (links ns)) e → e.child.0 < length ns
  come-child e h =
      let waits = has-map (edge_to (record { 0 = length (node_names ns) })) (to_name (links ns) n.name) e h in
      let link = has-map waiting_link (filter (λ m. bytes_eq m.parent n.name) (links ns)) waits.0 waits.1 in
      let one = has-filter (λ m. bytes_eq m.parent n.name) (links ns) link.0 link.1 in
      let child : link.0.child ≡ e.child.0 = ap (λ w. w.child.0) link.2 ∙ ap (λ f. f.child.0) waits.2 in
      subst (λ c. c < length ns) child (link-below ns link.0 one.0)

  pub children-below : ChildrenBelow (length from) children
  children-below k e at =
      let below = come-child e (k, subst (λ es. slice_get es k ≡ Some e) came-is at) in omega (arith, below, kept.from_all)

  module _ (mine : List Edge) (is : mine ≡ filter_map (edge_of (node_names ns ++ n.name ∷ [])) (links_to_parents (length ns) n.links)) where
    pub parents-below : ParentsBelow (length (into ++ children ∷ [])) mine
    parents-below k e at =
        let below = (own-edge ns n none e (k, subst (λ es. slice_get es k ≡ Some e) is at)).1 in
        omega (arith, below, kept.into_all, length-push into children)

    abbrev new-from : List (List Edge)
    new-from = inserted from children ++ mine ∷ []

    abbrev new-into : List (List Edge)
    new-into = spread (into ++ children ∷ []) mine

    length-from : length (inserted from children) ≡ length ns
    length-from = length-inserted from children ∙ kept.from_all

    from-are : (p : ℕ) → row new-from p ≡ edges_from (ns ++ n ∷ []) p
    from-are p = elim (eq_or_not p (length ns)) [
      | inl same ↦
          ap (row new-from) (same ∙ sym length-from)
          ∙ row-push-new (inserted from children) mine
          ∙ is
          ∙ sym (from-new ns n none)
          ∙ ap (edges_from (ns ++ n ∷ [])) (sym same)
      | inr other ↦
          row-push-old (inserted from children) mine p (λ same. other (same ∙ length-from))
          ∙ inserted-row children from p children-below
          ∙ ap (λ es. put_in es (filter (from_child p) children)) (kept.from_are p)
          ∙ ap (λ es. put_in (edges_from ns p) (filter (from_child p) es)) came-is
          ∙ sym (from-old ns n none p other)
    ]

    into-are : (p : ℕ) → row new-into p ≡ edges_into (ns ++ n ∷ []) p
    into-are p =
        spread-row mine (into ++ children ∷ []) p parents-below
        ∙ ap (λ es. row (into ++ children ∷ []) p ++ filter (into_parent p) es) is
        ∙ elim (eq_or_not p (length ns)) [
          | inl same ↦
              ap (λ q. row (into ++ children ∷ []) q ++ filter (into_parent p) (own ns n none)) (same ∙ sym kept.into_all)
              ∙ ap (λ es. es ++ filter (into_parent p) (own ns n none)) (row-push-new into children ∙ came-is)
              ∙ ap (λ q. come (node_names ns) n.name none (links ns) ++ filter (into_parent q) (own ns n none)) same
              ∙ sym (into-come ns n none)
              ∙ ap (edges_into (ns ++ n ∷ [])) (sym same)
          | inr other ↦
              ap (λ es. es ++ filter (into_parent p) (own ns n none)) (row-push-old into children p (λ same. other (same ∙ kept.into_all)) ∙ kept.into_are p)
              ∙ sym (into-old ns n none p other)
        ]

    no-place : (name : List ℕ) → place_of (node_names ns ++ n.name ∷ []) name ≡ None → place_of (node_names ns) name ≡ None
    no-place name h = by (place_of (node_names ns) name) (bytes_eq name n.name) (length (node_names ns)) (sym (place_of-push (node_names ns) n.name name) ∙ h)
      where
        by : (o : Option ℕ) (b : Bool) (k : ℕ) → or_last o b k ≡ None → o ≡ None
        by (Some j) b k h = absurd (cc)
        by None b k h = refl

    waits : (name : List ℕ) → place_of (node_names ns ++ n.name ∷ []) name ≡ None
        → noted_under (waited (node_names ns ++ n.name ∷ []) (links_to_parents (length ns) n.links) waiting) name ≡ links_to (ns ++ n ∷ []) name
    waits name h =
        waited-under (node_names ns ++ n.name ∷ []) (links_to_parents (length ns) n.links) waiting name h
        ∙ ap (λ ws. ws ++ to_name (links_to_parents (length ns) n.links) name) (kept.waits name (no-place name h))
        ∙ sym (links_to-push ns n none name)

    pub joined : IsJoined (ns ++ n ∷ []) (node_names ns ++ n.name ∷ []) (waited (node_names ns ++ n.name ∷ []) (links_to_parents (length ns) n.links) waiting) new-from new-into
    joined = record {
      named = sym (map-append (λ m. m.name) ns (n ∷ []));
      from_all = omega (arith, length-push (inserted from children) mine, length-from, length-push ns n);
      from_are = from-are;
      into_all = omega (arith, length-spread (into ++ children ∷ []) mine, length-push into children, kept.into_all, length-push ns n);
      into_are = into-are;
      waits = waits;
      few = omega (arith, few, length-push ns n);
    }

    pub joined-as : (nodes : List Node) (all : List (List ℕ)) (notes : List (List ℕ × List Waiting)) (rows-from rows-into : List (List Edge))
        → nodes ≡ ns ++ n ∷ [] → all ≡ node_names ns ++ n.name ∷ [] → notes ≡ waited (node_names ns ++ n.name ∷ []) (links_to_parents (length ns) n.links) waiting
        → rows-from ≡ new-from → rows-into ≡ new-into → IsJoined nodes all notes rows-from rows-into
    joined-as nodes all notes rows-from rows-into a b c d e = rw (a, b, c, d, e) joined
