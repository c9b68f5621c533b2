-- The edges once one point more has come.
use Rattle.std.proofs.Common.{◌≡◌, ◌∙◌, ℕ, suc, ◌+◌, ◌<◌, ◌==◌, ◌≢◌, Bool, true, false, cond, List, [], ◌∷◌, ◌++◌, length, map, filter, filter_map, bytes_eq, Option, None, Some, option_map, append-nil, refl, ap, subst, sym, arith}
use Rattle.std.specs.List.{cons_option}
use Rattle.std.proofs.lemmas.List.Elements.{filter-append, filter_map-append}
use Rattle.dk_graph.specs.Names.{place_of}
use Rattle.dk_graph.specs.Graphs.{Link, node_names, links, links_to_parents, edge_of, edges, edges_from, edges_into}
use Rattle.dk_graph.specs.Kept.{links_to, waiting_link}
use Rattle.dk_graph.specs.Rows.{edge_to}
use Rattle.dk_graph.specs.declared.nodes.Edge.{Edge}
use Rattle.dk_graph.specs.declared.nodes.Node.{Node}
use Rattle.dk_graph.proofs.Places.{bytes_eq-true, map-append, length-map}
use Rattle.dk_graph.proofs.Positions.{or_last, place_of-push}
use Rattle.dk_graph.proofs.Members.{Has, has-first, has-later, has-filter, has-map, has-filter_map}
use Rattle.dk_graph.proofs.Links.{is-edge-of, place-below, link-below}
use Rattle.dk_graph.proofs.Waits.{to_name}
use Rattle.dk_graph.proofs.Orders.{AllAbove, put_in, put_in-found, put_in-come}
use Rattle.dk_graph.proofs.Ascending.{Ascends, ascends-links, links-push, own-child}
use Rattle.dk_graph.proofs.Heights.{eqb_true, eqb_same}

pub filter-none : {X : Type 0} (p : X → Bool) (xs : List X) → ((x : X) → Has xs x → p x ≡ false) → filter p xs ≡ []
filter-none p [] h = refl
filter-none p (x ∷ xs) h = ap (λ b. cond b (x ∷ filter p xs) (filter p xs)) (h x (has-first x xs)) ∙ filter-none p xs (λ y there. h y (has-later x xs y there))

pub filter-all : {X : Type 0} (p : X → Bool) (xs : List X) → ((x : X) → Has xs x → p x ≡ true) → filter p xs ≡ xs
filter-all p [] h = refl
filter-all p (x ∷ xs) h = ap (λ b. cond b (x ∷ filter p xs) (filter p xs)) (h x (has-first x xs)) ∙ ap (λ ys. x ∷ ys) (filter-all p xs (λ y there. h y (has-later x xs y there)))

pub eq-false : (m n : ℕ) → (m ≢ n) → m == n ≡ false
eq-false m n h = by (m == n) refl
  where
    by : (b : Bool) → m == n ≡ b → b ≡ false
    by true is = absurd (h (eqb_true m n is))
    by false is = refl

abbrev pub edge_from : Link → ℕ → Edge
edge_from l j = record { child = record { 0 = l.child }; parent = record { 0 = j }; number = l.number }

abbrev pub from_child : ℕ → Edge → Bool
from_child p e = e.child.0 == p

abbrev pub into_parent : ℕ → Edge → Bool
into_parent p e = e.parent.0 == p

module _ (all : List (List ℕ)) (name : List ℕ) (none : place_of all name ≡ None) where
  -- the edges of links before and after the name came, and those that came with it
  abbrev pub before : List Link → List Edge
  before ls = filter_map (edge_of all) ls

  abbrev pub after : List Link → List Edge
  after ls = filter_map (edge_of (all ++ name ∷ [])) ls

  abbrev pub come : List Link → List Edge
  come ls = map (edge_to (record { 0 = length all })) (to_name ls name)

  not-found : (l : Link) (j : ℕ) → place_of all l.parent ≡ Some j → bytes_eq l.parent name ≡ true → ⊥
  not-found l j found same = no (sym found ∙ ap (place_of all) (bytes_eq-true l.parent name same) ∙ none)
    where
      no : Some j ≡ None → ⊥
      no h = cc

  after-cons : (l : Link) (ls : List Link) → after (l ∷ ls) ≡ cons_option (option_map (edge_from l) (or_last (place_of all l.parent) (bytes_eq l.parent name) (length all))) (after ls)
  after-cons l ls = ap (λ o. cons_option (option_map (edge_from l) o) (after ls)) (place_of-push all name l.parent)

  -- the numbers of what later links make
  before-above : (p : ℕ) (l : Link) (ls : List Link) → ((m : Link) → Has ls m → m.child ≡ l.child → l.number < m.number) → l.child == p ≡ true
      → AllAbove l.number (filter (from_child p) (before ls))
  before-above p l ls later own e there =
      let found = has-filter (from_child p) (before ls) e there in
      let link = has-filter_map (edge_of all) ls e found.0 in
      let is = is-edge-of all link.0 e link.2 in
      let child : e.child.0 ≡ p = eqb_true e.child.0 p found.1 in
      subst (λ n. l.number < n) (sym is.2) (later link.0 link.1 (sym is.1 ∙ child ∙ sym (eqb_true l.child p own)))

  come-above : (p : ℕ) (l : Link) (ls : List Link) → ((m : Link) → Has ls m → m.child ≡ l.child → l.number < m.number) → l.child == p ≡ true
      → AllAbove l.number (filter (from_child p) (come ls))
  come-above p l ls later own e there =
      let found = has-filter (from_child p) (come ls) e there in
      let waits = has-map (edge_to (record { 0 = length all })) (to_name ls name) e found.0 in
      let link = has-map waiting_link (filter (λ m. bytes_eq m.parent name) ls) waits.0 waits.1 in
      let one = has-filter (λ m. bytes_eq m.parent name) ls link.0 link.1 in
      let number : link.0.number ≡ e.number = ap (λ w. w.number) link.2 ∙ ap (λ f. f.number) waits.2 in
      let own-child : link.0.child ≡ e.child.0 = ap (λ w. w.child.0) link.2 ∙ ap (λ f. f.child.0) waits.2 in
      let child : e.child.0 ≡ p = eqb_true e.child.0 p found.1 in
      subst (λ n. l.number < n) number (later link.0 one.0 (own-child ∙ child ∙ sym (eqb_true l.child p own)))

  -- a child's row takes the edges that came, by number
  pub row-after : (p : ℕ) (ls : List Link) → Ascends ls
      → put_in (filter (from_child p) (before ls)) (filter (from_child p) (come ls)) ≡ filter (from_child p) (after ls)
  row-after p [] up = refl
  row-after p (l ∷ ls) up =
      by (place_of all l.parent) refl (bytes_eq l.parent name) refl (row-after p ls up.1)
      (before-above p l ls up.0) (come-above p l ls up.0)
      ∙ sym (ap (filter (from_child p)) (after-cons l ls))
    where
      by : (o : Option ℕ) → place_of all l.parent ≡ o → (b : Bool) → bytes_eq l.parent name ≡ b
          → put_in (filter (from_child p) (before ls)) (filter (from_child p) (come ls)) ≡ filter (from_child p) (after ls)
          → (l.child == p ≡ true → AllAbove l.number (filter (from_child p) (before ls)))
          → (l.child == p ≡ true → AllAbove l.number (filter (from_child p) (come ls)))
          → put_in (filter (from_child p) (cons_option (option_map (edge_from l) o) (before ls)))
          (filter (from_child p) (map (edge_to (record { 0 = length all })) (map waiting_link (cond b (l ∷ filter (λ m. bytes_eq m.parent name) ls) (filter (λ m. bytes_eq m.parent name) ls)))))
          ≡ filter (from_child p) (cons_option (option_map (edge_from l) (or_last o b (length all))) (after ls))
      by (Some j) found true same rest old new = absurd (not-found l j found same)
      by (Some j) found false other rest old new =
          put_in-found (l.child == p) (edge_from l j) (filter (from_child p) (before ls)) (filter (from_child p) (come ls)) (filter (from_child p) (after ls)) new rest
      by None found true same rest old new =
          put_in-come (l.child == p) (edge_from l (length all)) (filter (from_child p) (before ls)) (filter (from_child p) (come ls)) (filter (from_child p) (after ls)) old new rest
      by None found false other rest old new = rest

  -- the edges into another parent are what they were
  pub into-other : (p : ℕ) → (p ≢ length all) → (ls : List Link) → filter (into_parent p) (after ls) ≡ filter (into_parent p) (before ls)
  into-other p not [] = refl
  into-other p not (l ∷ ls) =
      ap (filter (into_parent p)) (after-cons l ls) ∙ by (place_of all l.parent) (bytes_eq l.parent name) (into-other p not ls)
    where
      by : (o : Option ℕ) (b : Bool) → filter (into_parent p) (after ls) ≡ filter (into_parent p) (before ls)
          → filter (into_parent p) (cons_option (option_map (edge_from l) (or_last o b (length all))) (after ls)) ≡ filter (into_parent p) (cons_option (option_map (edge_from l) o) (before ls))
      by (Some j) b rest = ap (λ es. cond (j == p) (edge_from l j ∷ es) es) rest
      by None true rest =
          ap (λ b. cond b (edge_from l (length all) ∷ filter (into_parent p) (after ls)) (filter (into_parent p) (after ls))) (eq-false (length all) p (λ same. not (sym same))) ∙ rest
      by None false rest = rest

  -- the edges into the new point are those that came
  pub into-new : (ls : List Link) → filter (into_parent (length all)) (after ls) ≡ come ls
  into-new [] = refl
  into-new (l ∷ ls) =
      ap (filter (into_parent (length all))) (after-cons l ls) ∙ by (place_of all l.parent) refl (bytes_eq l.parent name) refl (into-new ls)
    where
      below : (j : ℕ) → j < length all → (j ≢ length all)
      below j h same = omega (arith, h, same)

      by : (o : Option ℕ) → place_of all l.parent ≡ o → (b : Bool) → bytes_eq l.parent name ≡ b → filter (into_parent (length all)) (after ls) ≡ come ls
          → filter (into_parent (length all)) (cons_option (option_map (edge_from l) (or_last o b (length all))) (after ls))
          ≡ map (edge_to (record { 0 = length all })) (map waiting_link (cond b (l ∷ filter (λ m. bytes_eq m.parent name) ls) (filter (λ m. bytes_eq m.parent name) ls)))
      by (Some j) found true same rest = absurd (not-found l j found same)
      by (Some j) found false other rest =
          ap (λ b. cond b (edge_from l j ∷ filter (into_parent (length all)) (after ls)) (filter (into_parent (length all)) (after ls))) (eq-false j (length all) (below j (place-below all l.parent j found))) ∙ rest
      by None found true same rest =
          ap (λ b. cond b (edge_from l (length all) ∷ filter (into_parent (length all)) (after ls)) (filter (into_parent (length all)) (after ls))) (eqb_same (length all))
          ∙ ap (λ es. edge_from l (length all) ∷ es) rest
      by None found false other rest = rest

-- ---- the point and its own links

module _ (ns : List Node) (n : Node) (none : place_of (node_names ns) n.name ≡ None) where
  abbrev pub own : List Edge
  own = filter_map (edge_of (node_names ns ++ n.name ∷ [])) (links_to_parents (length ns) n.links)

  names-push : node_names (ns ++ n ∷ []) ≡ node_names ns ++ n.name ∷ []
  names-push = map-append (λ m. m.name) ns (n ∷ [])

  length-names : length (node_names ns) ≡ length ns
  length-names = length-map (λ m. m.name) ns

  pub edges-push : edges (ns ++ n ∷ []) ≡ after (node_names ns) n.name none (links ns) ++ own
  unfolding edges
  edges-push =
      ap (λ xs. filter_map (edge_of xs) (links (ns ++ n ∷ []))) names-push
      ∙ ap (filter_map (edge_of (node_names ns ++ n.name ∷ []))) (links-push ns n)
      ∙ filter_map-append (edge_of (node_names ns ++ n.name ∷ [])) (links ns) (links_to_parents (length ns) n.links)

  pub own-edge : (e : Edge) → Has own e → (e.child.0 ≡ length ns) × (e.parent.0 < length ns + 1)
  own-edge e h =
      let link = has-filter_map (edge_of (node_names ns ++ n.name ∷ [])) (links_to_parents (length ns) n.links) e h in
      let is = is-edge-of (node_names ns ++ n.name ∷ []) link.0 e link.2 in (
        is.1 ∙ own-child (length ns) n.links link.0 link.1,
        subst (λ k. e.parent.0 < k) (long ns) (place-below (node_names ns ++ n.name ∷ []) link.0.parent e.parent.0 is.0),
      )
    where
      long : (ns : List Node) → length (node_names ns ++ n.name ∷ []) ≡ length ns + 1
      long [] = refl
      long (m ∷ ns) = ap suc (long ns) ∙ plus (length ns)
        where
          plus : (k : ℕ) → suc (k + 1) ≡ suc k + 1
          plus k = omega arith

  pub old-edge : (e : Edge) → Has (after (node_names ns) n.name none (links ns)) e → e.child.0 < length ns
  old-edge e h =
      let link = has-filter_map (edge_of (node_names ns ++ n.name ∷ [])) (links ns) e h in
      let is = is-edge-of (node_names ns ++ n.name ∷ []) link.0 e link.2 in
      subst (λ c. c < length ns) (sym is.1) (link-below ns link.0 link.1)

  -- the edges from a point that was there
  pub from-old : (p : ℕ) → (p ≢ length ns) → edges_from (ns ++ n ∷ []) p ≡ put_in (edges_from ns p) (filter (from_child p) (come (node_names ns) n.name none (links ns)))
  unfolding edges_from edges
  from-old p not =
      ap (filter (from_child p)) edges-push
      ∙ filter-append (from_child p) (after (node_names ns) n.name none (links ns)) own
      ∙ ap (λ es. filter (from_child p) (after (node_names ns) n.name none (links ns)) ++ es)
      (filter-none (from_child p) own (λ e h. eq-false e.child.0 p (λ same. not (sym same ∙ (own-edge e h).0))))
      ∙ append-nil (filter (from_child p) (after (node_names ns) n.name none (links ns)))
      ∙ sym (row-after (node_names ns) n.name none p (links ns) (ascends-links ns))

  -- the edges from the new point
  pub from-new : edges_from (ns ++ n ∷ []) (length ns) ≡ own
  unfolding edges_from
  from-new =
      ap (filter (from_child (length ns))) edges-push
      ∙ filter-append (from_child (length ns)) (after (node_names ns) n.name none (links ns)) own
      ∙ ap (λ es. es ++ filter (from_child (length ns)) own)
      (filter-none (from_child (length ns)) (after (node_names ns) n.name none (links ns)) (λ e h. eq-false e.child.0 (length ns) (λ same. below e.child.0 (length ns) same (old-edge e h))))
      ∙ filter-all (from_child (length ns)) own (λ e h. ap (λ c. c == length ns) (own-edge e h).0 ∙ eqb_same (length ns))
    where
      below : (c k : ℕ) → c ≡ k → c < k → ⊥
      below c k same h = omega (arith, same, h)

  -- the edges into a point that was there, and into the new one
  pub into-old : (p : ℕ) → (p ≢ length ns) → edges_into (ns ++ n ∷ []) p ≡ edges_into ns p ++ filter (into_parent p) own
  unfolding edges_into edges
  into-old p not =
      ap (filter (into_parent p)) edges-push
      ∙ filter-append (into_parent p) (after (node_names ns) n.name none (links ns)) own
      ∙ ap (λ es. es ++ filter (into_parent p) own) (into-other (node_names ns) n.name none p (λ same. not (same ∙ length-names)) (links ns))

  pub into-come : edges_into (ns ++ n ∷ []) (length ns) ≡ come (node_names ns) n.name none (links ns) ++ filter (into_parent (length ns)) own
  unfolding edges_into
  into-come =
      ap (filter (into_parent (length ns))) edges-push
      ∙ filter-append (into_parent (length ns)) (after (node_names ns) n.name none (links ns)) own
      ∙ ap (λ es. es ++ filter (into_parent (length ns)) own)
      (ap (λ k. filter (into_parent k) (after (node_names ns) n.name none (links ns))) (sym length-names) ∙ into-new (node_names ns) n.name none (links ns))

  -- the links to a name
  pub links_to-push : (name : List ℕ) → links_to (ns ++ n ∷ []) name ≡ links_to ns name ++ to_name (links_to_parents (length ns) n.links) name
  links_to-push name =
      ap (λ ls. map waiting_link (filter (λ l. bytes_eq l.parent name) ls)) (links-push ns n)
      ∙ ap (map waiting_link) (filter-append (λ l. bytes_eq l.parent name) (links ns) (links_to_parents (length ns) n.links))
      ∙ map-append waiting_link (filter (λ l. bytes_eq l.parent name) (links ns)) (filter (λ l. bytes_eq l.parent name) (links_to_parents (length ns) n.links))
