-- Ranks once one point more has come: its own is known, and its parents are still to be raised.
use Rattle.std.proofs.Common.{◌≡◌, ◌∙◌, ℕ, zero, suc, ◌+◌, ◌-◌, ◌<◌, ◌≤◌, ◌==◌, ◌⊎◌, inl, inr, ◌≢◌, Bool, true, false, nat_lt, max, List, [], ◌∷◌, ◌++◌, length, filter, slice_index, Contains, None, if◌then◌else◌, refl, ap, subst, sym, length-append, arith}
use Rattle.std.proofs.lemmas.List.{get_or_append_left, get_or_at}
use Rattle.std.proofs.lemmas.List.Elements.{Contains-append_left, Contains-push, Contains-push_cases}
use Rattle.dk_graph.specs.Names.{place_of}
use Rattle.dk_graph.specs.Graphs.{node_names, links, edges, edges_into, height}
use Rattle.dk_graph.specs.Kept.{HasRisingRanks}
use Rattle.dk_graph.specs.Raising.{Raising, IsSettled, IsReached, IsLow, first_rank, over}
use Rattle.dk_graph.specs.Rows.{above_children}
use Rattle.dk_graph.specs.declared.nodes.Edge.{Edge}
use Rattle.dk_graph.specs.declared.nodes.Node.{Node}
use Rattle.dk_graph.proofs.Added.{after, own, edges-push, own-edge, old-edge, into-other, into_parent}
use Rattle.dk_graph.proofs.Heights.{height-within, eqb_true, eqb_same}
use Rattle.dk_graph.proofs.Links.{edge-has}
use Rattle.dk_graph.proofs.Members.{Has, has-none, has-first, has-later, has-cons, has-contained, contained-has, has-append, has-left, has-filter, filter-has}
use Rattle.dk_graph.proofs.Places.{length-map}
use Rattle.dk_graph.proofs.Steps.{eq_or_not, lt_true, lt_false, reached-above}

-- ---- above all children

pick-more : (b : Bool) (x y z : ℕ) → z ≤ y → z ≤ (if b then max x y else y)
pick-more true x y z h = omega (arith, h)
pick-more false x y z h = h

pub above_children-ge : (ds : List ℕ) (es : List Edge) (e : Edge) → Has es e → e.child.0 < length ds → slice_index ds e.child.0 < above_children ds es
above_children-ge ds [] e h below = absurd (has-none e h)
above_children-ge ds (f ∷ es) e h below = elim (has-cons f es e h) [
  | inl same ↦ first (nat_lt f.child.0 (length ds)) (is-below f.child.0 (subst (λ g. g.child.0 < length ds) (sym same) below)) same
  | inr later ↦
      let rest : slice_index ds e.child.0 < above_children ds es = above_children-ge ds es e later below in
      let less = pick-more (nat_lt f.child.0 (length ds)) (slice_index ds f.child.0 + 1) (above_children ds es) (slice_index ds e.child.0 + 1) (omega (arith, rest)) in
      omega (arith, less)
]
  where
    is-below : (c : ℕ) → c < length ds → nat_lt c (length ds) ≡ true
    is-below c h = grind (arith, h)

    first : (b : Bool) → b ≡ true → f ≡ e → slice_index ds e.child.0 < (if b then max (slice_index ds f.child.0 + 1) (above_children ds es) else above_children ds es)
    first true is same = let at : slice_index ds f.child.0 ≡ slice_index ds e.child.0 = ap (λ g. slice_index ds g.child.0) same in omega (arith, at)
    first false is same = absurd (cc)

-- it is 0, or one more than the number of a child
abbrev pub IsAbove : List ℕ → List Edge → ℕ → Type 0
IsAbove ds es d = (d ≡ 0) ⊎ ((e : Edge) × Has es e × (e.child.0 < length ds) × (d ≡ slice_index ds e.child.0 + 1))

is-above-later : (ds : List ℕ) (f : Edge) (es : List Edge) (d : ℕ) → IsAbove ds es d → IsAbove ds (f ∷ es) d
is-above-later ds f es d (inl none) = inl none
is-above-later ds f es d (inr some) = inr (some.0, has-later f es some.0 some.1, some.2, some.3)

pub max-cases : (x y : ℕ) → (max x y ≡ x) ⊎ (max x y ≡ y)
max-cases x y = by (nat_lt x y) refl
  where
    by : (b : Bool) → nat_lt x y ≡ b → (max x y ≡ x) ⊎ (max x y ≡ y)
    by true h = let less = lt_true x y h in inr (omega (arith, less))
    by false h = let less = lt_false x y h in inl (omega (arith, less))

pub above_children-is : (ds : List ℕ) (es : List Edge) → IsAbove ds es (above_children ds es)
above_children-is ds [] = inl refl
above_children-is ds (f ∷ es) = by (nat_lt f.child.0 (length ds)) refl (above_children-is ds es)
  where
    by : (b : Bool) → nat_lt f.child.0 (length ds) ≡ b → IsAbove ds es (above_children ds es)
        → IsAbove ds (f ∷ es) (if b then max (slice_index ds f.child.0 + 1) (above_children ds es) else above_children ds es)
    by true is rest = elim (max-cases (slice_index ds f.child.0 + 1) (above_children ds es)) [
      | inl own ↦ inr (f, has-first f es, lt_true f.child.0 (length ds) is, own)
      | inr other ↦ subst (IsAbove ds (f ∷ es)) (sym other) (is-above-later ds f es (above_children ds es) rest)
    ]
    by false is rest = is-above-later ds f es (above_children ds es) rest

-- ---- one rank more

index-old : (ds : List ℕ) (d q : ℕ) → q < length ds → slice_index (ds ++ d ∷ []) q ≡ slice_index ds q
index-old ds d q h = get_or_append_left ds (d ∷ []) 0 q h

index-new : (ds : List ℕ) (d q : ℕ) → q ≡ length ds → slice_index (ds ++ d ∷ []) q ≡ d
index-new ds d q h = get_or_at ds d [] 0 q (sym h)

index-past : (xs : List ℕ) (q : ℕ) → length xs ≤ q → slice_index xs q ≡ 0
index-past [] q h = refl
index-past (x ∷ xs) zero h = absurd (omega (arith, h))
index-past (x ∷ xs) (suc q) h = index-past xs q (omega (arith, h))

split : (q n : ℕ) → (q < n) ⊎ (q ≡ n) ⊎ (n < q)
split q n = by (nat_lt q n) refl (nat_lt n q) refl
  where
    by : (a : Bool) → nat_lt q n ≡ a → (b : Bool) → nat_lt n q ≡ b → (q < n) ⊎ (q ≡ n) ⊎ (n < q)
    by true h b k = inl (lt_true q n h)
    by false h true k = inr (inr (lt_true n q k))
    by false h false k = let less = lt_false q n h in let more = lt_false n q k in inr (inl (omega (arith, less, more)))

module _ (ns : List Node) (n : Node) (none : place_of (node_names ns) n.name ≡ None) (ds queue : List ℕ) (kept : HasRisingRanks ns ds queue) where
  -- edges that were there stay, and no other goes to a point that was there from one that was
  kept-edge : (e : Edge) → Has (edges ns) e → Has (edges (ns ++ n ∷ [])) e
  unfolding edges
  kept-edge e h =
      let parent = (edge-has ns e h).1 in
      let here : Has (filter (into_parent e.parent.0) (after (node_names ns) n.name none (links ns))) e =
      subst (λ es. Has es e) (sym (into-other (node_names ns) n.name none e.parent.0 (below e.parent.0 parent) (links ns)))
      (filter-has (into_parent e.parent.0) (edges ns) e h (eqb_same e.parent.0)) in
      subst (λ es. Has es e) (sym (edges-push ns n none))
      (has-left (after (node_names ns) n.name none (links ns)) (own ns n none) e (has-filter (into_parent e.parent.0) (after (node_names ns) n.name none (links ns)) e here).0)
    where
      below : (p : ℕ) → p < length ns → (p ≢ length (node_names ns))
      below p h same = omega (arith, same, h, length-map (λ m. m.name) ns)

  old-has : (e : Edge) → Has (after (node_names ns) n.name none (links ns)) e → (e.parent.0 ≢ length ns) → Has (edges ns) e
  unfolding edges
  old-has e h not =
      let here : Has (filter (into_parent e.parent.0) (edges ns)) e =
      subst (λ es. Has es e) (into-other (node_names ns) n.name none e.parent.0 (λ same. not (same ∙ length-map (λ m. m.name) ns)) (links ns))
      (filter-has (into_parent e.parent.0) (after (node_names ns) n.name none (links ns)) e h (eqb_same e.parent.0)) in
      (has-filter (into_parent e.parent.0) (edges ns) e here).0

  module _ (d : ℕ) (is : d ≡ max (first_rank - length ns) (above_children ds (edges_into (ns ++ n ∷ []) (length ns)))) where
    abbrev new : Raising
    new = record { ranks = ds ++ d ∷ []; queue = queue ++ length ns ∷ [] }

    into-has : (e : Edge) → Has (edges (ns ++ n ∷ [])) e → e.parent.0 ≡ length ns → Has (edges_into (ns ++ n ∷ []) (length ns)) e
    unfolding edges_into
    into-has e h same = filter-has (into_parent (length ns)) (edges (ns ++ n ∷ [])) e h (ap (λ p. p == length ns) same ∙ eqb_same (length ns))

    has-into : (e : Edge) → Has (edges_into (ns ++ n ∷ []) (length ns)) e → Has (edges (ns ++ n ∷ [])) e × (e.parent.0 ≡ length ns)
    unfolding edges_into
    has-into e h = let found = has-filter (into_parent (length ns)) (edges (ns ++ n ∷ [])) e h in (found.0, eqb_true e.parent.0 (length ns) found.1)

    settled-old : (e : Edge) → Has (after (node_names ns) n.name none (links ns)) e → Has (edges (ns ++ n ∷ [])) e → IsSettled new e.child.0 e.parent.0
    settled-old e old h =
        let child : e.child.0 < length ds = let below = old-edge ns n none e old in omega (arith, below, kept.all) in
        let at-child : slice_index (ds ++ d ∷ []) e.child.0 ≡ slice_index ds e.child.0 = index-old ds d e.child.0 child in
        elim (eq_or_not e.parent.0 (length ns)) [
          | inl same ↦
              let at-parent : slice_index (ds ++ d ∷ []) e.parent.0 ≡ d = index-new ds d e.parent.0 (same ∙ sym kept.all) in
              let less : slice_index ds e.child.0 < above_children ds (edges_into (ns ++ n ∷ []) (length ns)) =
              above_children-ge ds (edges_into (ns ++ n ∷ []) (length ns)) e (into-has e h same) child in
              inl (omega (arith, at-child, at-parent, less, is))
          | inr other ↦ by child at-child (kept.rising.settled e (had e (old-has e old other))) (edge-has ns e (old-has e old other)).1
        ]
      where
        had : (e : Edge) → Has (edges ns) e → Contains (edges ns) e
        had e h = contained-has (edges ns) h.0 e h.1

        by : e.child.0 < length ds → slice_index (ds ++ d ∷ []) e.child.0 ≡ slice_index ds e.child.0
            → IsSettled (record { ranks = ds; queue = queue }) e.child.0 e.parent.0 → e.parent.0 < length ns → IsSettled new e.child.0 e.parent.0
        by child at-child (inl climbs) parent =
            let at-parent : slice_index (ds ++ d ∷ []) e.parent.0 ≡ slice_index ds e.parent.0 = index-old ds d e.parent.0 (omega (arith, parent, kept.all)) in
            inl (omega (arith, climbs, at-child, at-parent))
        by child at-child (inr waits) parent = inr (Contains-append_left queue (length ns ∷ []) e.child.0 waits)

    settled : (e : Edge) → Contains (edges (ns ++ n ∷ [])) e → IsSettled new e.child.0 e.parent.0
    settled e there =
        let h : Has (edges (ns ++ n ∷ [])) e = has-contained (edges (ns ++ n ∷ [])) e there in
        elim (has-append (after (node_names ns) n.name none (links ns)) (own ns n none) e (subst (λ es. Has es e) (edges-push ns n none) h)) [
          | inl old ↦ settled-old e old h
          | inr mine ↦ inr (subst (Contains (queue ++ length ns ∷ [])) (sym (own-edge ns n none e mine).0) (Contains-push queue (length ns)))
        ]

    reached-old : (q : ℕ) → slice_index ds q - first_rank ≤ height (edges (ns ++ n ∷ [])) (slice_index ds q - first_rank) q
    reached-old q =
        let first : slice_index ds q - first_rank ≤ height (edges ns) (slice_index ds q - first_rank) q = kept.rising.reached q in
        omega (arith, first, height-within (edges ns) (edges (ns ++ n ∷ [])) (λ k e at. kept-edge e (k, at)) (slice_index ds q - first_rank) q)

    reached-new : d - first_rank ≤ height (edges (ns ++ n ∷ [])) (d - first_rank) (length ns)
    reached-new = elim (max-cases (first_rank - length ns) (above_children ds (edges_into (ns ++ n ∷ []) (length ns)))) [
      | inl least ↦ omega (arith, is, least)
      | inr above ↦ by (is ∙ above) (above_children-is ds (edges_into (ns ++ n ∷ []) (length ns)))
    ]
      where
        by : d ≡ above_children ds (edges_into (ns ++ n ∷ []) (length ns))
            → IsAbove ds (edges_into (ns ++ n ∷ []) (length ns)) (above_children ds (edges_into (ns ++ n ∷ []) (length ns)))
            → d - first_rank ≤ height (edges (ns ++ n ∷ [])) (d - first_rank) (length ns)
        by same (inl none) = omega (arith, same, none)
        by same (inr some) =
            let e : Edge = some.0 in
            let found = has-into e some.1 in
            let more : slice_index ds e.child.0 + 1 - first_rank ≤ height (edges (ns ++ n ∷ [])) (slice_index ds e.child.0 + 1 - first_rank) e.parent.0 =
            reached-above (edges (ns ++ n ∷ [])) e (slice_index ds e.child.0) found.0 (reached-old e.child.0) in
            let here : d - first_rank ≤ height (edges (ns ++ n ∷ [])) (d - first_rank) e.parent.0 =
            subst (λ k. k - first_rank ≤ height (edges (ns ++ n ∷ [])) (k - first_rank) e.parent.0) (sym (same ∙ some.3)) more in
            subst (λ p. d - first_rank ≤ height (edges (ns ++ n ∷ [])) (d - first_rank) p) found.1 here

    reached : IsReached (edges (ns ++ n ∷ [])) (over new)
    reached q = elim (split q (length ds)) [
      | inl old ↦ subst (λ k. k - first_rank ≤ height (edges (ns ++ n ∷ [])) (k - first_rank) q) (sym (index-old ds d q old)) (reached-old q)
      | inr rest ↦ elim rest [
        | inl same ↦ subst (λ k. k - first_rank ≤ height (edges (ns ++ n ∷ [])) (k - first_rank) q) (sym (index-new ds d q same))
            (subst (λ p. d - first_rank ≤ height (edges (ns ++ n ∷ [])) (d - first_rank) p) (sym (same ∙ kept.all)) reached-new)
        | inr past ↦ let none = index-past (ds ++ d ∷ []) q (omega (arith, past, length-append ds (d ∷ []))) in omega (arith, none)
      ]
    ]

    low-new : d < first_rank + (length ns + 1)
    low-new = elim (max-cases (first_rank - length ns) (above_children ds (edges_into (ns ++ n ∷ []) (length ns)))) [
      | inl least ↦ omega (arith, is, least)
      | inr above ↦ by (is ∙ above) (above_children-is ds (edges_into (ns ++ n ∷ []) (length ns)))
    ]
      where
        by : d ≡ above_children ds (edges_into (ns ++ n ∷ []) (length ns))
            → IsAbove ds (edges_into (ns ++ n ∷ []) (length ns)) (above_children ds (edges_into (ns ++ n ∷ []) (length ns))) → d < first_rank + (length ns + 1)
        by same (inl none) = omega (arith, same, none)
        by same (inr some) = let low : slice_index ds some.0.child.0 < first_rank + length ns = kept.rising.low some.0.child.0 some.2 in omega (arith, same, some.3, low)

    low : IsLow (first_rank + length (ns ++ n ∷ [])) (ds ++ d ∷ [])
    low q h = elim (split q (length ds)) [
      | inl old ↦ let less : slice_index ds q < first_rank + length ns = kept.rising.low q old in omega (arith, index-old ds d q old, less, length-append ns (n ∷ []))
      | inr rest ↦ elim rest [
        | inl same ↦ omega (arith, index-new ds d q same, low-new, length-append ns (n ∷ []))
        | inr past ↦ absurd (omega (arith, past, h, length-append ds (d ∷ [])))
      ]
    ]

    waiting : (q : ℕ) → Contains (queue ++ length ns ∷ []) q → q < length (ds ++ d ∷ [])
    waiting q there = elim (Contains-push_cases queue (length ns) q there) [
      | inl old ↦ let less : q < length ds = kept.rising.waiting q old in omega (arith, less, length-append ds (d ∷ []))
      | inr same ↦ omega (arith, same, kept.all, length-append ds (d ∷ []))
    ]

    pub rising-push : HasRisingRanks (ns ++ n ∷ []) (ds ++ d ∷ []) (queue ++ length ns ∷ [])
    rising-push = record {
      all = omega (arith, kept.all, length-append ds (d ∷ []), length-append ns (n ∷ []));
      rising = record {
        settled = settled;
        reached = reached;
        low = low;
        waiting = waiting;
      };
    }
