-- Raising along a child's edges, and along those of all points.
use Rattle.std.proofs.Common.{◌≡◌, ℕ, zero, suc, ◌==◌, filter, ◌+◌, ◌<◌, ◌≤◌, ◌⊎◌, inl, inr, List, [], ◌∷◌, length, Option, None, Some, option_and_then, slice_get, slice_index, refl, ap, subst, sym, ◌∙◌, Contains, arith}
use Rattle.dk_graph.specs.declared.nodes.Edge.{Edge}
use Rattle.dk_graph.specs.Graphs.{height, edges, edges_from}
use Rattle.dk_graph.specs.Raising.{Raising, above, first_rank, raised, ParentsBelow, rank, over, IsSettled, IsReached, IsLow, IsRising, IsRisen, HasLongPath}
use Rattle.dk_graph.proofs.Places.{some-injective}
use Rattle.dk_graph.proofs.Members.{Has, has-contained, has-filter, filter-has}
use Rattle.dk_graph.specs.declared.nodes.Node.{Node}
use Rattle.dk_graph.proofs.Links.{edge-has}
use Rattle.dk_graph.proofs.Heights.{eqb_true, eqb_same}
use Rattle.dk_graph.proofs.Steps.{stepped, settled-step, settles-step, reached-step, reached-stopped, to_do, to_do-step, length-step, low-step, Stepped, lifted}
use Rattle.std.proofs.lemmas.List.{length-set}
use Rattle.std.proofs.lemmas.List.Elements.{Contains-append_cases, Contains-append_right}

pub Contains-one : (x q : ℕ) → Contains (x ∷ []) q → q ≡ x
Contains-one x q (zero, within, at) = sym at
Contains-one x q (suc k, within, at) = absurd (omega (arith, within))

-- the edges are those of the child, among all edges
abbrev pub AreOf : List Edge → ℕ → List Edge → Type 0
AreOf all child es = (k : ℕ) (e : Edge) → slice_get es k ≡ Some e → (e.child.0 ≡ child) × Has all e

-- those that wait are points
abbrev pub AreBelow : Raising → Type 0
AreBelow s = (q : ℕ) → Contains s.queue q → q < length s.ranks

waiting-step : (limit child : ℕ) (s : Raising) (parent : ℕ) (t : Raising) → parent < length s.ranks → Stepped limit child s parent t → AreBelow s → AreBelow t
waiting-step limit child s parent t below (inl p) h = subst AreBelow (sym p.1) h
waiting-step limit child s parent t below (inr p) h = subst AreBelow (sym p.2) lift
  where
    lift : AreBelow (lifted child s parent)
    lift q there = by (Contains-append_cases s.queue (parent ∷ []) q there)
      where
        same : length (lifted child s parent).ranks ≡ length s.ranks
        same = length-set s.ranks parent (rank s child + 1)

        by : Contains s.queue q ⊎ Contains (parent ∷ []) q → q < length (lifted child s parent).ranks
        by (inl o) = omega (arith, same, h q o)
        by (inr o) = omega (arith, same, below, Contains-one parent q o)

pub record Raised (limit child : ℕ) (es : List Edge) (s t : Raising) : Type 0 where
  pub settled : (q r : ℕ) → IsSettled s q r → IsSettled t q r
  pub own : (k : ℕ) (e : Edge) → slice_get es k ≡ Some e → IsSettled t child e.parent.0
  pub reached : (all : List Edge) → AreOf all child es → IsReached all (over s) → IsReached all (over t)
  pub to_do : to_do limit t ≤ to_do limit s
  pub length : length t.ranks ≡ length s.ranks
  pub low : IsLow limit s.ranks → IsLow limit t.ranks
  pub waiting : AreBelow s → AreBelow t

one-more : (limit child : ℕ) (e : Edge) (es : List Edge) (s u t : Raising) → e.parent.0 < length s.ranks → above limit child s e.parent.0 ≡ Some u
    → Raised limit child es u t → Raised limit child (e ∷ es) s t
one-more limit child e es s u t below step rest =
    let how = stepped limit child s e.parent.0 u step in record {
      settled = λ q r h. rest.settled q r (settled-step limit child s e.parent.0 u below how q r h);
      own = own-edge (rest.settled child e.parent.0 (settles-step limit child s e.parent.0 u below how));
      reached = λ all of h. rest.reached all (λ k f at. of (suc k) f at) (
          let own = of zero e refl in
          reached-step all limit e s u own.1 below (subst (λ c. Stepped limit c s e.parent.0 u) (sym own.0) how) h);
      to_do = omega (arith, rest.to_do, to_do-step limit child s e.parent.0 u below how);
      length = rest.length ∙ length-step limit child s e.parent.0 u how;
      low = λ h. rest.low (low-step limit child s e.parent.0 u below how h);
      waiting = λ h. rest.waiting (waiting-step limit child s e.parent.0 u below how h);
    }
  where
    own-edge : IsSettled t child e.parent.0 → (k : ℕ) (f : Edge) → slice_get (e ∷ es) k ≡ Some f → IsSettled t child f.parent.0
    own-edge here zero f at = subst (λ g. IsSettled t child g.parent.0) (some-injective at) here
    own-edge here (suc k) f at = rest.own k f at

pub raised-Some : (limit child : ℕ) (es : List Edge) (s t : Raising) → ParentsBelow (length s.ranks) es → raised limit child es s ≡ Some t → Raised limit child es s t
raised-Some limit child [] s t below h = subst (Raised limit child [] s) (some-injective h) (record {
  settled = λ q r k. k;
  own = λ k e at. absurd (cc);
  reached = λ all of k. k;
  to_do = omega arith;
  length = refl;
  low = λ k. k;
  waiting = λ k. k;
})
raised-Some limit child (e ∷ es) s t below h = by (above limit child s e.parent.0) refl h (λ u below. raised-Some limit child es u t below)
  where
    by : (r : Option Raising) → above limit child s e.parent.0 ≡ r → option_and_then (raised limit child es) r ≡ Some t
        → ((u : Raising) → ParentsBelow (length u.ranks) es → raised limit child es u ≡ Some t → Raised limit child es u t) → Raised limit child (e ∷ es) s t
    by None p h rest = absurd (cc)
    by (Some u) p h rest = one-more limit child e es s u t (below zero e refl) p
        (rest u (λ k f at. subst (λ n. f.parent.0 < n) (sym (length-step limit child s e.parent.0 u (stepped limit child s e.parent.0 u p))) (below (suc k) f at)) h)

pub raised-None : (n child : ℕ) (es : List Edge) (s : Raising) (all : List Edge) → AreOf all child es → ParentsBelow (length s.ranks) es → child < length s.ranks
    → IsLow (first_rank + n) s.ranks → IsReached all (over s) → raised (first_rank + n) child es s ≡ None → (q : ℕ) × (q < length s.ranks) × (n ≤ height all n q)
raised-None n child [] s all of below within low reached h = absurd (cc)
raised-None n child (e ∷ es) s all of below within low reached h =
    by (above (first_rank + n) child s e.parent.0) refl h (λ u. raised-None n child es u all (λ k f at. of (suc k) f at))
  where
    own : (e.child.0 ≡ child) × Has all e
    own = of zero e refl

    by : (r : Option Raising) → above (first_rank + n) child s e.parent.0 ≡ r → option_and_then (raised (first_rank + n) child es) r ≡ None
        → ((u : Raising) → ParentsBelow (length u.ranks) es → child < length u.ranks → IsLow (first_rank + n) u.ranks → IsReached all (over u) → raised (first_rank + n) child es u ≡ None
        → (q : ℕ) × (q < length u.ranks) × (n ≤ height all n q))
        → (q : ℕ) × (q < length s.ranks) × (n ≤ height all n q)
    by None p h rest = (
      e.parent.0,
      below zero e refl,
      reached-stopped all n e s own.1 (subst (λ c. above (first_rank + n) c s e.parent.0 ≡ None) (sym own.0) p)
          (subst (λ c. rank s c < first_rank + n) (sym own.0) (low child within)) reached,
    )
    by (Some u) p h rest =
        let how : Stepped (first_rank + n) child s e.parent.0 u = stepped (first_rank + n) child s e.parent.0 u p in
        let same : length u.ranks ≡ length s.ranks = length-step (first_rank + n) child s e.parent.0 u how in
        let here = below zero e refl in
        let found = rest u (λ k f at. subst (λ n. f.parent.0 < n) (sym same) (below (suc k) f at)) (subst (λ n. child < n) (sym same) within)
        (low-step (first_rank + n) child s e.parent.0 u here how low)
        (reached-step all (first_rank + n) e s u own.1 here (subst (λ c. Stepped (first_rank + n) c s e.parent.0 u) (sym own.0) how) reached) h in
        (found.0, subst (λ n. found.0 < n) same found.1, found.2)

-- ---- all points

pub Contains-nil : {X : Type 0} (x : X) → Contains [] x → ⊥
Contains-nil x (k, within, at) = omega (arith, within)

Contains-first : (q : ℕ) (queue : List ℕ) → Contains (q ∷ queue) q
Contains-first q queue = (zero, omega arith, refl)

-- the edges of one child
abbrev pub edges_of : List Edge → ℕ → List Edge
edges_of es q = filter (λ e. e.child.0 == q) es

are_of : (es : List Edge) (q : ℕ) → AreOf es q (edges_of es q)
are_of es q k e at = let found = has-filter (λ e. e.child.0 == q) es e (k, at) in (eqb_true e.child.0 q found.1, found.0)

module _ (n : ℕ) (es : List Edge) (ds : List ℕ) (below : ParentsBelow (length ds) es) where
  pub parents-below : (q : ℕ) → ParentsBelow (length ds) (edges_of es q)
  parents-below q k e at = let found = has-filter (λ e. e.child.0 == q) es e (k, at) in below found.0.0 e found.0.1

  -- the first that waits has its parents raised
  pub rising-next : (q : ℕ) (queue : List ℕ) (t : Raising) → IsRising n es (record { ranks = ds; queue = q ∷ queue })
      → raised (first_rank + n) q (edges_of es q) (record { ranks = ds; queue = queue }) ≡ Some t → IsRising n es t
  rising-next q queue t r h =
      let all = raised-Some (first_rank + n) q (edges_of es q) (record { ranks = ds; queue = queue }) t (parents-below q) h in record {
        settled = λ e there. settle e there all (r.settled e there);
        reached = all.reached es (are_of es q) r.reached;
        low = all.low r.low;
        waiting = all.waiting (λ p there. r.waiting p (Contains-append_right (q ∷ []) queue p there));
      }
    where
      settle : (e : Edge) → Contains es e → Raised (first_rank + n) q (edges_of es q) (record { ranks = ds; queue = queue }) t
          → IsSettled (record { ranks = ds; queue = q ∷ queue }) e.child.0 e.parent.0 → IsSettled t e.child.0 e.parent.0
      settle e there all (inl climbs) = all.settled e.child.0 e.parent.0 (inl climbs)
      settle e there all (inr waits) = by (Contains-append_cases (q ∷ []) queue e.child.0 waits)
        where
          by : Contains (q ∷ []) e.child.0 ⊎ Contains queue e.child.0 → IsSettled t e.child.0 e.parent.0
          by (inl o) =
              let same : e.child.0 ≡ q = Contains-one q e.child.0 o in
              let own : Has (edges_of es q) e = filter-has (λ e. e.child.0 == q) es e (has-contained es e there) (ap (λ c. c == q) same ∙ eqb_same q) in
              subst (λ c. IsSettled t c e.parent.0) (sym same) (all.own own.0 e own.1)
          by (inr o) = all.settled e.child.0 e.parent.0 (inr o)

  pub risen-end : IsRising n es (record { ranks = ds; queue = [] }) → IsRisen n es ds
  risen-end r = record {
    climbs = λ e there. by e (r.settled e there);
    reached = r.reached;
    low = r.low;
  }
    where
      by : (e : Edge) → IsSettled (record { ranks = ds; queue = [] }) e.child.0 e.parent.0 → slice_index ds e.child.0 < slice_index ds e.parent.0
      by e (inl p) = p
      by e (inr p) = absurd (Contains-nil e.child.0 p)

  pub long-path : (q : ℕ) (queue : List ℕ) → q < length ds → IsRising n es (record { ranks = ds; queue = q ∷ queue })
      → raised (first_rank + n) q (edges_of es q) (record { ranks = ds; queue = queue }) ≡ None → HasLongPath n (length ds) es
  long-path q queue within r h = raised-None n q (edges_of es q) (record { ranks = ds; queue = queue }) es (are_of es q) (parents-below q) within r.low r.reached h

-- ---- a turn of the loop, as the code meets it

module _ (ns : List Node) (ds items : List ℕ) (q : ℕ) (queue : List ℕ) (same : length ds ≡ length ns)
    (is : items ≡ q ∷ queue) (rising : IsRising (length ns) (edges ns) (record { ranks = ds; queue = items })) where
  pub first-below : q < length ds
  first-below = rising.waiting q (subst (λ xs. Contains xs q) (sym is) (Contains-first q queue))

  parents : ParentsBelow (length ds) (edges ns)
  parents k e at = subst (λ n. e.parent.0 < n) (sym same) (edge-has ns e (k, at)).1

  rising-first : IsRising (length ns) (edges ns) (record { ranks = ds; queue = q ∷ queue })
  rising-first = subst (λ xs. IsRising (length ns) (edges ns) (record { ranks = ds; queue = xs })) is rising

  module _ (row : List Edge) (at : row ≡ edges_from ns q) where
    row-is : row ≡ edges_of (edges ns) q
    unfolding edges_from
    row-is = at

    pub row-below : ParentsBelow (length ds) row
    row-below = subst (ParentsBelow (length ds)) (sym row-is) (parents-below (length ns) (edges ns) ds parents q)

    pub turn : (t : Raising) → raised (first_rank + length ns) q row (record { ranks = ds; queue = queue }) ≡ Some t → IsRising (length ns) (edges ns) t
    turn t h = rising-next (length ns) (edges ns) ds parents q queue t rising-first
        (subst (λ es. raised (first_rank + length ns) q es (record { ranks = ds; queue = queue }) ≡ Some t) row-is h)

    pub turn-less : (t : Raising) → raised (first_rank + length ns) q row (record { ranks = ds; queue = queue }) ≡ Some t
        → to_do (first_rank + length ns) t < to_do (first_rank + length ns) (record { ranks = ds; queue = items })
    turn-less t h = omega (arith, (raised-Some (first_rank + length ns) q row (record { ranks = ds; queue = queue }) t row-below h).to_do, ap length is)

    pub turn-long : raised (first_rank + length ns) q row (record { ranks = ds; queue = queue }) ≡ None → HasLongPath (length ns) (length ds) (edges ns)
    turn-long h = long-path (length ns) (edges ns) ds parents q queue first-below rising-first
        (subst (λ es. raised (first_rank + length ns) q es (record { ranks = ds; queue = queue }) ≡ None) row-is h)
