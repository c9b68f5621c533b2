-- Ranks climb along paths, so there is no cycle; and the depths of a graph without one.
use Rattle.std.proofs.Common.{◌≡◌, ◌∙◌, ℕ, suc, ◌+◌, ◌-◌, ◌<◌, ◌≤◌, ◌==◌, Bool, true, false, cond, nat_lt, nat_le, max, List, [], ◌∷◌, ◌++◌, length, drop, filter, get_or, slice_index, Contains, if◌then◌else◌, true≢false, refl, ap, subst, sym, length-append, arith}
use Rattle.std.specs.Ordering.{is_lt, nat_cmp, ord_max}
use Rattle.std.specs.declared.cmp.Ordering.TheVariants.{Less, Equal, Greater}
use Rattle.std.proofs.lemmas.List.{at_drop_more}
use Rattle.dk_graph.specs.Graphs.{edges, edges_into, depth_of, has_cycle, height, highest, AreRanks, ParentsAreDeeper}
use Rattle.dk_graph.specs.Kept.{HasRanks}
use Rattle.dk_graph.specs.Paths.{HasPathBack, IsPath}
use Rattle.dk_graph.specs.declared.nodes.Edge.{Edge}
use Rattle.dk_graph.specs.declared.nodes.Node.{Node}
use Rattle.dk_graph.proofs.LongPaths.{below-true}
use Rattle.dk_graph.proofs.Heights.{eqb_same, eqb_true, height-suc}
use Rattle.dk_graph.proofs.Links.{edge-below}
use Rattle.dk_graph.proofs.Members.{contained-has, has-filter}
use Rattle.dk_graph.proofs.Places.{slice_get-at}
use Rattle.dk_graph.proofs.Steps.{lt_false, lt_true}
use Rattle.dk_graph.proofs.Walks.{cycle-law, longest, path-append, path-of-height}

pub are-ranks : (ns : List Node) (rs : List ℕ) → HasRanks ns rs → AreRanks ns rs
are-ranks ns rs kept = record { all = kept.all; climb = kept.risen.climbs }

-- ---- no cycle

-- a path climbs as far at least as it has edges
path-rises : (r : ℕ → ℕ) (es : List Edge) → ((e : Edge) → Contains es e → r e.child.0 < r e.parent.0)
    → (p : ℕ) (path : List Edge) (q : ℕ) → IsPath es p path q → r p + length path ≤ r q
path-rises r es up p [] q same = let at : r p ≡ r q = ap r same in omega (arith, at)
path-rises r es up p (e ∷ path) q h =
    let rest = path-rises r es up e.parent.0 path q h.2 in
    let first = up e h.0 in
    let at : r e.child.0 ≡ r p = ap r h.1 in
    omega (arith, rest, first, at)

pub no-cycle : (ns : List Node) (rs : List ℕ) → AreRanks ns rs → has_cycle ns ≡ false
no-cycle ns rs are = by (has_cycle ns) refl
  where
    none : HasPathBack (edges ns) → ⊥
    none (p, path, some, back) = let rises = path-rises (slice_index rs) (edges ns) are.climb p path p back in omega (arith, rises, some)

    by : (b : Bool) → has_cycle ns ≡ b → b ≡ false
    by true is = absurd (none ((cycle-law ns).back is))
    by false is = refl

-- ---- depths of a graph without a cycle

pub deeper : (ns : List Node) → has_cycle ns ≡ false → ParentsAreDeeper ns
deeper ns free e there =
    let below = edge-below ns e there in
    let to_child = (longest ns free e.child.0 below.0).reached in
    let whole : IsPath (edges ns) to_child.0 (to_child.1 ++ e ∷ []) e.parent.0 = path-append (edges ns) to_child.0 to_child.1 e.child.0 (e ∷ []) e.parent.0 to_child.2 (there, refl, refl) in
    let le = (longest ns free e.parent.0 below.1).longest to_child.0 (to_child.1 ++ e ∷ []) whole in
    omega (arith, le, to_child.3, length-append to_child.1 (e ∷ []))

-- a point's depth is one more than that of its deepest child
pub depth-highest : (ns : List Node) → has_cycle ns ≡ false → (q : ℕ) → q < length ns → highest (depth_of ns) q (edges ns) ≡ depth_of ns q
unfolding depth_of
depth-highest ns free q below =
    let path = path-of-height (edges ns) (suc (length ns)) q in
    let le : length path.1 ≤ height (edges ns) (length ns) q = (longest ns free q below).longest path.0 path.1 path.2 in
    let more = height-suc (edges ns) (length ns) q in
    let exact : height (edges ns) (suc (length ns)) q ≡ height (edges ns) (length ns) q = omega (arith, le, more, path.3) in
    exact

-- the edges into a point are enough for that
highest-filter : (h : ℕ → ℕ) (q : ℕ) (es : List Edge) → highest h q (filter (λ e. e.parent.0 == q) es) ≡ highest h q es
highest-filter h q [] = refl
highest-filter h q (e ∷ es) = by (e.parent.0 == q) refl (highest-filter h q es)
  where
    rest : List Edge
    rest = filter (λ e. e.parent.0 == q) es

    by : (b : Bool) → e.parent.0 == q ≡ b → highest h q rest ≡ highest h q es
        → highest h q (cond b (e ∷ rest) rest) ≡ (if b then max (h e.child.0 + 1) (highest h q es) else highest h q es)
    by true is same =
        ap (λ (b : Bool). if b then max (h e.child.0 + 1) (highest h q rest) else highest h q rest) is
        ∙ ap (max (h e.child.0 + 1)) same
    by false is same = same

pub depth-into : (ns : List Node) → has_cycle ns ≡ false → (q : ℕ) → q < length ns → highest (depth_of ns) q (edges_into ns q) ≡ depth_of ns q
unfolding edges_into
depth-into ns free q below = highest-filter (depth_of ns) q (edges ns) ∙ depth-highest ns free q below

-- an edge into a point, by its place
pub into-at : (ns : List Node) (q i : ℕ) (d : Edge) → i < length (edges_into ns q)
    → Contains (edges ns) (get_or (edges_into ns q) i d) × ((get_or (edges_into ns q) i d).parent.0 ≡ q)
unfolding edges_into
into-at ns q i d within =
    let e : Edge = get_or (edges_into ns q) i d in
    let found = has-filter (λ f. f.parent.0 == q) (edges ns) e (i, slice_get-at (edges_into ns q) i d within) in
    (contained-has (edges ns) found.0.0 e found.0.1, eqb_true e.parent.0 q found.1)

pub into-row : (ns : List Node) (q : ℕ) (row : List Edge) (i : ℕ) (d : Edge) → row ≡ edges_into ns q → i < length row
    → Contains (edges ns) (get_or row i d) × ((get_or row i d).parent.0 ≡ q)
into-row ns q row i d is within =
    subst (λ (es : List Edge). Contains (edges ns) (get_or es i d) × ((get_or es i d).parent.0 ≡ q)) (sym is)
    (into-at ns q i d (subst (λ (es : List Edge). i < length es) is within))

-- one edge further down a row of such
pub highest-step : (h : ℕ → ℕ) (q : ℕ) (row : List Edge) (i : ℕ) (d : Edge) → i < length row → (get_or row i d).parent.0 ≡ q
    → highest h q (drop i row) ≡ max (h (get_or row i d).child.0 + 1) (highest h q (drop (i + 1) row))
highest-step h q row i d within same =
    at_drop_more (highest h q) row i d within
    ∙ ap (λ (b : Bool). if b then max (h (get_or row i d).child.0 + 1) (highest h q (drop (i + 1) row)) else highest h q (drop (i + 1) row)) (ap (λ p. p == q) same ∙ eqb_same q)

pub nought-max : (n : ℕ) → max 0 n ≡ n
nought-max n = omega arith

-- the greater of two numbers, as a call finds it
pub max-is : (a b : ℕ) → ord_max nat_cmp a b ≡ max a b
max-is a b = by (nat_lt b a) refl (b == a)
  where
    by : (less : Bool) → nat_lt b a ≡ less → (same : Bool) → cond (is_lt (cond less Less (cond same Equal Greater))) a b ≡ max a b
    by true is same = let after = lt_true b a is in omega (arith, after)
    by false is true = let before = lt_false b a is in omega (arith, before)
    by false is false = let before = lt_false b a is in omega (arith, before)

-- no depth comes to the number of points
pub depth-low : (ns : List Node) → has_cycle ns ≡ false → (q : ℕ) → q < length ns → depth_of ns q < length ns
unfolding has_cycle
depth-low ns free q below = by (nat_lt (depth_of ns q) (length ns)) refl
  where
    by : (b : Bool) → nat_lt (depth_of ns q) (length ns) ≡ b → depth_of ns q < length ns
    by true is = lt_true (depth_of ns q) (length ns) is
    by false is = absurd (true≢false (sym (below-true (λ r. nat_le (length ns) (depth_of ns r)) (length ns) q below (le-true (depth_of ns q) (length ns) is)) ∙ free))
      where
        le-true : (m n : ℕ) → nat_lt m n ≡ false → nat_le n m ≡ true
        le-true m n h = grind (arith, h)
