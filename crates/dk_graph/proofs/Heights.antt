-- Heights over edges.
use Rattle.std.proofs.Common.{◌≡◌, ℕ, zero, suc, ◌+◌, ◌-◌, ◌≤◌, Bool, true, false, ◌==◌, max, List, [], ◌∷◌, Some, slice_get, if◌then◌else◌, refl, ap, subst, sym, true≢false, arith}
use Rattle.dk_graph.specs.declared.nodes.Edge.{Edge}
use Rattle.dk_graph.proofs.Places.{some-injective}
use Rattle.dk_graph.proofs.Members.{Has}
use Rattle.dk_graph.specs.Graphs.{highest, height}

zero-plus : (n : ℕ) → 0 + n ≡ n
zero-plus n = omega arith

suc-plus : (m n : ℕ) → suc (m + n) ≡ suc m + n
suc-plus m n = omega arith

pub eqb_true : (m n : ℕ) → m == n ≡ true → m ≡ n
eqb_true m n h = grind (arith, h)

pick-le : (b : Bool) (x y z : ℕ) → (b ≡ true → x ≤ z) → y ≤ z → (if b then max x y else y) ≤ z
pick-le true x y z p q = omega (arith, p refl, q)
pick-le false x y z p q = q

pick-more : (b : Bool) (x y z : ℕ) → z ≤ y → z ≤ (if b then max x y else y)
pick-more true x y z p = omega (arith, p)
pick-more false x y z p = p

pick-first : (b : Bool) (x y : ℕ) → b ≡ true → x ≤ (if b then max x y else y)
pick-first true x y p = omega arith
pick-first false x y p = absurd (true≢false (sym p))

pub eqb_same : (n : ℕ) → n == n ≡ true
eqb_same n = grind arith

pub highest-ge : (h : ℕ → ℕ) (es : List Edge) (k : ℕ) (e : Edge) → slice_get es k ≡ Some e → h e.child.0 + 1 ≤ highest h e.parent.0 es
highest-ge h [] k e at = absurd (cc)
highest-ge h (f ∷ es) zero e at =
    let same : f ≡ e = some-injective at in
    subst (λ g. h g.child.0 + 1 ≤ highest h g.parent.0 (f ∷ es)) same
    (pick-first (f.parent.0 == f.parent.0) (h f.child.0 + 1) (highest h f.parent.0 es) (eqb_same f.parent.0))
highest-ge h (f ∷ es) (suc k) e at =
    pick-more (f.parent.0 == e.parent.0) (h f.child.0 + 1) (highest h e.parent.0 es) (h e.child.0 + 1) (highest-ge h es k e at)

-- more edges to take, or longer paths before them, give no less
pub highest-within : (h i : ℕ → ℕ) (q : ℕ) (es fs : List Edge) → ((p : ℕ) → h p ≤ i p)
    → ((k : ℕ) (e : Edge) → slice_get es k ≡ Some e → Has fs e) → highest h q es ≤ highest i q fs
highest-within h i q [] fs le has = omega arith
highest-within h i q (e ∷ es) fs le has = pick-le (e.parent.0 == q) (h e.child.0 + 1) (highest h q es) (highest i q fs)
    (λ p. let there = has zero e refl in
    let here : i e.child.0 + 1 ≤ highest i q fs = subst (λ r. i e.child.0 + 1 ≤ highest i r fs) (eqb_true e.parent.0 q p) (highest-ge i fs there.0 e there.1) in
    omega (arith, here, le e.child.0))
    (highest-within h i q es fs le (λ k f at. has (suc k) f at))

pub height-within : (es fs : List Edge) → ((k : ℕ) (e : Edge) → slice_get es k ≡ Some e → Has fs e) → (n q : ℕ) → height es n q ≤ height fs n q
height-within es fs has zero q = omega arith
height-within es fs has (suc n) q = highest-within (height es n) (height fs n) q es fs (height-within es fs has n) has

pub height-suc : (es : List Edge) (n q : ℕ) → height es n q ≤ height es (suc n) q
height-suc es zero q = omega arith
height-suc es (suc n) q = highest-within (height es n) (height es (suc n)) q es es (height-suc es n) (λ k e at. (k, at))

pub height-more : (es : List Edge) (m n q : ℕ) → height es n q ≤ height es (m + n) q
height-more es zero n q = omega (arith, ap (λ k. height es k q) (zero-plus n))
height-more es (suc m) n q = omega (arith, height-more es m n q, height-suc es (m + n) q, ap (λ k. height es k q) (suc-plus m n))
