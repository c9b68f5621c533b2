-- Paths along edges, their lengths, and what a long one comes to.
use Rattle.std.proofs.Common.{◌≡◌, ◌∙◌, ℕ, zero, suc, ◌+◌, ◌-◌, ◌<◌, ◌≤◌, ◌==◌, ◌⊎◌, inl, inr, ◌||◌, Bool, true, false, nat_le, max, List, [], ◌∷◌, ◌++◌, length, if◌then◌else◌, true≢false, refl, ap, subst, sym, length-append, arith}
use Rattle.std.specs.List.{IsDistinct, list_any, AllByRecursion}
use Rattle.std.proofs.lemmas.Map.Keys.{IsDistinct-cons}
use Rattle.std.proofs.lemmas.Map.Steps.{length-le_from_distinct_below}
use Rattle.dk_graph.specs.Graphs.{edges, depth_of, has_cycle, height, highest, some_below}
use Rattle.dk_graph.specs.Paths.{IsPath, HasPathBack, HasCycleLaw, IsLongest}
use Rattle.dk_graph.specs.declared.nodes.Edge.{Edge}
use Rattle.dk_graph.specs.declared.nodes.Node.{Node}
use Rattle.dk_graph.proofs.Climbing.{max-cases}
use Rattle.dk_graph.proofs.LongPaths.{below-true}
use Rattle.dk_graph.proofs.Heights.{highest-ge, height-more, eqb_true}
use Rattle.dk_graph.proofs.Links.{edge-below}
use Rattle.dk_graph.proofs.Members.{Has, has-contained, contained-has, has-first, has-later}

-- ---- paths one after another

pub path-append : (es : List Edge) (p : ℕ) (path : List Edge) (q : ℕ) (rest : List Edge) (r : ℕ) → IsPath es p path q → IsPath es q rest r → IsPath es p (path ++ rest) r
path-append es p [] q rest r same h = subst (λ m. IsPath es m rest r) (sym same) h
path-append es p (e ∷ path) q rest r g h = (g.0, g.1, path-append es e.parent.0 path q rest r g.2 h)

-- a path back, so many times
abbrev times : ℕ → List Edge → List Edge
times zero path = []
times (suc n) path = path ++ times n path

path-times : (es : List Edge) (p : ℕ) (path : List Edge) → IsPath es p path p → (n : ℕ) → IsPath es p (times n path) p
path-times es p path h zero = refl
path-times es p path h (suc n) = path-append es p path p (times n path) p h (path-times es p path h n)

length-times : (path : List Edge) → 0 < length path → (n : ℕ) → n ≤ length (times n path)
length-times path some zero = omega arith
length-times path some (suc n) = omega (arith, length-append path (times n path), length-times path some n, some)

-- the end of a path is a path
path-end : (es : List Edge) (p : ℕ) (path : List Edge) (q n : ℕ) → IsPath es p path q → n ≤ length path
    → (a : ℕ) × (end : List Edge) × IsPath es a end q × (length end ≡ n)
path-end es p [] q n h le = (p, [], h, omega (arith, le))
path-end es p (e ∷ path) q zero h le = (q, [], refl, refl)
path-end es p (e ∷ path) q (suc n) h le = by (nat_le (suc n) (length path)) refl (λ more. path-end es e.parent.0 path q (suc n) h.2 more)
  where
    le-true : (m n : ℕ) → nat_le m n ≡ true → m ≤ n
    le-true m n h = grind (arith, h)

    le-false : (m n : ℕ) → nat_le m n ≡ false → n < m
    le-false m n h = grind (arith, h)

    by : (b : Bool) → nat_le (suc n) (length path) ≡ b → (suc n ≤ length path → (a : ℕ) × (end : List Edge) × IsPath es a end q × (length end ≡ suc n))
        → (a : ℕ) × (end : List Edge) × IsPath es a end q × (length end ≡ suc n)
    by true is rest = rest (le-true (suc n) (length path) is)
    by false is rest = (p, e ∷ path, h, let less = le-false (suc n) (length path) is in omega (arith, le, less))

-- ---- paths and heights

path-climbs : (es : List Edge) (p : ℕ) (path : List Edge) (q n : ℕ) → IsPath es p path q → height es n p + length path ≤ height es (n + length path) q
path-climbs es p [] q n same = omega (arith, ap (height es n) same, ap (λ k. height es k q) (plus-zero n))
  where
    plus-zero : (n : ℕ) → n + 0 ≡ n
    plus-zero n = omega arith
path-climbs es p (e ∷ path) q n h =
    let has = has-contained es e h.0 in
    let first : height es n e.child.0 + 1 ≤ height es (suc n) e.parent.0 = highest-ge (height es n) es has.0 e has.1 in
    let rest : height es (suc n) e.parent.0 + length path ≤ height es (suc n + length path) q = path-climbs es e.parent.0 path q (suc n) h.2 in
    omega (arith, first, rest, ap (height es n) h.1, ap (λ k. height es k q) (plus-suc n (length path)))
  where
    plus-suc : (n k : ℕ) → suc n + k ≡ n + suc k
    plus-suc n k = omega arith

pub path-le : (es : List Edge) (p : ℕ) (path : List Edge) (q : ℕ) → IsPath es p path q → length path ≤ height es (length path) q
path-le es p path q h = omega (arith, path-climbs es p path q 0 h, ap (λ k. height es k q) (zero-plus (length path)))
  where
    zero-plus : (n : ℕ) → 0 + n ≡ n
    zero-plus n = omega arith

-- the most edges are none, or those of one more edge
highest-is : (before : ℕ → ℕ) (q : ℕ) (es : List Edge) → (highest before q es ≡ 0) ⊎ ((e : Edge) × Has es e × (e.parent.0 ≡ q) × (highest before q es ≡ before e.child.0 + 1))
highest-is before q [] = inl refl
highest-is before q (f ∷ es) = by (f.parent.0 == q) refl (highest-is before q es)
  where
    later : (h : ℕ) → (h ≡ 0) ⊎ ((e : Edge) × Has es e × (e.parent.0 ≡ q) × (h ≡ before e.child.0 + 1))
        → (h ≡ 0) ⊎ ((e : Edge) × Has (f ∷ es) e × (e.parent.0 ≡ q) × (h ≡ before e.child.0 + 1))
    later h (inl none) = inl none
    later h (inr some) = inr (some.0, has-later f es some.0 some.1, some.2, some.3)

    by : (b : Bool) → f.parent.0 == q ≡ b → (highest before q es ≡ 0) ⊎ ((e : Edge) × Has es e × (e.parent.0 ≡ q) × (highest before q es ≡ before e.child.0 + 1))
        → ((if b then max (before f.child.0 + 1) (highest before q es) else highest before q es) ≡ 0)
        ⊎ ((e : Edge) × Has (f ∷ es) e × (e.parent.0 ≡ q) × ((if b then max (before f.child.0 + 1) (highest before q es) else highest before q es) ≡ before e.child.0 + 1))
    by true is rest = elim (max-cases (before f.child.0 + 1) (highest before q es)) [
      | inl own ↦ inr (f, has-first f es, eqb_true f.parent.0 q is, own)
      | inr other ↦ later (max (before f.child.0 + 1) (highest before q es))
          (subst (λ h. (h ≡ 0) ⊎ ((e : Edge) × Has es e × (e.parent.0 ≡ q) × (h ≡ before e.child.0 + 1))) (sym other) rest)
    ]
    by false is rest = later (highest before q es) rest

-- some path has as many edges as the height says
pub path-of-height : (es : List Edge) (n q : ℕ) → (p : ℕ) × (path : List Edge) × IsPath es p path q × (length path ≡ height es n q)
path-of-height es zero q = (q, [], refl, refl)
path-of-height es (suc n) q = by (highest-is (height es n) q es) (path-of-height es n)
  where
    plus-one : (n : ℕ) → 1 + n ≡ n + 1
    plus-one n = omega arith

    by : (highest (height es n) q es ≡ 0) ⊎ ((e : Edge) × Has es e × (e.parent.0 ≡ q) × (highest (height es n) q es ≡ height es n e.child.0 + 1))
        → ((r : ℕ) → (p : ℕ) × (path : List Edge) × IsPath es p path r × (length path ≡ height es n r))
        → (p : ℕ) × (path : List Edge) × IsPath es p path q × (length path ≡ highest (height es n) q es)
    by (inl none) before = (q, [], refl, sym none)
    by (inr some) before =
        let e : Edge = some.0 in
        let found = before e.child.0 in
        let last : IsPath es e.child.0 (e ∷ []) q = (contained-has es some.1.0 e some.1.1, refl, some.2) in (
          found.0,
          found.1 ++ e ∷ [],
          path-append es found.0 found.1 e.child.0 (e ∷ []) q found.2 last,
          length-append found.1 (e ∷ []) ∙ ap (λ k. k + 1) found.3 ∙ sym some.3,
        )

-- ---- points that a path comes to

abbrev visited : ℕ → List Edge → List ℕ
visited q [] = q ∷ []
visited q (e ∷ path) = e.child.0 ∷ visited q path

-- a path to a point that a path comes to
path-to : (es : List Edge) (a : ℕ) (path : List Edge) (q p : ℕ) → IsPath es a path q → list_any (λ r. p == r) (visited q path) ≡ true → (front : List Edge) × IsPath es a front p
path-to es a [] q p same h = by (p == q) refl h
  where
    by : (b : Bool) → p == q ≡ b → b || false ≡ true → (front : List Edge) × IsPath es a front p
    by true is h = ([], same ∙ sym (eqb_true p q is))
    by false is h = absurd (cc)
path-to es a (e ∷ path) q p g h = by (p == e.child.0) refl h (path-to es e.parent.0 path q p g.2)
  where
    by : (b : Bool) → p == e.child.0 ≡ b → b || list_any (λ r. p == r) (visited q path) ≡ true
        → (list_any (λ r. p == r) (visited q path) ≡ true → (front : List Edge) × IsPath es e.parent.0 front p) → (front : List Edge) × IsPath es a front p
    by true is h rest = ([], sym g.1 ∙ sym (eqb_true p e.child.0 is))
    by false is h rest = let found = rest h in (e ∷ found.0, (g.0, g.1, found.1))

none-same : (x : ℕ) (xs : List ℕ) → list_any (λ r. x == r) xs ≡ false → AllByRecursion (λ y. x == y ≡ false) xs
none-same x [] h = tt
none-same x (y ∷ xs) h = by (x == y) refl h (none-same x xs)
  where
    by : (b : Bool) → x == y ≡ b → b || list_any (λ r. x == r) xs ≡ false → (list_any (λ r. x == r) xs ≡ false → AllByRecursion (λ y. x == y ≡ false) xs)
        → (x == y ≡ false) × AllByRecursion (λ y. x == y ≡ false) xs
    by true is h rest = absurd (cc)
    by false is h rest = (is, rest h)

-- a path comes to no point twice, or some path leads back
distinct-or-back : (es : List Edge) (p : ℕ) (path : List Edge) (q : ℕ) → IsPath es p path q → HasPathBack es ⊎ IsDistinct (λ x y. x == y) (visited q path)
unfolding IsDistinct
distinct-or-back es p [] q h = inr (tt, tt)
distinct-or-back es p (e ∷ path) q h = by (list_any (λ r. e.child.0 == r) (visited q path)) refl (distinct-or-back es e.parent.0 path q h.2)
  where
    by : (b : Bool) → list_any (λ r. e.child.0 == r) (visited q path) ≡ b → HasPathBack es ⊎ IsDistinct (λ x y. x == y) (visited q path)
        → HasPathBack es ⊎ IsDistinct (λ x y. x == y) (e.child.0 ∷ visited q path)
    by b is (inl back) = inl back
    by true is (inr distinct) =
        let found = path-to es e.parent.0 path q e.child.0 h.2 is in
        inl (e.child.0, e ∷ found.0, omega arith, (h.0, refl, found.1))
    by false is (inr distinct) = inr (IsDistinct-cons (λ x y. x == y) e.child.0 (visited q path) (none-same e.child.0 (visited q path) is) distinct)

length-visited : (q : ℕ) (path : List Edge) → length (visited q path) ≡ length path + 1
length-visited q [] = refl
length-visited q (e ∷ path) = omega (arith, length-visited q path)

visited-below : (ns : List Node) (p : ℕ) (path : List Edge) (q : ℕ) → IsPath (edges ns) p path q → q < length ns
    → (r : ℕ) → list_any (λ x. r == x) (visited q path) ≡ true → r < length ns
visited-below ns p [] q h below r any = by (r == q) refl any
  where
    by : (b : Bool) → r == q ≡ b → b || false ≡ true → r < length ns
    by true is any = subst (λ k. k < length ns) (sym (eqb_true r q is)) below
    by false is any = absurd (cc)
visited-below ns p (e ∷ path) q h below r any = by (r == e.child.0) refl any (visited-below ns e.parent.0 path q h.2 below r)
  where
    by : (b : Bool) → r == e.child.0 ≡ b → b || list_any (λ x. r == x) (visited q path) ≡ true
        → (list_any (λ x. r == x) (visited q path) ≡ true → r < length ns) → r < length ns
    by true is any rest = subst (λ k. k < length ns) (sym (eqb_true r e.child.0 is)) (edge-below ns e h.0).0
    by false is any rest = rest any

-- ---- cycles

below-some : (test : ℕ → Bool) (n : ℕ) → some_below test n ≡ true → (q : ℕ) × (q < n) × (test q ≡ true)
below-some test zero h = absurd (cc)
below-some test (suc n) h = by (test n) refl h (below-some test n)
  where
    by : (b : Bool) → test n ≡ b → b || some_below test n ≡ true → (some_below test n ≡ true → (q : ℕ) × (q < n) × (test q ≡ true)) → (q : ℕ) × (q < suc n) × (test q ≡ true)
    by true is h rest = (n, omega arith, is)
    by false is h rest = let found = rest h in (found.0, omega (arith, found.1), found.2)

nat-le-true : (m n : ℕ) → nat_le m n ≡ true → m ≤ n
nat-le-true m n h = grind (arith, h)

nat-le-yes : (m n : ℕ) → m ≤ n → nat_le m n ≡ true
nat-le-yes m n h = grind (arith, h)

-- a path with as many edges as there are points
pub long-cycle : (ns : List Node) (p : ℕ) (path : List Edge) (q : ℕ) → IsPath (edges ns) p path q → q < length ns → length ns ≤ length path → has_cycle ns ≡ true
unfolding has_cycle depth_of
long-cycle ns p path q h below long =
    let end = path-end (edges ns) p path q (length ns) h long in
    let climbs : length end.1 ≤ height (edges ns) (length end.1) q = path-le (edges ns) end.0 end.1 q end.2 in
    below-true (λ r. nat_le (length ns) (height (edges ns) (length ns) r)) (length ns) q below
    (nat-le-yes (length ns) (height (edges ns) (length ns) q) (subst (λ k. k ≤ height (edges ns) k q) end.3 climbs))

back-cycle : (ns : List Node) → HasPathBack (edges ns) → has_cycle ns ≡ true
back-cycle ns (p, [], some, h) = absurd (omega (arith, some))
back-cycle ns (p, e ∷ path, some, h) =
    let below : p < length ns = subst (λ k. k < length ns) h.1 (edge-below ns e h.0).0 in
    long-cycle ns p (times (length ns) (e ∷ path)) p (path-times (edges ns) p (e ∷ path) h (length ns)) below (length-times (e ∷ path) some (length ns))

cycle-back : (ns : List Node) → has_cycle ns ≡ true → HasPathBack (edges ns)
unfolding has_cycle depth_of
cycle-back ns h =
    let found = below-some (λ q. nat_le (length ns) (height (edges ns) (length ns) q)) (length ns) h in
    let long : length ns ≤ height (edges ns) (length ns) found.0 = nat-le-true (length ns) (height (edges ns) (length ns) found.0) found.2 in
    let path = path-of-height (edges ns) (length ns) found.0 in
    elim (distinct-or-back (edges ns) path.0 path.1 found.0 path.2) [
      | inl back ↦ back
      | inr distinct ↦
          let few : length (visited found.0 path.1) ≤ length ns =
          length-le_from_distinct_below (visited found.0 path.1) (length ns) distinct (visited-below ns path.0 path.1 found.0 path.2 found.1) in
          absurd (omega (arith, few, length-visited found.0 path.1, path.3, long))
    ]

pub cycle-law : (ns : List Node) → HasCycleLaw ns
cycle-law ns = record { back = cycle-back ns; cycle = back-cycle ns }

-- ---- depths

pub longest : (ns : List Node) → has_cycle ns ≡ false → (q : ℕ) → q < length ns → IsLongest (edges ns) q (depth_of ns q)
unfolding depth_of
longest ns acyclic q below = record {
  reached = path-of-height (edges ns) (length ns) q;
  longest = λ p path h. by p path h (nat_le (length ns) (length path)) refl;
}
  where
    fill : (k n : ℕ) → k ≤ n → n - k + k ≡ n
    fill k n h = omega (arith, h)

    less : (m n : ℕ) → nat_le m n ≡ false → n ≤ m
    less m n h = grind (arith, h)

    by : (p : ℕ) (path : List Edge) → IsPath (edges ns) p path q → (b : Bool) → nat_le (length ns) (length path) ≡ b → length path ≤ height (edges ns) (length ns) q
    by p path h true is = absurd (true≢false (sym (long-cycle ns p path q h below (nat-le-true (length ns) (length path) is)) ∙ acyclic))
    by p path h false is =
        let le = less (length ns) (length path) is in
        omega (arith, path-le (edges ns) p path q h, height-more (edges ns) (length ns - length path) (length path) q, ap (λ k. height (edges ns) k q) (fill (length path) (length ns) le))
