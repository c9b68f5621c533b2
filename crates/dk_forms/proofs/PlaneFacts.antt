-- The join of spans and planes is the least of them that has the points of both, so it keeps the laws.
use Rattle.std.specs.Prelude.{[], ◌≡◌, ℕ, ◌*◌, ℤ, pos, ◌+ℤ◌, ◌-ℤ◌, ◌*ℤ◌, neg_ℤ, ◌≤◌, ◌^◌, ◌⊎◌, unsigned_abs, int_div, true, false, nat_le, ◌&&◌, if◌then◌else◌, List, ◌∷◌, fold, refl}
use Rattle.std.specs.Bool.{Decides}
use Rattle.std.specs.Ordering.{int_eq}
use Rattle.std.proofs.Common.{sym, ap, ◌∙◌, subst, arith, inl, inr}
use Rattle.std.proofs.lemmas.Bool.Decides.{Decides-int_eq, Decides-and, not_from_Decides}
use Rattle.std.proofs.lemmas.Int.{ints, unsigned_abs-mul}
use Rattle.std.proofs.Math.Nat.{mul-le-mul}
use Rattle.dk_arith.proofs.Parallels.{AreParallel, IsZero, across, across_both, cross_first, cross_second, cross_zero, parallel_swap, parallel_through, zero_or_not}
use Rattle.dk_forms.specs.Plane.{Before, Flat, IsPlane, IsPoint, IsSpan, are_aligned, first_off, greater, in_space, is_in_plane, lesser, plane, plane_between, plane_from, plane_known_of, plane_meet, plane_of_all, plane_through, same_plane, span}
use Rattle.dk_forms.proofs.Order.{Below, IsHull, IsHullOf, IsJoinOf, turned}
use Rattle.dk_forms.specs.Known.{IfFact, Known, broken, fact, nothing}
use Rattle.dk_forms.proofs.PointOrder.{IsEnd, before_antisymmetric, before_same, before_transitive, greatest_is, least_is}
use Rattle.dk_forms.specs.Laws.{IsIn}
use Rattle.dk_forms.proofs.Limits.{IsKnownOf, limited_hull, limited_one}
use Rattle.dk_arith.specs.Directions.{IsNormal3, divisor}
use Rattle.dk_forms.proofs.Testing.{all_or_one}
use Rattle.dk_arith.proofs.Choice.{choice}
use Rattle.dk_arith.specs.Vectors.{cross, dot, minus}
use Rattle.dk_arith.proofs.LowestTerms.{lowest_is, same_direction, smaller}
use Rattle.dk_arith.proofs.TwoPoints.{no_factor}
use Rattle.dk_arith.proofs.Ring.{rep, rep-add, rep-mul, rep-neg, rep-sub, same_rep}

-- ---- planes and points
-- the point lies in the plane
abbrev pub On : ℤ × ℤ × ℤ × ℤ → ℤ × ℤ × ℤ → Type 0
On n p = n.0 *ℤ p.0 +ℤ n.1 *ℤ p.1 +ℤ n.2 *ℤ p.2 ≡ neg_ℤ n.3

abbrev normal_of : ℤ × ℤ × ℤ × ℤ → ℤ × ℤ × ℤ
normal_of n = (n.0, n.1, n.2)

dot_minus : (n p q : ℤ × ℤ × ℤ) → dot n (minus q p) ≡ dot n q -ℤ dot n p
dot_minus n p q =
    same_rep (rep-add (rep-add (rep-mul (rep n.0) (rep-sub (rep q.0) (rep p.0))) (rep-mul (rep n.1) (rep-sub (rep q.1) (rep p.1)))) (rep-mul (rep n.2) (rep-sub (rep q.2) (rep p.2))))
    (rep-sub (rep-add (rep-add (rep-mul (rep n.0) (rep q.0)) (rep-mul (rep n.1) (rep q.1))) (rep-mul (rep n.2) (rep q.2)))
    (rep-add (rep-add (rep-mul (rep n.0) (rep p.0)) (rep-mul (rep n.1) (rep p.1))) (rep-mul (rep n.2) (rep p.2)))) (omega arith)

on_along : (n : ℤ × ℤ × ℤ × ℤ) (p q : ℤ × ℤ × ℤ) → On n p → On n q → dot (normal_of n) (minus q p) ≡ pos 0
on_along n p q hp hq = dot_minus (normal_of n) p q ∙ ap (λ t. t -ℤ dot (normal_of n) p) hq ∙ ap (λ t. neg_ℤ n.3 -ℤ t) hp ∙ omega (arith, ints)

on_from : (n : ℤ × ℤ × ℤ × ℤ) (p q : ℤ × ℤ × ℤ) → On n p → dot (normal_of n) (minus q p) ≡ pos 0 → On n q
on_from n p q hp e = let s = sym (dot_minus (normal_of n) p q) ∙ e in let t : dot (normal_of n) q ≡ dot (normal_of n) p = omega (arith, ints) in t ∙ hp

zero_cases : (u : ℤ × ℤ × ℤ) → IsZero u ⊎ (IsZero u → ⊥)
zero_cases u =
    elim (zero_or_not u.0) as (λ _. IsZero u ⊎ (IsZero u → ⊥)) [
      | inr n ↦ inr (λ z. n z.0)
      | inl e ↦ elim (zero_or_not u.1) as (λ _. IsZero u ⊎ (IsZero u → ⊥)) [
        | inr n ↦ inr (λ z. n z.1)
        | inl f ↦ elim (zero_or_not u.2) as (λ _. IsZero u ⊎ (IsZero u → ⊥)) [ inr n ↦ inr (λ z. n z.2) | inl g ↦ inl (e, f, g) ]
      ]
    ]

same_if_zero : (p q : ℤ × ℤ × ℤ) → IsZero (minus q p) → q ≡ p
same_if_zero p q z =
    let z0 = z.0 in let z1 = z.1 in let z2 = z.2 in
    let e0 : q.0 ≡ p.0 = omega (arith, ints) in let e1 : q.1 ≡ p.1 = omega (arith, ints) in let e2 : q.2 ≡ p.2 = omega (arith, ints) in
    ap (λ a. (a, q.1, q.2)) e0 ∙ ap (λ b. (p.0, b, q.2)) e1 ∙ ap (λ c. (p.0, p.1, c)) e2

-- each plane through p and q goes through v
abbrev pub InHull : ℤ × ℤ × ℤ → ℤ × ℤ × ℤ → ℤ × ℤ × ℤ → Type 0
InHull p q v = (n : ℤ × ℤ × ℤ × ℤ) → On n p → On n q → On n v

abbrev pub Aligned : ℤ × ℤ × ℤ → ℤ × ℤ × ℤ → ℤ × ℤ × ℤ → Type 0
Aligned p q v = AreParallel (minus q p) (minus v p)

pub decides_aligned : (p q v : ℤ × ℤ × ℤ) → Decides (are_aligned p q v) (Aligned p q v)
decides_aligned p q v =
    let u = minus q p in
    let f = minus v p in
    let xy = int_eq (u.0 *ℤ f.1) (f.0 *ℤ u.1) in
    let xz = int_eq (u.0 *ℤ f.2) (f.0 *ℤ u.2) in
    let yz = int_eq (u.1 *ℤ f.2) (f.1 *ℤ u.2) in
    let d = Decides-and xy (xz && yz) (Decides-int_eq (u.0 *ℤ f.1) (f.0 *ℤ u.1)) (Decides-and xz yz (Decides-int_eq (u.0 *ℤ f.2) (f.0 *ℤ u.2)) (Decides-int_eq (u.1 *ℤ f.2) (f.1 *ℤ u.2))) in
    ((λ h. let r = d.0 h in record { xy = r.0; xz = r.1.0; yz = r.1.1 }), (λ r. d.1 (r.xy, (r.xz, r.yz))))

decides_on : (n : ℤ × ℤ × ℤ × ℤ) (p : ℤ × ℤ × ℤ) → Decides (is_in_plane n p) (On n p)
decides_on n p = Decides-int_eq (n.0 *ℤ p.0 +ℤ n.1 *ℤ p.1 +ℤ n.2 *ℤ p.2) (neg_ℤ n.3)

-- a point between two others on their line lies in each plane of them
pub hull_from_aligned : (p q v : ℤ × ℤ × ℤ) → Aligned p q v → Before p v → Before v q → InHull p q v
hull_from_aligned p q v a pv vq n hp hq =
    elim (zero_cases (minus q p)) as (λ _. On n v) [
      | inl z ↦ let e = same_if_zero p q z in subst (On n) (before_antisymmetric p v pv (subst (Before v) e vq)) hp
      | inr ne ↦ on_from n p v hp (across (normal_of n) (minus q p) (minus v p) ne a (on_along n p q hp hq))
    ]

-- what stands across r and t stands across two points of their hull
across_hull : (r t p q k : ℤ × ℤ × ℤ) → InHull r t p → InHull r t q → dot k (minus t r) ≡ pos 0 → dot k (minus q p) ≡ pos 0
across_hull r t p q k hp hq e =
    let n : ℤ × ℤ × ℤ × ℤ = (k.0, k.1, k.2, neg_ℤ (dot k r)) in
    let on_r : On n r = omega (arith, ints) in
    let on_t : On n t = on_from n r t on_r e in
    on_along n p q (hp n on_r on_t) (hq n on_r on_t)

twisted : (a b c : ℤ) → b *ℤ a +ℤ neg_ℤ a *ℤ b +ℤ pos 0 *ℤ c ≡ pos 0
twisted a b c = same_rep (rep-add (rep-add (rep-mul (rep b) (rep a)) (rep-mul (rep-neg (rep a)) (rep b))) (rep-mul (rep (pos 0)) (rep c))) (rep (pos 0)) (omega arith)

untwisted : (a b x y z : ℤ) → b *ℤ x +ℤ neg_ℤ a *ℤ y +ℤ pos 0 *ℤ z ≡ pos 0 → x *ℤ b ≡ a *ℤ y
untwisted a b x y z e =
    let r : b *ℤ x +ℤ neg_ℤ a *ℤ y +ℤ pos 0 *ℤ z ≡ x *ℤ b -ℤ a *ℤ y =
    same_rep (rep-add (rep-add (rep-mul (rep b) (rep x)) (rep-mul (rep-neg (rep a)) (rep y))) (rep-mul (rep (pos 0)) (rep z))) (rep-sub (rep-mul (rep x) (rep b)) (rep-mul (rep a) (rep y))) (omega arith) in
    let s = sym r ∙ e in
    omega (arith, ints)

-- what runs between two points of a hull is parallel to it
parallel_in_hull : (r t p q : ℤ × ℤ × ℤ) → InHull r t p → InHull r t q → AreParallel (minus q p) (minus t r)
parallel_in_hull r t p q hp hq =
    let e = minus t r in
    let u = minus q p in
    let t01 = twisted e.0 e.1 e.2 in
    let t02 = twisted e.0 e.2 e.1 in
    let t12 = twisted e.1 e.2 e.0 in
    let xy = across_hull r t p q (e.1, neg_ℤ e.0, pos 0) hp hq t01 in
    let xz = across_hull r t p q (e.2, pos 0, neg_ℤ e.0) hp hq (omega (arith, ints)) in
    let yz = across_hull r t p q (pos 0, e.2, neg_ℤ e.1) hp hq (omega (arith, ints)) in
    record {
      xy = untwisted e.0 e.1 u.0 u.1 u.2 xy;
      xz = untwisted e.0 e.2 u.0 u.2 u.1 (omega (arith, ints));
      yz = untwisted e.1 e.2 u.1 u.2 u.0 (omega (arith, ints));
    }

zero_parallel : (u f : ℤ × ℤ × ℤ) → u.0 ≡ pos 0 → u.1 ≡ pos 0 → u.2 ≡ pos 0 → AreParallel u f
zero_parallel u f x y z = record {
  xy = ap (λ a. a *ℤ f.1) x ∙ sym (ap (λ b. f.0 *ℤ b) y ∙ omega (arith, ints));
  xz = ap (λ a. a *ℤ f.2) x ∙ sym (ap (λ b. f.0 *ℤ b) z ∙ omega (arith, ints));
  yz = ap (λ a. a *ℤ f.2) y ∙ sym (ap (λ b. f.1 *ℤ b) z ∙ omega (arith, ints));
}

-- three points of a hull are on one line
pub aligned_in_hull : (r t p q v : ℤ × ℤ × ℤ) → InHull r t p → InHull r t q → InHull r t v → Aligned p q v
aligned_in_hull r t p q v hp hq hv =
    let e = minus t r in
    elim (zero_cases e) as (λ _. Aligned p q v) [
      | inr ne ↦ parallel_through (minus q p) (minus v p) e ne (parallel_in_hull r t p q hp hq) (parallel_in_hull r t p v hp hv)
      | inl z ↦
          let all : (k : ℤ × ℤ × ℤ) → dot k e ≡ pos 0 = λ k.
          ap (λ a. k.0 *ℤ a +ℤ k.1 *ℤ e.1 +ℤ k.2 *ℤ e.2) z.0 ∙ ap (λ b. k.0 *ℤ pos 0 +ℤ k.1 *ℤ b +ℤ k.2 *ℤ e.2) z.1
          ∙ ap (λ c. k.0 *ℤ pos 0 +ℤ k.1 *ℤ pos 0 +ℤ k.2 *ℤ c) z.2 ∙ omega (arith, ints) in
          let u = minus q p in
          let x = across_hull r t p q (pos 1, pos 0, pos 0) hp hq (all (pos 1, pos 0, pos 0)) in
          let y = across_hull r t p q (pos 0, pos 1, pos 0) hp hq (all (pos 0, pos 1, pos 0)) in
          let w = across_hull r t p q (pos 0, pos 0, pos 1) hp hq (all (pos 0, pos 0, pos 1)) in
          zero_parallel u (minus v p) (omega (arith, ints)) (omega (arith, ints)) (omega (arith, ints))
    ]

-- ---- the plane through three points
record IsThrough (p q v : ℤ × ℤ × ℤ) (n : ℤ × ℤ × ℤ × ℤ) : Type 0 where
  normal : IsNormal3 n.0 n.1 n.2
  first : On n p
  second : On n q
  third : On n v
  fit : IsPoint p → IsPoint q → IsPoint v → IsPlane n

-- a direction across k, divided, is across what k is across
divided : (a b c d : ℤ) (k u : ℤ × ℤ × ℤ) → (d ≡ pos 0 → ⊥) → a *ℤ d ≡ k.0 → b *ℤ d ≡ k.1 → c *ℤ d ≡ k.2 → dot k u ≡ pos 0 → dot (a, b, c) u ≡ pos 0
divided a b c d k u some ea eb ec e =
    let scaled : dot (a, b, c) u *ℤ d ≡ (a *ℤ d) *ℤ u.0 +ℤ (b *ℤ d) *ℤ u.1 +ℤ (c *ℤ d) *ℤ u.2 =
    same_rep (rep-mul (rep-add (rep-add (rep-mul (rep a) (rep u.0)) (rep-mul (rep b) (rep u.1))) (rep-mul (rep c) (rep u.2))) (rep d))
    (rep-add (rep-add (rep-mul (rep-mul (rep a) (rep d)) (rep u.0)) (rep-mul (rep-mul (rep b) (rep d)) (rep u.1))) (rep-mul (rep-mul (rep c) (rep d)) (rep u.2))) (omega arith) in
    no_factor (dot (a, b, c) u) d some
    (scaled ∙ ap (λ t. t *ℤ u.0 +ℤ (b *ℤ d) *ℤ u.1 +ℤ (c *ℤ d) *ℤ u.2) ea ∙ ap (λ t. k.0 *ℤ u.0 +ℤ t *ℤ u.1 +ℤ (c *ℤ d) *ℤ u.2) eb ∙ ap (λ t. k.0 *ℤ u.0 +ℤ k.1 *ℤ u.1 +ℤ t *ℤ u.2) ec ∙ e)

area_bound : (a b c d : ℤ) → unsigned_abs a ≤ 2 ^ 31 → unsigned_abs b ≤ 2 ^ 31 → unsigned_abs c ≤ 2 ^ 31 → unsigned_abs d ≤ 2 ^ 31 → unsigned_abs (a *ℤ b -ℤ c *ℤ d) ≤ 2 ^ 63
area_bound a b c d ha hb hc hd =
    let ab : unsigned_abs (a *ℤ b) ≤ 2 ^ 31 * 2 ^ 31 = subst (λ t. t ≤ 2 ^ 31 * 2 ^ 31) (sym (unsigned_abs-mul a b)) (mul-le-mul ha hb) in
    let cd : unsigned_abs (c *ℤ d) ≤ 2 ^ 31 * 2 ^ 31 = subst (λ t. t ≤ 2 ^ 31 * 2 ^ 31) (sym (unsigned_abs-mul c d)) (mul-le-mul hc hd) in
    omega (arith, ints)

value_bound : (a b c x y z : ℤ) → unsigned_abs a ≤ 2 ^ 63 → unsigned_abs b ≤ 2 ^ 63 → unsigned_abs c ≤ 2 ^ 63 → unsigned_abs x ≤ 2 ^ 30 → unsigned_abs y ≤ 2 ^ 30 → unsigned_abs z ≤ 2 ^ 30
    → unsigned_abs (neg_ℤ (a *ℤ x +ℤ b *ℤ y +ℤ c *ℤ z)) ≤ 2 ^ 95
value_bound a b c x y z ha hb hc hx hy hz =
    let ax : unsigned_abs (a *ℤ x) ≤ 2 ^ 63 * 2 ^ 30 = subst (λ t. t ≤ 2 ^ 63 * 2 ^ 30) (sym (unsigned_abs-mul a x)) (mul-le-mul ha hx) in
    let by : unsigned_abs (b *ℤ y) ≤ 2 ^ 63 * 2 ^ 30 = subst (λ t. t ≤ 2 ^ 63 * 2 ^ 30) (sym (unsigned_abs-mul b y)) (mul-le-mul hb hy) in
    let cz : unsigned_abs (c *ℤ z) ≤ 2 ^ 63 * 2 ^ 30 = subst (λ t. t ≤ 2 ^ 63 * 2 ^ 30) (sym (unsigned_abs-mul c z)) (mul-le-mul hc hz) in
    omega (arith, ints)

gap_bound : (x y : ℤ) → unsigned_abs x ≤ 2 ^ 30 → unsigned_abs y ≤ 2 ^ 30 → unsigned_abs (x -ℤ y) ≤ 2 ^ 31
gap_bound x y hx hy = omega (arith, ints)

through_is : (p q v : ℤ × ℤ × ℤ) → (Aligned p q v → ⊥) → IsThrough p q v (plane_through p q v)
unfolding plane_through
through_is p q v off =
    let u = minus q p in
    let f = minus v p in
    let k = cross u f in
    let low = lowest_is k.0 k.1 k.2 (λ z. off (cross_zero u f z)) in
    let d = divisor k.0 k.1 k.2 in
    let a = int_div k.0 d in
    let b = int_div k.1 d in
    let c = int_div k.2 d in
    let n : ℤ × ℤ × ℤ × ℤ = (a, b, c, neg_ℤ (a *ℤ p.0 +ℤ b *ℤ p.1 +ℤ c *ℤ p.2)) in
    let on_p : On n p = omega (arith, ints) in
    record {
      normal = low.normal;
      first = on_p;
      second = on_from n p q on_p (divided a b c d k u low.some low.first low.second low.third (cross_first u f));
      third = on_from n p v on_p (divided a b c d k f low.some low.first low.second low.third (cross_second u f));
      fit = λ fp fq fv.
          let px = fp.x in let py = fp.y in let pz = fp.z in let qx = fq.x in let qy = fq.y in let qz = fq.z in let vx = fv.x in let vy = fv.y in let vz = fv.z in
          let u0 = gap_bound q.0 p.0 qx px in let u1 = gap_bound q.1 p.1 qy py in let u2 = gap_bound q.2 p.2 qz pz in
          let f0 = gap_bound v.0 p.0 vx px in let f1 = gap_bound v.1 p.1 vy py in let f2 = gap_bound v.2 p.2 vz pz in
          let sa = smaller a d k.0 low.some low.first in let sb = smaller b d k.1 low.some low.second in let sc = smaller c d k.2 low.some low.third in
          let ka = area_bound u.1 f.2 f.1 u.2 u1 f2 f1 u2 in let kb = area_bound f.0 u.2 u.0 f.2 f0 u2 u0 f2 in let kc = area_bound u.0 f.1 f.0 u.1 u0 f1 f0 u1 in
          let la : unsigned_abs a ≤ 2 ^ 63 = omega arith in let lb : unsigned_abs b ≤ 2 ^ 63 = omega arith in let lc : unsigned_abs c ≤ 2 ^ 63 = omega arith in
          record { normal = low.normal; a = la; b = lb; c = lc; d = value_bound a b c p.0 p.1 p.2 la lb lc px py pz };
    }

-- for the code
pub not_aligned : (p q v : ℤ × ℤ × ℤ) → are_aligned p q v ≡ false → IsZero (cross (minus q p) (minus v p)) → ⊥
not_aligned p q v e z = not_from_Decides (are_aligned p q v) (decides_aligned p q v) e (cross_zero (minus q p) (minus v p) z)

pub through_fits : (p q v : ℤ × ℤ × ℤ) → are_aligned p q v ≡ false → IsPoint p → IsPoint q → IsPoint v → IsPlane (plane_through p q v)
through_fits p q v e = (through_is p q v (not_from_Decides (are_aligned p q v) (decides_aligned p q v) e)).fit

same_four : (n m : ℤ × ℤ × ℤ × ℤ) → n.0 ≡ m.0 → n.1 ≡ m.1 → n.2 ≡ m.2 → n.3 ≡ m.3 → n ≡ m
same_four n m e f g h = ap (λ a. (a, n.1, n.2, n.3)) e ∙ ap (λ b. (m.0, b, n.2, n.3)) f ∙ ap (λ c. (m.0, m.1, c, n.3)) g ∙ ap (λ d. (m.0, m.1, m.2, d)) h

-- three points that are not on one line lie in one plane at most
unique : (n m : ℤ × ℤ × ℤ × ℤ) (p q v : ℤ × ℤ × ℤ) → IsNormal3 n.0 n.1 n.2 → IsNormal3 m.0 m.1 m.2 → (Aligned p q v → ⊥)
    → On n p → On n q → On n v → On m p → On m q → On m v → n ≡ m
unique n m p q v fn fm off np nq nv mp mq mv =
    let u = minus q p in
    let f = minus v p in
    let k = cross u f in
    let nk = across_both (normal_of n) u f (on_along n p q np nq) (on_along n p v np nv) in
    let mk = across_both (normal_of m) u f (on_along m p q mp mq) (on_along m p v mp mv) in
    let nm = parallel_through (normal_of n) (normal_of m) k (λ z. off (cross_zero u f z)) nk mk in
    let e = same_direction n.0 n.1 n.2 m.0 m.1 m.2 fn fm nm in
    let last : neg_ℤ n.3 ≡ neg_ℤ m.3 = sym np ∙ ap (λ a. a *ℤ p.0 +ℤ n.1 *ℤ p.1 +ℤ n.2 *ℤ p.2) e.0 ∙ ap (λ b. m.0 *ℤ p.0 +ℤ b *ℤ p.1 +ℤ n.2 *ℤ p.2) e.1 ∙ ap (λ c. m.0 *ℤ p.0 +ℤ m.1 *ℤ p.1 +ℤ c *ℤ p.2) e.2 ∙ mp in
    same_four n m e.0 e.1 e.2 (omega (arith, ints))

-- ---- the order: the points of the first are among those of the second
abbrev pub PlaneLe : Flat → Flat → Type 0
PlaneLe (span s) (span t) = Before t.0 s.0 × Before s.1 t.1 × InHull t.0 t.1 s.0 × InHull t.0 t.1 s.1
PlaneLe (span s) (plane n) = On n s.0 × On n s.1
PlaneLe (plane n) (span t) = ⊥
PlaneLe (plane n) (plane m) = n ≡ m

abbrev pub IsPlaneFact : Flat → Type 0
IsPlaneFact (span s) = IsSpan s
IsPlaneFact (plane n) = IsPlane n

flat_same : (x : Flat) → IsPlaneFact x → PlaneLe x x
flat_same (span s) f = (before_same s.0, before_same s.1, (λ n p q. p), (λ n p q. q))
flat_same (plane n) f = refl

flat_antisymmetric : (x y : Flat) → IsPlaneFact x → IsPlaneFact y → PlaneLe x y → PlaneLe y x → x ≡ y
flat_antisymmetric (span s) (span t) f g h k = ap (λ p. span (p, s.1)) (before_antisymmetric s.0 t.0 k.0 h.0) ∙ ap (λ q. span (t.0, q)) (before_antisymmetric s.1 t.1 h.1 k.1)
flat_antisymmetric (span s) (plane m) f g h k = absurd k
flat_antisymmetric (plane n) (span t) f g h k = absurd h
flat_antisymmetric (plane n) (plane m) f g h k = ap plane h

flat_transitive : (x y z : Flat) → IsPlaneFact x → IsPlaneFact y → IsPlaneFact z → PlaneLe x y → PlaneLe y z → PlaneLe x z
flat_transitive (span s) (span t) (span r) f g h k l =
    (before_transitive r.0 t.0 s.0 l.0 k.0, before_transitive s.1 t.1 r.1 k.1 l.1, (λ n p q. k.2 n (l.2 n p q) (l.3 n p q)), (λ n p q. k.3 n (l.2 n p q) (l.3 n p q)))
flat_transitive (span s) (span t) (plane n) f g h k l = (k.2 n l.0 l.1, k.3 n l.0 l.1)
flat_transitive (span s) (plane n) (span r) f g h k m = absurd m
flat_transitive (span s) (plane n) (plane m) f g h k e = (subst (λ j. On j s.0) e k.0, subst (λ j. On j s.1) e k.1)
flat_transitive (plane n) (span t) z f g h k m = absurd k
flat_transitive (plane n) (plane m) (span t) f g h k e = absurd e
flat_transitive (plane n) (plane m) (plane l) f g h k e = k ∙ e

-- ---- the state of some points
abbrev pub point : ℤ × ℤ × ℤ → Flat
point v = span (v, v)

abbrev Knows : List (ℤ × ℤ × ℤ) → Known Flat → Type 0
Knows points k = IsKnownOf IsPlaneFact PlaneLe point points k

-- with both its ends a span is within what is known, and with it both ends are
span_below : (p q : ℤ × ℤ × ℤ) (k : Known Flat) → Below PlaneLe (fact (point p)) k → Below PlaneLe (fact (point q)) k → Below PlaneLe (fact (span (p, q))) k
span_below p q nothing x y = x
span_below p q broken x y = tt
span_below p q (fact (span t)) x y = (x.0, y.1, x.2, y.3)
span_below p q (fact (plane n)) x y = (x.0, y.0)

first_below : (s : (ℤ × ℤ × ℤ) × (ℤ × ℤ × ℤ)) (z : Flat) → IsSpan s → PlaneLe (span s) z → PlaneLe (point s.0) z
first_below s (span t) f h = (h.0, before_transitive s.0 s.1 t.1 f.ordered h.1, h.2, h.2)
first_below s (plane n) f h = (h.0, h.0)

last_below : (s : (ℤ × ℤ × ℤ) × (ℤ × ℤ × ℤ)) (z : Flat) → IsSpan s → PlaneLe (span s) z → PlaneLe (point s.1) z
last_below s (span t) f h = (before_transitive t.0 s.0 s.1 h.0 f.ordered, h.1, h.3, h.3)
last_below s (plane n) f h = (h.1, h.1)

aligned_start : (p q : ℤ × ℤ × ℤ) → Aligned p q p
aligned_start p q = parallel_swap (minus p p) (minus q p) (zero_parallel (minus p p) (minus q p) (omega (arith, ints)) (omega (arith, ints)) (omega (arith, ints)))

off_cases : (p q : ℤ × ℤ × ℤ) (vs : List (ℤ × ℤ × ℤ))
    → (Aligned p q (first_off p q vs) × ((v : ℤ × ℤ × ℤ) → IsIn v vs → Aligned p q v)) ⊎ ((Aligned p q (first_off p q vs) → ⊥) × IsIn (first_off p q vs) vs)
off_cases p q [] = inl (aligned_start p q, λ v i. absurd i)
off_cases p q (w ∷ ws) =
    let Case : ℤ × ℤ × ℤ → Type 0 = λ r. (Aligned p q r × ((v : ℤ × ℤ × ℤ) → IsIn v (w ∷ ws) → Aligned p q v)) ⊎ ((Aligned p q r → ⊥) × IsIn r (w ∷ ws)) in
    elim (choice (are_aligned p q w) (decides_aligned p q w) (first_off p q ws) w) as (λ _. Case (first_off p q (w ∷ ws))) [
      | inl h ↦ subst Case (sym h.1) (elim (off_cases p q ws) as (λ _. Case (first_off p q ws)) [
        | inl k ↦ inl (k.0, λ v i. elim i as (λ _. Aligned p q v) [ inl e ↦ subst (Aligned p q) (sym e) h.0 | inr j ↦ k.1 v j ])
        | inr k ↦ inr (k.0, inr k.1)
      ])
      | inr h ↦ subst Case (sym h.1) (inr (h.0, inl refl))
    ]

-- the least and the greatest of the points
record AreEnds (points : List (ℤ × ℤ × ℤ)) (p q : ℤ × ℤ × ℤ) : Type 0 where
  least : IsEnd Before points p
  greatest : IsEnd (λ a b. Before b a) points q

module _ (points : List (ℤ × ℤ × ℤ)) (p q : ℤ × ℤ × ℤ) (ends : AreEnds points p q) (all : (v : ℤ × ℤ × ℤ) → IsIn v points → IsPoint v) where
  on_one_line : ((v : ℤ × ℤ × ℤ) → IsIn v points → Aligned p q v) → Knows points (fact (span (p, q)))
  on_one_line aligned = record {
    fit = record { first = all p ends.least.one; last = all q ends.greatest.one; ordered = ends.least.end q ends.greatest.one };
    holds = λ v i. let pv = ends.least.end v i in let vq = ends.greatest.end v i in let h = hull_from_aligned p q v (aligned v i) pv vq in (pv, vq, h, h);
    least = λ j f a. span_below p q j (a p ends.least.one) (a q ends.greatest.one);
  }

  module _ (v : ℤ × ℤ × ℤ) (v_in : IsIn v points) (off : Aligned p q v → ⊥) where
    within_no_span : (t : (ℤ × ℤ × ℤ) × (ℤ × ℤ × ℤ)) → ((w : ℤ × ℤ × ℤ) → IsIn w points → PlaneLe (point w) (span t)) → ⊥
    within_no_span t a = off (aligned_in_hull t.0 t.1 p q v (a p ends.least.one).2 (a q ends.greatest.one).2 (a v v_in).2)

    only : (m : ℤ × ℤ × ℤ × ℤ) → IsPlane m → ((w : ℤ × ℤ × ℤ) → IsIn w points → PlaneLe (point w) (plane m)) → plane_through p q v ≡ m
    only m f a =
        let t = through_is p q v off in
        unique (plane_through p q v) m p q v t.normal f.normal off t.first t.second t.third (a p ends.least.one).0 (a q ends.greatest.one).0 (a v v_in).0

    in_plane_least : (j : Known Flat) → IfFact IsPlaneFact j → ((w : ℤ × ℤ × ℤ) → IsIn w points → Below PlaneLe (fact (point w)) j) → Below PlaneLe (fact (plane (plane_through p q v))) j
    in_plane_least nothing f a = a p ends.least.one
    in_plane_least broken f a = tt
    in_plane_least (fact (span t)) f a = within_no_span t a
    in_plane_least (fact (plane m)) f a = only m f a

    in_plane : ((w : ℤ × ℤ × ℤ) → IsIn w points → is_in_plane (plane_through p q v) w ≡ true) → Knows points (fact (plane (plane_through p q v)))
    in_plane on =
        let t = through_is p q v off in
        let n = plane_through p q v in
        record {
          fit = t.fit (all p ends.least.one) (all q ends.greatest.one) (all v v_in);
          holds = λ w i. let o = (decides_on n w).0 (on w i) in (o, o);
          least = in_plane_least;
        }

    no_plane : ((w : ℤ × ℤ × ℤ) × IsIn w points × (is_in_plane (plane_through p q v) w ≡ false)) → Knows points broken
    no_plane one = record { fit = tt; holds = λ w i. tt; least = least }
      where
        least : (j : Known Flat) → IfFact IsPlaneFact j → ((w : ℤ × ℤ × ℤ) → IsIn w points → Below PlaneLe (fact (point w)) j) → Below PlaneLe broken j
        least nothing f a = a p ends.least.one
        least broken f a = tt
        least (fact (span t)) f a = within_no_span t a
        least (fact (plane m)) f a =
            let n = plane_through p q v in
            not_from_Decides (is_in_plane n one.0) (decides_on n one.0) one.2 (subst (λ l. On l one.0) (sym (only m f a)) (a one.0 one.1).0)

    plane_of_all_is : Knows points (plane_of_all (plane_through p q v) points)
    plane_of_all_is =
        let n = plane_through p q v in
        elim (all_or_one (is_in_plane n) points) as (λ _. Knows points (plane_of_all n points)) [
          | inl h ↦ subst (Knows points) (sym (ap (λ b. if b then fact (plane n) else broken) h.0)) (in_plane h.1)
          | inr h ↦ subst (Knows points) (sym (ap (λ b. if b then fact (plane n) else broken) h.0)) (no_plane h.1)
        ]

  flat_between_is : Knows points (plane_between p q points)
  flat_between_is =
      let v = first_off p q points in
      let rest = plane_of_all (plane_through p q v) points in
      elim (choice (are_aligned p q v) (decides_aligned p q v) (fact (span (p, q))) rest) as (λ _. Knows points (plane_between p q points)) [
        | inl h ↦ subst (Knows points) (sym h.1) (elim (off_cases p q points) as (λ _. Knows points (fact (span (p, q)))) [ inl k ↦ on_one_line k.1 | inr k ↦ absurd (k.0 h.0) ])
        | inr h ↦ subst (Knows points) (sym h.1) (elim (off_cases p q points) as (λ _. Knows points rest) [ inl k ↦ absurd (h.0 k.0) | inr k ↦ plane_of_all_is v k.1 k.0 ])
      ]

plane_from_is : (p : ℤ × ℤ × ℤ) (ps : List (ℤ × ℤ × ℤ)) → ((v : ℤ × ℤ × ℤ) → IsIn v (p ∷ ps) → IsPoint v) → Knows (p ∷ ps) (plane_from p ps)
unfolding plane_from
plane_from_is p ps all = flat_between_is (p ∷ ps) (fold lesser p ps) (fold greater p ps) (record { least = least_is p ps; greatest = greatest_is p ps }) all

-- ---- the join
abbrev IsJoin : Flat → Flat → Known Flat → Type 0
IsJoin = IsJoinOf IsPlaneFact PlaneLe

join_spans : (s t : (ℤ × ℤ × ℤ) × (ℤ × ℤ × ℤ)) → IsSpan s → IsSpan t → IsJoin (span s) (span t) (plane_meet (span s) (span t))
join_spans s t f g =
    let k = plane_from_is s.0 (s.1 ∷ t.0 ∷ t.1 ∷ []) (λ v i. each IsPoint v f.first f.last g.first g.last i) in
    let known = plane_from s.0 (s.1 ∷ t.0 ∷ t.1 ∷ []) in
    record {
      fit = k.fit;
      first = span_below s.0 s.1 known (k.holds s.0 (inl refl)) (k.holds s.1 (inr (inl refl)));
      second = span_below t.0 t.1 known (k.holds t.0 (inr (inr (inl refl)))) (k.holds t.1 (inr (inr (inr (inl refl)))));
      least = λ z fz a b. k.least (fact z) fz (λ v i. each (λ w. PlaneLe (point w) z) v (first_below s z f a) (last_below s z f a) (first_below t z g b) (last_below t z g b) i);
    }
  where
    each : (P : ℤ × ℤ × ℤ → Type 0) (v : ℤ × ℤ × ℤ) → P s.0 → P s.1 → P t.0 → P t.1 → IsIn v (s.0 ∷ s.1 ∷ t.0 ∷ t.1 ∷ []) → P v
    each P v a b c d i = elim i as (λ _. P v) [
      | inl e ↦ subst P (sym e) a
      | inr i1 ↦ elim i1 as (λ _. P v) [
        | inl e ↦ subst P (sym e) b
        | inr i2 ↦ elim i2 as (λ _. P v) [
          | inl e ↦ subst P (sym e) c
          | inr i3 ↦ elim i3 as (λ _. P v) [ inl e ↦ subst P (sym e) d | inr z ↦ absurd z ]
        ]
      ]
    ]

join_span_plane : (s : (ℤ × ℤ × ℤ) × (ℤ × ℤ × ℤ)) (n : ℤ × ℤ × ℤ × ℤ) → IsSpan s → IsPlane n → IsJoin (span s) (plane n) (plane_meet (span s) (plane n))
join_span_plane s n f g =
    let both_in = Decides-and (is_in_plane n s.0) (is_in_plane n s.1) (decides_on n s.0) (decides_on n s.1) in
    elim (choice (is_in_plane n s.0 && is_in_plane n s.1) both_in (fact (plane n)) broken) as (λ _. IsJoin (span s) (plane n) (plane_meet (span s) (plane n))) [
      | inl h ↦ subst (IsJoin (span s) (plane n)) (sym h.1) (record { fit = g; first = h.0; second = refl; least = λ z fz a b. b })
      | inr h ↦ subst (IsJoin (span s) (plane n)) (sym h.1) (record { fit = tt; first = tt; second = tt; least = least h.0 })
    ]
  where
    least : (On n s.0 × On n s.1 → ⊥) → (z : Flat) → IsPlaneFact z → PlaneLe (span s) z → PlaneLe (plane n) z → Below PlaneLe broken (fact z)
    least off (span t) fz a b = absurd b
    least off (plane m) fz a b = absurd (off (subst (λ l. On l s.0) (sym b) a.0, subst (λ l. On l s.1) (sym b) a.1))

decides_plane : (n m : ℤ × ℤ × ℤ × ℤ) → Decides (same_plane n m) ((n.0 ≡ m.0) × ((n.1 ≡ m.1) × ((n.2 ≡ m.2) × (n.3 ≡ m.3))))
decides_plane n m =
    Decides-and (int_eq n.0 m.0) (int_eq n.1 m.1 && (int_eq n.2 m.2 && int_eq n.3 m.3)) (Decides-int_eq n.0 m.0)
    (Decides-and (int_eq n.1 m.1) (int_eq n.2 m.2 && int_eq n.3 m.3) (Decides-int_eq n.1 m.1)
    (Decides-and (int_eq n.2 m.2) (int_eq n.3 m.3) (Decides-int_eq n.2 m.2) (Decides-int_eq n.3 m.3)))

join_planes : (n m : ℤ × ℤ × ℤ × ℤ) → IsPlane n → IsPlane m → IsJoin (plane n) (plane m) (plane_meet (plane n) (plane m))
join_planes n m f g =
    elim (choice (same_plane n m) (decides_plane n m) (fact (plane n)) broken) as (λ _. IsJoin (plane n) (plane m) (plane_meet (plane n) (plane m))) [
      | inl h ↦ let e = h.0 in subst (IsJoin (plane n) (plane m)) (sym h.1)
          (record { fit = f; first = refl; second = sym (same_four n m e.0 e.1.0 e.1.1.0 e.1.1.1); least = λ z fz a b. a })
      | inr h ↦ subst (IsJoin (plane n) (plane m)) (sym h.1) (record { fit = tt; first = tt; second = tt; least = least h.0 })
    ]
  where
    least : ((n.0 ≡ m.0) × ((n.1 ≡ m.1) × ((n.2 ≡ m.2) × (n.3 ≡ m.3))) → ⊥) → (z : Flat) → IsPlaneFact z → PlaneLe (plane n) z → PlaneLe (plane m) z → Below PlaneLe broken (fact z)
    least differ (span t) fz a b = absurd a
    least differ (plane l) fz a b = let e = a ∙ sym b in absurd (differ (ap (λ t. t.0) e, (ap (λ t. t.1) e, (ap (λ t. t.2) e, ap (λ t. t.3) e))))

flat_joins : (x y : Flat) → IsPlaneFact x → IsPlaneFact y → IsJoin x y (plane_meet x y)
flat_joins (span s) (span t) f g = join_spans s t f g
flat_joins (span s) (plane n) f g = join_span_plane s n f g
flat_joins (plane n) (span s) f g = turned (join_span_plane s n g f)
flat_joins (plane n) (plane m) f g = join_planes n m f g

pub plane_hull : IsHull IsPlaneFact PlaneLe plane_meet
plane_hull = record { same = flat_same; antisymmetric = flat_antisymmetric; transitive = flat_transitive; joins = flat_joins }

-- ---- the state of a list
Decides-nat_le : (a b : ℕ) → Decides (nat_le a b) (a ≤ b)
Decides-nat_le a b = ((λ h. grind arith), (λ h. grind arith))

decides_limit : (p : ℤ × ℤ × ℤ) → Decides (in_space p) ((unsigned_abs p.0 ≤ 2 ^ 30) × ((unsigned_abs p.1 ≤ 2 ^ 30) × (unsigned_abs p.2 ≤ 2 ^ 30)))
decides_limit p =
    let x = nat_le (unsigned_abs p.0) (2 ^ 30) in let y = nat_le (unsigned_abs p.1) (2 ^ 30) in let z = nat_le (unsigned_abs p.2) (2 ^ 30) in
    Decides-and x (y && z) (Decides-nat_le (unsigned_abs p.0) (2 ^ 30)) (Decides-and y z (Decides-nat_le (unsigned_abs p.1) (2 ^ 30)) (Decides-nat_le (unsigned_abs p.2) (2 ^ 30)))

pub point_of_limit : (p : ℤ × ℤ × ℤ) → in_space p ≡ true → IsPoint p
point_of_limit p e = let h = (decides_limit p).0 e in record { x = h.0; y = h.1.0; z = h.1.1 }

pub limit_of_point : (p : ℤ × ℤ × ℤ) → IsPoint p → in_space p ≡ true
limit_of_point p h = (decides_limit p).1 (h.x, (h.y, h.z))

pub plane_known_of_is : IsHullOf IsPlaneFact PlaneLe (limited_one in_space point) plane_known_of
plane_known_of_is =
    limited_hull in_space point plane_from
    (λ v e. let p = point_of_limit v e in record { first = p; last = p; ordered = before_same v })
    (λ v vs all. plane_from_is v vs (λ w i. point_of_limit w (all w i)))

-- one point
pub plane_one : (p : ℤ × ℤ × ℤ) → plane_from p [] ≡ fact (span (p, p))
unfolding plane_from
plane_one p =
    let v = first_off p p (p ∷ []) in
    let rest = plane_of_all (plane_through p p v) (p ∷ []) in
    let aligned = zero_parallel (minus p p) (minus v p) (omega (arith, ints)) (omega (arith, ints)) (omega (arith, ints)) in
    elim (choice (are_aligned p p v) (decides_aligned p p v) (fact (span (p, p))) rest) as (λ _. plane_from p [] ≡ fact (span (p, p))) [
      | inl h ↦ h.1
      | inr h ↦ absurd (h.0 aligned)
    ]

pub plane_of_point : (p : ℤ × ℤ × ℤ) → plane_known_of (p ∷ []) ≡ limited_one in_space point p
plane_of_point p =
    elim (in_space p) as (λ b. (if (b && true) then plane_from p [] else broken) ≡ (if b then fact (span (p, p)) else broken)) [ true ↦ plane_one p | false ↦ refl ]
