-- A span or a plane with two neighbouring coordinates exchanged.
use Rattle.std.specs.Prelude.{◌≡◌, ◌<◌, ◌≤◌, ◌-◌, ◌*◌, ◌^◌, ℕ, zero, suc, ℤ, pos, negsuc, neg_ℤ, ◌+ℤ◌, ◌-ℤ◌, ◌*ℤ◌, ◌<ℤ◌, ◌≤ℤ◌, ◌⊎◌, unsigned_abs, int_lt, true, false, ◌&&◌, nat_le, if◌then◌else◌, List, map, refl}
use Rattle.std.proofs.Common.{sym, ap, ◌∙◌, subst, arith, inl, inr}
use Rattle.std.proofs.lemmas.Bool.Decides.{Decides-int_eq, Decides-like, same_from_decides}
use Rattle.std.proofs.lemmas.Int.{ints, by_lt_z}
use Rattle.std.specs.Bool.{Decides}
use Rattle.std.specs.Ordering.{int_eq}
use Prim.Native.Nat.{◌∣◌}
use Rattle.std.proofs.lemmas.Nat.Gcd.{dvd_trans}
use Rattle.std.proofs.Math.IntN.{*ℤ_comm, pos-*ℤ-pos, pos-*ℤ-negsuc}
use Rattle.dk_arith.proofs.Choice.{choice}
use Rattle.dk_arith.proofs.GcdLaws.{gcd-both, gcd-left, gcd-right, gcd-swap, same_divisors}
use Rattle.dk_arith.proofs.LowestTerms.{if_zero}
use Rattle.dk_arith.proofs.Ring.{mul_sub, rep, rep-add, rep-mul, rep-neg, rep-sub, same_rep}
use Rattle.dk_arith.proofs.TwoPoints.{no_factor, positive_product}
use Rattle.dk_arith.specs.Directions.{IsNormal3, gcd_of_three, leading}
use Rattle.dk_arith.specs.Gcd.{gcd}
use Rattle.dk_arith.specs.Vectors.{dot, minus}
use Rattle.dk_forms.proofs.Limits.{limited_one}
use Rattle.dk_forms.proofs.Moves.{lift, moved_state}
use Rattle.dk_forms.proofs.PlaneFacts.{InHull, IsPlaneFact, On, PlaneLe, plane_hull, plane_known_of_is}
use Rattle.dk_forms.proofs.PointOrder.{before_antisymmetric, before_transitive, lesser_or}
use Rattle.dk_forms.specs.Known.{broken, fact}
use Rattle.dk_forms.specs.Plane.{Before, Flat, IsPlane, IsPoint, IsSpan, greater, in_space, is_before, lesser, plane, plane_known_of, span}
use Rattle.dk_template.specs.Exchange.{moved_flat, moved_plane, signed_plane, swapped}
use Rattle.dk_template.specs.declared.exchange.Exchange.{Exchange}
use Rattle.dk_template.specs.declared.exchange.Exchange.TheVariants.{First, Last}

-- ---- the order of points by their difference
Ahead : ℤ × ℤ × ℤ → Type 0
Ahead u = (pos 0 <ℤ u.0) ⊎ ((u.0 ≡ pos 0) × ((pos 0 <ℤ u.1) ⊎ ((u.1 ≡ pos 0) × (pos 0 ≤ℤ u.2))))

ahead : (p q : ℤ × ℤ × ℤ) → Before p q → Ahead (minus q p)
unfolding Ahead
ahead p q h =
    elim h as (λ _. Ahead (minus q p)) [
      | inl a ↦ inl (omega (arith, ints))
      | inr a ↦ let a0 = a.0 in inr (
        omega (arith, ints),
        elim a.1 as (λ _. (pos 0 <ℤ (q.1 -ℤ p.1)) ⊎ ((q.1 -ℤ p.1 ≡ pos 0) × (pos 0 ≤ℤ (q.2 -ℤ p.2)))) [
          | inl b ↦ inl (omega (arith, ints))
          | inr b ↦ let b0 = b.0 in let b1 = b.1 in inr (omega (arith, ints), omega (arith, ints))
        ],
      )
    ]

before : (p q : ℤ × ℤ × ℤ) → Ahead (minus q p) → Before p q
unfolding Ahead
before p q h =
    elim h as (λ _. Before p q) [
      | inl a ↦ inl (omega (arith, ints))
      | inr a ↦ let a0 = a.0 in inr (
        omega (arith, ints),
        elim a.1 as (λ _. (p.1 <ℤ q.1) ⊎ ((p.1 ≡ q.1) × (p.2 ≤ℤ q.2))) [
          | inl b ↦ inl (omega (arith, ints))
          | inr b ↦ let b0 = b.0 in let b1 = b.1 in inr (omega (arith, ints), omega (arith, ints))
        ],
      )
    ]

-- ---- one difference as a part of another
-- m times the second is k times the first
record IsPart (m k : ℕ) (u w : ℤ × ℤ × ℤ) : Type 0 where
  x : pos m *ℤ w.0 ≡ pos k *ℤ u.0
  y : pos m *ℤ w.1 ≡ pos k *ℤ u.1
  z : pos m *ℤ w.2 ≡ pos k *ℤ u.2

none : (m : ℕ) (x y : ℤ) → 0 < m → x ≡ pos 0 → (k : ℕ) → pos m *ℤ y ≡ pos k *ℤ x → y ≡ pos 0
none m x y some e k h =
    no_factor y (pos m) (λ z. absurd (omega (arith, ints))) (*ℤ_comm y (pos m) ∙ h ∙ ap (λ t. pos k *ℤ t) e ∙ omega (arith, ints))

no_part : (m : ℕ) (x y : ℤ) → 0 < m → pos m *ℤ y ≡ pos 0 *ℤ x → y ≡ pos 0
no_part m x y some h = no_factor y (pos m) (λ z. absurd (omega (arith, ints))) (*ℤ_comm y (pos m) ∙ h ∙ omega (arith, ints))

positive : (m k : ℕ) (x y : ℤ) → 0 < k → pos 0 <ℤ x → pos m *ℤ y ≡ pos k *ℤ x → pos 0 <ℤ y
positive m k (negsuc a) y some p h = absurd (omega (arith, ints))
positive m k (pos a) (pos zero) some p h =
    let q = positive_product k a some (omega (arith, ints)) in
    let e : pos (m * 0) ≡ pos (k * a) = sym (pos-*ℤ-pos m 0) ∙ h ∙ pos-*ℤ-pos k a in
    absurd (omega (arith, ints))
positive m k (pos a) (pos (suc b)) some p h = omega (arith, ints)
positive m k (pos a) (negsuc b) some p h =
    let q = positive_product k a some (omega (arith, ints)) in
    let e : neg_ℤ (pos (m * suc b)) ≡ pos (k * a) = sym (pos-*ℤ-negsuc m b) ∙ h ∙ pos-*ℤ-pos k a in
    absurd (omega (arith, ints))

not_negative : (m k : ℕ) (x y : ℤ) → 0 < m → 0 < k → pos 0 ≤ℤ x → pos m *ℤ y ≡ pos k *ℤ x → pos 0 ≤ℤ y
not_negative m k x y some more p h =
    by_lt_z (pos 0) x (λ l. let q = positive m k x y more l h in omega (arith, ints)) (λ l. let e : x ≡ pos 0 = omega (arith, ints) in let q = none m x y some e k h in omega (arith, ints))

-- a part of what is ahead is ahead
part_ahead : (m k : ℕ) (u w : ℤ × ℤ × ℤ) → 0 < m → IsPart m k u w → Ahead u → Ahead w
unfolding Ahead
part_ahead m zero u w some part h =
    let l = no_part m u.2 w.2 some part.z in
    inr (no_part m u.0 w.0 some part.x, inr (no_part m u.1 w.1 some part.y, omega (arith, ints)))
part_ahead m (suc k) u w some part h =
    elim h as (λ _. Ahead w) [
      | inl a ↦ inl (positive m (suc k) u.0 w.0 (omega arith) a part.x)
      | inr a ↦ inr (
        none m u.0 w.0 some a.0 (suc k) part.x,
        elim a.1 as (λ _. (pos 0 <ℤ w.1) ⊎ ((w.1 ≡ pos 0) × (pos 0 ≤ℤ w.2))) [
          | inl b ↦ inl (positive m (suc k) u.1 w.1 (omega arith) b part.y)
          | inr b ↦ inr (none m u.1 w.1 some b.0 (suc k) part.y, not_negative m (suc k) u.2 w.2 some (omega arith) b.1 part.z)
        ],
      )
    ]

-- ---- the place of a point between two others on their line
record Place (p q v : ℤ × ℤ × ℤ) : Type 0 where
  m : ℕ
  k : ℕ
  some : 0 < m
  most : k ≤ m
  part : IsPart m k (minus q p) (minus v p)

times_less : (m k : ℕ) (y : ℤ) → k ≤ m → pos (m - k) *ℤ y ≡ pos m *ℤ y -ℤ pos k *ℤ y
times_less m k y h =
    let e : pos (m - k) ≡ pos m -ℤ pos k = omega (arith, ints) in
    ap (λ t. t *ℤ y) e ∙ same_rep (rep-mul (rep-sub (rep (pos m)) (rep (pos k))) (rep y)) (rep-sub (rep-mul (rep (pos m)) (rep y)) (rep-mul (rep (pos k)) (rep y))) (omega arith)

-- the same from either end, to either end
rest : (m k : ℕ) (x y z : ℤ) → k ≤ m → pos m *ℤ (z -ℤ x) ≡ pos k *ℤ (y -ℤ x)
    → (pos m *ℤ (y -ℤ z) ≡ pos (m - k) *ℤ (y -ℤ x)) × (pos m *ℤ (z -ℤ y) ≡ pos (m - k) *ℤ (x -ℤ y)) × (pos m *ℤ (x -ℤ z) ≡ pos k *ℤ (x -ℤ y))
rest m k x y z le h =
    let h1 = mul_sub (pos m) z x in
    let h2 = mul_sub (pos k) y x in
    let a1 = mul_sub (pos m) y z in
    let a2 = mul_sub (pos (m - k)) y x in
    let b1 = mul_sub (pos m) z y in
    let b2 = mul_sub (pos (m - k)) x y in
    let c1 = mul_sub (pos m) x z in
    let c2 = mul_sub (pos k) x y in
    let lx = times_less m k x le in
    let ly = times_less m k y le in
    (omega (arith, ints), omega (arith, ints), omega (arith, ints))

-- the moved point lies between the moved ends
part_moved : (e : Exchange) (m k : ℕ) (u w : ℤ × ℤ × ℤ) → IsPart m k u w → IsPart m k (swapped e u) (swapped e w)
part_moved First m k u w h = record { x = h.y; y = h.x; z = h.z }
part_moved Last m k u w h = record { x = h.x; y = h.z; z = h.y }

minus_moved : (e : Exchange) (p q : ℤ × ℤ × ℤ) → minus (swapped e q) (swapped e p) ≡ swapped e (minus q p)
minus_moved First p q = refl
minus_moved Last p q = refl

before_moved : (e : Exchange) (m k : ℕ) (a b c d : ℤ × ℤ × ℤ) → 0 < m → IsPart m k (minus b a) (minus d c) → Before (swapped e a) (swapped e b) → Before (swapped e c) (swapped e d)
before_moved e m k a b c d some part h =
    before (swapped e c) (swapped e d) (subst Ahead (sym (minus_moved e c d))
    (part_ahead m k (swapped e (minus b a)) (swapped e (minus d c)) some (part_moved e m k (minus b a) (minus d c) part)
    (subst Ahead (minus_moved e a b) (ahead (swapped e a) (swapped e b) h))))

between_moved : (e : Exchange) (p q v : ℤ × ℤ × ℤ) → Place p q v
    → Before (lesser (swapped e p) (swapped e q)) (swapped e v) × Before (swapped e v) (greater (swapped e p) (swapped e q))
between_moved e p q v place =
    let m = place.m in
    let k = place.k in
    let x = rest m k p.0 q.0 v.0 place.most place.part.x in
    let y = rest m k p.1 q.1 v.1 place.most place.part.y in
    let z = rest m k p.2 q.2 v.2 place.most place.part.z in
    elim (lesser_or (swapped e p) (swapped e q)) as (λ _. Before (lesser (swapped e p) (swapped e q)) (swapped e v) × Before (swapped e v) (greater (swapped e p) (swapped e q))) [
      | inl h ↦ (
        subst (λ t. Before t (swapped e v)) (sym h.1) (before_moved e m k p q p v place.some place.part h.0),
        subst (Before (swapped e v)) (sym h.2) (before_moved e m (m - k) p q v q place.some (record { x = x.0; y = y.0; z = z.0 }) h.0),
      )
      | inr h ↦ (
        subst (λ t. Before t (swapped e v)) (sym h.1) (before_moved e m (m - k) q p q v place.some (record { x = x.1; y = y.1; z = z.1 }) h.0),
        subst (Before (swapped e v)) (sym h.2) (before_moved e m k q p v p place.some (record { x = x.2; y = y.2; z = z.2 }) h.0),
      )
    ]

-- ---- a point of a hull has its place
dot_minus : (n p q : ℤ × ℤ × ℤ) → dot n (minus q p) ≡ dot n q -ℤ dot n p
dot_minus n p q =
    same_rep (rep-add (rep-add (rep-mul (rep n.0) (rep-sub (rep q.0) (rep p.0))) (rep-mul (rep n.1) (rep-sub (rep q.1) (rep p.1)))) (rep-mul (rep n.2) (rep-sub (rep q.2) (rep p.2))))
    (rep-sub (rep-add (rep-add (rep-mul (rep n.0) (rep q.0)) (rep-mul (rep n.1) (rep q.1))) (rep-mul (rep n.2) (rep q.2)))
    (rep-add (rep-add (rep-mul (rep n.0) (rep p.0)) (rep-mul (rep n.1) (rep p.1))) (rep-mul (rep n.2) (rep p.2)))) (omega arith)

-- what stands across two points stands across each point of their hull
hull_across : (p q v k : ℤ × ℤ × ℤ) → InHull p q v → dot k (minus q p) ≡ pos 0 → dot k (minus v p) ≡ pos 0
hull_across p q v k h e =
    let n : ℤ × ℤ × ℤ × ℤ = (k.0, k.1, k.2, neg_ℤ (dot k p)) in
    let at_p : On n p = omega (arith, ints) in
    let q_is = dot_minus k p q in
    let at_q : On n q = omega (arith, ints) in
    let at_v : On n v = h n at_p at_q in
    let v_is = dot_minus k p v in
    omega (arith, ints)

twisted : (a b c : ℤ) → b *ℤ a +ℤ neg_ℤ a *ℤ b +ℤ pos 0 *ℤ c ≡ pos 0
twisted a b c = same_rep (rep-add (rep-add (rep-mul (rep b) (rep a)) (rep-mul (rep-neg (rep a)) (rep b))) (rep-mul (rep (pos 0)) (rep c))) (rep (pos 0)) (omega arith)

untwisted : (a b x y z : ℤ) → b *ℤ x +ℤ neg_ℤ a *ℤ y +ℤ pos 0 *ℤ z ≡ pos 0 → a *ℤ y ≡ b *ℤ x
untwisted a b x y z e =
    let r : b *ℤ x +ℤ neg_ℤ a *ℤ y +ℤ pos 0 *ℤ z ≡ b *ℤ x -ℤ a *ℤ y =
    same_rep (rep-add (rep-add (rep-mul (rep b) (rep x)) (rep-mul (rep-neg (rep a)) (rep y))) (rep-mul (rep (pos 0)) (rep z))) (rep-sub (rep-mul (rep b) (rep x)) (rep-mul (rep a) (rep y))) (omega arith) in
    omega (arith, ints)

hull_xy : (p q v : ℤ × ℤ × ℤ) → InHull p q v → (minus q p).0 *ℤ (minus v p).1 ≡ (minus q p).1 *ℤ (minus v p).0
hull_xy p q v h =
    let u = minus q p in
    let w = minus v p in
    let t = twisted u.0 u.1 u.2 in
    let e = hull_across p q v (u.1, neg_ℤ u.0, pos 0) h t in
    untwisted u.0 u.1 w.0 w.1 w.2 e

hull_xz : (p q v : ℤ × ℤ × ℤ) → InHull p q v → (minus q p).0 *ℤ (minus v p).2 ≡ (minus q p).2 *ℤ (minus v p).0
hull_xz p q v h =
    let u = minus q p in
    let w = minus v p in
    let t = twisted u.0 u.2 u.1 in
    let e = hull_across p q v (u.2, pos 0, neg_ℤ u.0) h (omega (arith, ints)) in
    untwisted u.0 u.2 w.0 w.2 w.1 (omega (arith, ints))

hull_yz : (p q v : ℤ × ℤ × ℤ) → InHull p q v → (minus q p).1 *ℤ (minus v p).2 ≡ (minus q p).2 *ℤ (minus v p).1
hull_yz p q v h =
    let u = minus q p in
    let w = minus v p in
    let t = twisted u.1 u.2 u.0 in
    let e = hull_across p q v (pos 0, u.2, neg_ℤ u.1) h (omega (arith, ints)) in
    untwisted u.1 u.2 w.1 w.2 w.0 (omega (arith, ints))

-- by one coordinate in which the ends differ
place_by : (p q v : ℤ × ℤ × ℤ) (a b : ℤ) → pos 0 <ℤ a → pos 0 ≤ℤ b → b ≤ℤ a
    → a *ℤ (minus v p).0 ≡ b *ℤ (minus q p).0 → a *ℤ (minus v p).1 ≡ b *ℤ (minus q p).1 → a *ℤ (minus v p).2 ≡ b *ℤ (minus q p).2 → Place p q v
place_by p q v a b some low high x y z =
    let ea : pos (unsigned_abs a) ≡ a = omega (arith, ints) in
    let eb : pos (unsigned_abs b) ≡ b = omega (arith, ints) in
    record {
      m = unsigned_abs a;
      k = unsigned_abs b;
      some = omega (arith, ints);
      most = omega (arith, ints);
      part = record {
        x = ap (λ t. t *ℤ (minus v p).0) ea ∙ x ∙ ap (λ t. t *ℤ (minus q p).0) (sym eb);
        y = ap (λ t. t *ℤ (minus v p).1) ea ∙ y ∙ ap (λ t. t *ℤ (minus q p).1) (sym eb);
        z = ap (λ t. t *ℤ (minus v p).2) ea ∙ z ∙ ap (λ t. t *ℤ (minus q p).2) (sym eb);
      };
    }

-- what is across a coordinate of 0 is 0
vanishes : (a b x y : ℤ) → (a ≡ pos 0 → ⊥) → b ≡ pos 0 → b *ℤ y ≡ a *ℤ x → x ≡ pos 0
vanishes a b x y some e h = no_factor x a some (*ℤ_comm x a ∙ sym h ∙ ap (λ t. t *ℤ y) e ∙ omega (arith, ints))

first_low : (u : ℤ × ℤ × ℤ) → Ahead u → pos 0 ≤ℤ u.0
unfolding Ahead
first_low u h = elim h as (λ _. pos 0 ≤ℤ u.0) [ inl a ↦ omega (arith, ints) | inr a ↦ let a0 = a.0 in omega (arith, ints) ]

second_low : (u : ℤ × ℤ × ℤ) → u.0 ≡ pos 0 → Ahead u → pos 0 ≤ℤ u.1
unfolding Ahead
second_low u e h =
    elim h as (λ _. pos 0 ≤ℤ u.1) [
      | inl a ↦ absurd (omega (arith, ints))
      | inr a ↦ elim a.1 as (λ _. pos 0 ≤ℤ u.1) [ inl b ↦ omega (arith, ints) | inr b ↦ let b0 = b.0 in omega (arith, ints) ]
    ]

third_low : (u : ℤ × ℤ × ℤ) → u.0 ≡ pos 0 → u.1 ≡ pos 0 → Ahead u → pos 0 ≤ℤ u.2
unfolding Ahead
third_low u e f h =
    elim h as (λ _. pos 0 ≤ℤ u.2) [
      | inl a ↦ absurd (omega (arith, ints))
      | inr a ↦ elim a.1 as (λ _. pos 0 ≤ℤ u.2) [ inl b ↦ absurd (omega (arith, ints)) | inr b ↦ b.1 ]
    ]

place_in_hull : (p q v : ℤ × ℤ × ℤ) → InHull p q v → Before p v → Before v q → Place p q v
place_in_hull p q v h pv vq =
    let u = minus q p in
    let w = minus v p in
    let r = minus q v in
    let xy = hull_xy p q v h in
    let xz = hull_xz p q v h in
    let yz = hull_yz p q v h in
    let aw = ahead p v pv in
    let ar = ahead v q vq in
    let w0 = first_low w aw in
    let r0 = first_low r ar in
    by_lt_z (pos 0) u.0
    (λ a. place_by p q v u.0 w.0 a w0 (omega (arith, ints)) (*ℤ_comm u.0 w.0) (xy ∙ *ℤ_comm u.1 w.0) (xz ∙ *ℤ_comm u.2 w.0))
    (λ a.
    let u0 : u.0 ≡ pos 0 = omega (arith, ints) in
    let z0 : w.0 ≡ pos 0 = omega (arith, ints) in
    let y0 : r.0 ≡ pos 0 = omega (arith, ints) in
    let w1 = second_low w z0 aw in
    let r1 = second_low r y0 ar in
    by_lt_z (pos 0) u.1
    (λ b. place_by p q v u.1 w.1 b w1 (omega (arith, ints)) (ap (λ t. u.1 *ℤ t) z0 ∙ omega (arith, ints) ∙ ap (λ t. w.1 *ℤ t) (sym u0)) (*ℤ_comm u.1 w.1) (yz ∙ *ℤ_comm u.2 w.1))
    (λ b.
    let u1 : u.1 ≡ pos 0 = omega (arith, ints) in
    let z1 : w.1 ≡ pos 0 = omega (arith, ints) in
    let y1 : r.1 ≡ pos 0 = omega (arith, ints) in
    let w2 = third_low w z0 z1 aw in
    let r2 = third_low r y0 y1 ar in
    by_lt_z (pos 0) u.2
    (λ c. place_by p q v u.2 w.2 c w2 (omega (arith, ints)) (ap (λ t. u.2 *ℤ t) z0 ∙ omega (arith, ints) ∙ ap (λ t. w.2 *ℤ t) (sym u0)) (ap (λ t. u.2 *ℤ t) z1 ∙ omega (arith, ints) ∙ ap (λ t. w.2 *ℤ t) (sym u1)) (*ℤ_comm u.2 w.2))
    (λ c.
    let z2 : w.2 ≡ pos 0 = omega (arith, ints) in
    place_by p q v (pos 1) (pos 0) (omega (arith, ints)) (omega (arith, ints)) (omega (arith, ints)) (omega (arith, ints)) (omega (arith, ints)) (omega (arith, ints)))))

-- ---- planes moved
adjoint : (e : Exchange) (n p : ℤ × ℤ × ℤ) → dot (swapped e n) p ≡ dot n (swapped e p)
adjoint First n p = omega (arith, ints)
adjoint Last n p = omega (arith, ints)

swapped_again : (e : Exchange) (p : ℤ × ℤ × ℤ) → swapped e (swapped e p) ≡ p
swapped_again First p = refl
swapped_again Last p = refl

on_back : (e : Exchange) (n : ℤ × ℤ × ℤ × ℤ) (p : ℤ × ℤ × ℤ) → On n (swapped e p) → On (moved_plane (swapped e) n) p
on_back e n p h = adjoint e (n.0, n.1, n.2) p ∙ h

on_forth : (e : Exchange) (n : ℤ × ℤ × ℤ × ℤ) (p : ℤ × ℤ × ℤ) → On (moved_plane (swapped e) n) p → On n (swapped e p)
on_forth e n p h = sym (adjoint e (n.0, n.1, n.2) p) ∙ h

on_moved : (e : Exchange) (n : ℤ × ℤ × ℤ × ℤ) (p : ℤ × ℤ × ℤ) → On n p → On (moved_plane (swapped e) n) (swapped e p)
on_moved e n p h = on_back e n (swapped e p) (subst (On n) (sym (swapped_again e p)) h)

hull_moved : (e : Exchange) (p q v : ℤ × ℤ × ℤ) → InHull p q v → InHull (swapped e p) (swapped e q) (swapped e v)
hull_moved e p q v h = λ n a b. on_forth e n v (h (moved_plane (swapped e) n) (on_back e n p a) (on_back e n q b))

-- what holds of two points holds of the lesser and of the greater
picked : (P : ℤ × ℤ × ℤ → Type 0) (p q : ℤ × ℤ × ℤ) → P p → P q → P (lesser p q) × P (greater p q)
picked P p q a b =
    elim (lesser_or p q) as (λ _. P (lesser p q) × P (greater p q)) [
      | inl h ↦ (subst P (sym h.1) a, subst P (sym h.2) b)
      | inr h ↦ (subst P (sym h.1) b, subst P (sym h.2) a)
    ]

hull_picked : (p q v : ℤ × ℤ × ℤ) → InHull p q v → InHull (lesser p q) (greater p q) v
hull_picked p q v i =
    elim (lesser_or p q) as (λ _. InHull (lesser p q) (greater p q) v) [
      | inl h ↦ λ n a b. i n (subst (On n) h.1 a) (subst (On n) h.2 b)
      | inr h ↦ λ n a b. i n (subst (On n) h.2 b) (subst (On n) h.1 a)
    ]

keeps_spans : (e : Exchange) (s t : (ℤ × ℤ × ℤ) × (ℤ × ℤ × ℤ)) → IsSpan s → PlaneLe (span s) (span t) → PlaneLe (moved_flat (swapped e) (span s)) (moved_flat (swapped e) (span t))
keeps_spans e s t f h =
    let a = swapped e t.0 in
    let b = swapped e t.1 in
    let c = swapped e s.0 in
    let d = swapped e s.1 in
    let first = between_moved e t.0 t.1 s.0 (place_in_hull t.0 t.1 s.0 h.2 h.0 (before_transitive s.0 s.1 t.1 f.ordered h.1)) in
    let last = between_moved e t.0 t.1 s.1 (place_in_hull t.0 t.1 s.1 h.3 (before_transitive t.0 s.0 s.1 h.0 f.ordered) h.1) in
    let hulls = picked (InHull (lesser a b) (greater a b)) c d (hull_picked a b c (hull_moved e t.0 t.1 s.0 h.2)) (hull_picked a b d (hull_moved e t.0 t.1 s.1 h.3)) in
    ((picked (λ v. Before (lesser a b) v) c d first.0 last.0).0, (picked (λ v. Before v (greater a b)) c d first.1 last.1).1, hulls.0, hulls.1)

-- ---- signs
abbrev negated : ℤ × ℤ × ℤ × ℤ → ℤ × ℤ × ℤ × ℤ
negated n = (neg_ℤ n.0, neg_ℤ n.1, neg_ℤ n.2, neg_ℤ n.3)

pub tells_negative : (x : ℤ) → Decides (int_lt x (pos 0)) (x <ℤ pos 0)
tells_negative x = ((λ h. grind (arith, ints)), (λ h. grind (arith, ints)))

signed_cases : (n : ℤ × ℤ × ℤ × ℤ)
    → ((leading n.0 n.1 n.2 <ℤ pos 0) × (signed_plane n ≡ negated n)) ⊎ ((leading n.0 n.1 n.2 <ℤ pos 0 → ⊥) × (signed_plane n ≡ n))
signed_cases n = choice (int_lt (leading n.0 n.1 n.2) (pos 0)) (tells_negative (leading n.0 n.1 n.2)) (negated n) n

on_negated : (n : ℤ × ℤ × ℤ × ℤ) (p : ℤ × ℤ × ℤ) → On n p → On (negated n) p
on_negated n p h =
    same_rep (rep-add (rep-add (rep-mul (rep-neg (rep n.0)) (rep p.0)) (rep-mul (rep-neg (rep n.1)) (rep p.1))) (rep-mul (rep-neg (rep n.2)) (rep p.2)))
    (rep-neg (rep-add (rep-add (rep-mul (rep n.0) (rep p.0)) (rep-mul (rep n.1) (rep p.1))) (rep-mul (rep n.2) (rep p.2)))) (omega arith) ∙ ap neg_ℤ h

on_signed : (n : ℤ × ℤ × ℤ × ℤ) (p : ℤ × ℤ × ℤ) → On n p → On (signed_plane n) p
on_signed n p h =
    elim (signed_cases n) as (λ _. On (signed_plane n) p) [
      | inl k ↦ subst (λ m. On m p) (sym k.1) (on_negated n p h)
      | inr k ↦ subst (λ m. On m p) (sym k.1) h
    ]

-- the first number that isn't 0, by cases
leading_zero : (a b c : ℤ) → leading a b c ≡ pos 0 → (a ≡ pos 0) × (b ≡ pos 0) × (c ≡ pos 0)
leading_zero a b c e =
    elim (if_zero a (if int_eq b (pos 0) then c else b) a) as (λ _. (a ≡ pos 0) × (b ≡ pos 0) × (c ≡ pos 0)) [
      | inr h ↦ absurd (h.0 (sym h.1 ∙ e))
      | inl h ↦ elim (if_zero b c b) as (λ _. (a ≡ pos 0) × (b ≡ pos 0) × (c ≡ pos 0)) [
        | inr k ↦ absurd (k.0 (sym k.1 ∙ sym h.1 ∙ e))
        | inl k ↦ (h.0, k.0, sym k.1 ∙ sym h.1 ∙ e)
      ]
    ]

sign_of : (a b c : ℤ) → pos 0 <ℤ leading a b c → (pos 0 <ℤ a) ⊎ ((a ≡ pos 0) × ((pos 0 <ℤ b) ⊎ ((b ≡ pos 0) × (pos 0 <ℤ c))))
sign_of a b c p =
    elim (if_zero a (if int_eq b (pos 0) then c else b) a) as (λ _. (pos 0 <ℤ a) ⊎ ((a ≡ pos 0) × ((pos 0 <ℤ b) ⊎ ((b ≡ pos 0) × (pos 0 <ℤ c))))) [
      | inr h ↦ inl (subst (λ t. pos 0 <ℤ t) h.1 p)
      | inl h ↦ inr (
        h.0,
        elim (if_zero b c b) as (λ _. (pos 0 <ℤ b) ⊎ ((b ≡ pos 0) × (pos 0 <ℤ c))) [
          | inr k ↦ inl (subst (λ t. pos 0 <ℤ t) (h.1 ∙ k.1) p)
          | inl k ↦ inr (k.0, subst (λ t. pos 0 <ℤ t) (h.1 ∙ k.1) p)
        ],
      )
    ]

leading_positive : (a b c : ℤ) → (pos 0 <ℤ a) ⊎ ((a ≡ pos 0) × ((pos 0 <ℤ b) ⊎ ((b ≡ pos 0) × (pos 0 <ℤ c)))) → pos 0 <ℤ leading a b c
leading_positive a b c s =
    elim (if_zero a (if int_eq b (pos 0) then c else b) a) as (λ _. pos 0 <ℤ leading a b c) [
      | inr h ↦ subst (λ t. pos 0 <ℤ t) (sym h.1) (elim s as (λ _. pos 0 <ℤ a) [ inl p ↦ p | inr p ↦ absurd (h.0 p.0) ])
      | inl h ↦ let h0 = h.0 in subst (λ t. pos 0 <ℤ t) (sym h.1) (elim s as (λ _. pos 0 <ℤ (if int_eq b (pos 0) then c else b)) [
        | inl p ↦ absurd (omega (arith, ints))
        | inr p ↦ elim (if_zero b c b) as (λ _. pos 0 <ℤ (if int_eq b (pos 0) then c else b)) [
          | inr k ↦ subst (λ t. pos 0 <ℤ t) (sym k.1) (elim p.1 as (λ _. pos 0 <ℤ b) [ inl q ↦ q | inr q ↦ absurd (k.0 q.0) ])
          | inl k ↦ let k0 = k.0 in subst (λ t. pos 0 <ℤ t) (sym k.1) (elim p.1 as (λ _. pos 0 <ℤ c) [ inl q ↦ absurd (omega (arith, ints)) | inr q ↦ q.1 ])
        ]
      ])
    ]

zero_negated : (a : ℤ) → int_eq (neg_ℤ a) (pos 0) ≡ int_eq a (pos 0)
zero_negated a =
    same_from_decides (int_eq (neg_ℤ a) (pos 0)) (int_eq a (pos 0))
    (Decides-like (int_eq (neg_ℤ a) (pos 0)) (λ e. omega (arith, ints)) (λ e. omega (arith, ints)) (Decides-int_eq (neg_ℤ a) (pos 0))) (Decides-int_eq a (pos 0))

leading-negated : (a b c : ℤ) → leading (neg_ℤ a) (neg_ℤ b) (neg_ℤ c) ≡ neg_ℤ (leading a b c)
leading-negated a b c =
    ap (λ t. if t then (if int_eq (neg_ℤ b) (pos 0) then neg_ℤ c else neg_ℤ b) else neg_ℤ a) (zero_negated a)
    ∙ ap (λ t. if int_eq a (pos 0) then (if t then neg_ℤ c else neg_ℤ b) else neg_ℤ a) (zero_negated b)
    ∙ elim (int_eq a (pos 0)) as (λ s. (if s then (if int_eq b (pos 0) then neg_ℤ c else neg_ℤ b) else neg_ℤ a) ≡ neg_ℤ (if s then (if int_eq b (pos 0) then c else b) else a)) [
      | true ↦ elim (int_eq b (pos 0)) as (λ t. (if t then neg_ℤ c else neg_ℤ b) ≡ neg_ℤ (if t then c else b)) [ true ↦ refl | false ↦ refl ]
      | false ↦ refl
    ]

-- ---- lowest terms
gcd_rotated : (a b c : ℕ) → gcd (gcd a b) c ≡ gcd (gcd a c) b
gcd_rotated a b c = same_divisors (gcd (gcd a b) c) (gcd (gcd a c) b) (divides a b c) (divides a c b)
  where
    divides : (a b c d : ℕ) → d ∣ gcd (gcd a b) c → d ∣ gcd (gcd a c) b
    divides a b c d h =
        let ab = dvd_trans d h (gcd-left (gcd a b) c) in
        let dc = dvd_trans d h (gcd-right (gcd a b) c) in
        let da = dvd_trans d ab (gcd-left a b) in
        let db = dvd_trans d ab (gcd-right a b) in
        gcd-both (gcd a c) b d (gcd-both a c d da dc) db

gcd_moved : (e : Exchange) (n : ℤ × ℤ × ℤ) → gcd_of_three (swapped e n).0 (swapped e n).1 (swapped e n).2 ≡ gcd_of_three n.0 n.1 n.2
gcd_moved First n = ap (λ t. gcd t (unsigned_abs n.2)) (gcd-swap (unsigned_abs n.1) (unsigned_abs n.0))
gcd_moved Last n = gcd_rotated (unsigned_abs n.0) (unsigned_abs n.2) (unsigned_abs n.1)

gcd-zeros : gcd (gcd 0 0) 0 ≡ 0
unfolding gcd
gcd-zeros = refl

some_leading : (a b c : ℤ) → gcd_of_three a b c ≡ 1 → leading a b c ≡ pos 0 → ⊥
some_leading a b c one e =
    let z = leading_zero a b c e in
    let g : gcd_of_three a b c ≡ 0 = ap (λ t. gcd_of_three t b c) z.0 ∙ ap (λ t. gcd_of_three (pos 0) t c) z.1 ∙ ap (λ t. gcd_of_three (pos 0) (pos 0) t) z.2 ∙ gcd-zeros in
    absurd (omega arith)

abs_negated : (x : ℤ) → unsigned_abs (neg_ℤ x) ≡ unsigned_abs x
abs_negated x = omega (arith, ints)

signed_normal : (n : ℤ × ℤ × ℤ × ℤ) → gcd_of_three n.0 n.1 n.2 ≡ 1 → IsNormal3 (signed_plane n).0 (signed_plane n).1 (signed_plane n).2
signed_normal n one =
    elim (signed_cases n) as (λ _. IsNormal3 (signed_plane n).0 (signed_plane n).1 (signed_plane n).2) [
      | inl h ↦ subst (λ (m : ℤ × ℤ × ℤ × ℤ). IsNormal3 m.0 m.1 m.2) (sym h.1) (record {
        lowest =
            ap (λ t. gcd (gcd t (unsigned_abs (neg_ℤ n.1))) (unsigned_abs (neg_ℤ n.2))) (abs_negated n.0)
            ∙ ap (λ t. gcd (gcd (unsigned_abs n.0) t) (unsigned_abs (neg_ℤ n.2))) (abs_negated n.1)
            ∙ ap (λ t. gcd (gcd (unsigned_abs n.0) (unsigned_abs n.1)) t) (abs_negated n.2) ∙ one;
        sign = sign_of (neg_ℤ n.0) (neg_ℤ n.1) (neg_ℤ n.2) (subst (λ t. pos 0 <ℤ t) (sym (leading-negated n.0 n.1 n.2)) (let low = h.0 in omega (arith, ints)));
      })
      | inr h ↦ subst (λ (m : ℤ × ℤ × ℤ × ℤ). IsNormal3 m.0 m.1 m.2) (sym h.1) (record {
        lowest = one;
        sign = sign_of n.0 n.1 n.2 (by_lt_z (pos 0) (leading n.0 n.1 n.2) (λ p. p) (λ p. by_lt_z (leading n.0 n.1 n.2) (pos 0) (λ q. absurd (h.0 q)) (λ q. absurd (some_leading n.0 n.1 n.2 one (omega (arith, ints))))));
      })
    ]

-- ---- facts moved
point_moved : (e : Exchange) (p : ℤ × ℤ × ℤ) → IsPoint p → IsPoint (swapped e p)
point_moved First p f = record { x = f.y; y = f.x; z = f.z }
point_moved Last p f = record { x = f.x; y = f.z; z = f.y }

-- what holds of the numbers of a direction and of the last number
record AreBounded (n : ℤ × ℤ × ℤ × ℤ) : Type 0 where
  a : unsigned_abs n.0 ≤ 2 ^ 63
  b : unsigned_abs n.1 ≤ 2 ^ 63
  c : unsigned_abs n.2 ≤ 2 ^ 63
  d : unsigned_abs n.3 ≤ 2 ^ 95

bounded_moved : (e : Exchange) (n : ℤ × ℤ × ℤ × ℤ) → IsPlane n → AreBounded (moved_plane (swapped e) n)
bounded_moved First n f = record { a = f.b; b = f.a; c = f.c; d = f.d }
bounded_moved Last n f = record { a = f.a; b = f.c; c = f.b; d = f.d }

bounded_signed : (n : ℤ × ℤ × ℤ × ℤ) → AreBounded n → AreBounded (signed_plane n)
bounded_signed n f =
    elim (signed_cases n) as (λ _. AreBounded (signed_plane n)) [
      | inl h ↦ subst AreBounded (sym h.1) (record {
        a = subst (λ t. t ≤ 2 ^ 63) (sym (abs_negated n.0)) f.a;
        b = subst (λ t. t ≤ 2 ^ 63) (sym (abs_negated n.1)) f.b;
        c = subst (λ t. t ≤ 2 ^ 63) (sym (abs_negated n.2)) f.c;
        d = subst (λ t. t ≤ 2 ^ 95) (sym (abs_negated n.3)) f.d;
      })
      | inr h ↦ subst AreBounded (sym h.1) f
    ]

pub fit_moved : (e : Exchange) (x : Flat) → IsPlaneFact x → IsPlaneFact (moved_flat (swapped e) x)
fit_moved e (span s) f =
    let points = picked IsPoint (swapped e s.0) (swapped e s.1) (point_moved e s.0 f.first) (point_moved e s.1 f.last) in
    record {
      first = points.0;
      last = points.1;
      ordered = elim (lesser_or (swapped e s.0) (swapped e s.1)) as (λ _. Before (lesser (swapped e s.0) (swapped e s.1)) (greater (swapped e s.0) (swapped e s.1))) [
        | inl h ↦ subst (λ t. Before t (greater (swapped e s.0) (swapped e s.1))) (sym h.1) (subst (Before (swapped e s.0)) (sym h.2) h.0)
        | inr h ↦ subst (λ t. Before t (greater (swapped e s.0) (swapped e s.1))) (sym h.1) (subst (Before (swapped e s.1)) (sym h.2) h.0)
      ];
    }
fit_moved e (plane n) f =
    let m = moved_plane (swapped e) n in
    let b = bounded_signed m (bounded_moved e n f) in
    record { normal = signed_normal m (gcd_moved e (n.0, n.1, n.2) ∙ f.normal.lowest); a = b.a; b = b.b; c = b.c; d = b.d }

keeps : (e : Exchange) (x y : Flat) → IsPlaneFact x → IsPlaneFact y → PlaneLe x y → PlaneLe (moved_flat (swapped e) x) (moved_flat (swapped e) y)
keeps e (span s) (span t) f g h = keeps_spans e s t f h
keeps e (span s) (plane n) f g h =
    let m = moved_plane (swapped e) n in
    picked (On (signed_plane m)) (swapped e s.0) (swapped e s.1) (on_signed m (swapped e s.0) (on_moved e n s.0 h.0)) (on_signed m (swapped e s.1) (on_moved e n s.1 h.1))
keeps e (plane n) (span t) f g h = absurd h
keeps e (plane n) (plane m) f g h = ap (λ l. signed_plane (moved_plane (swapped e) l)) h

-- ---- moved twice
lesser_first : (p q : ℤ × ℤ × ℤ) → Before p q → (lesser p q ≡ p) × (greater p q ≡ q)
lesser_first p q h =
    elim (lesser_or p q) as (λ _. (lesser p q ≡ p) × (greater p q ≡ q)) [
      | inl k ↦ (k.1, k.2)
      | inr k ↦ let e = before_antisymmetric p q h k.0 in (k.1 ∙ sym e, k.2 ∙ e)
    ]

lesser_last : (p q : ℤ × ℤ × ℤ) → Before p q → (lesser q p ≡ p) × (greater q p ≡ q)
lesser_last p q h =
    elim (lesser_or q p) as (λ _. (lesser q p ≡ p) × (greater q p ≡ q)) [
      | inl k ↦ let e = before_antisymmetric p q h k.0 in (k.1 ∙ sym e, k.2 ∙ e)
      | inr k ↦ (k.1, k.2)
    ]

negated_twice : (n : ℤ × ℤ × ℤ × ℤ) → negated (negated n) ≡ n
negated_twice n =
    let twice : (x : ℤ) → neg_ℤ (neg_ℤ x) ≡ x = λ x. omega (arith, ints) in
    ap (λ t. (t, neg_ℤ (neg_ℤ n.1), neg_ℤ (neg_ℤ n.2), neg_ℤ (neg_ℤ n.3))) (twice n.0) ∙ ap (λ t. (n.0, t, neg_ℤ (neg_ℤ n.2), neg_ℤ (neg_ℤ n.3))) (twice n.1)
    ∙ ap (λ t. (n.0, n.1, t, neg_ℤ (neg_ℤ n.3))) (twice n.2) ∙ ap (λ t. (n.0, n.1, n.2, t)) (twice n.3)

plane_again : (e : Exchange) (n : ℤ × ℤ × ℤ × ℤ) → moved_plane (swapped e) (moved_plane (swapped e) n) ≡ n
plane_again First n = refl
plane_again Last n = refl

negated_again : (e : Exchange) (n : ℤ × ℤ × ℤ × ℤ) → moved_plane (swapped e) (negated (moved_plane (swapped e) n)) ≡ negated n
negated_again First n = refl
negated_again Last n = refl

signed_again : (e : Exchange) (n : ℤ × ℤ × ℤ × ℤ) → IsPlane n → signed_plane (moved_plane (swapped e) (signed_plane (moved_plane (swapped e) n))) ≡ n
signed_again e n f =
    let up = leading_positive n.0 n.1 n.2 f.normal.sign in
    elim (signed_cases (moved_plane (swapped e) n)) as (λ _. signed_plane (moved_plane (swapped e) (signed_plane (moved_plane (swapped e) n))) ≡ n) [
      | inl h ↦ ap (λ l. signed_plane (moved_plane (swapped e) l)) h.1 ∙ ap signed_plane (negated_again e n) ∙ elim (signed_cases (negated n)) as (λ _. signed_plane (negated n) ≡ n) [
        | inl k ↦ k.1 ∙ negated_twice n
        | inr k ↦ absurd (k.0 (subst (λ t. t <ℤ pos 0) (sym (leading-negated n.0 n.1 n.2)) (omega (arith, ints))))
      ]
      | inr h ↦ ap (λ l. signed_plane (moved_plane (swapped e) l)) h.1 ∙ ap signed_plane (plane_again e n) ∙ elim (signed_cases n) as (λ _. signed_plane n ≡ n) [
        | inl k ↦ let k0 = k.0 in absurd (omega (arith, ints))
        | inr k ↦ k.1
      ]
    ]

moved_twice : (e : Exchange) (x : Flat) → IsPlaneFact x → moved_flat (swapped e) (moved_flat (swapped e) x) ≡ x
moved_twice e (plane n) f = ap plane (signed_again e n f)
moved_twice e (span s) f =
    let p = swapped e s.0 in
    let q = swapped e s.1 in
    let ep = swapped_again e s.0 in
    let eq = swapped_again e s.1 in
    let Goal : (ℤ × ℤ × ℤ) × (ℤ × ℤ × ℤ) → Type 0 = λ t. span (lesser (swapped e t.0) (swapped e t.1), greater (swapped e t.0) (swapped e t.1)) ≡ span s in
    elim (lesser_or p q) as (λ _. Goal (lesser p q, greater p q)) [
      | inl h ↦ let k = lesser_first s.0 s.1 f.ordered in
          subst (λ t. Goal (t, greater p q)) (sym h.1) (subst (λ t. Goal (p, t)) (sym h.2)
          (ap (λ t. span (lesser t (swapped e q), greater t (swapped e q))) ep ∙ ap (λ t. span (lesser s.0 t, greater s.0 t)) eq ∙ ap (λ t. span (t, greater s.0 s.1)) k.0 ∙ ap (λ t. span (s.0, t)) k.1))
      | inr h ↦ let k = lesser_last s.0 s.1 f.ordered in
          subst (λ t. Goal (t, greater p q)) (sym h.1) (subst (λ t. Goal (q, t)) (sym h.2)
          (ap (λ t. span (lesser t (swapped e p), greater t (swapped e p))) eq ∙ ap (λ t. span (lesser s.1 t, greater s.1 t)) ep ∙ ap (λ t. span (t, greater s.1 s.0)) k.0 ∙ ap (λ t. span (s.0, t)) k.1))
    ]

-- ---- one point
space_moved : (e : Exchange) (p : ℤ × ℤ × ℤ) → in_space (swapped e p) ≡ in_space p
space_moved First p =
    elim (nat_le (unsigned_abs p.0) (2 ^ 30)) as (λ x. (nat_le (unsigned_abs p.1) (2 ^ 30) && (x && nat_le (unsigned_abs p.2) (2 ^ 30))) ≡ (x && (nat_le (unsigned_abs p.1) (2 ^ 30) && nat_le (unsigned_abs p.2) (2 ^ 30)))) [
      | true ↦ refl
      | false ↦ elim (nat_le (unsigned_abs p.1) (2 ^ 30)) as (λ y. (y && false) ≡ false) [ true ↦ refl | false ↦ refl ]
    ]
space_moved Last p =
    elim (nat_le (unsigned_abs p.0) (2 ^ 30)) as (λ x. (x && (nat_le (unsigned_abs p.2) (2 ^ 30) && nat_le (unsigned_abs p.1) (2 ^ 30))) ≡ (x && (nat_le (unsigned_abs p.1) (2 ^ 30) && nat_le (unsigned_abs p.2) (2 ^ 30)))) [
      | true ↦ elim (nat_le (unsigned_abs p.1) (2 ^ 30)) as (λ y. (nat_le (unsigned_abs p.2) (2 ^ 30) && y) ≡ (y && nat_le (unsigned_abs p.2) (2 ^ 30))) [
        | true ↦ elim (nat_le (unsigned_abs p.2) (2 ^ 30)) as (λ z. (z && true) ≡ z) [ true ↦ refl | false ↦ refl ]
        | false ↦ elim (nat_le (unsigned_abs p.2) (2 ^ 30)) as (λ z. (z && false) ≡ false) [ true ↦ refl | false ↦ refl ]
      ]
      | false ↦ refl
    ]

lesser_same : (p : ℤ × ℤ × ℤ) → (lesser p p ≡ p) × (greater p p ≡ p)
lesser_same p = (elim (is_before p p) as (λ b. (if b then p else p) ≡ p) [ true ↦ refl | false ↦ refl ], elim (is_before p p) as (λ b. (if b then p else p) ≡ p) [ true ↦ refl | false ↦ refl ])

one_moved : (e : Exchange) (p : ℤ × ℤ × ℤ) → limited_one in_space (λ v. span (v, v)) (swapped e p) ≡ lift (moved_flat (swapped e)) (limited_one in_space (λ v. span (v, v)) p)
one_moved e p =
    let q = swapped e p in
    let l = lesser_same q in
    ap (λ b. if b then fact (span (q, q)) else broken) (space_moved e p)
    ∙ elim (in_space p) as (λ b. (if b then fact (span (q, q)) else broken) ≡ lift (moved_flat (swapped e)) (if b then fact (span (p, p)) else broken)) [
      | true ↦ ap fact (sym (ap (λ t. span (t, greater q q)) l.0 ∙ ap (λ t. span (q, t)) l.1))
      | false ↦ refl
    ]

-- the state of points with two neighbouring coordinates exchanged
pub plane_exchanged : (e : Exchange) (points : List (ℤ × ℤ × ℤ)) → plane_known_of (map (swapped e) points) ≡ lift (moved_flat (swapped e)) (plane_known_of points)
plane_exchanged e points =
    moved_state plane_hull plane_known_of_is
    (record { fit = fit_moved e; back_fit = fit_moved e; keeps = keeps e; back_keeps = keeps e; again = moved_twice e; back_again = moved_twice e; ones = one_moved e })
    points
