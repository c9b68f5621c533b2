-- Directions in space: products, parallels, and planes.
use Rattle.std.specs.Prelude.{◌≡◌, ℤ, pos, ◌+ℤ◌, ◌-ℤ◌, ◌*ℤ◌, unsigned_abs, ◌⊎◌}
use Rattle.std.proofs.Common.{sym, ap, ◌∙◌, arith, inl, inr}
use Rattle.std.proofs.lemmas.Bool.{cases_eq}
use Rattle.std.proofs.lemmas.Int.{ints}
use Rattle.std.proofs.Math.IntN.{*ℤ_comm}
use Rattle.dk_arith.specs.Directions.{Parallel}
use Rattle.dk_arith.proofs.TwoPoints.{cancel, no_factor}
use Rattle.dk_arith.specs.Vectors.{cross, dot}
use Rattle.dk_arith.proofs.Ring.{mul_assoc, rep, rep-add, rep-mul, rep-sub, same_rep}

abbrev pub AreParallel : ℤ × ℤ × ℤ → ℤ × ℤ × ℤ → Type 0
AreParallel u f = Parallel u.0 u.1 u.2 f.0 f.1 f.2

abbrev pub IsZero : ℤ × ℤ × ℤ → Type 0
IsZero u = (u.0 ≡ pos 0) × (u.1 ≡ pos 0) × (u.2 ≡ pos 0)

pub rotate : (a b c a' b' c' : ℤ) → Parallel a b c a' b' c' → Parallel b c a b' c' a'
rotate a b c a' b' c' p = record {
  xy = p.yz;
  xz = *ℤ_comm b a' ∙ sym p.xy ∙ *ℤ_comm a b';
  yz = *ℤ_comm c a' ∙ sym p.xz ∙ *ℤ_comm a c';
}

pub parallel_swap : (u f : ℤ × ℤ × ℤ) → AreParallel u f → AreParallel f u
parallel_swap u f p = record { xy = sym p.xy; xz = sym p.xz; yz = sym p.yz }

-- directions that are parallel to one that isn't 0 are parallel to each other
through_first : (a b c a' b' c' e f g : ℤ) → (e ≡ pos 0 → ⊥) → Parallel a b c e f g → Parallel a' b' c' e f g → Parallel a b c a' b' c'
through_first a b c a' b' c' e f g ne p q =
    let xy : a *ℤ b' ≡ a' *ℤ b = cancel e (a *ℤ b') (a' *ℤ b) ne
    (swap e a b' ∙ ap (λ t. a *ℤ t) (sym q.xy) ∙ turn a a' f ∙ ap (λ t. a' *ℤ t) p.xy ∙ sym (swap e a' b)) in
    let xz : a *ℤ c' ≡ a' *ℤ c = cancel e (a *ℤ c') (a' *ℤ c) ne
    (swap e a c' ∙ ap (λ t. a *ℤ t) (sym q.xz) ∙ turn a a' g ∙ ap (λ t. a' *ℤ t) p.xz ∙ sym (swap e a' c)) in
    let yz : b *ℤ c' ≡ b' *ℤ c = cancel e (b *ℤ c') (b' *ℤ c) ne
    (mul_assoc e b c' ∙ ap (λ t. t *ℤ c') (sym p.xy) ∙ last a f c' ∙ ap (λ t. f *ℤ t) xz ∙ sym (last a' f c) ∙ ap (λ t. t *ℤ c) q.xy ∙ sym (mul_assoc e b' c)) in
    record { xy = xy; xz = xz; yz = yz }
  where
    -- e (a b) = a (e b)
    swap : (x y z : ℤ) → x *ℤ (y *ℤ z) ≡ y *ℤ (x *ℤ z)
    swap x y z = mul_assoc x y z ∙ ap (λ t. t *ℤ z) (*ℤ_comm x y) ∙ sym (mul_assoc y x z)

    -- a (a' f) = a' (a f)
    turn : (x y z : ℤ) → x *ℤ (y *ℤ z) ≡ y *ℤ (x *ℤ z)
    turn x y z = swap x y z

    -- (a f) c = f (a c)
    last : (x y z : ℤ) → (x *ℤ y) *ℤ z ≡ y *ℤ (x *ℤ z)
    last x y z = sym (mul_assoc x y z) ∙ swap x y z

pub zero_or_not : (x : ℤ) → (x ≡ pos 0) ⊎ (x ≡ pos 0 → ⊥)
zero_or_not x = elim (cases_eq (unsigned_abs x) 0) as (λ _. (x ≡ pos 0) ⊎ (x ≡ pos 0 → ⊥)) [ inl e ↦ inl (omega (arith, ints)) | inr ne ↦ inr (λ z. ne (ap unsigned_abs z)) ]

pub parallel_through : (u v e : ℤ × ℤ × ℤ) → (IsZero e → ⊥) → AreParallel u e → AreParallel v e → AreParallel u v
parallel_through u v e ne p q =
    elim (zero_or_not e.0) as (λ _. AreParallel u v) [
      | inr n0 ↦ through_first u.0 u.1 u.2 v.0 v.1 v.2 e.0 e.1 e.2 n0 p q
      | inl z0 ↦ elim (zero_or_not e.1) as (λ _. AreParallel u v) [
        | inr n1 ↦
            let p' = rotate u.0 u.1 u.2 e.0 e.1 e.2 p in
            let q' = rotate v.0 v.1 v.2 e.0 e.1 e.2 q in
            let r = through_first u.1 u.2 u.0 v.1 v.2 v.0 e.1 e.2 e.0 n1 p' q' in
            rotate u.2 u.0 u.1 v.2 v.0 v.1 (rotate u.1 u.2 u.0 v.1 v.2 v.0 r)
        | inl z1 ↦
            let n2 : e.2 ≡ pos 0 → ⊥ = λ z2. ne (z0, z1, z2) in
            let p' = rotate u.1 u.2 u.0 e.1 e.2 e.0 (rotate u.0 u.1 u.2 e.0 e.1 e.2 p) in
            let q' = rotate v.1 v.2 v.0 e.1 e.2 e.0 (rotate v.0 v.1 v.2 e.0 e.1 e.2 q) in
            let r = through_first u.2 u.0 u.1 v.2 v.0 v.1 e.2 e.0 e.1 n2 p' q' in
            rotate u.2 u.0 u.1 v.2 v.0 v.1 r
      ]
    ]

-- what stands across u stands across each parallel of it
across_first : (n0 n1 n2 a b c x y z : ℤ) → (a ≡ pos 0 → ⊥) → Parallel a b c x y z → n0 *ℤ a +ℤ n1 *ℤ b +ℤ n2 *ℤ c ≡ pos 0 → n0 *ℤ x +ℤ n1 *ℤ y +ℤ n2 *ℤ z ≡ pos 0
across_first n0 n1 n2 a b c x y z ne p e =
    let open_ : (n0 *ℤ x +ℤ n1 *ℤ y +ℤ n2 *ℤ z) *ℤ a ≡ (n0 *ℤ a) *ℤ x +ℤ n1 *ℤ (a *ℤ y) +ℤ n2 *ℤ (a *ℤ z) =
    same_rep (rep-mul (rep-add (rep-add (rep-mul (rep n0) (rep x)) (rep-mul (rep n1) (rep y))) (rep-mul (rep n2) (rep z))) (rep a))
    (rep-add (rep-add (rep-mul (rep-mul (rep n0) (rep a)) (rep x)) (rep-mul (rep n1) (rep-mul (rep a) (rep y)))) (rep-mul (rep n2) (rep-mul (rep a) (rep z)))) (omega arith) in
    let close : (n0 *ℤ a) *ℤ x +ℤ n1 *ℤ (x *ℤ b) +ℤ n2 *ℤ (x *ℤ c) ≡ x *ℤ (n0 *ℤ a +ℤ n1 *ℤ b +ℤ n2 *ℤ c) =
    same_rep (rep-add (rep-add (rep-mul (rep-mul (rep n0) (rep a)) (rep x)) (rep-mul (rep n1) (rep-mul (rep x) (rep b)))) (rep-mul (rep n2) (rep-mul (rep x) (rep c))))
    (rep-mul (rep x) (rep-add (rep-add (rep-mul (rep n0) (rep a)) (rep-mul (rep n1) (rep b))) (rep-mul (rep n2) (rep c)))) (omega arith) in
    no_factor (n0 *ℤ x +ℤ n1 *ℤ y +ℤ n2 *ℤ z) a ne
    (open_ ∙ ap (λ t. (n0 *ℤ a) *ℤ x +ℤ n1 *ℤ t +ℤ n2 *ℤ (a *ℤ z)) p.xy ∙ ap (λ t. (n0 *ℤ a) *ℤ x +ℤ n1 *ℤ (x *ℤ b) +ℤ n2 *ℤ t) p.xz ∙ close ∙ ap (λ t. x *ℤ t) e ∙ omega (arith, ints))

pub across : (n u f : ℤ × ℤ × ℤ) → (IsZero u → ⊥) → AreParallel u f → dot n u ≡ pos 0 → dot n f ≡ pos 0
across n u f ne p e =
    elim (zero_or_not u.0) as (λ _. dot n f ≡ pos 0) [
      | inr n0 ↦ across_first n.0 n.1 n.2 u.0 u.1 u.2 f.0 f.1 f.2 n0 p e
      | inl z0 ↦ elim (zero_or_not u.1) as (λ _. dot n f ≡ pos 0) [
        | inr n1 ↦
            let e' : n.1 *ℤ u.1 +ℤ n.2 *ℤ u.2 +ℤ n.0 *ℤ u.0 ≡ pos 0 = omega (arith, ints) in
            let r = across_first n.1 n.2 n.0 u.1 u.2 u.0 f.1 f.2 f.0 n1 (rotate u.0 u.1 u.2 f.0 f.1 f.2 p) e' in
            omega (arith, ints)
        | inl z1 ↦
            let n2 : u.2 ≡ pos 0 → ⊥ = λ z2. ne (z0, z1, z2) in
            let e' : n.2 *ℤ u.2 +ℤ n.0 *ℤ u.0 +ℤ n.1 *ℤ u.1 ≡ pos 0 = omega (arith, ints) in
            let r = across_first n.2 n.0 n.1 u.2 u.0 u.1 f.2 f.0 f.1 n2 (rotate u.1 u.2 u.0 f.1 f.2 f.0 (rotate u.0 u.1 u.2 f.0 f.1 f.2 p)) e' in
            omega (arith, ints)
      ]
    ]

-- the cross product stands across both
pub cross_first : (u f : ℤ × ℤ × ℤ) → dot (cross u f) u ≡ pos 0
cross_first u f =
    same_rep (rep-add (rep-add (rep-mul (rep-sub (rep-mul (rep u.1) (rep f.2)) (rep-mul (rep f.1) (rep u.2))) (rep u.0)) (rep-mul (rep-sub (rep-mul (rep f.0) (rep u.2)) (rep-mul (rep u.0) (rep f.2))) (rep u.1)))
    (rep-mul (rep-sub (rep-mul (rep u.0) (rep f.1)) (rep-mul (rep f.0) (rep u.1))) (rep u.2))) (rep (pos 0)) (omega arith)

pub cross_second : (u f : ℤ × ℤ × ℤ) → dot (cross u f) f ≡ pos 0
cross_second u f =
    same_rep (rep-add (rep-add (rep-mul (rep-sub (rep-mul (rep u.1) (rep f.2)) (rep-mul (rep f.1) (rep u.2))) (rep f.0)) (rep-mul (rep-sub (rep-mul (rep f.0) (rep u.2)) (rep-mul (rep u.0) (rep f.2))) (rep f.1)))
    (rep-mul (rep-sub (rep-mul (rep u.0) (rep f.1)) (rep-mul (rep f.0) (rep u.1))) (rep f.2))) (rep (pos 0)) (omega arith)

-- what stands across both is parallel to it
pub across_both : (n u f : ℤ × ℤ × ℤ) → dot n u ≡ pos 0 → dot n f ≡ pos 0 → AreParallel n (cross u f)
across_both n u f eu ef =
    let du = rep-add (rep-add (rep-mul (rep n.0) (rep u.0)) (rep-mul (rep n.1) (rep u.1))) (rep-mul (rep n.2) (rep u.2)) in
    let df = rep-add (rep-add (rep-mul (rep n.0) (rep f.0)) (rep-mul (rep n.1) (rep f.1))) (rep-mul (rep n.2) (rep f.2)) in
    let k0 = rep-sub (rep-mul (rep u.1) (rep f.2)) (rep-mul (rep f.1) (rep u.2)) in
    let k1 = rep-sub (rep-mul (rep f.0) (rep u.2)) (rep-mul (rep u.0) (rep f.2)) in
    let k2 = rep-sub (rep-mul (rep u.0) (rep f.1)) (rep-mul (rep f.0) (rep u.1)) in
    let k = cross u f in
    let xy : n.0 *ℤ k.1 ≡ k.0 *ℤ n.1 +ℤ (u.2 *ℤ dot n f -ℤ f.2 *ℤ dot n u) =
    same_rep (rep-mul (rep n.0) k1) (rep-add (rep-mul k0 (rep n.1)) (rep-sub (rep-mul (rep u.2) df) (rep-mul (rep f.2) du))) (omega arith) in
    let xz : n.0 *ℤ k.2 ≡ k.0 *ℤ n.2 +ℤ (f.1 *ℤ dot n u -ℤ u.1 *ℤ dot n f) =
    same_rep (rep-mul (rep n.0) k2) (rep-add (rep-mul k0 (rep n.2)) (rep-sub (rep-mul (rep f.1) du) (rep-mul (rep u.1) df))) (omega arith) in
    let yz : n.1 *ℤ k.2 ≡ k.1 *ℤ n.2 +ℤ (u.0 *ℤ dot n f -ℤ f.0 *ℤ dot n u) =
    same_rep (rep-mul (rep n.1) k2) (rep-add (rep-mul k1 (rep n.2)) (rep-sub (rep-mul (rep u.0) df) (rep-mul (rep f.0) du))) (omega arith) in
    record {
      xy = xy ∙ gone (k.0 *ℤ n.1) u.2 f.2 (dot n f) (dot n u) ef eu;
      xz = xz ∙ gone (k.0 *ℤ n.2) f.1 u.1 (dot n u) (dot n f) eu ef;
      yz = yz ∙ gone (k.1 *ℤ n.2) u.0 f.0 (dot n f) (dot n u) ef eu;
    }
  where
    gone : (m a b x y : ℤ) → x ≡ pos 0 → y ≡ pos 0 → m +ℤ (a *ℤ x -ℤ b *ℤ y) ≡ m
    gone m a b x y ex ey = ap (λ t. m +ℤ (a *ℤ t -ℤ b *ℤ y)) ex ∙ ap (λ t. m +ℤ (a *ℤ pos 0 -ℤ b *ℤ t)) ey ∙ omega (arith, ints)

-- directions whose cross product is 0 are parallel
pub cross_zero : (u f : ℤ × ℤ × ℤ) → IsZero (cross u f) → AreParallel u f
cross_zero u f z = let z0 = z.0 in let z1 = z.1 in let z2 = z.2 in record { xy = omega (arith, ints); xz = omega (arith, ints); yz = omega (arith, ints) }
