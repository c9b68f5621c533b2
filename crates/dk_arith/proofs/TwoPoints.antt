-- Two points that differ have one line.
use Rattle.std.specs.Prelude.{◌≡◌, ℕ, ◌*◌, ◌<◌, ◌≤◌, ℤ, pos, ◌+ℤ◌, ◌-ℤ◌, ◌*ℤ◌, neg_ℤ, unsigned_abs}
use Prim.Native.Nat.{◌∣◌}
use Rattle.std.proofs.Common.{sym, ap, ◌∙◌, subst, arith, inl, inr}
use Rattle.std.proofs.lemmas.Bool.{cases_eq}
use Rattle.std.proofs.lemmas.Int.{ints, unsigned_abs-mul}
use Rattle.std.proofs.lemmas.Nat.Gcd.{dvd_antisymm}
use Rattle.std.proofs.Math.Nat.{dvd-mul_right, mul-le-mul_left}
use Rattle.std.proofs.Math.IntN.{*ℤ_comm}
use Rattle.dk_arith.specs.Directions.{IsNormal}
use Rattle.dk_arith.proofs.Coprime.{coprime_divides}
use Rattle.dk_arith.proofs.Ring.{cross_along, mul_sub, rep, rep-add, rep-mul, rep-sub, same_rep}
use Rattle.dk_arith.specs.Gcd.{gcd}
use Rattle.dk_arith.proofs.GcdLaws.{gcd-swap}

-- the point lies on the line
pub record IsOn (a b c x y : ℤ) : Type 0 where
  pub on : a *ℤ x +ℤ b *ℤ y ≡ neg_ℤ c

pub positive_product : (m n : ℕ) → 0 < m → 0 < n → 0 < m * n
positive_product m n p q = let l : 1 ≤ n = omega arith in let k : m * 1 ≤ m * n = mul-le-mul_left m l in omega arith

pub no_factor : (z w : ℤ) → (w ≡ pos 0 → ⊥) → z *ℤ w ≡ pos 0 → z ≡ pos 0
no_factor z w ne e =
    let p : unsigned_abs z * unsigned_abs w ≡ 0 = sym (unsigned_abs-mul z w) ∙ ap unsigned_abs e in
    let q : unsigned_abs w ≡ 0 → ⊥ = λ h. ne (omega (arith, ints)) in
    elim (cases_eq (unsigned_abs z) 0) as (λ _. z ≡ pos 0) [
      | inl h ↦ omega (arith, ints)
      | inr h ↦ absurd (let s : 0 < unsigned_abs z = omega arith in let t : 0 < unsigned_abs w = omega arith in let u = positive_product (unsigned_abs z) (unsigned_abs w) s t in omega arith)
    ]

pub cancel : (a x y : ℤ) → (a ≡ pos 0 → ⊥) → a *ℤ x ≡ a *ℤ y → x ≡ y
cancel a x y ne e =
    let z : (x -ℤ y) *ℤ a ≡ pos 0 = *ℤ_comm (x -ℤ y) a ∙ mul_sub a x y ∙ ap (λ t. t -ℤ a *ℤ y) e ∙ omega (arith, ints) in
    let d : x -ℤ y ≡ pos 0 = no_factor (x -ℤ y) a ne z in
    omega (arith, ints)

pub same_abs : (a b a' b' : ℤ) → gcd (unsigned_abs a) (unsigned_abs b) ≡ 1 → gcd (unsigned_abs a') (unsigned_abs b') ≡ 1 → a *ℤ b' ≡ a' *ℤ b → unsigned_abs a ≡ unsigned_abs a'
same_abs a b a' b' one one' e =
    let m : unsigned_abs a * unsigned_abs b' ≡ unsigned_abs a' * unsigned_abs b = sym (unsigned_abs-mul a b') ∙ ap unsigned_abs e ∙ unsigned_abs-mul a' b in
    dvd_antisymm
    (coprime_divides (unsigned_abs a) (unsigned_abs b) (unsigned_abs a') one (subst (λ t. unsigned_abs a ∣ t) m (dvd-mul_right (unsigned_abs a) (unsigned_abs b'))))
    (coprime_divides (unsigned_abs a') (unsigned_abs b') (unsigned_abs a) one' (subst (λ t. unsigned_abs a' ∣ t) (sym m) (dvd-mul_right (unsigned_abs a') (unsigned_abs b))))

pub same_normal : (a b a' b' : ℤ) → IsNormal a b → IsNormal a' b' → a *ℤ b' ≡ a' *ℤ b → (a ≡ a') × (b ≡ b')
same_normal a b a' b' n n' e =
    let abs_a : unsigned_abs a ≡ unsigned_abs a' = same_abs a b a' b' n.lowest n'.lowest e in
    let turned : b *ℤ a' ≡ b' *ℤ a = *ℤ_comm b a' ∙ sym e ∙ *ℤ_comm a b' in
    let abs_b : unsigned_abs b ≡ unsigned_abs b' =
    same_abs b a b' a' (gcd-swap (unsigned_abs b) (unsigned_abs a) ∙ n.lowest) (gcd-swap (unsigned_abs b') (unsigned_abs a') ∙ n'.lowest) turned in
    elim n.sign as (λ _. (a ≡ a') × (b ≡ b')) [
      | inl p ↦ elim n'.sign as (λ _. (a ≡ a') × (b ≡ b')) [
        | inl q ↦
            let same : a ≡ a' = omega (arith, ints) in
            (same, cancel a b b' (λ z. absurd (omega (arith, ints))) (sym (e ∙ ap (λ t. t *ℤ b) (sym same))))
        | inr q ↦ let z = q.0 in absurd (omega (arith, ints))
      ]
      | inr p ↦ let z = p.0 in elim n'.sign as (λ _. (a ≡ a') × (b ≡ b')) [
        | inl q ↦ absurd (omega (arith, ints))
        | inr q ↦ let z' = q.0 in let s = p.1 in let s' = q.1 in (omega (arith, ints), omega (arith, ints))
      ]
    ]

pub along_line : (a b c x y u v : ℤ) → IsOn a b c x y → IsOn a b c u v → a *ℤ (x -ℤ u) +ℤ b *ℤ (y -ℤ v) ≡ pos 0
along_line a b c x y u v p q =
    let ring : a *ℤ (x -ℤ u) +ℤ b *ℤ (y -ℤ v) ≡ (a *ℤ x +ℤ b *ℤ y) -ℤ (a *ℤ u +ℤ b *ℤ v) =
    same_rep (rep-add (rep-mul (rep a) (rep-sub (rep x) (rep u))) (rep-mul (rep b) (rep-sub (rep y) (rep v))))
    (rep-sub (rep-add (rep-mul (rep a) (rep x)) (rep-mul (rep b) (rep y))) (rep-add (rep-mul (rep a) (rep u)) (rep-mul (rep b) (rep v))))
    (omega arith) in
    ring ∙ ap (λ t. t -ℤ (a *ℤ u +ℤ b *ℤ v)) p.on ∙ ap (λ t. neg_ℤ c -ℤ t) q.on ∙ omega (arith, ints)

-- two points that differ have at most one line
pub one_line : (a b c a' b' c' x y u v : ℤ) → IsNormal a b → IsNormal a' b' → ((x -ℤ u ≡ pos 0) × (y -ℤ v ≡ pos 0) → ⊥)
    → IsOn a b c x y → IsOn a b c u v → IsOn a' b' c' x y → IsOn a' b' c' u v → (a ≡ a') × (b ≡ b') × (c ≡ c')
one_line a b c a' b' c' x y u v n n' apart p q p' q' =
    let h = along_line a b c x y u v p q in
    let k = along_line a' b' c' x y u v p' q' in
    let dx = x -ℤ u in
    let dy = y -ℤ v in
    let over_x : (a *ℤ b' -ℤ a' *ℤ b) *ℤ dx ≡ pos 0 =
    cross_along a b a' b' dx dy ∙ ap (λ t. b' *ℤ t -ℤ b *ℤ (a' *ℤ dx +ℤ b' *ℤ dy)) h ∙ ap (λ t. b' *ℤ pos 0 -ℤ b *ℤ t) k ∙ omega (arith, ints) in
    let h' : b *ℤ dy +ℤ a *ℤ dx ≡ pos 0 = omega (arith, ints) in
    let k' : b' *ℤ dy +ℤ a' *ℤ dx ≡ pos 0 = omega (arith, ints) in
    let over_y : (b *ℤ a' -ℤ b' *ℤ a) *ℤ dy ≡ pos 0 =
    cross_along b a b' a' dy dx ∙ ap (λ t. a' *ℤ t -ℤ a *ℤ (b' *ℤ dy +ℤ a' *ℤ dx)) h' ∙ ap (λ t. a' *ℤ pos 0 -ℤ a *ℤ t) k' ∙ omega (arith, ints) in
    let normals : a *ℤ b' ≡ a' *ℤ b =
    elim (cases_eq (unsigned_abs dx) 0) as (λ _. a *ℤ b' ≡ a' *ℤ b) [
      | inr ne ↦ let z = no_factor (a *ℤ b' -ℤ a' *ℤ b) dx (λ e. ne (ap unsigned_abs e)) over_x in omega (arith, ints)
      | inl e ↦
          let dx0 : dx ≡ pos 0 = omega (arith, ints) in
          let z = no_factor (b *ℤ a' -ℤ b' *ℤ a) dy (λ f. apart (dx0, f)) over_y in
          let turned : b *ℤ a' ≡ b' *ℤ a = omega (arith, ints) in
          *ℤ_comm a b' ∙ sym turned ∙ *ℤ_comm b a'
    ] in
    let same = same_normal a b a' b' n n' normals in
    let value : neg_ℤ c ≡ neg_ℤ c' = sym p.on ∙ ap (λ t. t *ℤ x +ℤ b *ℤ y) same.0 ∙ ap (λ t. a' *ℤ x +ℤ t *ℤ y) same.1 ∙ p'.on in
    (same.0, same.1, omega (arith, ints))
