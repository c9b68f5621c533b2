-- Directions in lowest terms, the first part that isn't 0 positive.
use Rattle.std.specs.Prelude.{◌≡◌, ℕ, zero, suc, ◌*◌, ◌<◌, ◌≤◌, ℤ, pos, negsuc, ◌+ℤ◌, ◌*ℤ◌, ◌<ℤ◌, ◌≤ℤ◌, neg_ℤ, unsigned_abs, int_div, int_rem, int_lt, true, false, cond, if◌then◌else◌, ◌⊎◌, refl}
use Prim.Native.Nat.{◌∣◌}
use Rattle.std.specs.Ordering.{int_eq}
use Rattle.std.proofs.Common.{sym, ap, ◌∙◌, subst, arith, inl, inr}
use Rattle.std.proofs.lemmas.Bool.{cases_eq, cases_Bool}
use Rattle.std.proofs.lemmas.Bool.Decides.{Decides-int_eq}
use Rattle.std.proofs.lemmas.Int.{ints, unsigned_abs-mul, quot-rem}
use Rattle.std.proofs.lemmas.Nat.Gcd.{dvd_trans, dvd_antisymm, dvd-zero, mod-eq-zero_of_dvd, same_from_IsGcd}
use Rattle.std.proofs.Math.Nat.{mul-le-mul, dvd-mul_left, dvd-mul_right, eq-zero_of_zero-dvd}
use Rattle.std.proofs.Math.IntN.{*ℤ_comm}
use Rattle.dk_arith.proofs.GcdLaws.{IsGcd-gcd}
use Rattle.dk_arith.specs.Directions.{IsNormal3, Parallel, divisor, gcd_of_three, leading, signed_as}
use Rattle.dk_arith.proofs.TwoPoints.{cancel, no_factor}
use Rattle.dk_arith.specs.Gcd.{gcd}
use Rattle.dk_arith.proofs.Coprime.{scaled}

pub divisor_is : (p q r : ℤ) → divisor p q r ≡ signed_as (leading p q r) (pos (gcd_of_three p q r))
unfolding divisor
divisor_is p q r = refl

-- exact division
rem_zero : (z d : ℤ) → unsigned_abs d ∣ unsigned_abs z → int_rem z d ≡ pos 0
rem_zero (pos a) (pos d) h = ap pos (mod-eq-zero_of_dvd d h)
rem_zero (pos a) (negsuc d) h = ap pos (mod-eq-zero_of_dvd (suc d) h)
rem_zero (negsuc a) (pos d) h = ap (λ n. neg_ℤ (pos n)) (mod-eq-zero_of_dvd d h)
rem_zero (negsuc a) (negsuc d) h = ap (λ n. neg_ℤ (pos n)) (mod-eq-zero_of_dvd (suc d) h)

pub exact : (z d : ℤ) → unsigned_abs d ∣ unsigned_abs z → int_div z d *ℤ d ≡ z
exact z d h = let e = rem_zero z d h in sym (ap (λ r. int_div z d *ℤ d +ℤ r) e ∙ omega (arith, ints)) ∙ quot-rem z d

-- the parts of a direction by its divisor
divides_three : (k a b c n : ℕ) → k ∣ n * a → k ∣ n * b → k ∣ n * c → k ∣ n * gcd (gcd a b) c
divides_three k a b c n h i j =
    elim (cases_eq n 0) as (λ _. k ∣ n * gcd (gcd a b) c) [
      | inl e ↦ let z : n * gcd (gcd a b) c ≡ 0 = ap (λ t. t * gcd (gcd a b) c) e ∙ omega arith in subst (λ t. k ∣ t) (sym z) (dvd-zero k)
      | inr ne ↦
          let p : 0 < n = omega arith in
          let ab = scaled n (suc b) a b (gcd a b) p (omega arith) (IsGcd-gcd a b) in
          let abc = scaled n (suc c) (gcd a b) c (gcd (gcd a b) c) p (omega arith) (IsGcd-gcd (gcd a b) c) in
          abc.2 k (ab.2 k h i) j
    ]

-- parallel directions in lowest terms have a first part alike
divides_first : (a b c a' b' c' : ℕ) → gcd (gcd a b) c ≡ 1 → a * b' ≡ a' * b → a * c' ≡ a' * c → a ∣ a'
divides_first a b c a' b' c' one e f =
    let d : a ∣ a' * gcd (gcd a b) c =
    divides_three a a b c a' (dvd-mul_left a a') (subst (λ t. a ∣ t) e (dvd-mul_right a b')) (subst (λ t. a ∣ t) f (dvd-mul_right a c')) in
    let g : a' * gcd (gcd a b) c ≡ a' = ap (λ t. a' * t) one ∙ omega arith in
    subst (λ t. a ∣ t) g d

abs_eq : (x y z w : ℤ) → x *ℤ y ≡ z *ℤ w → unsigned_abs x * unsigned_abs y ≡ unsigned_abs z * unsigned_abs w
abs_eq x y z w e = sym (unsigned_abs-mul x y) ∙ ap unsigned_abs e ∙ unsigned_abs-mul z w

first_alike : (a b c a' b' c' : ℤ) → gcd_of_three a b c ≡ 1 → gcd_of_three a' b' c' ≡ 1 → a *ℤ b' ≡ a' *ℤ b → a *ℤ c' ≡ a' *ℤ c → unsigned_abs a ≡ unsigned_abs a'
first_alike a b c a' b' c' one one' e f =
    dvd_antisymm
    (divides_first (unsigned_abs a) (unsigned_abs b) (unsigned_abs c) (unsigned_abs a') (unsigned_abs b') (unsigned_abs c') one (abs_eq a b' a' b e) (abs_eq a c' a' c f))
    (divides_first (unsigned_abs a') (unsigned_abs b') (unsigned_abs c') (unsigned_abs a) (unsigned_abs b) (unsigned_abs c) one' (sym (abs_eq a b' a' b e)) (sym (abs_eq a c' a' c f)))

-- the divisors of three numbers don't depend on their order
rotated : (a b c : ℕ) → gcd (gcd a b) c ≡ 1 → gcd (gcd b c) a ≡ 1
rotated a b c one =
    let g = gcd (gcd b c) a in
    let bc = IsGcd-gcd b c in
    let all = IsGcd-gcd (gcd b c) a in
    let ab = IsGcd-gcd a b in
    let abc = IsGcd-gcd (gcd a b) c in
    dvd_antisymm
    (subst (λ t. g ∣ t) one (abc.2 g (ab.2 g all.1 (dvd_trans g all.0 bc.0)) (dvd_trans g all.0 bc.1)))
    (one_divides g)
  where
    one_divides : (g : ℕ) → 1 ∣ g
    one_divides g = let e : 1 * g ≡ g = omega arith in subst (λ t. 1 ∣ t) e (dvd-mul_right 1 g)

-- parallel directions in lowest terms are the same
pub same_direction : (a b c a' b' c' : ℤ) → IsNormal3 a b c → IsNormal3 a' b' c' → Parallel a b c a' b' c' → (a ≡ a') × (b ≡ b') × (c ≡ c')
same_direction a b c a' b' c' n n' p =
    let pa : unsigned_abs a ≡ unsigned_abs a' = first_alike a b c a' b' c' n.lowest n'.lowest p.xy p.xz in
    let ba : b *ℤ a' ≡ b' *ℤ a = *ℤ_comm b a' ∙ sym p.xy ∙ *ℤ_comm a b' in
    let ca : c *ℤ a' ≡ c' *ℤ a = *ℤ_comm c a' ∙ sym p.xz ∙ *ℤ_comm a c' in
    let cb : c *ℤ b' ≡ c' *ℤ b = *ℤ_comm c b' ∙ sym p.yz ∙ *ℤ_comm b c' in
    let one_b = rotated (unsigned_abs a) (unsigned_abs b) (unsigned_abs c) n.lowest in
    let one_b' = rotated (unsigned_abs a') (unsigned_abs b') (unsigned_abs c') n'.lowest in
    let one_c = rotated (unsigned_abs b) (unsigned_abs c) (unsigned_abs a) one_b in
    let one_c' = rotated (unsigned_abs b') (unsigned_abs c') (unsigned_abs a') one_b' in
    let pb : unsigned_abs b ≡ unsigned_abs b' = first_alike b c a b' c' a' one_b one_b' p.yz ba in
    let pc : unsigned_abs c ≡ unsigned_abs c' = first_alike c a b c' a' b' one_c one_c' ca cb in
    elim n.sign as (λ _. (a ≡ a') × (b ≡ b') × (c ≡ c')) [
      | inl s ↦ elim n'.sign as (λ _. (a ≡ a') × (b ≡ b') × (c ≡ c')) [
        | inl t ↦
            let same : a ≡ a' = omega (arith, ints) in
            let ne : a ≡ pos 0 → ⊥ = λ z. absurd (omega (arith, ints)) in
            (same, cancel a b b' ne (sym (p.xy ∙ ap (λ t. t *ℤ b) (sym same))), cancel a c c' ne (sym (p.xz ∙ ap (λ t. t *ℤ c) (sym same))))
        | inr t ↦ let z = t.0 in absurd (omega (arith, ints))
      ]
      | inr s ↦ let z = s.0 in elim n'.sign as (λ _. (a ≡ a') × (b ≡ b') × (c ≡ c')) [
        | inl t ↦ absurd (omega (arith, ints))
        | inr t ↦ let z' = t.0 in
            let same_a : a ≡ a' = z ∙ sym z' in
            elim s.1 as (λ _. (a ≡ a') × (b ≡ b') × (c ≡ c')) [
              | inl u ↦ elim t.1 as (λ _. (a ≡ a') × (b ≡ b') × (c ≡ c')) [
                | inl v ↦
                    let same : b ≡ b' = omega (arith, ints) in
                    let ne : b ≡ pos 0 → ⊥ = λ z. absurd (omega (arith, ints)) in
                    (same_a, same, cancel b c c' ne (sym (p.yz ∙ ap (λ t. t *ℤ c) (sym same))))
                | inr v ↦ let y = v.0 in absurd (omega (arith, ints))
              ]
              | inr u ↦ let y = u.0 in elim t.1 as (λ _. (a ≡ a') × (b ≡ b') × (c ≡ c')) [
                | inl v ↦ absurd (omega (arith, ints))
                | inr v ↦ let y' = v.0 in let p1 = u.1 in let p2 = v.1 in (same_a, y ∙ sym y', omega (arith, ints))
              ]
            ]
      ]
    ]

-- ---- the direction in lowest terms that is parallel to one that isn't 0
pub record IsLowest (p q r a b c d : ℤ) : Type 0 where
  pub normal : IsNormal3 a b c
  pub some : d ≡ pos 0 → ⊥
  pub first : a *ℤ d ≡ p
  pub second : b *ℤ d ≡ q
  pub third : c *ℤ d ≡ r

divisor-abs : (p q r : ℤ) → unsigned_abs (divisor p q r) ≡ gcd_of_three p q r
unfolding divisor
divisor-abs p q r = elim (int_lt (leading p q r) (pos 0)) as (λ t. unsigned_abs (cond t (neg_ℤ (pos (gcd_of_three p q r))) (pos (gcd_of_three p q r))) ≡ gcd_of_three p q r) [ true ↦ omega (arith, ints) | false ↦ omega (arith, ints) ]

-- a choice by a test for 0, and by a sign
pub if_zero : {S : Type 0} (x : ℤ) (s t : S) → ((x ≡ pos 0) × ((if int_eq x (pos 0) then s else t) ≡ s)) ⊎ ((x ≡ pos 0 → ⊥) × ((if int_eq x (pos 0) then s else t) ≡ t))
if_zero x s t =
    elim (cases_Bool (int_eq x (pos 0))) as (λ _. ((x ≡ pos 0) × ((if int_eq x (pos 0) then s else t) ≡ s)) ⊎ ((x ≡ pos 0 → ⊥) × ((if int_eq x (pos 0) then s else t) ≡ t))) [
      | inl e ↦ inl ((Decides-int_eq x (pos 0)).0 e, ap (λ b. cond b s t) e)
      | inr e ↦ inr ((λ z. true_not_false ((sym ((Decides-int_eq x (pos 0)).1 z)) ∙ e)), ap (λ b. cond b s t) e)
    ]
  where
    true_not_false : true ≡ false → ⊥
    true_not_false e = subst (λ b. cond b (Unit {0}) ⊥) e tt

if_negative : {S : Type 0} (x : ℤ) (s t : S) → ((x <ℤ pos 0) × ((if int_lt x (pos 0) then s else t) ≡ s)) ⊎ ((pos 0 ≤ℤ x) × ((if int_lt x (pos 0) then s else t) ≡ t))
if_negative (pos n) s t = let e : int_lt (pos n) (pos 0) ≡ false = grind (arith, ints) in inr (omega (arith, ints), ap (λ b. cond b s t) e)
if_negative (negsuc n) s t = let e : int_lt (negsuc n) (pos 0) ≡ true = grind (arith, ints) in inl (omega (arith, ints), ap (λ b. cond b s t) e)

-- a factor with the sign of the product leaves a positive one
positive_factor : (a d p : ℤ) → a *ℤ d ≡ p → (p ≡ pos 0 → ⊥) → ((pos 0 ≤ℤ p) × (pos 0 ≤ℤ d)) ⊎ ((p <ℤ pos 0) × (d ≤ℤ pos 0)) → pos 0 <ℤ a
positive_factor (pos (suc n)) d p e ne s = omega (arith, ints)
positive_factor (pos zero) d p e ne s = absurd (ne (sym e ∙ omega (arith, ints)))
positive_factor (negsuc n) (pos zero) p e ne s = absurd (ne (sym e ∙ omega (arith, ints)))
positive_factor (negsuc n) (pos (suc m)) p e ne s = absurd (elim s as (λ _. ⊥) [
  | inl h ↦ let u : (negsuc n *ℤ pos (suc m)) <ℤ pos 0 = omega (arith, ints) in let a = h.0 in absurd (omega (arith, ints))
  | inr h ↦ let b = h.1 in absurd (omega (arith, ints))
])
positive_factor (negsuc n) (negsuc m) p e ne s = absurd (elim s as (λ _. ⊥) [
  | inl h ↦ let b = h.1 in absurd (omega (arith, ints))
  | inr h ↦ let u : pos 0 ≤ℤ (negsuc n *ℤ negsuc m) = omega (arith, ints) in let a = h.0 in absurd (omega (arith, ints))
])

-- the sign of the divisor
divisor-sign : (p q r : ℤ) → ((pos 0 ≤ℤ leading p q r) × (pos 0 ≤ℤ divisor p q r)) ⊎ ((leading p q r <ℤ pos 0) × (divisor p q r ≤ℤ pos 0))
unfolding divisor
divisor-sign p q r =
    let g = gcd_of_three p q r in
    elim (if_negative (leading p q r) (neg_ℤ (pos g)) (pos g)) as (λ _. ((pos 0 ≤ℤ leading p q r) × (pos 0 ≤ℤ divisor p q r)) ⊎ ((leading p q r <ℤ pos 0) × (divisor p q r ≤ℤ pos 0))) [
      | inl h ↦ let e = h.1 in inr (h.0, subst (λ d. d ≤ℤ pos 0) (sym e) (omega (arith, ints)))
      | inr h ↦ let e = h.1 in inl (h.0, subst (λ d. pos 0 ≤ℤ d) (sym e) (omega (arith, ints)))
    ]

leading-is : (p q r : ℤ) → ((p ≡ pos 0 → ⊥) × (leading p q r ≡ p)) ⊎ ((p ≡ pos 0) × (((q ≡ pos 0 → ⊥) × (leading p q r ≡ q)) ⊎ ((q ≡ pos 0) × (leading p q r ≡ r))))
leading-is p q r =
    let inner : ℤ = if int_eq q (pos 0) then r else q in
    elim (if_zero p inner p) as (λ _. ((p ≡ pos 0 → ⊥) × (leading p q r ≡ p)) ⊎ ((p ≡ pos 0) × (((q ≡ pos 0 → ⊥) × (leading p q r ≡ q)) ⊎ ((q ≡ pos 0) × (leading p q r ≡ r))))) [
      | inr h ↦ inl h
      | inl h ↦ inr (
        h.0,
        elim (if_zero q r q) as (λ _. ((q ≡ pos 0 → ⊥) × (leading p q r ≡ q)) ⊎ ((q ≡ pos 0) × (leading p q r ≡ r))) [
          | inr k ↦ inl (k.0, h.1 ∙ k.1)
          | inl k ↦ inr (k.0, h.1 ∙ k.1)
        ],
      )
    ]

pub divisor-zero : (p q r : ℤ) → divisor p q r ≡ pos 0 → (p ≡ pos 0) × (q ≡ pos 0) × (r ≡ pos 0)
divisor-zero p q r e =
    let g : gcd_of_three p q r ≡ 0 = sym (divisor-abs p q r) ∙ ap unsigned_abs e in
    let all = IsGcd-gcd (gcd (unsigned_abs p) (unsigned_abs q)) (unsigned_abs r) in
    let two = IsGcd-gcd (unsigned_abs p) (unsigned_abs q) in
    let z2 : gcd (unsigned_abs p) (unsigned_abs q) ≡ 0 = eq-zero_of_zero-dvd (subst (λ t. t ∣ gcd (unsigned_abs p) (unsigned_abs q)) g all.0) in
    let zr : unsigned_abs r ≡ 0 = eq-zero_of_zero-dvd (subst (λ t. t ∣ unsigned_abs r) g all.1) in
    let zp : unsigned_abs p ≡ 0 = eq-zero_of_zero-dvd (subst (λ t. t ∣ unsigned_abs p) z2 two.0) in
    let zq : unsigned_abs q ≡ 0 = eq-zero_of_zero-dvd (subst (λ t. t ∣ unsigned_abs q) z2 two.1) in
    (omega (arith, ints), omega (arith, ints), omega (arith, ints))

divisor-divides : (p q r : ℤ) → (unsigned_abs (divisor p q r) ∣ unsigned_abs p) × (unsigned_abs (divisor p q r) ∣ unsigned_abs q) × (unsigned_abs (divisor p q r) ∣ unsigned_abs r)
divisor-divides p q r =
    let g = gcd_of_three p q r in
    let all = IsGcd-gcd (gcd (unsigned_abs p) (unsigned_abs q)) (unsigned_abs r) in
    let two = IsGcd-gcd (unsigned_abs p) (unsigned_abs q) in
    let e = sym (divisor-abs p q r) in
    (subst (λ t. t ∣ unsigned_abs p) e (dvd_trans g all.0 two.0), subst (λ t. t ∣ unsigned_abs q) e (dvd_trans g all.0 two.1), subst (λ t. t ∣ unsigned_abs r) e all.1)

gcd_scaled : (n a b : ℕ) → 0 < n → gcd (n * a) (n * b) ≡ n * gcd a b
gcd_scaled n a b p = same_from_IsGcd (n * a) (n * b) (gcd (n * a) (n * b)) (n * gcd a b) (IsGcd-gcd (n * a) (n * b)) (scaled n (suc b) a b (gcd a b) p (omega arith) (IsGcd-gcd a b))

one_from_product : (g k : ℕ) → 0 < g → g * k ≡ g → k ≡ 1
one_from_product g zero p e = absurd (omega (arith, e))
one_from_product g (suc zero) p e = refl
one_from_product g (suc (suc k)) p e = absurd (omega (arith, e))

lowest_of : (a b c d p q r : ℤ) → (d ≡ pos 0 → ⊥) → unsigned_abs d ≡ gcd_of_three p q r → a *ℤ d ≡ p → b *ℤ d ≡ q → c *ℤ d ≡ r → gcd_of_three a b c ≡ 1
lowest_of a b c d p q r ne e ea eb ec =
    let n = unsigned_abs d in
    let pos_n : 0 < n = elim (cases_eq n 0) as (λ _. 0 < n) [ inl z ↦ absurd (ne (omega (arith, ints))) | inr nz ↦ omega arith ] in
    let fa : unsigned_abs p ≡ n * unsigned_abs a = ap unsigned_abs (sym ea) ∙ unsigned_abs-mul a d ∙ omega arith in
    let fb : unsigned_abs q ≡ n * unsigned_abs b = ap unsigned_abs (sym eb) ∙ unsigned_abs-mul b d ∙ omega arith in
    let fc : unsigned_abs r ≡ n * unsigned_abs c = ap unsigned_abs (sym ec) ∙ unsigned_abs-mul c d ∙ omega arith in
    let two : gcd (unsigned_abs p) (unsigned_abs q) ≡ n * gcd (unsigned_abs a) (unsigned_abs b) =
    ap (λ t. gcd t (unsigned_abs q)) fa ∙ ap (gcd (n * unsigned_abs a)) fb ∙ gcd_scaled n (unsigned_abs a) (unsigned_abs b) pos_n in
    let three : gcd_of_three p q r ≡ n * gcd_of_three a b c =
    ap (λ t. gcd t (unsigned_abs r)) two ∙ ap (gcd (n * gcd (unsigned_abs a) (unsigned_abs b))) fc ∙ gcd_scaled n (gcd (unsigned_abs a) (unsigned_abs b)) (unsigned_abs c) pos_n in
    one_from_product n (gcd_of_three a b c) pos_n (sym (e ∙ three))

sign_of : (p q r a b c : ℤ) → ((p ≡ pos 0) × (q ≡ pos 0) × (r ≡ pos 0) → ⊥) → a *ℤ divisor p q r ≡ p → b *ℤ divisor p q r ≡ q → c *ℤ divisor p q r ≡ r
    → (pos 0 <ℤ a) ⊎ ((a ≡ pos 0) × ((pos 0 <ℤ b) ⊎ ((b ≡ pos 0) × (pos 0 <ℤ c))))
sign_of p q r a b c ne ea eb ec =
    let d = divisor p q r in
    let some : d ≡ pos 0 → ⊥ = λ z. ne (divisor-zero p q r z) in
    let sign = divisor-sign p q r in
    let Goal : Type 0 = (pos 0 <ℤ a) ⊎ ((a ≡ pos 0) × ((pos 0 <ℤ b) ⊎ ((b ≡ pos 0) × (pos 0 <ℤ c)))) in
    let OneSign : ℤ → Type 0 = λ z. ((pos 0 ≤ℤ z) × (pos 0 ≤ℤ d)) ⊎ ((z <ℤ pos 0) × (d ≤ℤ pos 0)) in
    elim (leading-is p q r) as (λ _. Goal) [
      | inl h ↦ inl (positive_factor a d p ea h.0 (subst OneSign h.1 sign))
      | inr h ↦
          let a0 : a ≡ pos 0 = no_factor a d some (ea ∙ h.0) in
          inr (
            a0,
            elim h.1 as (λ _. (pos 0 <ℤ b) ⊎ ((b ≡ pos 0) × (pos 0 <ℤ c))) [
              | inl k ↦ inl (positive_factor b d q eb k.0 (subst OneSign k.1 sign))
              | inr k ↦
                  let b0 : b ≡ pos 0 = no_factor b d some (eb ∙ k.0) in
                  inr (b0, positive_factor c d r ec (λ z. ne (h.0, k.0, z)) (subst OneSign k.1 sign))
            ],
          )
    ]

pub lowest_is : (p q r : ℤ) → ((p ≡ pos 0) × (q ≡ pos 0) × (r ≡ pos 0) → ⊥)
    → IsLowest p q r (int_div p (divisor p q r)) (int_div q (divisor p q r)) (int_div r (divisor p q r)) (divisor p q r)
lowest_is p q r ne =
    let d = divisor p q r in
    let some : d ≡ pos 0 → ⊥ = λ z. ne (divisor-zero p q r z) in
    let all = divisor-divides p q r in
    let ea = exact p d all.0 in
    let eb = exact q d all.1 in
    let ec = exact r d all.2 in
    record {
      normal = record {
        lowest = lowest_of (int_div p d) (int_div q d) (int_div r d) d p q r some (divisor-abs p q r) ea eb ec;
        sign = sign_of p q r (int_div p d) (int_div q d) (int_div r d) ne ea eb ec;
      };
      some = some;
      first = ea;
      second = eb;
      third = ec;
    }

-- the parts of a direction are no larger than what they were taken from
pub smaller : (a d p : ℤ) → (d ≡ pos 0 → ⊥) → a *ℤ d ≡ p → unsigned_abs a ≤ unsigned_abs p
smaller a d p some e =
    let f : unsigned_abs p ≡ unsigned_abs a * unsigned_abs d = ap unsigned_abs (sym e) ∙ unsigned_abs-mul a d in
    elim (cases_eq (unsigned_abs d) 0) as (λ _. unsigned_abs a ≤ unsigned_abs p) [
      | inl z ↦ absurd (some (omega (arith, ints)))
      | inr nz ↦ let l : unsigned_abs a * 1 ≤ unsigned_abs a * unsigned_abs d = mul-le-mul (omega arith) (omega arith) in omega arith
    ]
