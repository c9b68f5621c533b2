-- What the greatest common divisor is.
use Rattle.std.specs.Prelude.{◌≡◌, ℕ, zero, suc, ◌%◌, ◌<◌, ◌≤◌}
use Rattle.std.specs.Int.{IsGcd}
use Rattle.std.proofs.Common.{cond, eqb, arith, inl, inr, subst, sym}
use Rattle.std.proofs.lemmas.Bool.{cases_eq, eq-eqb, ne_eqb, cond-true, cond-false}
use Rattle.std.proofs.lemmas.Nat.Gcd.{IsGcd-from_zero, IsGcd-from_mod, same_from_IsGcd, dvd_refl, dvd_trans, dvd_antisymm, le_of_dvd}
use Prim.Native.Nat.{◌∣◌}
use Rattle.std.proofs.Math.Nat.{eq-zero_of_zero-dvd}
use Rattle.dk_arith.specs.Gcd.{gcd, gcd_within}

IsGcd-gcd_within : (n a b : ℕ) → b < n → IsGcd a b (gcd_within n a b)
IsGcd-gcd_within zero a b h = absurd (omega arith)
IsGcd-gcd_within (suc n) a b h =
    elim (cases_eq b 0) as (λ _. IsGcd a b (cond (eqb b 0) a (gcd_within n b (a % b)))) [
      | inl e ↦ subst (IsGcd a b) (sym (cond-true (eqb b 0) a _ (eq-eqb b 0 e))) (IsGcd-from_zero a b e)
      | inr ne ↦ subst (IsGcd a b) (sym (cond-false (eqb b 0) a _ (ne_eqb b 0 ne)))
          (IsGcd-from_mod a b _ (IsGcd-gcd_within n b (a % b) (let p : 0 < b = omega arith in omega arith)))
    ]

pub IsGcd-gcd : (a b : ℕ) → IsGcd a b (gcd a b)
unfolding gcd
IsGcd-gcd a b = IsGcd-gcd_within (suc b) a b (omega arith)

pub gcd_is : (a b g : ℕ) → IsGcd a b g → g ≡ gcd a b
gcd_is a b g h = same_from_IsGcd a b g (gcd a b) h (IsGcd-gcd a b)

-- ---- divisors
pub gcd-left : (a b : ℕ) → gcd a b ∣ a
gcd-left a b = (IsGcd-gcd a b).0

pub gcd-right : (a b : ℕ) → gcd a b ∣ b
gcd-right a b = (IsGcd-gcd a b).1

pub gcd-both : (a b d : ℕ) → d ∣ a → d ∣ b → d ∣ gcd a b
gcd-both a b d = (IsGcd-gcd a b).2 d

pub same_divisors : (a b : ℕ) → ((d : ℕ) → d ∣ a → d ∣ b) → ((d : ℕ) → d ∣ b → d ∣ a) → a ≡ b
same_divisors a b to from = dvd_antisymm (to a (dvd_refl a)) (from b (dvd_refl b))

-- a greatest common divisor is below a bound of one number that isn't 0, or of the other
pub gcd_small : (a b bound : ℕ) → 0 < bound → a < bound → (a ≡ 0 → b < bound) → gcd a b < bound
gcd_small a b bound some p q =
    elim (cases_eq a 0) as (λ _. gcd a b < bound) [
      | inr ne ↦ let l : gcd a b ≤ a = le_of_dvd (omega arith) (gcd-left a b) in omega arith
      | inl e ↦ elim (cases_eq b 0) as (λ _. gcd a b < bound) [
        | inr ne ↦ let l : gcd a b ≤ b = le_of_dvd (omega arith) (gcd-right a b) in let k : b < bound = q e in omega arith
        | inl f ↦
            let z : gcd a b ≡ 0 = eq-zero_of_zero-dvd (gcd-both a b 0 (subst (λ k. 0 ∣ k) (sym e) (dvd_refl 0)) (subst (λ k. 0 ∣ k) (sym f) (dvd_refl 0))) in omega arith
      ]
    ]

pub gcd-zero : (a b : ℕ) → gcd a b ≡ 0 → (a ≡ 0) × (b ≡ 0)
gcd-zero a b e = (eq-zero_of_zero-dvd (subst (λ k. k ∣ a) e (gcd-left a b)), eq-zero_of_zero-dvd (subst (λ k. k ∣ b) e (gcd-right a b)))

pub gcd-swap : (a b : ℕ) → gcd a b ≡ gcd b a
gcd-swap a b = same_divisors (gcd a b) (gcd b a)
    (λ d h. gcd-both b a d (dvd_trans d h (gcd-right a b)) (dvd_trans d h (gcd-left a b)))
    (λ d h. gcd-both a b d (dvd_trans d h (gcd-right b a)) (dvd_trans d h (gcd-left b a)))
