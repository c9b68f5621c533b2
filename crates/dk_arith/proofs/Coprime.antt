-- Numbers without a common divisor.
use Rattle.std.specs.Prelude.{◌≡◌, ℕ, zero, suc, ◌+◌, ◌*◌, ◌%◌, ◌/◌, ◌<◌}
use Prim.Native.Nat.{◌∣◌}
use Rattle.std.specs.Int.{IsGcd}
use Rattle.std.proofs.Common.{sym, ap, ◌∙◌, subst, arith, inl, inr}
use Rattle.std.proofs.lemmas.Bool.{cases_eq}
use Rattle.std.proofs.lemmas.Nat.Gcd.{dvd-zero, IsGcd-from_zero, IsGcd-from_mod, same_from_IsGcd}
use Rattle.std.proofs.Math.Nat.{dvd-mul_left, dvd-mod_iff}
use Rattle.std.proofs.lemmas.Nat.{mod-mul-add, div-add-mod'}
use Rattle.dk_arith.proofs.GcdLaws.{IsGcd-gcd}
use Rattle.dk_arith.specs.Gcd.{gcd}

mod_of_multiples : (c a b : ℕ) → 0 < c → 0 < b → (c * a) % (c * b) ≡ c * (a % b)
mod_of_multiples c a b cp bp =
    let split : a / b * b + a % b ≡ a = div-add-mod' a b in
    let e : c * a ≡ a / b * (c * b) + c * (a % b) = omega (arith, ap (λ t. c * t) split) in
    let low : a % b < b = omega arith in
    let lt : c * (a % b) < c * b = grind arith in
    ap (λ t. t % (c * b)) e ∙ mod-mul-add (a / b) (c * b) (c * (a % b)) lt

-- Euclid's steps on multiples are the multiples of Euclid's steps
pub scaled : (c n a b g : ℕ) → 0 < c → b < n → IsGcd a b g → IsGcd (c * a) (c * b) (c * g)
scaled c zero a b g cp h is = absurd (omega arith)
scaled c (suc n) a b g cp h is =
    elim (cases_eq b 0) as (λ _. IsGcd (c * a) (c * b) (c * g)) [
      | inl e ↦
          let ga : g ≡ a = same_from_IsGcd a b g a is (IsGcd-from_zero a b e) in
          let z : c * b ≡ 0 = ap (λ t. c * t) e ∙ omega arith in
          subst (λ t. IsGcd (c * a) (c * b) (c * t)) (sym ga) (IsGcd-from_zero (c * a) (c * b) z)
      | inr ne ↦
          let p : 0 < b = omega arith in
          let lt : a % b < n = omega arith in
          let step : IsGcd b (a % b) g =
          (is.1, (dvd-mod_iff g is.1).1 is.0, (λ d db dm. is.2 d ((dvd-mod_iff d db).0 dm) db)) in
          let rec = scaled c n b (a % b) g cp lt step in
          let e : (c * a) % (c * b) ≡ c * (a % b) = mod_of_multiples c a b cp p in
          IsGcd-from_mod (c * a) (c * b) (c * g) (subst (λ t. IsGcd (c * b) t (c * g)) (sym e) rec)
    ]

-- what divides a multiple of b, and shares nothing with b, divides the factor
pub coprime_divides : (a b c : ℕ) → gcd a b ≡ 1 → a ∣ c * b → a ∣ c
coprime_divides a b c one h =
    elim (cases_eq c 0) as (λ _. a ∣ c) [
      | inl e ↦ subst (λ t. a ∣ t) (sym e) (dvd-zero a)
      | inr ne ↦
          let s = scaled c (suc b) a b (gcd a b) (omega arith) (omega arith) (IsGcd-gcd a b) in
          let d : a ∣ c * gcd a b = s.2 a (dvd-mul_left a c) h in
          let e : c * gcd a b ≡ c = ap (λ t. c * t) one ∙ omega arith in
          subst (λ t. a ∣ t) e d
    ]
