-- The laws of the form modulus.
use Rattle.std.specs.Prelude.{[], ◌≡◌, ℕ, ◌+◌, ◌-◌, ◌*◌, ◌/◌, ◌%◌, ◌<◌, ◌≤◌, ◌==◌, ℤ, pos, negsuc, ◌≤ℤ◌, ◌<ℤ◌, unsigned_abs, List, ◌∷◌, map, ◌⊎◌, if◌then◌else◌, refl}
use Prim.Native.Nat.{◌∣◌}
use Rattle.std.specs.Int.{int_rem_euclid}
use Rattle.std.proofs.Common.{sym, ap, ◌∙◌, subst, arith, eqb, inl, inr}
use Rattle.std.proofs.lemmas.Bool.{cases_eq, eq-eqb, ne_eqb, cond-true, cond-false}
use Rattle.std.proofs.lemmas.Int.{ints, by_lt_z}
use Rattle.std.proofs.lemmas.Nat.Gcd.{dvd_refl, dvd-zero, dvd_trans, le_of_dvd}
use Rattle.std.proofs.Math.Nat.{dvd_of_mod-eq-zero, dvd-add, dvd-add_iff_left, eq-one_of_dvd-one, eq-zero_of_zero-dvd, dvd-mul_right, mod-eq_of_lt}
use Rattle.dk_forms.specs.Known.{IfFact, Known, both, broken, fact, nothing}
use Rattle.dk_forms.specs.Modulus.{IsModulusState, apart, class, class_meet, class_of, gcd3, gcd_of_all, modulus_join, modulus_known, modulus_of, modulus_state, remainder}
use Rattle.dk_forms.specs.Laws.{JoinLaws, SummaryLaws}
use Rattle.dk_forms.proofs.Knowns.{MeetLaws, laws_of_states}
use Rattle.dk_arith.specs.Gcd.{gcd}
use Rattle.dk_arith.proofs.GcdLaws.{gcd-both, gcd-left, gcd-right, gcd-zero, same_divisors}
use Rattle.dk_forms.proofs.Summaries.{summary_from}
use Rattle.dk_forms.specs.declared.states.State.{State}
use Rattle.dk_forms.specs.declared.states.State.TheVariants.{Empty, Broken, One, Modulus}

-- a modulus other than 1, and the remainder of it
pub record IsClass (a : ℕ × ℤ) : Type 0 where
  pub not_one : a.0 ≡ 1 → ⊥
  pub reduced : remainder a.0 a.1 ≡ a.1

-- what divides all three
pub record Divides3 (d a b c : ℕ) : Type 0 where
  pub first : d ∣ a
  pub second : d ∣ b
  pub third : d ∣ c

to3 : (d a b c : ℕ) → d ∣ gcd3 a b c → Divides3 d a b c
to3 d a b c h =
    let left = dvd_trans d h (gcd-left (gcd a b) c) in
    record { first = dvd_trans d left (gcd-left a b); second = dvd_trans d left (gcd-right a b); third = dvd_trans d h (gcd-right (gcd a b) c) }

from3 : (d a b c : ℕ) → Divides3 d a b c → d ∣ gcd3 a b c
from3 d a b c h = gcd-both (gcd a b) c d (gcd-both a b d h.first h.second) h.third

-- ---- numbers that are alike by a modulus
apart-same : (d : ℕ) (x : ℤ) → d ∣ apart x x
apart-same d x = let e : apart x x ≡ 0 = omega (arith, ints) in subst (λ k. d ∣ k) (sym e) (dvd-zero d)

apart-swap : (d : ℕ) (x y : ℤ) → d ∣ apart x y → d ∣ apart y x
apart-swap d x y h = let e : apart x y ≡ apart y x = omega (arith, ints) in subst (λ k. d ∣ k) e h

apart-cases : (x y z : ℤ) → (apart x z ≡ apart x y + apart y z) ⊎ ((apart x y ≡ apart x z + apart y z) ⊎ (apart y z ≡ apart x z + apart x y))
apart-cases x y z =
    let Goal : Type 0 = (apart x z ≡ apart x y + apart y z) ⊎ ((apart x y ≡ apart x z + apart y z) ⊎ (apart y z ≡ apart x z + apart x y)) in
    by_lt_z {P = Goal} x y
    (λ xy. by_lt_z {P = Goal} y z (λ yz. inl (omega (arith, ints)))
    (λ zy. by_lt_z {P = Goal} x z (λ xz. inr (inl (omega (arith, ints)))) (λ zx. inr (inr (omega (arith, ints))))))
    (λ yx. by_lt_z {P = Goal} y z
    (λ yz. by_lt_z {P = Goal} x z (λ xz. inr (inr (omega (arith, ints)))) (λ zx. inr (inl (omega (arith, ints)))))
    (λ zy. inl (omega (arith, ints))))

apart_trans : (d : ℕ) (x y z : ℤ) → d ∣ apart x y → d ∣ apart y z → d ∣ apart x z
apart_trans d x y z p q =
    elim (apart-cases x y z) as (λ _. d ∣ apart x z) [
      | inl e ↦ subst (λ k. d ∣ k) (sym e) (dvd-add d p q)
      | inr r ↦ elim r as (λ _. d ∣ apart x z) [
        | inl e ↦ (dvd-add_iff_left d q).1 (subst (λ k. d ∣ k) e p)
        | inr e ↦ (dvd-add_iff_left d p).1 (subst (λ k. d ∣ k) e q)
      ]
    ]

small_multiple : (m k : ℕ) → m ∣ k → k < m → k ≡ 0
small_multiple m k h lt =
    elim (cases_eq k 0) as (λ _. k ≡ 0) [ inl e ↦ e | inr ne ↦ absurd (let p : 0 < k = omega arith in let l : m ≤ k = le_of_dvd p h in omega arith) ]

-- the remainder is below the modulus, and alike
pub remainder-zero : (x : ℤ) → remainder 0 x ≡ x
unfolding remainder
remainder-zero x = refl

pub remainder-pos : (m : ℕ) (x : ℤ) → 0 < m → remainder m x ≡ int_rem_euclid x (pos m)
unfolding remainder
remainder-pos m x h = cond-false (eqb m 0) x (int_rem_euclid x (pos m)) (ne_eqb m 0 (omega arith))

alike_pos : (m : ℕ) (x : ℤ) → 0 < m → m ∣ apart x (int_rem_euclid x (pos m))
alike_pos m (pos a) h =
    let e : apart (pos a) (pos (a % m)) ≡ m * (a / m) = omega (arith, ints) in
    subst (λ k. m ∣ k) (sym e) (dvd-mul_right m (a / m))
alike_pos m (negsuc a) h =
    let e : apart (negsuc a) (pos (m - 1 - a % m)) ≡ m * (a / m + 1) = omega (arith, ints) in
    subst (λ k. m ∣ k) (sym e) (dvd-mul_right m (a / m + 1))

alike : (m : ℕ) (x : ℤ) → m ∣ apart x (remainder m x)
alike m x =
    elim (cases_eq m 0) as (λ _. m ∣ apart x (remainder m x)) [
      | inl e ↦ subst (λ k. k ∣ apart x (remainder k x)) (sym e) (subst (λ y. 0 ∣ apart x y) (sym (remainder-zero x)) (apart-same 0 x))
      | inr ne ↦ let h : 0 < m = omega arith in subst (λ y. m ∣ apart x y) (sym (remainder-pos m x h)) (alike_pos m x h)
    ]

below_pos : (m : ℕ) (x : ℤ) → 0 < m → (k : ℕ) × (k < m) × (int_rem_euclid x (pos m) ≡ pos k)
below_pos m (pos a) h = (a % m, omega arith, refl)
below_pos m (negsuc a) h = (m - 1 - a % m, omega arith, refl)

pub below : (m : ℕ) (x : ℤ) → 0 < m → (k : ℕ) × (k < m) × (remainder m x ≡ pos k)
below m x h = let b = below_pos m x h in (b.0, b.1, remainder-pos m x h ∙ b.2)

pub same_small : (m u v : ℕ) → u < m → v < m → m ∣ apart (pos u) (pos v) → u ≡ v
same_small m u v p q h =
    let lt : apart (pos u) (pos v) < m = omega (arith, ints) in
    let z : apart (pos u) (pos v) ≡ 0 = small_multiple m (apart (pos u) (pos v)) h lt in
    omega (arith, ints)

same_remainder : (m : ℕ) (x y : ℤ) → m ∣ apart x y → remainder m x ≡ remainder m y
same_remainder m x y h =
    elim (cases_eq m 0) as (λ _. remainder m x ≡ remainder m y) [
      | inl e ↦ let z : apart x y ≡ 0 = eq-zero_of_zero-dvd (subst (λ k. k ∣ apart x y) e h) in let same : x ≡ y = omega (arith, ints) in ap (remainder m) same
      | inr ne ↦
          let p : 0 < m = omega arith in
          let a = below m x p in
          let b = below m y p in
          let near : m ∣ apart (remainder m x) (remainder m y) =
          apart_trans m (remainder m x) x (remainder m y) (apart-swap m x (remainder m x) (alike m x)) (apart_trans m x y (remainder m y) h (alike m y)) in
          let near' : m ∣ apart (pos a.0) (pos b.0) = subst (λ r. m ∣ apart r (pos b.0)) a.2 (subst (λ r. m ∣ apart (remainder m x) r) b.2 near) in
          a.2 ∙ ap pos (same_small m a.0 b.0 a.1 b.1 near') ∙ sym b.2
    ]

-- ---- classes
pub class-one : (x : ℤ) → class 1 x ≡ broken
unfolding class
class-one x = refl

pub class-fact : (m : ℕ) (x : ℤ) → (m ≡ 1 → ⊥) → class m x ≡ fact (m, remainder m x)
unfolding class
class-fact m x h = cond-false (eqb m 1) broken (fact (m, remainder m x)) (ne_eqb m 1 h)

class-same : (m : ℕ) (x y : ℤ) → m ∣ apart x y → class m x ≡ class m y
unfolding class
class-same m x y h = ap (λ r. if m == 1 then broken else fact (m, r)) (same_remainder m x y h)

-- a divisor of the modulus and of the distance doesn't see the remainder taken
same3-left : (g p : ℕ) (r t : ℤ) → gcd3 g p (apart (remainder g r) t) ≡ gcd3 g p (apart r t)
same3-left g p r t =
    same_divisors (gcd3 g p (apart (remainder g r) t)) (gcd3 g p (apart r t))
    (λ d h. let k = to3 d g p (apart (remainder g r) t) h in from3 d g p (apart r t) (record { first = k.first; second = k.second; third = apart_trans d r (remainder g r) t (dvd_trans d k.first (alike g r)) k.third }))
    (λ d h. let k = to3 d g p (apart r t) h in from3 d g p (apart (remainder g r) t) (record { first = k.first; second = k.second; third = apart_trans d (remainder g r) r t (apart-swap d r (remainder g r) (dvd_trans d k.first (alike g r))) k.third }))

same3-right : (m g : ℕ) (r s : ℤ) → gcd3 m g (apart r (remainder g s)) ≡ gcd3 m g (apart r s)
same3-right m g r s =
    same_divisors (gcd3 m g (apart r (remainder g s))) (gcd3 m g (apart r s))
    (λ d h. let k = to3 d m g (apart r (remainder g s)) h in from3 d m g (apart r s) (record { first = k.first; second = k.second; third = apart_trans d r (remainder g s) s k.third (apart-swap d s (remainder g s) (dvd_trans d k.second (alike g s))) }))
    (λ d h. let k = to3 d m g (apart r s) h in from3 d m g (apart r (remainder g s)) (record { first = k.first; second = k.second; third = apart_trans d r s (remainder g s) k.third (dvd_trans d k.second (alike g s)) }))

divides-one : (g : ℕ) → g ∣ 1 → g ≡ 1
divides-one g h = eq-one_of_dvd-one h

meet-left : (g p : ℕ) (r t : ℤ) → both class_meet (class g r) (fact (p, t)) ≡ class (gcd3 g p (apart r t)) r
meet-left g p r t =
    elim (cases_eq g 1) as (λ _. both class_meet (class g r) (fact (p, t)) ≡ class (gcd3 g p (apart r t)) r) [
      | inl e ↦
          let one : gcd3 g p (apart r t) ≡ 1 = divides-one _ (subst (λ k. gcd3 g p (apart r t) ∣ k) e (to3 _ g p (apart r t) (dvd_refl _)).first) in
          ap (λ k. both class_meet (class k r) (fact (p, t))) e ∙ ap (λ k. both class_meet k (fact (p, t))) (class-one r) ∙ sym (ap (λ k. class k r) one ∙ class-one r)
      | inr ne ↦
          let h = gcd3 g p (apart r t) in
          ap (λ k. both class_meet k (fact (p, t))) (class-fact g r ne)
          ∙ ap (λ k. class k (remainder g r)) (same3-left g p r t)
          ∙ class-same h (remainder g r) r (apart-swap h r (remainder g r) (dvd_trans h (to3 h g p (apart r t) (dvd_refl h)).first (alike g r)))
    ]

meet-right : (m g : ℕ) (r s : ℤ) → both class_meet (fact (m, r)) (class g s) ≡ class (gcd3 m g (apart r s)) r
meet-right m g r s =
    elim (cases_eq g 1) as (λ _. both class_meet (fact (m, r)) (class g s) ≡ class (gcd3 m g (apart r s)) r) [
      | inl e ↦
          let one : gcd3 m g (apart r s) ≡ 1 = divides-one _ (subst (λ k. gcd3 m g (apart r s) ∣ k) e (to3 _ m g (apart r s) (dvd_refl _)).second) in
          ap (λ k. both class_meet (fact (m, r)) (class k s)) e ∙ ap (both class_meet (fact (m, r))) (class-one s) ∙ sym (ap (λ k. class k r) one ∙ class-one r)
      | inr ne ↦ ap (both class_meet (fact (m, r))) (class-fact g s ne) ∙ ap (λ k. class k r) (same3-right m g r s)
    ]

class_fit : (m : ℕ) (x : ℤ) → IfFact IsClass (class m x)
class_fit m x =
    elim (cases_eq m 1) as (λ _. IfFact IsClass (class m x)) [
      | inl e ↦ subst (IfFact IsClass) (sym (ap (λ k. class k x) e ∙ class-one x)) tt
      | inr ne ↦ subst (IfFact IsClass) (sym (class-fact m x ne))
          (record { not_one = ne; reduced = same_remainder m (remainder m x) x (apart-swap m x (remainder m x) (alike m x)) })
    ]

five : (m n p : ℕ) (r s t : ℤ) → gcd3 (gcd3 m n (apart r s)) p (apart r t) ≡ gcd3 m (gcd3 n p (apart s t)) (apart r s)
five m n p r s t =
    same_divisors (gcd3 (gcd3 m n (apart r s)) p (apart r t)) (gcd3 m (gcd3 n p (apart s t)) (apart r s))
    (λ d h. let k = to3 d (gcd3 m n (apart r s)) p (apart r t) h in let l = to3 d m n (apart r s) k.first in
    from3 d m (gcd3 n p (apart s t)) (apart r s) (record {
      first = l.first;
      third = l.third;
      second = from3 d n p (apart s t) (record { first = l.second; second = k.second; third = apart_trans d s r t (apart-swap d r s l.third) k.third });
    }))
    (λ d h. let k = to3 d m (gcd3 n p (apart s t)) (apart r s) h in let l = to3 d n p (apart s t) k.second in
    from3 d (gcd3 m n (apart r s)) p (apart r t) (record {
      second = l.second;
      third = apart_trans d r s t k.third l.third;
      first = from3 d m n (apart r s) (record { first = k.first; second = l.first; third = k.third });
    }))

-- a class that lies in another
meet-within : (a b : ℕ × ℤ) → IsClass a → a.0 ∣ b.0 → a.0 ∣ apart a.1 b.1 → class_meet a b ≡ fact a
meet-within a b p near within =
    let e : gcd3 a.0 b.0 (apart a.1 b.1) ≡ a.0 =
    same_divisors (gcd3 a.0 b.0 (apart a.1 b.1)) a.0
    (λ d h. (to3 d a.0 b.0 (apart a.1 b.1) h).first)
    (λ d h. from3 d a.0 b.0 (apart a.1 b.1) (record { first = h; second = dvd_trans d h near; third = dvd_trans d h within })) in
    ap (λ k. class k a.1) e ∙ class-fact a.0 a.1 p.not_one ∙ ap (λ r. fact (a.0, r)) p.reduced

pub class_laws : MeetLaws IsClass class_meet
class_laws = record {
  closed = λ a b p q. class_fit (gcd3 a.0 b.0 (apart a.1 b.1)) a.1;
  assoc = λ a b c p q r.
      meet-left (gcd3 a.0 b.0 (apart a.1 b.1)) c.0 a.1 c.1 ∙ ap (λ k. class k a.1) (five a.0 b.0 c.0 a.1 b.1 c.1)
      ∙ sym (meet-right a.0 (gcd3 b.0 c.0 (apart b.1 c.1)) a.1 b.1);
  comm = λ a b p q.
      let e : gcd3 a.0 b.0 (apart a.1 b.1) ≡ gcd3 b.0 a.0 (apart b.1 a.1) =
      same_divisors (gcd3 a.0 b.0 (apart a.1 b.1)) (gcd3 b.0 a.0 (apart b.1 a.1))
      (λ d h. let k = to3 d a.0 b.0 (apart a.1 b.1) h in from3 d b.0 a.0 (apart b.1 a.1) (record { first = k.second; second = k.first; third = apart-swap d a.1 b.1 k.third }))
      (λ d h. let k = to3 d b.0 a.0 (apart b.1 a.1) h in from3 d a.0 b.0 (apart a.1 b.1) (record { first = k.second; second = k.first; third = apart-swap d b.1 a.1 k.third })) in
      let g = gcd3 b.0 a.0 (apart b.1 a.1) in
      ap (λ k. class k a.1) e ∙ class-same g a.1 b.1 (apart-swap g b.1 a.1 (to3 g b.0 a.0 (apart b.1 a.1) (dvd_refl g)).third);
  idem = λ a p. meet-within a a p (dvd_refl a.0) (apart-same a.0 a.1);
}

-- ---- the class of a list
all-divides : (d : ℕ) (x y : ℤ) (ws : List ℤ) → d ∣ apart x y → d ∣ gcd_of_all (map (apart x) ws) → d ∣ gcd_of_all (map (apart y) ws)
all-divides d x y [] h k = dvd-zero d
all-divides d x y (w ∷ ws) h k =
    let first = dvd_trans d k (gcd-left (apart x w) (gcd_of_all (map (apart x) ws))) in
    let rest = dvd_trans d k (gcd-right (apart x w) (gcd_of_all (map (apart x) ws))) in
    gcd-both (apart y w) (gcd_of_all (map (apart y) ws)) d (apart_trans d y x w (apart-swap d x y h) first) (all-divides d x y ws h rest)

pub class_of-one : (v : ℤ) → class_of (v ∷ []) ≡ fact (0, v)
class_of-one v = class-fact 0 v (λ e. absurd (omega arith)) ∙ ap (λ r. fact (0, r)) (remainder-zero v)

pub class_of_fit : (vs : List ℤ) → IfFact IsClass (class_of vs)
class_of_fit [] = tt
class_of_fit (v ∷ vs) = class_fit (gcd_of_all (map (apart v) vs)) v

pub class_of_more : (v : ℤ) (vs : List ℤ) → class_of (v ∷ vs) ≡ both class_meet (class_of (v ∷ [])) (class_of vs)
class_of_more v [] = class_of-one v ∙ sym (ap (λ k. both class_meet k nothing) (class_of-one v))
class_of_more v (w ∷ ws) =
    let g = gcd_of_all (map (apart w) ws) in
    let e : gcd_of_all (map (apart v) (w ∷ ws)) ≡ gcd3 0 g (apart v w) =
    same_divisors (gcd_of_all (map (apart v) (w ∷ ws))) (gcd3 0 g (apart v w))
    (λ d h.
    let near = dvd_trans d h (gcd-left (apart v w) (gcd_of_all (map (apart v) ws))) in
    let rest = dvd_trans d h (gcd-right (apart v w) (gcd_of_all (map (apart v) ws))) in
    from3 d 0 g (apart v w) (record { first = dvd-zero d; second = all-divides d v w ws near rest; third = near }))
    (λ d h.
    let k = to3 d 0 g (apart v w) h in
    gcd-both (apart v w) (gcd_of_all (map (apart v) ws)) d k.third (all-divides d w v ws (apart-swap d v w k.third) k.second)) in
    ap (λ k. class k v) e ∙ sym (ap (λ k. both class_meet k (class_of (w ∷ ws))) (class_of-one v) ∙ meet-right 0 g v w)

-- ---- modulus
modulus_fits : (s : State) → IsModulusState s → IfFact IsClass (modulus_known s)
modulus_fits Empty p = tt
modulus_fits Broken p = tt
modulus_fits (One v) p = record { not_one = λ e. absurd (omega arith); reduced = remainder-zero v }
modulus_fits (Modulus m r) p =
    record { not_one = λ e. omega arith; reduced = remainder-pos m (pos r) (omega arith) ∙ ap pos (mod-eq_of_lt p.1) }
modulus_fits _ p = tt

modulus_back : (s : State) → IsModulusState s → modulus_state (modulus_known s) ≡ s
modulus_back Empty p = refl
modulus_back Broken p = refl
modulus_back (One v) p = refl
modulus_back (Modulus m r) p = cond-false (eqb m 0) (One (pos r)) (Modulus m r) (ne_eqb m 0 (λ e. omega arith))
modulus_back _ p = absurd p

-- a modulus from 2 on has its remainder
reduced_is : (a : ℕ × ℤ) → IsClass a → (a.0 ≡ 0 → ⊥) → (2 ≤ a.0) × (unsigned_abs a.1 < a.0) × (pos (unsigned_abs a.1) ≡ a.1)
reduced_is a c ne =
    let n1 : a.0 ≡ 1 → ⊥ = c.not_one in
    let b = below a.0 a.1 (omega arith) in
    let e : a.1 ≡ pos b.0 = sym c.reduced ∙ b.2 in
    let u : unsigned_abs a.1 ≡ b.0 = ap unsigned_abs e in
    let lt : b.0 < a.0 = b.1 in
    (omega arith, omega arith, ap pos u ∙ sym e)

modulus_proper : (k : Known (ℕ × ℤ)) → IfFact IsClass k → IsModulusState (modulus_state k)
modulus_proper nothing p = tt
modulus_proper broken p = tt
modulus_proper (fact a) p =
    elim (cases_eq a.0 0) as (λ _. IsModulusState (modulus_state (fact a))) [
      | inl e ↦ subst IsModulusState (sym (cond-true (eqb a.0 0) (One a.1) (Modulus a.0 (unsigned_abs a.1)) (eq-eqb a.0 0 e))) tt
      | inr ne ↦ let r = reduced_is a p ne in subst IsModulusState (sym (cond-false (eqb a.0 0) (One a.1) (Modulus a.0 (unsigned_abs a.1)) (ne_eqb a.0 0 ne))) (r.0, r.1)
    ]

modulus_again : (k : Known (ℕ × ℤ)) → IfFact IsClass k → modulus_known (modulus_state k) ≡ k
modulus_again nothing p = refl
modulus_again broken p = refl
modulus_again (fact a) p =
    elim (cases_eq a.0 0) as (λ _. modulus_known (modulus_state (fact a)) ≡ fact a) [
      | inl e ↦ ap modulus_known (cond-true (eqb a.0 0) (One a.1) (Modulus a.0 (unsigned_abs a.1)) (eq-eqb a.0 0 e)) ∙ ap (λ m. fact (m, a.1)) (sym e)
      | inr ne ↦ ap modulus_known (cond-false (eqb a.0 0) (One a.1) (Modulus a.0 (unsigned_abs a.1)) (ne_eqb a.0 0 ne)) ∙ ap (λ r. fact (a.0, r)) (reduced_is a p ne).2
    ]

pub modulus_laws : JoinLaws IsModulusState Empty Broken modulus_join
modulus_laws = laws_of_states IsModulusState IsClass modulus_known modulus_state modulus_fits modulus_back modulus_proper modulus_again refl refl class_laws

modulus_more : (v : ℤ) (vs : List ℤ) → modulus_of (v ∷ vs) ≡ modulus_join (modulus_of (v ∷ [])) (modulus_of vs)
modulus_more v vs =
    ap modulus_state (class_of_more v vs)
    ∙ sym (ap (λ k. modulus_state (both class_meet k (modulus_known (modulus_of vs)))) (modulus_again _ (class_of_fit (v ∷ [])))
    ∙ ap (λ k. modulus_state (both class_meet (class_of (v ∷ [])) k)) (modulus_again _ (class_of_fit vs)))

pub modulus_summary : SummaryLaws IsModulusState Empty modulus_join modulus_of
modulus_summary = summary_from modulus_laws (record { none = refl; one = λ v. modulus_proper _ (class_of_fit (v ∷ [])); more = modulus_more })

-- ---- what the code computes
pub remainder-natural : (m size : ℕ) (x : ℤ) → 0 < m → size ≡ unsigned_abs x → pos 0 ≤ℤ x → pos (size % m) ≡ remainder m x
remainder-natural m size (pos a) h e sign = ap (λ k. pos (k % m)) e ∙ sym (remainder-pos m (pos a) h)
remainder-natural m size (negsuc a) h e sign = absurd (omega (arith, ints))

pub remainder-negative : (m size : ℕ) (x : ℤ) → 0 < m → size ≡ unsigned_abs x → x <ℤ pos 0 → pos (m - 1 - (size - 1) % m) ≡ remainder m x
remainder-negative m size (pos a) h e sign = absurd (omega (arith, ints))
remainder-negative m size (negsuc a) h e sign =
    let rest : size - 1 ≡ a = omega (arith, ints) in
    ap (λ k. pos (m - 1 - k % m)) rest ∙ sym (remainder-pos m (negsuc a) h)

pub class-mod : (m r : ℕ) → 0 < m → class m (pos (r % m)) ≡ class m (pos r)
class-mod m r h = class-same m (pos (r % m)) (pos r) (apart-swap m (pos r) (pos (r % m)) (alike_pos m (pos r) h))

pub class-remainder : (m : ℕ) (x : ℤ) → class m (remainder m x) ≡ class m x
class-remainder m x = class-same m (remainder m x) x (apart-swap m x (remainder m x) (alike m x))

pub class-proper : (m r : ℕ) → IsModulusState (Modulus m r) → modulus_state (class m (pos r)) ≡ Modulus m r
class-proper m r p =
    let c : IsClass (m, pos r) = modulus_fits (Modulus m r) p in
    ap modulus_state (class-fact m (pos r) c.not_one ∙ ap (λ x. fact (m, x)) c.reduced) ∙ modulus_back (Modulus m r) p

-- two values are alike by their distance
pub class_meet-values : (v w : ℤ) → class_meet (0, v) (0, w) ≡ class (apart v w) v
class_meet-values v w =
    ap (λ g. class g v) (same_divisors (gcd3 0 0 (apart v w)) (apart v w)
    (λ d h. (to3 d 0 0 (apart v w) h).third)
    (λ d h. from3 d 0 0 (apart v w) (record { first = dvd-zero d; second = dvd-zero d; third = h })))

-- of a value, what is left of it by the modulus is enough
pub class_meet-value : (m : ℕ) (r w : ℤ) → class_meet (m, r) (0, w) ≡ class (gcd m (apart r (remainder m w))) r
class_meet-value m r w =
    let s = remainder m w in
    ap (λ g. class g r) (same_divisors (gcd3 m 0 (apart r w)) (gcd m (apart r s))
    (λ d h. let k = to3 d m 0 (apart r w) h in gcd-both m (apart r s) d k.first (apart_trans d r w s k.third (dvd_trans d k.first (alike m w))))
    (λ d h.
    let first = dvd_trans d h (gcd-left m (apart r s)) in
    let near = dvd_trans d h (gcd-right m (apart r s)) in
    from3 d m 0 (apart r w) (record { first = first; second = dvd-zero d; third = apart_trans d r s w near (apart-swap d w s (dvd_trans d first (alike m w))) })))

-- what lies in the class leaves it as it is
pub join-value_within : (m r : ℕ) (w : ℤ) → IsModulusState (Modulus m r) → remainder m w ≡ pos r → modulus_join (Modulus m r) (One w) ≡ Modulus m r
join-value_within m r w p e =
    ap modulus_state (meet-within (m, pos r) (0, w) (modulus_fits (Modulus m r) p) (dvd-zero m) (subst (λ x. m ∣ apart x w) e (apart-swap m w (remainder m w) (alike m w))))
    ∙ modulus_back (Modulus m r) p

pub join-class_within : (m r n s : ℕ) → IsModulusState (Modulus m r) → n % m ≡ 0 → s % m ≡ r → modulus_join (Modulus m r) (Modulus n s) ≡ Modulus m r
join-class_within m r n s p near within =
    let some : 0 < m = omega (arith, p.0) in
    ap modulus_state (meet-within (m, pos r) (n, pos s) (modulus_fits (Modulus m r) p)
    (dvd_of_mod-eq-zero m near)
    (subst (λ x. m ∣ apart (pos x) (pos s)) within (apart-swap m (pos s) (pos (s % m)) (alike_pos m (pos s) some))))
    ∙ modulus_back (Modulus m r) p

pub gcd_some : (m d : ℕ) → 0 < m → 0 < gcd m d
gcd_some m d h =
    elim (cases_eq (gcd m d) 0) as (λ _. 0 < gcd m d) [ inl e ↦ let z = (gcd-zero m d e).0 in absurd (omega arith) | inr ne ↦ omega arith ]
