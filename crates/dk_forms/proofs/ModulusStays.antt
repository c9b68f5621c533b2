-- When a value leaves a modulus as it is: when it leaves the remainder.
use Rattle.std.specs.Prelude.{[], ◌≡◌, ◌<◌, ◌≤◌, ◌==◌, ◌↔◌, ℕ, ℤ, pos, unsigned_abs, Bool, true, false, if◌then◌else◌, List, ◌∷◌, refl}
use Prim.Native.Nat.{◌∣◌}
use Rattle.std.specs.Bool.{Decides}
use Rattle.std.specs.Ordering.{int_eq}
use Rattle.std.proofs.Common.{sym, ap, ◌∙◌, subst, arith, inl, inr}
use Rattle.std.proofs.lemmas.Bool.{cases_Bool, cases_eq, eqb-true}
use Rattle.std.proofs.lemmas.Bool.Decides.{Decides-int_eq}
use Rattle.std.proofs.lemmas.Int.{ints}
use Rattle.dk_arith.proofs.GcdLaws.{gcd-right}
use Rattle.dk_arith.specs.Gcd.{gcd}
use Rattle.dk_forms.proofs.ModulusLaws.{below, class-fact, class-one, class_meet-value, class_meet-values, class_of-one, join-value_within, modulus_laws, same_small}
use Rattle.dk_forms.specs.Modulus.{IsModulusState, apart, class, modulus_join, modulus_of, modulus_state, remainder}
use Rattle.dk_forms.specs.declared.states.State.{State}
use Rattle.dk_forms.specs.declared.states.State.TheVariants.{Empty, One, Modulus}

-- the modulus of a state: 0 of one value, 1 where there is none
abbrev number_of : State → ℕ
number_of (One v) = 0
number_of (Modulus m r) = m
number_of _ = 1

number : (g : ℕ) (r : ℤ) → number_of (modulus_state (class g r)) ≡ g
number g r =
    elim (cases_eq g 1) as (λ _. number_of (modulus_state (class g r)) ≡ g) [
      | inl e ↦ ap (λ m. number_of (modulus_state (class m r))) e ∙ ap (λ k. number_of (modulus_state k)) (class-one r) ∙ sym e
      | inr ne ↦
          let x = remainder g r in
          ap (λ k. number_of (modulus_state k)) (class-fact g r ne)
          ∙ elim (cases_Bool (g == 0)) as (λ _. number_of (if g == 0 then One x else Modulus g (unsigned_abs x)) ≡ g) [
            | inl t ↦ ap (λ b. number_of (if b then One x else Modulus g (unsigned_abs x))) t ∙ sym (eqb-true g 0 t)
            | inr f ↦ ap (λ b. number_of (if b then One x else Modulus g (unsigned_abs x))) f
          ]
    ]

one_of : (x : ℤ) → modulus_of (x ∷ []) ≡ One x
one_of x = ap modulus_state (class_of-one x)

abbrev IsNoState : State → Type 0
IsNoState Empty = ⊥
IsNoState _ = Unit {0}

pub empty_moves : (x : ℤ) → modulus_join Empty (modulus_of (x ∷ [])) ≡ Empty → ⊥
empty_moves x e = subst IsNoState (sym (ap (modulus_join Empty) (one_of x)) ∙ e) tt

pub one_stays : (v w : ℤ) → Decides (int_eq v w) (modulus_join (One v) (modulus_of (w ∷ [])) ≡ One v)
one_stays v w = (to, from)
  where
    to : int_eq v w ≡ true → modulus_join (One v) (modulus_of (w ∷ [])) ≡ One v
    to h = ap (modulus_join (One v)) (one_of w) ∙ subst (λ x. modulus_join (One v) (One x) ≡ One v) ((Decides-int_eq v w).0 h) (modulus_laws.idem (One v) tt)

    from : modulus_join (One v) (modulus_of (w ∷ [])) ≡ One v → int_eq v w ≡ true
    from k =
        let near : apart v w ≡ 0 = sym (number (apart v w) v) ∙ ap number_of (ap modulus_state (sym (class_meet-values v w)) ∙ ap (modulus_join (One v)) (sym (one_of w)) ∙ k) in
        (Decides-int_eq v w).1 (omega (arith, ints, near))

pub class_stays : (m r : ℕ) (w : ℤ) → IsModulusState (Modulus m r) → (remainder m w ≡ pos r) ↔ (modulus_join (Modulus m r) (modulus_of (w ∷ [])) ≡ Modulus m r)
class_stays m r w p = (to, from)
  where
    to : remainder m w ≡ pos r → modulus_join (Modulus m r) (modulus_of (w ∷ [])) ≡ Modulus m r
    to h = ap (modulus_join (Modulus m r)) (one_of w) ∙ join-value_within m r w p h

    from : modulus_join (Modulus m r) (modulus_of (w ∷ [])) ≡ Modulus m r → remainder m w ≡ pos r
    from k =
        let d = apart (pos r) (remainder m w) in
        let g : gcd m d ≡ m =
        sym (number (gcd m d) (pos r)) ∙ ap number_of (ap modulus_state (sym (class_meet-value m (pos r) w)) ∙ ap (modulus_join (Modulus m r)) (sym (one_of w)) ∙ k) in
        let low = p.0 in
        let b = below m w (omega (arith, low)) in
        let near : m ∣ apart (pos r) (pos b.0) = subst (λ x. m ∣ apart (pos r) x) b.2 (subst (λ n. n ∣ d) g (gcd-right m d)) in
        b.2 ∙ ap pos (sym (same_small m r b.0 p.1 b.1 near))
