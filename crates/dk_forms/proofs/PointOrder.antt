-- The order of points, and the least and the greatest of some.
use Rattle.std.specs.Prelude.{[], ◌≡◌, ℤ, ◌<ℤ◌, ◌≤ℤ◌, ◌⊎◌, int_lt, int_le, Bool, true, false, if◌then◌else◌, List, ◌∷◌, fold, refl}
use Rattle.std.specs.Ordering.{int_eq}
use Rattle.std.proofs.Common.{sym, ap, ◌∙◌, subst, arith, inl, inr}
use Rattle.std.proofs.lemmas.Bool.Decides.{Decides-int_eq}
use Rattle.std.proofs.lemmas.Int.{ints, by_lt_z}
use Rattle.dk_forms.specs.Plane.{Before, greater, is_before, lesser}
use Rattle.dk_forms.specs.Laws.{IsIn}
use Rattle.dk_arith.proofs.Choice.{choice}

pub before_same : (p : ℤ × ℤ × ℤ) → Before p p
before_same p = inr (refl, inr (refl, omega (arith, ints)))

same_point : (p q : ℤ × ℤ × ℤ) → p.0 ≡ q.0 → p.1 ≡ q.1 → p.2 ≡ q.2 → p ≡ q
same_point p q e f g = ap (λ a. (a, p.1, p.2)) e ∙ ap (λ b. (q.0, b, p.2)) f ∙ ap (λ c. (q.0, q.1, c)) g

pub before_antisymmetric : (p q : ℤ × ℤ × ℤ) → Before p q → Before q p → p ≡ q
before_antisymmetric p q h k =
    elim h as (λ _. p ≡ q) [
      | inl a ↦ elim k as (λ _. p ≡ q) [ inl b ↦ absurd (omega (arith, ints)) | inr b ↦ let b0 = b.0 in absurd (omega (arith, ints)) ]
      | inr a ↦ let a0 = a.0 in elim k as (λ _. p ≡ q) [
        | inl b ↦ absurd (omega (arith, ints))
        | inr b ↦ elim a.1 as (λ _. p ≡ q) [
          | inl c ↦ elim b.1 as (λ _. p ≡ q) [ inl d ↦ absurd (omega (arith, ints)) | inr d ↦ let d0 = d.0 in absurd (omega (arith, ints)) ]
          | inr c ↦ let c0 = c.0 in let c1 = c.1 in elim b.1 as (λ _. p ≡ q) [
            | inl d ↦ absurd (omega (arith, ints))
            | inr d ↦ let d1 = d.1 in same_point p q a0 c0 (omega (arith, ints))
          ]
        ]
      ]
    ]

pub before_transitive : (p q r : ℤ × ℤ × ℤ) → Before p q → Before q r → Before p r
before_transitive p q r h k =
    elim h as (λ _. Before p r) [
      | inl a ↦ elim k as (λ _. Before p r) [ inl b ↦ inl (omega (arith, ints)) | inr b ↦ let b0 = b.0 in inl (omega (arith, ints)) ]
      | inr a ↦ let a0 = a.0 in elim k as (λ _. Before p r) [
        | inl b ↦ inl (omega (arith, ints))
        | inr b ↦ inr (
          a0 ∙ b.0,
          elim a.1 as (λ _. (p.1 <ℤ r.1) ⊎ ((p.1 ≡ r.1) × (p.2 ≤ℤ r.2))) [
            | inl c ↦ elim b.1 as (λ _. (p.1 <ℤ r.1) ⊎ ((p.1 ≡ r.1) × (p.2 ≤ℤ r.2))) [ inl d ↦ inl (omega (arith, ints)) | inr d ↦ let d0 = d.0 in inl (omega (arith, ints)) ]
            | inr c ↦ let c0 = c.0 in let c1 = c.1 in elim b.1 as (λ _. (p.1 <ℤ r.1) ⊎ ((p.1 ≡ r.1) × (p.2 ≤ℤ r.2))) [
              | inl d ↦ inl (omega (arith, ints))
              | inr d ↦ let d1 = d.1 in inr (c0 ∙ d.0, omega (arith, ints))
            ]
          ],
        )
      ]
    ]

lt_or : (a b : ℤ) → ((a <ℤ b) × (int_lt a b ≡ true)) ⊎ ((b ≤ℤ a) × (int_lt a b ≡ false))
lt_or a b = by_lt_z a b (λ h. inl (h, grind (arith, ints))) (λ h. inr (h, grind (arith, ints)))

le_or : (a b : ℤ) → ((a ≤ℤ b) × (int_le a b ≡ true)) ⊎ ((b <ℤ a) × (int_le a b ≡ false))
le_or a b = by_lt_z b a (λ h. inr (h, grind (arith, ints))) (λ h. inl (h, grind (arith, ints)))

-- the test is right, and one of two points isn't after the other
pub before_or : (p q : ℤ × ℤ × ℤ) → (Before p q × (is_before p q ≡ true)) ⊎ (Before q p × (is_before p q ≡ false))
before_or p q =
    let Goal : Type 0 = (Before p q × (is_before p q ≡ true)) ⊎ (Before q p × (is_before p q ≡ false)) in
    let inner : Bool = if int_eq p.1 q.1 then int_le p.2 q.2 else int_lt p.1 q.1 in
    elim (choice (int_eq p.0 q.0) (Decides-int_eq p.0 q.0) inner (int_lt p.0 q.0)) as (λ _. Goal) [
      | inr h ↦ let ne = h.0 in elim (lt_or p.0 q.0) as (λ _. Goal) [
        | inl k ↦ inl (inl k.0, h.1 ∙ k.1)
        | inr k ↦ let k0 = k.0 in inr (inl (other p.0 q.0 ne k0), h.1 ∙ k.1)
      ]
      | inl h ↦ elim (choice (int_eq p.1 q.1) (Decides-int_eq p.1 q.1) (int_le p.2 q.2) (int_lt p.1 q.1)) as (λ _. Goal) [
        | inr k ↦ let ne = k.0 in elim (lt_or p.1 q.1) as (λ _. Goal) [
          | inl l ↦ inl (inr (h.0, inl l.0), h.1 ∙ k.1 ∙ l.1)
          | inr l ↦ let l0 = l.0 in inr (inr (sym h.0, inl (other p.1 q.1 ne l0)), h.1 ∙ k.1 ∙ l.1)
        ]
        | inl k ↦ elim (le_or p.2 q.2) as (λ _. Goal) [
          | inl l ↦ inl (inr (h.0, inr (k.0, l.0)), h.1 ∙ k.1 ∙ l.1)
          | inr l ↦ let l0 = l.0 in inr (inr (sym h.0, inr (sym k.0, omega (arith, ints))), h.1 ∙ k.1 ∙ l.1)
        ]
      ]
    ]
  where
    other : (a b : ℤ) → (a ≡ b → ⊥) → b ≤ℤ a → b <ℤ a
    other a b ne l = by_lt_z b a (λ h. h) (λ h. absurd (ne (omega (arith, ints))))

pub lesser_or : (p q : ℤ × ℤ × ℤ) → (Before p q × (lesser p q ≡ p) × (greater p q ≡ q)) ⊎ (Before q p × (lesser p q ≡ q) × (greater p q ≡ p))
lesser_or p q =
    elim (before_or p q) as (λ _. (Before p q × (lesser p q ≡ p) × (greater p q ≡ q)) ⊎ (Before q p × (lesser p q ≡ q) × (greater p q ≡ p))) [
      | inl h ↦ inl (h.0, ap (λ b. if b then p else q) h.1, ap (λ b. if b then q else p) h.1)
      | inr h ↦ inr (h.0, ap (λ b. if b then p else q) h.1, ap (λ b. if b then q else p) h.1)
    ]

-- the least of some points is one of them, and not after any
pub record IsEnd (After : ℤ × ℤ × ℤ → ℤ × ℤ × ℤ → Type 0) (points : List (ℤ × ℤ × ℤ)) (p : ℤ × ℤ × ℤ) : Type 0 where
  pub one : IsIn p points
  pub end : (v : ℤ × ℤ × ℤ) → IsIn v points → After p v

module _ (R : ℤ × ℤ × ℤ → ℤ × ℤ × ℤ → Type 0) (pick : ℤ × ℤ × ℤ → ℤ × ℤ × ℤ → ℤ × ℤ × ℤ)
    (same : (p : ℤ × ℤ × ℤ) → R p p) (trans : (p q r : ℤ × ℤ × ℤ) → R p q → R q r → R p r)
    (picks : (p q : ℤ × ℤ × ℤ) → (R p q × (pick p q ≡ p)) ⊎ (R q p × (pick p q ≡ q))) where
  pub picked : (p : ℤ × ℤ × ℤ) (ps : List (ℤ × ℤ × ℤ)) → IsEnd R (p ∷ ps) (fold pick p ps)
  picked p [] = record { one = inl refl; end = λ v i. elim i as (λ _. R p v) [ inl e ↦ subst (R p) (sym e) (same p) | inr z ↦ absurd z ] }
  picked p (q ∷ qs) =
      let r = picked (pick p q) qs in
      elim (picks p q) as (λ _. IsEnd R (p ∷ q ∷ qs) (fold pick (pick p q) qs)) [
        | inl h ↦
            let f = r.end (pick p q) (inl refl) in
            let fp = subst (R (fold pick (pick p q) qs)) h.1 f in
            record {
              one = elim r.one as (λ _. IsIn (fold pick (pick p q) qs) (p ∷ q ∷ qs)) [ inl e ↦ inl (e ∙ h.1) | inr i ↦ inr (inr i) ];
              end = λ v i. elim i as (λ _. R (fold pick (pick p q) qs) v) [
                | inl e ↦ subst (R _) (sym e) fp
                | inr j ↦ elim j as (λ _. R (fold pick (pick p q) qs) v) [ inl e ↦ subst (R _) (sym e) (trans _ p q fp h.0) | inr k ↦ r.end v (inr k) ]
              ];
            }
        | inr h ↦
            let f = r.end (pick p q) (inl refl) in
            let fq = subst (R (fold pick (pick p q) qs)) h.1 f in
            record {
              one = elim r.one as (λ _. IsIn (fold pick (pick p q) qs) (p ∷ q ∷ qs)) [ inl e ↦ inr (inl (e ∙ h.1)) | inr i ↦ inr (inr i) ];
              end = λ v i. elim i as (λ _. R (fold pick (pick p q) qs) v) [
                | inl e ↦ subst (R _) (sym e) (trans _ q p fq h.0)
                | inr j ↦ elim j as (λ _. R (fold pick (pick p q) qs) v) [ inl e ↦ subst (R _) (sym e) fq | inr k ↦ r.end v (inr k) ]
              ];
            }
      ]

pub least_is : (p : ℤ × ℤ × ℤ) (ps : List (ℤ × ℤ × ℤ)) → IsEnd Before (p ∷ ps) (fold lesser p ps)
least_is p ps = picked Before lesser before_same before_transitive (λ a b. elim (lesser_or a b) as (λ _. (Before a b × (lesser a b ≡ a)) ⊎ (Before b a × (lesser a b ≡ b))) [ inl h ↦ inl (h.0, h.1) | inr h ↦ inr (h.0, h.1) ]) p ps

pub greatest_is : (p : ℤ × ℤ × ℤ) (ps : List (ℤ × ℤ × ℤ)) → IsEnd (λ a b. Before b a) (p ∷ ps) (fold greater p ps)
greatest_is p ps = picked (λ a b. Before b a) greater before_same (λ a b c h k. before_transitive c b a k h) (λ a b. elim (lesser_or a b) as (λ _. (Before b a × (greater a b ≡ a)) ⊎ (Before a b × (greater a b ≡ b))) [ inl h ↦ inr (h.0, h.2) | inr h ↦ inl (h.0, h.2) ]) p ps
