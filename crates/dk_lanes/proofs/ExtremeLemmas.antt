-- The least and the greatest number are numbers of the list, and bound it.
use Rattle.std.proofs.Common.{◌≡◌, ℤ, pos, ◌≤ℤ◌, ◌≤◌, suc, Some, List, [], ◌∷◌, length, get_or, fold, refl, sym, ap, ap₂, ◌∙◌, arith, inl, inr}
use Rattle.std.proofs.lemmas.Int.{fold-int_min_bounds, fold-int_min_reached, fold-int_max_bounds, fold-int_max_reached, ints, clamps}
use Rattle.std.proofs.lemmas.List.Elements.{All-cons}
use Rattle.std.specs.Int.{int_min, int_max}
use Rattle.std.specs.Prelude.{All, Contains, IfSome, ◌⊎◌}
use Rattle.dk_lanes.specs.Bounds.{bounds_of}

min_itself : (x : ℤ) → int_min x x ≡ x
min_itself x = omega (arith, clamps, ints)

max_itself : (x : ℤ) → int_max x x ≡ x
max_itself x = omega (arith, clamps, ints)

-- the first number may be looked at twice
pub bounds_are : (s : List ℤ) → 1 ≤ length s → (least greatest : ℤ) → least ≡ fold int_min (get_or s 0 (pos 0)) s → greatest ≡ fold int_max (get_or s 0 (pos 0)) s
    → (let pair : ℤ × ℤ = (least, greatest) in Some pair) ≡ bounds_of s
bounds_are [] some least greatest p q = absurd (omega arith)
bounds_are (x ∷ s) some least greatest p q =
    ap₂ (λ a b. let pair : ℤ × ℤ = (a, b) in Some pair)
    (p ∙ ap (λ y. fold int_min y s) (min_itself x))
    (q ∙ ap (λ y. fold int_max y s) (max_itself x))

reached : (x : ℤ) (s : List ℤ) (r : ℤ) → (r ≡ x) ⊎ Contains s r → Contains (x ∷ s) r
reached x s r found = elim found [ inl here ↦ (0, omega arith, sym here) | inr there ↦ (suc there.0, omega (arith, there.1), there.2) ]

pub least_is : (s : List ℤ) → IfSome (bounds_of s) (λ b. Contains s b.0 × All (λ x. b.0 ≤ℤ x) s)
least_is [] = tt
least_is (x ∷ s) =
    let r = fold int_min x s in
    let h = fold-int_min_bounds x s r refl in
    (reached x s r (fold-int_min_reached x s r refl), All-cons (λ y. r ≤ℤ y) x s h.0 h.1)

pub greatest_is : (s : List ℤ) → IfSome (bounds_of s) (λ b. Contains s b.1 × All (λ x. x ≤ℤ b.1) s)
greatest_is [] = tt
greatest_is (x ∷ s) =
    let r = fold int_max x s in
    let h = fold-int_max_bounds x s r refl in
    (reached x s r (fold-int_max_reached x s r refl), All-cons (λ y. y ≤ℤ r) x s h.0 h.1)
