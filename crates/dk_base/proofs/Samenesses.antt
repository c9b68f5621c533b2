-- Equality of lists, pair by pair.
use Rattle.std.proofs.Common.{◌≡◌, ◌∷◌, [], ℕ, List, Bor, map, refl, ap, Decides}
use Rattle.std.specs.Prelude.{nat_eq, ◌&&◌}
use Rattle.std.specs.Cmp.Lexicographic.{bytes_decides, pointwise, pointwise_decides}
use Rattle.std.proofs.lemmas.Bool.Decides.{Decides-at}

-- what references point to is compared
behind_references : (xs ys : List (Bor (List ℕ)))
    → pointwise (λ x y. pointwise nat_eq x.now y.now) xs ys ≡ pointwise (pointwise nat_eq) (map (λ t. t.now) xs) (map (λ t. t.now) ys)
behind_references [] [] = refl
behind_references [] (y ∷ ys) = refl
behind_references (x ∷ xs) [] = refl
behind_references (x ∷ xs) (y ∷ ys) = ap (λ b. pointwise nat_eq x.now y.now && b) (behind_references xs ys)

pub texts_decided : (xs ys : List (Bor (List ℕ))) → Decides (pointwise (λ x y. pointwise nat_eq x.now y.now) xs ys) (map (λ t. t.now) xs ≡ map (λ t. t.now) ys)
texts_decided xs ys =
    Decides-at _ (pointwise (pointwise nat_eq) (map (λ t. t.now) xs) (map (λ t. t.now) ys)) (behind_references xs ys)
    (pointwise_decides bytes_decides (map (λ t. t.now) xs) (map (λ t. t.now) ys))
