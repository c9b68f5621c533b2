-- Scans of sequences as the relations of rows.
use Rattle.std.specs.Prelude.{◌≡◌, ◌==◌, ◌&&◌, ◌||◌, ℤ, Bool, true, false, List, [], ◌∷◌, length, map, reverse, zip, refl}
use Rattle.std.proofs.Common.{ap, sym, ◌∙◌}
use Rattle.std.specs.Cmp.Lexicographic.{pointwise}
use Rattle.std.specs.List.{list_all, list_any}
use Rattle.std.specs.Ordering.{int_eq}
use Rattle.std.proofs.Math.Dec.{eqb-suc-suc, eqb-suc-zero, eqb-zero-suc}
use Rattle.std.proofs.lemmas.Bool.{eq-eqb}
use Rattle.std.proofs.lemmas.List.{length-reverse}
use Rattle.std.proofs.lemmas.List.Folds.{list_all-map}
use Rattle.dk_meanings.specs.Relations.{are_pairwise, is_reverse}

both_orders : (a b c : Bool) → (a && (b && c)) ≡ (b && (a && c))
both_orders true b c = refl
both_orders false true c = refl
both_orders false false c = refl

-- ---- equal sequences
-- two lists are equal by a test of each pair exactly where their lengths are equal and all pairs are
pub pointwise_pairs : {A : Type 0} (R : A → A → Bool) (s t : List A) → pointwise R s t ≡ are_pairwise R s t
pointwise_pairs R [] [] = refl
pointwise_pairs R [] (y ∷ ys) = sym (ap (λ b. b && true) (eqb-zero-suc (length ys)))
pointwise_pairs R (x ∷ xs) [] = sym (ap (λ b. b && true) (eqb-suc-zero (length xs)))
pointwise_pairs {A} R (x ∷ xs) (y ∷ ys) =
    let rest : Bool = list_all (λ (p : A × A). R p.0 p.1) (zip xs ys) in
    ap (λ b. R x y && b) (pointwise_pairs R xs ys)
    ∙ both_orders (R x y) (length xs == length ys) rest
    ∙ ap (λ b. b && (R x y && rest)) (sym (eqb-suc-suc (length xs) (length ys)))

-- where a part of each element is compared
pointwise_of_parts : {A B : Type 0} (f : A → B) (R : B → B → Bool) (s t : List A) → pointwise (λ x y. R (f x) (f y)) s t ≡ pointwise R (map f s) (map f t)
pointwise_of_parts f R [] [] = refl
pointwise_of_parts f R [] (y ∷ ys) = refl
pointwise_of_parts f R (x ∷ xs) [] = refl
pointwise_of_parts f R (x ∷ xs) (y ∷ ys) = ap (λ b. R (f x) (f y) && b) (pointwise_of_parts f R xs ys)

pub pairs_of_parts : {A B : Type 0} (f : A → B) (R : B → B → Bool) (s t : List A) → pointwise (λ x y. R (f x) (f y)) s t ≡ are_pairwise R (map f s) (map f t)
pairs_of_parts f R s t = pointwise_of_parts f R s t ∙ pointwise_pairs R (map f s) (map f t)

-- ---- elements of which a part is tested
pub any_of_parts : {A B : Type 0} (f : A → B) (test : B → Bool) (s : List A) → list_any (λ x. test (f x)) s ≡ list_any test (map f s)
any_of_parts f test [] = refl
any_of_parts f test (x ∷ xs) = ap (λ b. test (f x) || b) (any_of_parts f test xs)

pub all_of_parts : {A B : Type 0} (f : A → B) (test : B → Bool) (s : List A) → list_all (λ x. test (f x)) s ≡ list_all test (map f s)
all_of_parts f test s = sym (list_all-map test f s)

-- ---- a sequence read backwards
pub reversed_pairs : (s t : List ℤ) → length s ≡ length t → list_all (λ (p : ℤ × ℤ). int_eq p.0 p.1) (zip (reverse s) t) ≡ is_reverse int_eq s t
reversed_pairs s t e = sym (ap (λ b. b && list_all (λ (p : ℤ × ℤ). int_eq p.0 p.1) (zip (reverse s) t)) (eq-eqb (length (reverse s)) (length t) (length-reverse s ∙ e)))
