-- Pairs one after another.
use Rattle.std.specs.Prelude.{◌≡◌, ◌++◌, ◌∷◌, [], ℕ, suc, Any, List, length, refl, slice_get, Some}
use Rattle.std.specs.List.{AllZip, zip}
use Rattle.std.proofs.Common.{arith}

pub zip_push : {A B : Type 0} (R : A → B → Type 0) (xs : List A) (ys : List B) (x : A) (y : B) → AllZip R xs ys → R x y → AllZip R (xs ++ x ∷ []) (ys ++ y ∷ [])
zip_push R [] [] x y all r = (r, tt)
zip_push R [] (b ∷ ys) x y all r = absurd all
zip_push R (a ∷ xs) [] x y all r = absurd all
zip_push R (a ∷ xs) (b ∷ ys) x y all r = (all.0, zip_push R xs ys x y all.1 r)

pub any_middle : {X : Type 0} (P : X → Type 0) (xs : List X) (x : X) (ys : List X) → P x → Any P (xs ++ x ∷ ys)
any_middle P [] x ys h = (0, x, omega arith, refl, h)
any_middle P (y ∷ xs) x ys h =
    let later = any_middle P xs x ys h in
    let within = later.2 in
    (suc later.0, later.1, omega (arith, within), later.3, later.4)

-- of no first ones, or no second ones, there are no pairs
pub no_first : {A B : Type 0} (xs : List A) (ys : List B) → length xs ≡ 0 → zip xs ys ≡ []
no_first [] ys none = refl
no_first (x ∷ xs) ys none = absurd (omega (arith, none))

pub no_second : {A B : Type 0} (xs : List A) (ys : List B) → length ys ≡ 0 → zip xs ys ≡ []
no_second [] ys none = refl
no_second (x ∷ xs) [] none = refl
no_second (x ∷ xs) (y ∷ ys) none = absurd (omega (arith, none))

-- each pair at a place
pub zip_from : {A B : Type 0} (R : A → B → Type 0) (xs : List A) (ys : List B) → length xs ≡ length ys
    → ((i : ℕ) (x : A) (y : B) → slice_get xs i ≡ Some x → slice_get ys i ≡ Some y → R x y) → AllZip R xs ys
zip_from R [] [] long each = tt
zip_from R [] (y ∷ ys) long each = absurd (omega (arith, long))
zip_from R (x ∷ xs) [] long each = absurd (omega (arith, long))
zip_from R (x ∷ xs) (y ∷ ys) long each = (each 0 x y refl refl, zip_from R xs ys (omega (arith, long)) (λ i. each (suc i)))
