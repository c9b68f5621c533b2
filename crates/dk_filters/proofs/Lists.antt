-- Tests of lists.
use Rattle.std.specs.Prelude.{◌≡◌, ◌<◌, ◌&&◌, ℕ, zero, suc, Bool, true, false, All, List, [], ◌∷◌, find, flat_map, length, slice_get, slice_index_or, Some, refl}
use Rattle.std.specs.List.{list_all, list_any}
use Rattle.std.proofs.Common.{arith}
use Rattle.std.proofs.lemmas.Bool.{and_from}
use Rattle.std.proofs.lemmas.List.Elements.{All-append, All-head, All-nil, All-tail}

pub any-same : {A : Type 0} (Q : A → Type 0) (p q : A → Bool) → ((x : A) → Q x → p x ≡ q x) → (xs : List A) → All Q xs → list_any p xs ≡ list_any q xs
any-same Q p q same [] all = refl
any-same Q p q same (x ∷ xs) all = rw (same x (All-head Q x xs all), any-same Q p q same xs (All-tail Q x xs all)) refl

pub all-same : {A : Type 0} (Q : A → Type 0) (p q : A → Bool) → ((x : A) → Q x → p x ≡ q x) → (xs : List A) → All Q xs → list_all p xs ≡ list_all q xs
all-same Q p q same [] all = refl
all-same Q p q same (x ∷ xs) all = rw (same x (All-head Q x xs all), all-same Q p q same xs (All-tail Q x xs all)) refl

pub find-same : {A : Type 0} (Q : A → Type 0) (p q : A → Bool) → ((x : A) → Q x → p x ≡ q x) → (xs : List A) → All Q xs → find p xs ≡ find q xs
find-same Q p q same [] all = refl
find-same Q p q same (x ∷ xs) all = rw (same x (All-head Q x xs all), find-same Q p q same xs (All-tail Q x xs all)) refl

pub and-same : (b c d : Bool) → (b ≡ true → c ≡ d) → b && c ≡ b && d
and-same true c d same = same refl
and-same false c d same = refl

pub all-flat_map : {A B : Type 0} (P : A → Type 0) (Q : B → Type 0) (f : A → List B) → ((x : A) → P x → All Q (f x)) → (xs : List A) → All P xs → All Q (flat_map f xs)
all-flat_map P Q f make [] all = All-nil Q
all-flat_map P Q f make (x ∷ xs) all = All-append Q (f x) (flat_map f xs) (make x (All-head P x xs all)) (all-flat_map P Q f make xs (All-tail P x xs all))

pub get-at : {A : Type 0} (xs : List A) (i : ℕ) (d : A) → i < length xs → slice_get xs i ≡ Some (slice_index_or xs i d)
get-at [] i d lt = absurd (omega (arith, lt))
get-at (x ∷ xs) zero d lt = refl
get-at (x ∷ xs) (suc i) d lt = get-at xs i d (omega (arith, lt))

pub all-true : {A : Type 0} (p : A → Bool) (xs : List A) → All (λ x. p x ≡ true) xs → list_all p xs ≡ true
all-true p [] all = refl
all-true p (x ∷ xs) all = and_from (p x) (list_all p xs) (All-head (λ x. p x ≡ true) x xs all) (all-true p xs (All-tail (λ x. p x ≡ true) x xs all))
