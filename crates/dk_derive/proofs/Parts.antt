-- A fact of each item of a list that is made in parts.
use Rattle.std.proofs.Common.{All, List, [], ◌∷◌}
use Rattle.std.proofs.lemmas.List.Elements.{All-append, All-cons, All-head, All-nil, All-tail}
use Rattle.std.specs.List.{flat_map}

-- P of each item, one after another
abbrev pub Each : {A : Type 0} → (A → Type 0) → List A → Type 0
Each P [] = Unit {0}
Each P (x ∷ xs) = P x × Each P xs

pub all_of : {A : Type 0} (P : A → Type 0) (xs : List A) → Each P xs → All P xs
all_of P [] h = All-nil P
all_of P (x ∷ xs) h = All-cons P x xs h.0 (all_of P xs h.1)

pub all_flat_map : {A B : Type 0} (P : A → Type 0) (Q : B → Type 0) (f : A → List B) → ((x : A) → P x → All Q (f x)) → (xs : List A) → All P xs → All Q (flat_map f xs)
all_flat_map P Q f gives [] all = All-nil Q
all_flat_map P Q f gives (x ∷ xs) all =
    All-append Q (f x) (flat_map f xs) (gives x (All-head P x xs all)) (all_flat_map P Q f gives xs (All-tail P x xs all))
