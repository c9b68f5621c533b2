-- Parts of lists of texts.
use Rattle.std.proofs.Common.{◌≡◌, ℕ, Bool, true, false, nat_le, List, length, map, take, drop, Option, Some, None, option_map, option_and_then, refl, if◌then◌else◌}
use Rattle.std.proofs.lemmas.List.{drop-map, length-map, take-map}
use Rattle.dk_derive.specs.Values.{back_of, front_of}

pub front_of_map : {A B : Type 0} (f : A → B) (xs : List A) (k : Option ℕ) → option_and_then (front_of (map f xs)) k ≡ option_map (map f) (option_and_then (front_of xs) k)
front_of_map f xs None = refl
front_of_map f xs (Some k) = rw (length-map xs f, take-map f k xs) (by (nat_le k (length xs)))
  where
    by : (b : Bool) → (if b then Some (map f (take k xs)) else None) ≡ option_map (map f) (if b then Some (take k xs) else None)
    by true = refl
    by false = refl

pub back_of_map : {A B : Type 0} (f : A → B) (xs : List A) (k : Option ℕ) → option_and_then (back_of (map f xs)) k ≡ option_map (map f) (option_and_then (back_of xs) k)
back_of_map f xs None = refl
back_of_map f xs (Some k) = rw (length-map xs f, drop-map f k xs) (by (nat_le k (length xs)))
  where
    by : (b : Bool) → (if b then Some (map f (drop k xs)) else None) ≡ option_map (map f) (if b then Some (drop k xs) else None)
    by true = refl
    by false = refl
