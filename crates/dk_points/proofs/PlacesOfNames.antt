-- Places of names in a longer list.
use Rattle.std.proofs.Common.{◌≡◌, ◌∙◌, ℕ, suc, ◌+◌, Bool, true, false, cond, not, nat_lt, List, [], ◌∷◌, ◌++◌, length, position, Option, None, Some, option_map, bytes_eq, if◌then◌else◌, refl, ap, sym, arith}
use Rattle.std.specs.List.{prefix_len}
use Rattle.dk_graph.specs.Names.{place_of}

lt-suc : (m n : ℕ) → nat_lt (1 + m) (suc n) ≡ nat_lt m n
lt-suc m n = grind arith

lt-zero : (n : ℕ) → nat_lt 0 (suc n) ≡ true
lt-zero n = grind arith

suc-if : (b : Bool) (n : ℕ) → (if b then Some (1 + n) else None) ≡ option_map suc (if b then Some n else None)
suc-if true n = ap Some one
  where
    one : 1 + n ≡ suc n
    one = omega arith
suc-if false n = refl

position-cons : {X : Type 0} (p : X → Bool) (x : X) (xs : List X) → position p (x ∷ xs) ≡ (if p x then Some 0 else option_map suc (position p xs))
position-cons p x xs = by (p x)
  where
    by : (b : Bool) → (if nat_lt (cond (not b) (1 + prefix_len (λ y. not (p y)) xs) 0) (suc (length xs)) then Some (cond (not b) (1 + prefix_len (λ y. not (p y)) xs) 0) else None)
        ≡ (if b then Some 0 else option_map suc (position p xs))
    by true = rw (lt-zero (length xs)) refl
    by false = rw (lt-suc (prefix_len (λ y. not (p y)) xs) (length xs)) (suc-if (nat_lt (prefix_len (λ y. not (p y)) xs) (length xs)) (prefix_len (λ y. not (p y)) xs))

position-push_other : {X : Type 0} (p : X → Bool) (xs : List X) (y : X) → p y ≡ false → position p (xs ++ y ∷ []) ≡ position p xs
position-push_other p [] y h = position-cons p y [] ∙ rw h refl
position-push_other p (x ∷ xs) y h =
    position-cons p x (xs ++ y ∷ []) ∙ ap (λ o. if p x then Some 0 else option_map suc o) (position-push_other p xs y h) ∙ sym (position-cons p x xs)

none-head : (b : Bool) (o : Option ℕ) → (if b then Some 0 else option_map suc o) ≡ None → b ≡ false
none-head true o h = cc
none-head false o h = refl

none-rest : (b : Bool) (o : Option ℕ) → (if b then Some 0 else option_map suc o) ≡ None → o ≡ None
none-rest true o h = cc
none-rest false None h = refl
none-rest false (Some n) h = cc

position-push_new : {X : Type 0} (p : X → Bool) (xs : List X) (y : X) → position p xs ≡ None → p y ≡ true → position p (xs ++ y ∷ []) ≡ Some (length xs)
position-push_new p [] y none h = position-cons p y [] ∙ rw h refl
position-push_new p (x ∷ xs) y none h =
    let parts : (if p x then Some 0 else option_map suc (position p xs)) ≡ None = sym (position-cons p x xs) ∙ none in
    let other : p x ≡ false = none-head (p x) (position p xs) parts in
    position-cons p x (xs ++ y ∷ []) ∙ rw other (ap (option_map suc) (position-push_new p xs y (none-rest (p x) (position p xs) parts) h))

-- another name more changes no place
pub place-push_other : (all : List (List ℕ)) (n name : List ℕ) → bytes_eq name n ≡ false → place_of (all ++ n ∷ []) name ≡ place_of all name
unfolding place_of
place-push_other all n name h = position-push_other (bytes_eq name) all n h

-- a new name is the last
pub place-push_new : (all : List (List ℕ)) (n name : List ℕ) → place_of all name ≡ None → bytes_eq name n ≡ true → place_of (all ++ n ∷ []) name ≡ Some (length all)
unfolding place_of
place-push_new all n name none h = position-push_new (bytes_eq name) all n none h
