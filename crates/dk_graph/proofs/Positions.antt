-- The place of the first item that passes a test.
use Rattle.std.proofs.Common.{◌≡◌, ◌∙◌, ℕ, zero, suc, ◌+◌, Bool, true, false, cond, not, nat_lt, List, [], ◌∷◌, ◌++◌, length, position, bytes_eq, Option, None, Some, option_map, if◌then◌else◌, refl, ap, sym, arith}
use Rattle.std.specs.List.{prefix_len}
use Rattle.dk_graph.specs.Names.{place_of}
use Rattle.dk_graph.proofs.Places.{some-injective}

lt-suc : (m n : ℕ) → nat_lt (1 + m) (suc n) ≡ nat_lt m n
lt-suc m n = grind arith

lt-zero : (n : ℕ) → nat_lt 0 (suc n) ≡ true
lt-zero n = grind arith

suc-if : (b : Bool) (n : ℕ) → (if b then Some (1 + n) else None) ≡ option_map suc (if b then Some n else None)
suc-if true n = ap Some one
  where
    one : 1 + n ≡ suc n
    one = omega arith
suc-if false n = refl

pub position-cons : {X : Type 0} (p : X → Bool) (x : X) (xs : List X) → position p (x ∷ xs) ≡ (if p x then Some 0 else option_map suc (position p xs))
position-cons p x xs = by (p x)
  where
    by : (b : Bool) → (if nat_lt (cond (not b) (1 + prefix_len (λ y. not (p y)) xs) 0) (suc (length xs)) then Some (cond (not b) (1 + prefix_len (λ y. not (p y)) xs) 0) else None)
        ≡ (if b then Some 0 else option_map suc (position p xs))
    by true = rw (lt-zero (length xs)) refl
    by false = rw (lt-suc (prefix_len (λ y. not (p y)) xs) (length xs)) (suc-if (nat_lt (prefix_len (λ y. not (p y)) xs) (length xs)) (prefix_len (λ y. not (p y)) xs))

pub cons-None : (b : Bool) (o : Option ℕ) → (if b then Some 0 else option_map suc o) ≡ None → (b ≡ false) × (o ≡ None)
cons-None true o h = absurd (cc)
cons-None false None h = (refl, refl)
cons-None false (Some n) h = absurd (cc)

pub cons-zero : (b : Bool) (o : Option ℕ) → (if b then Some 0 else option_map suc o) ≡ Some zero → b ≡ true
cons-zero true o h = refl
cons-zero false None h = absurd (cc)
cons-zero false (Some n) h = absurd (suc-zero n (some-injective h))
  where
    suc-zero : (n : ℕ) → suc n ≡ zero → ⊥
    suc-zero n h = omega (arith, h)

pub cons-suc : (b : Bool) (o : Option ℕ) (i : ℕ) → (if b then Some 0 else option_map suc o) ≡ Some (suc i) → (b ≡ false) × (o ≡ Some i)
cons-suc true o i h = absurd (suc-zero i (some-injective h))
  where
    suc-zero : (n : ℕ) → zero ≡ suc n → ⊥
    suc-zero n h = omega (arith, h)
cons-suc false None i h = absurd (cc)
cons-suc false (Some n) i h = (refl, ap Some (down n i (some-injective h)))
  where
    down : (n i : ℕ) → suc n ≡ suc i → n ≡ i
    down n i h = omega (arith, h)

-- ---- one item more

-- the first place, if there is one, or that of the last item if it passes
abbrev pub or_last : Option ℕ → Bool → ℕ → Option ℕ
or_last (Some j) b n = Some j
or_last None b n = if b then Some n else None

pub position-push : {X : Type 0} (p : X → Bool) (xs : List X) (x : X) → position p (xs ++ x ∷ []) ≡ or_last (position p xs) (p x) (length xs)
position-push p [] x = position-cons p x []
position-push p (y ∷ xs) x =
    position-cons p y (xs ++ x ∷ [])
    ∙ ap (λ o. if p y then Some 0 else option_map suc o) (position-push p xs x)
    ∙ by (p y) (position p xs) (p x)
    ∙ ap (λ o. or_last o (p x) (suc (length xs))) (sym (position-cons p y xs))
  where
    by : (a : Bool) (o : Option ℕ) (b : Bool) → (if a then Some 0 else option_map suc (or_last o b (length xs))) ≡ or_last (if a then Some 0 else option_map suc o) b (suc (length xs))
    by true o b = refl
    by false (Some j) b = refl
    by false None true = refl
    by false None false = refl

pub place_of-push : (all : List (List ℕ)) (name x : List ℕ) → place_of (all ++ name ∷ []) x ≡ or_last (place_of all x) (bytes_eq x name) (length all)
unfolding place_of
place_of-push all name x = position-push (bytes_eq x) all name
