-- Items of lists.
use Rattle.std.proofs.Common.{◌≡◌, ◌∙◌, ℕ, zero, suc, ◌⊎◌, inl, inr, Bool, true, false, cond, List, [], ◌∷◌, ◌++◌, map, filter, filter_map, Option, None, Some, slice_get, Contains, refl, ap, sym, true≢false, arith}
use Rattle.std.specs.List.{cons_option}
use Rattle.dk_graph.proofs.Places.{some-injective, slice_get-at}

-- the item is one of the list
abbrev pub Has : {X : Type 0} → List X → X → Type 0
Has xs x = (k : ℕ) × (slice_get xs k ≡ Some x)

pub has-first : {X : Type 0} (x : X) (xs : List X) → Has (x ∷ xs) x
has-first x xs = (zero, refl)

pub has-later : {X : Type 0} (y : X) (xs : List X) (x : X) → Has xs x → Has (y ∷ xs) x
has-later y xs x h = (suc h.0, h.1)

pub has-cons : {X : Type 0} (y : X) (xs : List X) (x : X) → Has (y ∷ xs) x → (y ≡ x) ⊎ Has xs x
has-cons y xs x (zero, at) = inl (some-injective at)
has-cons y xs x (suc k, at) = inr (k, at)

pub has-none : {X : Type 0} (x : X) → Has [] x → ⊥
has-none x (k, at) = cc

pub has-contained : {X : Type 0} (xs : List X) (x : X) → Contains xs x → Has xs x
has-contained xs x (k, within, at) = (k, slice_get-at xs k x within ∙ ap Some at)

pub contained-has : {X : Type 0} (xs : List X) (k : ℕ) (x : X) → slice_get xs k ≡ Some x → Contains xs x
contained-has [] k x at = absurd (cc)
contained-has (y ∷ xs) zero x at = (zero, omega arith, some-injective at)
contained-has (y ∷ xs) (suc k) x at = let j = contained-has xs k x at in (suc j.0, omega (arith, j.1), j.2)

pub has-append : {X : Type 0} (xs ys : List X) (x : X) → Has (xs ++ ys) x → Has xs x ⊎ Has ys x
has-append [] ys x h = inr h
has-append (y ∷ xs) ys x h = elim (has-cons y (xs ++ ys) x h) [
  | inl same ↦ inl (zero, ap Some same)
  | inr more ↦ elim (has-append xs ys x more) [ inl l ↦ inl (has-later y xs x l) | inr r ↦ inr r ]
]

pub has-left : {X : Type 0} (xs ys : List X) (x : X) → Has xs x → Has (xs ++ ys) x
has-left [] ys x h = absurd (has-none x h)
has-left (y ∷ xs) ys x h = elim (has-cons y xs x h) [
  | inl same ↦ (zero, ap Some same)
  | inr more ↦ has-later y (xs ++ ys) x (has-left xs ys x more)
]

pub has-right : {X : Type 0} (xs ys : List X) (x : X) → Has ys x → Has (xs ++ ys) x
has-right [] ys x h = h
has-right (y ∷ xs) ys x h = has-later y (xs ++ ys) x (has-right xs ys x h)

pub has-map : {X Y : Type 0} (f : X → Y) (xs : List X) (y : Y) → Has (map f xs) y → (x : X) × Has xs x × (f x ≡ y)
has-map f [] y h = absurd (has-none y h)
has-map f (x ∷ xs) y h = elim (has-cons (f x) (map f xs) y h) [
  | inl same ↦ (x, has-first x xs, same)
  | inr more ↦ let found = has-map f xs y more in (found.0, has-later x xs found.0 found.1, found.2)
]

pub has-filter : {X : Type 0} (p : X → Bool) (xs : List X) (x : X) → Has (filter p xs) x → Has xs x × (p x ≡ true)
has-filter p [] x h = absurd (has-none x h)
has-filter p (y ∷ xs) x h = by (p y) refl h (has-filter p xs x)
  where
    by : (b : Bool) → p y ≡ b → Has (cond b (y ∷ filter p xs) (filter p xs)) x → (Has (filter p xs) x → Has xs x × (p x ≡ true)) → Has (y ∷ xs) x × (p x ≡ true)
    by true is h rest = elim (has-cons y (filter p xs) x h) [
      | inl same ↦ ((zero, ap Some same), ap p (sym same) ∙ is)
      | inr more ↦ let found = rest more in (has-later y xs x found.0, found.1)
    ]
    by false is h rest = let found = rest h in (has-later y xs x found.0, found.1)

pub filter-has : {X : Type 0} (p : X → Bool) (xs : List X) (x : X) → Has xs x → p x ≡ true → Has (filter p xs) x
filter-has p [] x h is = absurd (has-none x h)
filter-has p (y ∷ xs) x h is = by (p y) refl (has-cons y xs x h) (λ more. filter-has p xs x more is)
  where
    by : (b : Bool) → p y ≡ b → (y ≡ x) ⊎ Has xs x → (Has xs x → Has (filter p xs) x) → Has (cond b (y ∷ filter p xs) (filter p xs)) x
    by true at (inl same) rest = (zero, ap Some same)
    by true at (inr more) rest = has-later y (filter p xs) x (rest more)
    by false at (inl same) rest = absurd (true≢false (sym is ∙ ap p (sym same) ∙ at))
    by false at (inr more) rest = rest more

pub has-filter_map : {X Y : Type 0} (f : X → Option Y) (xs : List X) (y : Y) → Has (filter_map f xs) y → (x : X) × Has xs x × (f x ≡ Some y)
has-filter_map f [] y h = absurd (has-none y h)
has-filter_map {X = X} {Y = Y} f (x ∷ xs) y h = by (f x) refl h (has-filter_map f xs y)
  where
    by : (o : Option Y) → f x ≡ o → Has (cons_option o (filter_map f xs)) y → (Has (filter_map f xs) y → (z : X) × Has xs z × (f z ≡ Some y))
        → (z : X) × Has (x ∷ xs) z × (f z ≡ Some y)
    by None is h rest = let found = rest h in (found.0, has-later x xs found.0 found.1, found.2)
    by (Some w) is h rest = elim (has-cons w (filter_map f xs) y h) [
      | inl same ↦ (x, has-first x xs, is ∙ ap Some same)
      | inr more ↦ let found = rest more in (found.0, has-later x xs found.0 found.1, found.2)
    ]
