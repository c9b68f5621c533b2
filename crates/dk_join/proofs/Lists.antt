-- What is so of all items of two lists.
use Rattle.std.specs.Prelude.{◌≡◌, ◌<◌, ◌+◌, ◌||◌, ℕ, zero, suc, Bool, true, false, All, List, [], ◌∷◌, ◌++◌, filter, flat_map, if◌then◌else◌, length, map, refl, take}
use Rattle.std.specs.Borrow.{Bor}
use Rattle.std.specs.List.{list_all, list_any}
use Rattle.std.proofs.Common.{ap, ◌∙◌, append-nil, append_assoc, get_or, inl, inr, sym}
use Rattle.std.proofs.lemmas.Bool.{and_parts, cases_Bool, false≢true, or_left, or_right}
use Rattle.std.proofs.lemmas.List.{take_more}
use Rattle.std.proofs.lemmas.List.Concat.{flat_map-append}
use Rattle.std.proofs.lemmas.List.Elements.{All-cons, All-head, All-nil, All-tail, filter_more}
use Rattle.dk_forms.specs.Laws.{IsIn}

-- of all items of both is so of all of each
pub all_parts : {X : Type 0} (P : X → Type 0) (xs ys : List X) → All P (xs ++ ys) → All P xs × All P ys
all_parts P [] ys h = (All-nil P, h)
all_parts P (x ∷ xs) ys h =
    let rest = all_parts P xs ys (All-tail P x (xs ++ ys) h) in
    (All-cons P x xs (All-head P x (xs ++ ys) h) rest.0, rest.1)

-- tests that tell the same of each item leave the same
pub filter_alike : {X : Type 0} (p q : X → Bool) (xs : List X) → All (λ x. p x ≡ q x) xs → filter p xs ≡ filter q xs
filter_alike p q [] same = refl
filter_alike p q (x ∷ xs) same =
    ap (λ b. if b then x ∷ filter p xs else filter p xs) (All-head (λ y. p y ≡ q y) x xs same)
    ∙ ap (λ rest. if q x then x ∷ rest else rest) (filter_alike p q xs (All-tail (λ y. p y ≡ q y) x xs same))

-- an item more that passes a test, or doesn't
pub filter_step : {X : Type 0} (p : X → Bool) (xs : List X) (i : ℕ) (x : X) → i < length xs → x ≡ get_or xs i x → (b : Bool) → p x ≡ b
    → filter p (take (i + 1) xs) ≡ filter p (take i xs) ++ (if b then x ∷ [] else [])
filter_step p xs i x l is b e =
    filter_more p xs i x l
    ∙ (ap (λ y. filter p (take i xs) ++ (if p y then y ∷ [] else [])) (sym is) ∙ ap (λ t. filter p (take i xs) ++ (if t then x ∷ [] else [])) e)

-- ---- items that are lent
pub any_lent : {X : Type 0} (test : X → Bool) (xs : List (Bor X)) → list_any (λ x. test x.now) xs ≡ list_any test (map (λ x. x.now) xs)
any_lent test [] = refl
any_lent test (x ∷ xs) = ap (λ b. test x.now || b) (any_lent test xs)

lent_one : {X : Type 0} (x : Bor X) (kept : List (Bor X)) (those : List X) → map (λ y. y.now) kept ≡ those → (b : Bool)
    → map (λ y. y.now) (if b then x ∷ kept else kept) ≡ (if b then x.now ∷ those else those)
lent_one x kept those rest true = ap (λ r. x.now ∷ r) rest
lent_one x kept those rest false = rest

pub filter_lent : {X : Type 0} (test : X → Bool) (xs : List (Bor X)) → map (λ x. x.now) (filter (λ x. test x.now) xs) ≡ filter test (map (λ x. x.now) xs)
filter_lent test [] = refl
filter_lent test (x ∷ xs) = lent_one x (filter (λ y. test y.now) xs) (filter test (map (λ y. y.now) xs)) (filter_lent test xs) (test x.now)

-- ---- a list that is made one after another
pub flat_map_more : {X Y : Type 0} (f : X → List Y) (before : List Y) (xs : List X) (i : ℕ) (d : X) → i < length xs
    → (before ++ flat_map f (take i xs)) ++ f (get_or xs i d) ≡ before ++ flat_map f (take (i + 1) xs)
flat_map_more f before xs i d l =
    append_assoc before (flat_map f (take i xs)) (f (get_or xs i d))
    ∙ ap (λ ys. before ++ ys) (sym (ap (flat_map f) (take_more xs i d l) ∙ flat_map-append f (take i xs) (get_or xs i d ∷ []) ∙ ap (λ ys. flat_map f (take i xs) ++ ys) (append-nil (f (get_or xs i d)))))

pub flat_map_of_map : {X Y Z : Type 0} (f : Y → List Z) (g : X → Y) (xs : List X) → flat_map f (map g xs) ≡ flat_map (λ x. f (g x)) xs
flat_map_of_map f g [] = refl
flat_map_of_map f g (x ∷ xs) = ap (λ rest. f (g x) ++ rest) (flat_map_of_map f g xs)

pub mapped_more : {X Y Z : Type 0} (f : Y → List Z) (g : X → Y) (before : List Z) (xs : List X) (i : ℕ) (d : X) → i < length xs
    → (before ++ flat_map f (map g (take i xs))) ++ f (g (get_or xs i d)) ≡ before ++ flat_map f (map g (take (i + 1) xs))
mapped_more f g before xs i d l =
    ap (λ ys. (before ++ ys) ++ f (g (get_or xs i d))) (flat_map_of_map f g (take i xs))
    ∙ (flat_map_more (λ x. f (g x)) before xs i d l ∙ ap (λ ys. before ++ ys) (sym (flat_map_of_map f g (take (i + 1) xs))))

-- ---- tests
pub all_at : {X : Type 0} (test : X → Bool) (x : X) (xs : List X) → IsIn x xs → list_all test xs ≡ true → test x ≡ true
all_at test x [] i h = absurd i
all_at test x (y ∷ xs) (inl e) h = ap test e ∙ (and_parts (test y) (list_all test xs) h).0
all_at test x (y ∷ xs) (inr i) h = all_at test x xs i (and_parts (test y) (list_all test xs) h).1

pub any_at : {X : Type 0} (test : X → Bool) (x : X) (xs : List X) → IsIn x xs → test x ≡ true → list_any test xs ≡ true
any_at test x [] i h = absurd i
any_at test x (y ∷ xs) (inl e) h = or_left (test y) (list_any test xs) (ap test (sym e) ∙ h)
any_at test x (y ∷ xs) (inr i) h = or_right (test y) (list_any test xs) (any_at test x xs i h)

pub any_found : {X : Type 0} (test : X → Bool) (xs : List X) → list_any test xs ≡ true → (x : X) × IsIn x xs × (test x ≡ true)
any_found test [] h = absurd (false≢true h)
any_found {X} test (x ∷ xs) h = elim (cases_Bool (test x)) as (λ _. (y : X) × IsIn y (x ∷ xs) × (test y ≡ true)) [
  | inl here ↦ (x, inl refl, here)
  | inr there ↦ (let rest = any_found test xs (sym (ap (λ b. b || list_any test xs) there) ∙ h) in (rest.0, inr rest.1, rest.2))
]

-- what is among the first of a list is in it
pub taken_in : {X : Type 0} (x : X) (n : ℕ) (xs : List X) → IsIn x (take n xs) → IsIn x xs
taken_in x zero xs i = absurd i
taken_in x (suc n) [] i = absurd i
taken_in x (suc n) (y ∷ xs) (inl e) = inl e
taken_in x (suc n) (y ∷ xs) (inr i) = inr (taken_in x n xs i)
