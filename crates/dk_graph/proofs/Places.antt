-- Places in lists.
use Rattle.std.proofs.Common.{◌≡◌, ℕ, suc, ◌+◌, ◌<◌, Bool, true, false, cond, not, nat_lt, List, [], ◌∷◌, ◌++◌, length, map, position, Option, None, Some, zero, get_or, take, drop, append-nil, slice_get, refl, if◌then◌else◌, bytes_eq, ap, ◌∙◌, sym, arith}
use Rattle.std.specs.List.{prefix_len, list_any}
use Rattle.std.proofs.lemmas.List.{drop_all, take_all}
use Rattle.std.proofs.lemmas.Slice.Eq.{bytes_eq-Decides}
use Rattle.indexmap.specs.IndexSet.{insert_key}

pub prefix_len-map : {X Y : Type 0} (p : Y → Bool) (f : X → Y) (xs : List X) → prefix_len p (map f xs) ≡ prefix_len (λ x. p (f x)) xs
prefix_len-map p f [] = refl
prefix_len-map p f (x ∷ xs) = ap (λ n. cond (p (f x)) (1 + n) 0) (prefix_len-map p f xs)

pub length-map : {X Y : Type 0} (f : X → Y) (xs : List X) → length (map f xs) ≡ length xs
length-map f [] = refl
length-map f (x ∷ xs) = ap suc (length-map f xs)

pub position-map : {X Y : Type 0} (p : Y → Bool) (f : X → Y) (xs : List X) → position p (map f xs) ≡ position (λ x. p (f x)) xs
position-map p f xs i =
    cond (nat_lt (prefix_len-map (λ y. not (p y)) f xs i) (length-map f xs i)) (Some (prefix_len-map (λ y. not (p y)) f xs i)) None

-- no place is that of a key, so no key passes
pub list_any-none : {X : Type 0} (p : X → Bool) (xs : List X) → position p xs ≡ None → list_any p xs ≡ false
list_any-none p [] h = refl
list_any-none p (x ∷ xs) h = grind (arith, list_any-none p xs, h)

pub map-append : {X Y : Type 0} (f : X → Y) (xs ys : List X) → map f (xs ++ ys) ≡ map f xs ++ map f ys
map-append f [] ys = refl
map-append f (x ∷ xs) ys = ap (λ zs. f x ∷ zs) (map-append f xs ys)

-- a name that has no place yet goes last
pub insert_key-new : {K : Type 0} (f : K → List ℕ) (keys : List K) (key : K) (name : List ℕ) → f key ≡ name
    → position (bytes_eq name) (map f keys) ≡ None → map f (insert_key (λ a b. bytes_eq (f a) (f b)) keys key) ≡ map f keys ++ name ∷ []
insert_key-new f keys key name same none =
    let absent : list_any (λ k. bytes_eq (f key) (f k)) keys ≡ false =
    rw same (list_any-none (λ k. bytes_eq name (f k)) keys (sym (position-map (bytes_eq name) f keys) ∙ none)) in
    ap (λ b. map f (if b then keys else keys ++ key ∷ [])) absent
    ∙ map-append f keys (key ∷ []) ∙ ap (λ n. map f keys ++ n ∷ []) same

pub slice_get-at : {X : Type 0} (xs : List X) (i : ℕ) (d : X) → i < length xs → slice_get xs i ≡ Some (get_or xs i d)
slice_get-at [] i d h = absurd (omega (arith, h))
slice_get-at (x ∷ xs) zero d h = refl
slice_get-at (x ∷ xs) (suc i) d h = slice_get-at xs i d (omega (arith, h))

abbrev pub option_or : {X : Type 0} → Option X → X → X
option_or None d = d
option_or (Some x) d = x

pub some-injective : {X : Type 0} {x y : X} → Some x ≡ Some y → x ≡ y
some-injective {x = x} {y = y} p = ap (λ o. option_or o x) p

pub get_or-any : {X : Type 0} (xs : List X) (i : ℕ) (d e : X) → i < length xs → get_or xs i d ≡ get_or xs i e
get_or-any xs i d e within = some-injective (sym (slice_get-at xs i d within) ∙ slice_get-at xs i e within)

-- ---- names that are the same

pub bytes_eq-true : (xs ys : List ℕ) → bytes_eq xs ys ≡ true → xs ≡ ys
bytes_eq-true xs ys h = (bytes_eq-Decides xs ys).0 h

pub bytes_eq-same : (xs : List ℕ) → bytes_eq xs xs ≡ true
bytes_eq-same xs = (bytes_eq-Decides xs xs).1 refl

-- ---- a list that was written as a whole

pub whole : {X : Type 0} (n : ℕ) (new old : List X) → length new ≡ n → length new ≡ length old → take n (new ++ drop (length new) old) ≡ new
whole n new old long same =
    ap (λ ys. take n (new ++ ys)) (drop_all (length new) old (omega (arith, same)))
    ∙ ap (take n) (append-nil new)
    ∙ take_all n new (omega (arith, long))
