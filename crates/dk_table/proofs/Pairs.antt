-- Loops over two lists side by side.
use Rattle.std.proofs.Common.{◌≡◌, ◌≤◌, ◌<◌, ◌+◌, ◌&&◌, ◌∙◌, ◌∷◌, ◌++◌, [], ℕ, zero, suc, Bool, true, List, append-nil, drop, eq-eqb, flat_map, get_or, length, map, min, take, sym, ap, subst, arith}
use Rattle.std.specs.List.{list_all, zip}
use Rattle.std.specs.Str.{bytes_eq}
use Rattle.std.proofs.lemmas.Bool.{and_parts}
use Rattle.std.proofs.lemmas.Grind.{flat_map-append}
use Rattle.std.proofs.lemmas.List.{map-append, map-id, take_all, take_more}
use Rattle.dk_table.specs.Tables.{same_cells}
use Rattle.dk_write.proofs.Loops.{pair_passes, pairs_end, zip_at, zip_length}

-- a test of pairs, from a place on
pub zip_passes : {A B : Type 0} (test : A × B → Bool) (xs : List A) (ys : List B) (i : ℕ) (x : A) (y : B)
    → i < length xs → i < length ys → x ≡ get_or xs i x → y ≡ get_or ys i y
    → list_all test (drop i (zip xs ys)) ≡ (test (x, y) && list_all test (drop (i + 1) (zip xs ys)))
zip_passes {A} {B} test xs ys i x y lt more first second =
    subst (λ (l : List B). list_all test (drop i (zip xs l)) ≡ (test (x, y) && list_all test (drop (i + 1) (zip xs l)))) (map-id ys)
    (pair_passes (λ (b : B). b) test xs ys i x y lt more first second)

-- a pair that passes, or doesn't, ends or goes on so
pub zip_goes : {A B : Type 0} (test : A × B → Bool) (xs : List A) (ys : List B) (i : ℕ) (x : A) (y : B) (b : Bool)
    → i < length xs → i < length ys → x ≡ get_or xs i x → y ≡ get_or ys i y → test (x, y) ≡ b
    → list_all test (drop i (zip xs ys)) ≡ list_all test (zip xs ys) → (b && list_all test (drop (i + 1) (zip xs ys))) ≡ list_all test (zip xs ys)
zip_goes test xs ys i x y b lt more first second is so_far =
    ap (λ (c : Bool). c && list_all test (drop (i + 1) (zip xs ys))) (sym is) ∙ sym (zip_passes test xs ys i x y lt more first second) ∙ so_far

pub zip_ends : {A B : Type 0} (test : A × B → Bool) (xs : List A) (ys : List B) (i : ℕ) → min (length xs) (length ys) ≤ i
    → list_all test (drop i (zip xs ys)) ≡ list_all test (zip xs ys) → true ≡ list_all test (zip xs ys)
zip_ends {A} {B} test xs ys i past so_far =
    sym (subst (λ (l : List B). list_all test (drop i (zip xs l)) ≡ true) (map-id ys) (pairs_end (λ (b : B). b) test xs ys i past)) ∙ so_far

pub zip_get : {A B : Type 0} (xs : List A) (ys : List B) (i : ℕ) (x : A) (y : B) → i < length xs → i < length ys → x ≡ get_or xs i x → y ≡ get_or ys i y
    → get_or (zip xs ys) i (x, y) ≡ (x, y)
zip_get {A} {B} xs ys i x y lt more first second =
    subst (λ (l : List B). get_or (zip xs l) i (x, y) ≡ (get_or xs i x, get_or ys i y)) (map-id ys) (zip_at (λ (b : B). b) xs ys i x y (x, y) lt more)
    ∙ sym (λ k. (first k, second k))

-- what is made of one pair more
pub zip_more : {A B C : Type 0} (f : A × B → C) (xs : List A) (ys : List B) (i : ℕ) (x : A) (y : B) (so_far next : List C)
    → i < length xs → i < length ys → x ≡ get_or xs i x → y ≡ get_or ys i y → so_far ≡ map f (take i (zip xs ys)) → next ≡ so_far ++ f (x, y) ∷ []
    → next ≡ map f (take (i + 1) (zip xs ys))
zip_more {A} {B} {C} f xs ys i x y so_far next lt more first second is added =
    let within : i < length (zip xs ys) = omega (arith, zip_length xs ys) in
    let one : take (i + 1) (zip xs ys) ≡ take i (zip xs ys) ++ (x, y) ∷ [] =
    take_more (zip xs ys) i (x, y) within ∙ ap (λ (p : A × B). take i (zip xs ys) ++ p ∷ []) (zip_get xs ys i x y lt more first second) in
    added ∙ ap (λ (l : List C). l ++ f (x, y) ∷ []) is ∙ sym (map-append f (take i (zip xs ys)) ((x, y) ∷ [])) ∙ sym (ap (map f) one)

pub zip_all : {A B C : Type 0} (f : A × B → C) (xs : List A) (ys : List B) (i : ℕ) (all : List C) → min (length xs) (length ys) ≤ i
    → all ≡ map f (take i (zip xs ys)) → all ≡ map f (zip xs ys)
zip_all f xs ys i all past is = is ∙ ap (map f) (take_all i (zip xs ys) (omega (arith, zip_length xs ys)))

-- the text of one pair more
pub zip_text : {A B : Type 0} (f : A × B → List ℕ) (xs : List A) (ys : List B) (i : ℕ) (x : A) (y : B)
    → i < length xs → i < length ys → x ≡ get_or xs i x → y ≡ get_or ys i y → flat_map f (take i (zip xs ys)) ++ f (x, y) ≡ flat_map f (take (i + 1) (zip xs ys))
zip_text {A} {B} f xs ys i x y lt more first second =
    let front : List (A × B) = take i (zip xs ys) in
    let within : i < length (zip xs ys) = omega (arith, zip_length xs ys) in
    let one : take (i + 1) (zip xs ys) ≡ front ++ (x, y) ∷ [] =
    take_more (zip xs ys) i (x, y) within ∙ ap (λ (p : A × B). front ++ p ∷ []) (zip_get xs ys i x y lt more first second) in
    ap (λ (l : List ℕ). flat_map f front ++ l) (sym (append-nil (f (x, y)))) ∙ sym (ap (flat_map f) one ∙ flat_map-append f front ((x, y) ∷ []))

pub zip_text_all : {A B : Type 0} (f : A × B → List ℕ) (xs : List A) (ys : List B) (i : ℕ) (start text : List ℕ) → min (length xs) (length ys) ≤ i
    → text ≡ start ++ flat_map f (take i (zip xs ys)) → text ≡ start ++ flat_map f (zip xs ys)
zip_text_all {A} {B} f xs ys i start text past is =
    is ∙ ap (λ (l : List (A × B)). start ++ flat_map f l) (take_all i (zip xs ys) (omega (arith, zip_length xs ys)))

-- rows of as many cells are the same where their cells are
pub same_by : (names cells : List (List ℕ)) (b : Bool) → length names ≡ length cells → b ≡ list_all (λ (e : List ℕ × List ℕ). bytes_eq e.0 e.1) (zip names cells)
    → b ≡ same_cells names cells
same_by names cells b same is =
    is ∙ ap (λ (t : Bool). t && list_all (λ (e : List ℕ × List ℕ). bytes_eq e.0 e.1) (zip names cells)) (sym (eq-eqb (length names) (length cells) same))

-- a test that all pass, at one place
pub all_at : {A : Type 0} (test : A → Bool) (xs : List A) (i : ℕ) (d : A) → list_all test xs ≡ true → i < length xs → test (get_or xs i d) ≡ true
all_at test [] i d h lt = absurd (omega arith)
all_at test (x ∷ xs) zero d h lt = (and_parts (test x) (list_all test xs) h).0
all_at test (x ∷ xs) (suc i) d h lt = all_at test xs i d (and_parts (test x) (list_all test xs) h).1 (omega arith)

-- the same of two lists side by side
pub zip_all_at : {A B : Type 0} (test : A × B → Bool) (xs : List A) (ys : List B) (i : ℕ) (x : A) (y : B) → i < length xs → i < length ys → x ≡ get_or xs i x → y ≡ get_or ys i y
    → list_all test (zip xs ys) ≡ true → test (x, y) ≡ true
zip_all_at test xs ys i x y lt more first second h =
    let within : i < length (zip xs ys) = omega (arith, zip_length xs ys) in
    ap test (sym (zip_get xs ys i x y lt more first second)) ∙ all_at test (zip xs ys) i (x, y) h within
