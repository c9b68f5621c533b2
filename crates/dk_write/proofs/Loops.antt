-- Steps of the loops that write and test.
use Rattle.std.proofs.Common.{◌≡◌, Result, Ok, Err, ◌≤◌, ◌<◌, ◌+◌, ◌∙◌, ◌&&◌, ◌∷◌, ◌++◌, [], ℕ, zero, suc, Bool, true, false, List, drop, flat_map, get_or, length, map, min, take, refl, sym, ap, append-nil, append_assoc, arith}
use Rattle.std.specs.Prelude.{not, OnOk}
use Rattle.std.specs.List.{list_all, zip}
use Rattle.std.proofs.lemmas.Grind.{flat_map-append}
use Rattle.std.proofs.lemmas.List.{drop_all, drop_more, length-map, take_all, take_more}
use Rattle.dk_lines.specs.Passing.{joined}
use Rattle.dk_write.specs.Writable.{none_twice}

joined_append : (xs ys : List (List ℕ)) → joined (xs ++ ys) ≡ joined xs ++ joined ys
joined_append xs ys = flat_map-append (λ (l : List ℕ). l ++ 10 ∷ []) xs ys

-- what follows from a fact of Ok
pub on_ok : {T E : Type 0} {P Q : Type 0} (r : Result T E) → (P → Q) → OnOk r P → OnOk r Q
on_ok (Ok x) f h = f h
on_ok (Err e) f h = h

-- more lines behind some
pub more_lines : (start text next : List ℕ) (xs ys : List (List ℕ)) → text ≡ start ++ joined xs → next ≡ text ++ joined ys → next ≡ start ++ joined (xs ++ ys)
more_lines start text next xs ys so_far step =
    step
    ∙ ap (λ (t : List ℕ). t ++ joined ys) so_far
    ∙ append_assoc start (joined xs) (joined ys)
    ∙ ap (λ (t : List ℕ). start ++ t) (sym (joined_append xs ys))

-- a line of a word, a name, a blank (32) and a number
pub number_line : (start a b c d next word name number : List ℕ) → a ≡ start ++ word → b ≡ a ++ name → c ≡ b ++ 32 ∷ [] → d ≡ c ++ number → next ≡ d ++ 10 ∷ []
    → next ≡ start ++ joined ((word ++ (name ++ 32 ∷ number)) ∷ [])
number_line start a b c d next word name number ea eb ec ed en =
    en
    ∙ ap (λ (t : List ℕ). t ++ 10 ∷ []) (ed ∙ ap (λ (t : List ℕ). t ++ number) (ec ∙ ap (λ (t : List ℕ). t ++ 32 ∷ []) (eb ∙ ap (λ (t : List ℕ). t ++ name) ea)))
    ∙ simp (append_assoc, append-nil)

-- a text with the lines of one more item
pub lines_more : {T : Type 0} (lines : T → List (List ℕ)) (items : List T) (i : ℕ) (item : T) (start text next : List ℕ) → i < length items → item ≡ get_or items i item
    → text ≡ start ++ joined (flat_map lines (take i items)) → next ≡ text ++ joined (lines item) → next ≡ start ++ joined (flat_map lines (take (i + 1) items))
lines_more {T} lines items i item start text next lt is so_far step =
    let before : List (List ℕ) = flat_map lines (take i items) in
    let more : take (i + 1) items ≡ take i items ++ item ∷ [] = take_more items i item lt ∙ ap (λ (x : T). take i items ++ x ∷ []) (sym is) in
    let with_item : flat_map lines (take (i + 1) items) ≡ before ++ lines item =
    ap (flat_map lines) more ∙ flat_map-append lines (take i items) (item ∷ []) ∙ ap (λ (ls : List (List ℕ)). before ++ ls) (append-nil (lines item)) in
    step
    ∙ ap (λ (t : List ℕ). t ++ joined (lines item)) so_far
    ∙ append_assoc start (joined before) (joined (lines item))
    ∙ ap (λ (t : List ℕ). start ++ t) (sym (joined_append before (lines item)) ∙ ap joined (sym with_item))

one_line_each : {T : Type 0} (line : T → List ℕ) (items : List T) → flat_map (λ x. line x ∷ []) items ≡ map line items
one_line_each line [] = refl
one_line_each line (x ∷ items) = ap (λ (ls : List (List ℕ)). line x ∷ ls) (one_line_each line items)

-- a text with one more line
pub line_more : {T : Type 0} (line : T → List ℕ) (items : List T) (i : ℕ) (item : T) (start text next : List ℕ) → i < length items → item ≡ get_or items i item
    → text ≡ start ++ joined (map line (take i items)) → next ≡ text ++ joined (line item ∷ []) → next ≡ start ++ joined (map line (take (i + 1) items))
line_more line items i item start text next lt is so_far step =
    lines_more (λ x. line x ∷ []) items i item start text next lt is (so_far ∙ ap (λ (ls : List (List ℕ)). start ++ joined ls) (sym (one_line_each line (take i items)))) step
    ∙ ap (λ (ls : List (List ℕ)). start ++ joined ls) (one_line_each line (take (i + 1) items))

-- ---- items that come twice

pub twice_more : {X : Type 0} (among : X → List X → Bool) (xs : List X) (i : ℕ) (d : X) → i < length xs → among (get_or xs i d) (take i xs) ≡ false
    → none_twice among (take i xs) (drop i xs) ≡ none_twice among (take (i + 1) xs) (drop (i + 1) xs)
twice_more {X} among xs i d lt new =
    let one : drop i xs ≡ get_or xs i d ∷ drop (i + 1) xs = drop_more xs i d lt in
    ap (none_twice among (take i xs)) one
    ∙ ap (λ (b : Bool). not b && none_twice among (take i xs ++ get_or xs i d ∷ []) (drop (i + 1) xs)) new
    ∙ ap (λ (l : List X). none_twice among l (drop (i + 1) xs)) (sym (take_more xs i d lt))

pub twice_found : {X : Type 0} (among : X → List X → Bool) (xs : List X) (i : ℕ) (d : X) → i < length xs → among (get_or xs i d) (take i xs) ≡ true
    → none_twice among (take i xs) (drop i xs) ≡ false
twice_found among xs i d lt known =
    let one : drop i xs ≡ get_or xs i d ∷ drop (i + 1) xs = drop_more xs i d lt in
    ap (none_twice among (take i xs)) one
    ∙ ap (λ (b : Bool). not b && none_twice among (take i xs ++ get_or xs i d ∷ []) (drop (i + 1) xs)) known

-- ---- two lists side by side

pub zip_length : {A B : Type 0} (xs : List A) (ys : List B) → length (zip xs ys) ≡ min (length xs) (length ys)
zip_length [] ys = omega arith
zip_length (x ∷ xs) [] = omega arith
zip_length (x ∷ xs) (y ∷ ys) = omega (arith, zip_length xs ys)

pub zip_at : {A B C : Type 0} (f : B → C) (xs : List A) (ys : List B) (i : ℕ) (x : A) (y : B) (d : A × C) → i < length xs → i < length ys
    → get_or (zip xs (map f ys)) i d ≡ (get_or xs i x, f (get_or ys i y))
zip_at f [] ys i x y d lt more = absurd (omega arith)
zip_at f (a ∷ xs) [] i x y d lt more = absurd (omega arith)
zip_at f (a ∷ xs) (b ∷ ys) zero x y d lt more = refl
zip_at f (a ∷ xs) (b ∷ ys) (suc i) x y d lt more = zip_at f xs ys i x y d (omega arith) (omega arith)

-- a text with the lines of one more pair
pub pair_more : {A B C : Type 0} (f : B → C) (lines : A × C → List (List ℕ)) (xs : List A) (ys : List B) (i : ℕ) (x : A) (y : B) (start text next : List ℕ)
    → i < length xs → i < length ys → x ≡ get_or xs i x → y ≡ get_or ys i y
    → text ≡ start ++ joined (flat_map lines (take i (zip xs (map f ys)))) → next ≡ text ++ joined (lines (x, f y))
    → next ≡ start ++ joined (flat_map lines (take (i + 1) (zip xs (map f ys))))
pair_more {A} {B} {C} f lines xs ys i x y start text next lt more first second so_far step =
    let pair : A × C = (x, f y) in
    let is : pair ≡ get_or (zip xs (map f ys)) i pair = (λ k. (first k, f (second k))) ∙ sym (zip_at f xs ys i x y pair lt more) in
    lines_more lines (zip xs (map f ys)) i pair start text next (omega (arith, zip_length xs (map f ys), length-map ys f)) is so_far step

-- a test of pairs, from a place on
pub pair_passes : {A B C : Type 0} (f : B → C) (test : A × C → Bool) (xs : List A) (ys : List B) (i : ℕ) (x : A) (y : B)
    → i < length xs → i < length ys → x ≡ get_or xs i x → y ≡ get_or ys i y
    → list_all test (drop i (zip xs (map f ys))) ≡ (test (x, f y) && list_all test (drop (i + 1) (zip xs (map f ys))))
pair_passes {A} {B} {C} f test xs ys i x y lt more first second =
    let pair : A × C = (x, f y) in
    let pairs : List (A × C) = zip xs (map f ys) in
    let is : get_or pairs i pair ≡ pair = zip_at f xs ys i x y pair lt more ∙ sym (λ k. (first k, f (second k))) in
    ap (list_all test) (drop_more pairs i pair (omega (arith, zip_length xs (map f ys), length-map ys f)))
    ∙ ap (λ (p : A × C). test p && list_all test (drop (i + 1) pairs)) is

pub pairs_end : {A B C : Type 0} (f : B → C) (test : A × C → Bool) (xs : List A) (ys : List B) (i : ℕ) → min (length xs) (length ys) ≤ i
    → list_all test (drop i (zip xs (map f ys))) ≡ true
pairs_end f test xs ys i past = ap (list_all test) (drop_all i (zip xs (map f ys)) (omega (arith, zip_length xs (map f ys), length-map ys f)))

pub all_pairs : {A B C : Type 0} (f : B → C) (xs : List A) (ys : List B) (i : ℕ) → min (length xs) (length ys) ≤ i → take i (zip xs (map f ys)) ≡ zip xs (map f ys)
all_pairs f xs ys i past = take_all i (zip xs (map f ys)) (omega (arith, zip_length xs (map f ys), length-map ys f))
