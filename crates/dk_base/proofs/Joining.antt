-- Items joined by blanks.
use Rattle.std.proofs.Common.{◌≡◌, ◌<◌, ◌+◌, ◌∙◌, ◌==◌, ◌∷◌, ◌++◌, [], ℕ, Bool, List, length, map, take, get_or, refl, sym, ap, append_assoc, if◌then◌else◌, arith}
use Rattle.std.specs.List.{join_with_byte}
use Rattle.dk_base.specs.Pieces.{is_empty}
use Rattle.std.proofs.lemmas.Bool.{ne_eqb}
use Rattle.std.proofs.lemmas.List.{map_more, length-map, length-take-le}

-- one item more
joined_more : (c : ℕ) (xs : List (List ℕ)) (x : List ℕ) → join_with_byte c (xs ++ x ∷ []) ≡ join_with_byte c xs ++ (if is_empty xs then x else c ∷ x)
joined_more c [] x = refl
joined_more c (y ∷ []) x = refl
joined_more c (y ∷ z ∷ xs) x =
    ap (λ (t : List ℕ). y ++ c ∷ t) (joined_more c (z ∷ xs) x) ∙ sym (append_assoc y (c ∷ join_with_byte c (z ∷ xs)) (c ∷ x))

is_empty_by_length : {T : Type 0} (xs : List T) → is_empty xs ≡ (length xs == 0)
is_empty_by_length [] = refl
is_empty_by_length (x ∷ xs) = sym (ne_eqb (length (x ∷ xs)) 0 (λ e. absurd (omega arith)))

pub item_more : {T : Type 0} (f : T → List ℕ) (items : List T) (i : ℕ) (item : T) (start text next : List ℕ) (first : Bool)
    → i < length items → item ≡ get_or items i item → first ≡ (i == 0)
    → text ≡ start ++ join_with_byte 32 (map f (take i items))
    → next ≡ text ++ (if first then f item else 32 ∷ f item)
    → next ≡ start ++ join_with_byte 32 (map f (take (i + 1) items))
item_more f items i item start text next first lt here begun so_far step =
    let front : List (List ℕ) = map f (take i items) in
    let count : length front ≡ i = length-map (take i items) f ∙ length-take-le i items (omega arith) in
    let is_first : is_empty front ≡ first = is_empty_by_length front ∙ ap (λ n. n == 0) count ∙ sym begun in
    let more : map f (take (i + 1) items) ≡ front ++ f item ∷ [] =
    map_more f items i item lt ∙ ap (λ x. front ++ f x ∷ []) (sym here) in
    step
    ∙ ap (λ (t : List ℕ). t ++ (if first then f item else 32 ∷ f item)) so_far
    ∙ append_assoc start (join_with_byte 32 front) (if first then f item else 32 ∷ f item)
    ∙ ap (λ (t : List ℕ). start ++ t) (ap (λ (b : Bool). join_with_byte 32 front ++ (if b then f item else 32 ∷ f item)) (sym is_first)
    ∙ sym (joined_more 32 front (f item)) ∙ ap (join_with_byte 32) (sym more))
