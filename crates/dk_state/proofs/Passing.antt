-- Bytes that are held against a text piece by piece.
use Rattle.std.specs.Prelude.{◌≡◌, ◌<◌, ◌+◌, ◌++◌, ◌∷◌, ◌==◌, ◌&&◌, [], ℕ, Bool, true, false, List, MatchOption, Option, Some, None, flat_map, length, map, nat_eq, option_map, take, drop, bytes_eq, refl, if◌then◌else◌}
use Rattle.std.specs.Borrow.{Bor}
use Rattle.std.specs.Cmp.Lexicographic.{pointwise}
use Rattle.std.proofs.Common.{◌∙◌, ap, arith, get_or, sym}
use Rattle.std.proofs.lemmas.Bool.{and_parts, false≢true}
use Rattle.std.proofs.lemmas.List.{flat_map_more, take-append-drop, take_more}
use Rattle.std.proofs.lemmas.List.Concat.{flat_map-append, flat_map-cons}
use Rattle.dk_state.specs.Matching.{behind, is_end, left_behind}

-- ---- one piece after another
same_choice : (c : Bool) (p q : Option (List ℕ)) (b : List ℕ) → p ≡ left_behind b q → (if c then p else None) ≡ left_behind b (if c then q else None)
same_choice true p q b e = e
same_choice false p q b e = refl

behind_both : (a b bytes : List ℕ) → behind (a ++ b) bytes ≡ left_behind b (behind a bytes)
behind_both [] b bytes = refl
behind_both (x ∷ a) b [] = refl
behind_both (x ∷ a) b (y ∷ bytes) = same_choice (x == y) (behind (a ++ b) bytes) (behind a bytes) b (behind_both a b bytes)

pub left_behind_both : (a b : List ℕ) (left : Option (List ℕ)) → left_behind (a ++ b) left ≡ left_behind b (left_behind a left)
left_behind_both a b None = refl
left_behind_both a b (Some bytes) = behind_both a b bytes

-- no text leaves all
pub nothing_passed : (left : Option (List ℕ)) → left_behind [] left ≡ left
nothing_passed None = refl
nothing_passed (Some bytes) = refl

-- some of the items are passed, and then the others
pub some_passed : {X : Type 0} (piece : X → List ℕ) (items : List X) (n : ℕ) (left next : Option (List ℕ))
    → next ≡ left_behind (flat_map piece (take n items)) left → left_behind (flat_map piece (drop n items)) next ≡ left_behind (flat_map piece items) left
some_passed piece items n left next step =
    ap (left_behind (flat_map piece (drop n items))) step
    ∙ sym (left_behind_both (flat_map piece (take n items)) (flat_map piece (drop n items)) left)
    ∙ ap (λ t. left_behind t left) (sym (flat_map-append piece (take n items) (drop n items)) ∙ ap (flat_map piece) (take-append-drop n items))

-- one piece more of several
pub one_more_passed : {X : Type 0} (piece : X → List ℕ) (items : List X) (i : ℕ) (item : X) (start left next : Option (List ℕ)) → i < length items
    → item ≡ get_or items i item → left ≡ left_behind (flat_map piece (take i items)) start → next ≡ left_behind (piece item) left
    → next ≡ left_behind (flat_map piece (take (i + 1) items)) start
one_more_passed piece items i item start left next lt here so_far step =
    step ∙ ap (left_behind (piece item)) so_far
    ∙ sym (left_behind_both (flat_map piece (take i items)) (piece item) start)
    ∙ ap (λ t. left_behind t start)
    (flat_map_more piece [] (take i items) item
    ∙ ap (flat_map piece) (ap (λ x. take i items ++ x ∷ []) here ∙ sym (take_more items i item lt)))

-- pieces of what the items are seen as
pub mapped_pieces : {X Y : Type 0} (seen : X → Y) (piece : Y → List ℕ) (items : List X) → flat_map (λ x. piece (seen x)) items ≡ flat_map piece (map seen items)
mapped_pieces seen piece [] = refl
mapped_pieces seen piece (x ∷ items) =
    flat_map-cons (λ y. piece (seen y)) x items ∙ (ap (λ t. piece (seen x) ++ t) (mapped_pieces seen piece items) ∙ sym (flat_map-cons piece (seen x) (map seen items)))

-- ---- the end
end_choice : (c : Bool) (p : Option (List ℕ)) (q : Bool) → is_end p ≡ q → is_end (if c then p else None) ≡ (c && q)
end_choice true p q e = e
end_choice false p q e = refl

-- bytes of which nothing is left behind a text are the text
pub ends_behind : (text bytes : List ℕ) → is_end (left_behind text (Some bytes)) ≡ bytes_eq text bytes
ends_behind [] [] = refl
ends_behind [] (y ∷ bytes) = refl
ends_behind (x ∷ text) [] = refl
ends_behind (x ∷ text) (y ∷ bytes) = end_choice (x == y) (behind text bytes) (bytes_eq text bytes) (ends_behind text bytes)

-- ---- a piece
turned : (a b : ℕ) → (a == b) ≡ (b == a)
turned a b = grind arith

begun : (text bytes : List ℕ) → pointwise nat_eq (take (length text) bytes) text ≡ true → behind text bytes ≡ Some (drop (length text) bytes)
begun [] bytes e = refl
begun (x ∷ text) [] e = absurd (false≢true e)
begun (x ∷ text) (y ∷ bytes) e =
    let both = and_parts (y == x) (pointwise nat_eq (take (length text) bytes) text) e in
    ap (λ c. if c then behind text bytes else None) (turned x y ∙ both.0) ∙ begun text bytes both.1

none_choice : (c rest : Bool) (p : Option (List ℕ)) → (c && rest) ≡ false → (rest ≡ false → p ≡ None) → (if c then p else None) ≡ None
none_choice true rest p e f = f e
none_choice false rest p e f = refl

unbegun : (text bytes : List ℕ) → pointwise nat_eq (take (length text) bytes) text ≡ false → behind text bytes ≡ None
unbegun [] bytes e = absurd (false≢true (sym e))
unbegun (x ∷ text) [] e = refl
unbegun (x ∷ text) (y ∷ bytes) e =
    ap (λ c. if c then behind text bytes else None) (turned x y)
    ∙ none_choice (y == x) (pointwise nat_eq (take (length text) bytes) text) (behind text bytes) e (unbegun text bytes)

-- what is left behind a prefix that is stripped
pub stripped : (text bytes : List ℕ) (r : Option (Bor (List ℕ)))
    → MatchOption r (pointwise nat_eq (take (length text) bytes) text ≡ false) (λ x. (pointwise nat_eq (take (length text) bytes) text ≡ true) × (x.now ≡ drop (length text) bytes) × (length x.now + length text ≡ length bytes))
    → option_map (λ x. x.now) r ≡ behind text bytes
stripped text bytes None e = sym (unbegun text bytes e)
stripped text bytes (Some x) e = ap (λ l. Some l) e.1 ∙ sym (begun text bytes e.0)
