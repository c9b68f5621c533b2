-- Words in the front of bytes.
use Rattle.std.specs.Prelude.{◌≡◌, ◌==◌, ◌∷◌, ◌++◌, ◌+◌, ◌≤◌, [], ℕ, true, false, IfSome, IsSomeAnd, List, MatchOption, None, Option, Some, codes, drop, length, nat_eq, take, refl}
use Rattle.std.specs.Borrow.{Bor}
use Rattle.std.specs.Cmp.Lexicographic.{pointwise}
use Rattle.std.proofs.Common.{◌∙◌, ap, arith, get_or, sym}
use Rattle.std.proofs.lemmas.Bool.{and_parts, eqb-true, false≢true}
use Rattle.std.proofs.lemmas.List.{append_cancel_left, drop_at}
use Rattle.dk_print.specs.Parts.{values_text}
use Rattle.dk_expr.proofs.ValueTexts.{joined, joined_cons, many_values, rest_behind}

-- bytes begin with what stands in front of them
pub own_front : (word rest : List ℕ) → pointwise nat_eq (take (length word) (word ++ rest)) word ≡ true
own_front [] rest = refl
own_front (b ∷ word) rest = rw (same b) (own_front word rest)
  where
    same : (n : ℕ) → (n == n) ≡ true
    same n = grind arith

-- and what they begin with stands in front of them
pub front_is : (word bytes : List ℕ) → pointwise nat_eq (take (length word) bytes) word ≡ true → bytes ≡ word ++ drop (length word) bytes
front_is [] bytes h = refl
front_is (w ∷ word) [] h = absurd (false≢true h)
front_is (w ∷ word) (b ∷ bytes) h =
    let both = and_parts (b == w) (pointwise nat_eq (take (length word) bytes) word) h in
    let first = eqb-true b w both.0 in
    let rest = front_is word bytes both.1 in
    λ i. first i ∷ rest i

-- ---- what stands behind a word, if the bytes begin with it
abbrev pub Strips : List ℕ → List ℕ → Option (Bor (List ℕ)) → Type 0
Strips word bytes r =
    MatchOption r (pointwise nat_eq (take (length word) bytes) word ≡ false)
    (λ rest. (pointwise nat_eq (take (length word) bytes) word ≡ true) × (rest.now ≡ drop (length word) bytes) × (length rest.now + length word ≡ length bytes))

pub rest_read : (word bytes : List ℕ) (r : Option (Bor (List ℕ))) → Strips word bytes r → (more : List ℕ) → bytes ≡ word ++ more → IsSomeAnd r (λ rest. rest.now ≡ more)
rest_read word bytes None h more is = absurd (false≢true (sym h ∙ ap (λ l. pointwise nat_eq (take (length word) l) word) is ∙ own_front word more))
rest_read word bytes (Some rest) h more is = h.1 ∙ ap (drop (length word)) is ∙ drop_at word more (length word) refl

pub front_read : (word bytes : List ℕ) (r : Option (Bor (List ℕ))) → Strips word bytes r → IfSome r (λ rest. bytes ≡ word ++ rest.now)
front_read word bytes None h = tt
front_read word bytes (Some rest) h = front_is word bytes h.0 ∙ ap (λ l. word ++ l) (sym h.1)

-- ---- values
pub one_value : (bytes value : List ℕ) (texts : List (List ℕ)) → bytes ≡ codes " == " ++ value → 1 ≤ length texts → bytes ≡ values_text (λ t. t) texts → value ∷ [] ≡ texts
one_value bytes value [] front some is = absurd (omega (arith, some))
one_value bytes value (t ∷ []) front some is = ap (λ v. v ∷ []) (append_cancel_left (codes " == ") value t (sym front ∙ is))
one_value bytes value (t ∷ u ∷ ts) front some is = absurd (false≢true (ap (λ l. get_or l 1 0 == 111) (sym front ∙ is ∙ many_values t u ts)))

-- several values aren't one
pub not_one : (bytes : List ℕ) (texts : List (List ℕ)) → 1 ≤ length texts → bytes ≡ values_text (λ t. t) texts → ((more : List ℕ) → bytes ≡ codes " == " ++ more → ⊥)
    → (rest : List ℕ) → bytes ≡ codes " one of { " ++ rest → rest ≡ joined texts ++ codes " }"
not_one bytes [] some is none rest front = absurd (omega (arith, some))
not_one bytes (t ∷ []) some is none rest front = absurd (none t is)
not_one bytes (t ∷ u ∷ ts) some is none rest front =
    append_cancel_left (codes " one of { ") rest (t ++ rest_behind (u ∷ ts)) (sym front ∙ is ∙ many_values t u ts) ∙ sym (joined_cons t (u ∷ ts))

pub are_many : (bytes : List ℕ) (texts : List (List ℕ)) → 1 ≤ length texts → bytes ≡ values_text (λ t. t) texts → ((more : List ℕ) → bytes ≡ codes " == " ++ more → ⊥)
    → bytes ≡ codes " one of { " ++ (joined texts ++ codes " }")
are_many bytes [] some is none = absurd (omega (arith, some))
are_many bytes (t ∷ []) some is none = absurd (none t is)
are_many bytes (t ∷ u ∷ ts) some is none = is ∙ many_values t u ts ∙ ap (λ l. codes " one of { " ++ l) (sym (joined_cons t (u ∷ ts)))
