-- What stands in front of the bytes that are left.
use Rattle.std.specs.Prelude.{◌≡◌, ◌++◌, ◌∷◌, ◌==◌, [], ℕ, Bool, true, not, List, drop, length, nat_eq, take, refl}
use Rattle.std.specs.Cmp.Lexicographic.{pointwise}
use Rattle.std.specs.List.{list_all, position_or_len}
use Rattle.std.proofs.Common.{◌∙◌, ap, arith}
use Rattle.std.proofs.lemmas.Bool.{and_parts}
use Rattle.std.proofs.lemmas.List.{drop_at, take_at}
use Rattle.dk_state.specs.Reading.{BeginsWith, HasNone}

pub eqb-self : (b : ℕ) → (b == b) ≡ true
eqb-self b = grind arith

-- bytes begin with what stands in front of them
pub own_front : (word rest : List ℕ) → pointwise nat_eq (take (length word) (word ++ rest)) word ≡ true
own_front [] rest = refl
own_front (b ∷ word) rest = rw (eqb-self b) (own_front word rest)

-- the first byte that passes the test stands behind those that don't
pub first_behind : (test : ℕ → Bool) (field rest : List ℕ) → HasNone test field → BeginsWith test rest → position_or_len test (field ++ rest) ≡ length field
first_behind test [] [] none first = absurd first
first_behind test [] (b ∷ rest) none first = rw first refl
first_behind test (b ∷ field) rest none first =
    let both = and_parts (not (test b)) (list_all (λ c. not (test c)) field) none in
    rw both.0 (omega (arith, first_behind test field rest both.1 first))

-- so the field is what is in front of it
pub field_taken : (test : ℕ → Bool) (left found next field rest : List ℕ) (len : ℕ) → left ≡ field ++ rest → HasNone test field → BeginsWith test rest
    → len ≡ position_or_len test left → found ≡ take len left → next ≡ drop len left → (found ≡ field) × (next ≡ rest)
field_taken test left found next field rest len is none first long front behind =
    let own : len ≡ length field = long ∙ ap (position_or_len test) is ∙ first_behind test field rest none first in (
      front ∙ (λ i. take (own i) (is i)) ∙ take_at field rest (length field) refl,
      behind ∙ (λ i. drop (own i) (is i)) ∙ drop_at field rest (length field) refl,
    )
