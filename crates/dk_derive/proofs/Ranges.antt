-- Where derived values are there.
use Rattle.std.proofs.Common.{◌≡◌, ◌∙◌, ℕ, ℤ, pos, negsuc, zero, suc, ◌+◌, ◌-◌, ◌&&◌, Bool, true, false, int_le, int_lt, nat_le, nat_lt, is_some, List, [], ◌∷◌, length, take, drop, Option, Some, None, slice_get, if◌then◌else◌, refl, sym, ap, arith}
use Rattle.std.proofs.lemmas.Bool.Decides.{nat_tests}
use Rattle.std.specs.Option.{option_map_or}
use Rattle.dk_base.specs.Values.{kind_of}
use Rattle.dk_base.specs.declared.values.Value.{Value}
use Rattle.dk_base.specs.declared.values.Value.TheVariants as value
use Rattle.dk_derive.specs.Laws.{MissingBasesGiveMissing, ValuesAreWithin}
use Rattle.dk_derive.specs.Values.{at, back, element, front, next_place, number_of_elements, place, size}

abbrev there : Value → Bool
there v = is_some (kind_of v)

item_there : {A : Type 0} (make : A → Value) → ((x : A) → there (make x) ≡ true) → (xs : List A) (k : ℕ) → there (option_map_or make (slice_get xs k) value.Missing) ≡ nat_lt k (length xs)
item_there make made [] k = (let none : nat_lt k 0 ≡ false = grind (arith, nat_tests) in sym none)
item_there make made (x ∷ xs) zero = (let first : nat_lt 0 (suc (length xs)) ≡ true = grind (arith, nat_tests) in made x ∙ sym first)
item_there make made (x ∷ xs) (suc k) = (let next : nat_lt (suc k) (suc (length xs)) ≡ nat_lt k (length xs) = grind (arith, nat_tests) in item_there make made xs k ∙ sym next)

part_there : {A : Type 0} (make : List A → Value) (xs : List A) → there (make xs) ≡ true → (b : Bool) → there (option_map_or make (if b then Some xs else None) value.Missing) ≡ b
part_there make xs made true = made
part_there make xs made false = refl

-- the number of elements, where the size is a number
number-is : (m n : ℕ) → value.Int (pos m) ≡ value.Int (pos n) → m ≡ n
number-is m n h = cc h

element_there : (v : Value) (n k : ℕ) → size v ≡ value.Int (pos n) → there (element v (Some k)) ≡ nat_lt k n
element_there value.Missing n k h = absurd (cc h)
element_there (value.Bool b) n k h = absurd (cc h)
element_there (value.Int z) n k h = absurd (cc h)
element_there (value.Hash c) n k h = absurd (cc h)
element_there (value.Str s) n k h = absurd (cc h)
element_there (value.BoolSeq bs) n k h = item_there (λ b. value.Bool b) (λ b. refl) bs k ∙ ap (nat_lt k) (number-is (length bs) n h)
element_there (value.IntSeq zs) n k h = item_there (λ z. value.Int z) (λ z. refl) zs k ∙ ap (nat_lt k) (number-is (length zs) n h)
element_there (value.HashSeq ns) n k h = item_there (λ c. value.Hash c) (λ c. refl) ns k ∙ ap (nat_lt k) (number-is (length ns) n h)
element_there (value.StrSeq ss) n k h = item_there (λ s. value.Str s) (λ s. refl) ss k ∙ ap (nat_lt k) (number-is (length ss) n h)

front_there : (v : Value) (n k : ℕ) → size v ≡ value.Int (pos n) → there (front v (Some k)) ≡ nat_le k n
front_there value.Missing n k h = absurd (cc h)
front_there (value.Bool b) n k h = absurd (cc h)
front_there (value.Int z) n k h = absurd (cc h)
front_there (value.Hash c) n k h = absurd (cc h)
front_there (value.Str s) n k h = absurd (cc h)
front_there (value.BoolSeq bs) n k h = part_there (λ xs. value.BoolSeq xs) (take k bs) refl (nat_le k (length bs)) ∙ ap (nat_le k) (number-is (length bs) n h)
front_there (value.IntSeq zs) n k h = part_there (λ xs. value.IntSeq xs) (take k zs) refl (nat_le k (length zs)) ∙ ap (nat_le k) (number-is (length zs) n h)
front_there (value.HashSeq ns) n k h = part_there (λ xs. value.HashSeq xs) (take k ns) refl (nat_le k (length ns)) ∙ ap (nat_le k) (number-is (length ns) n h)
front_there (value.StrSeq ss) n k h = part_there (λ xs. value.StrSeq xs) (take k ss) refl (nat_le k (length ss)) ∙ ap (nat_le k) (number-is (length ss) n h)

back_there : (v : Value) (n k : ℕ) → size v ≡ value.Int (pos n) → there (back v (Some k)) ≡ nat_le k n
back_there value.Missing n k h = absurd (cc h)
back_there (value.Bool b) n k h = absurd (cc h)
back_there (value.Int z) n k h = absurd (cc h)
back_there (value.Hash c) n k h = absurd (cc h)
back_there (value.Str s) n k h = absurd (cc h)
back_there (value.BoolSeq bs) n k h = part_there (λ xs. value.BoolSeq xs) (drop k bs) refl (nat_le k (length bs)) ∙ ap (nat_le k) (number-is (length bs) n h)
back_there (value.IntSeq zs) n k h = part_there (λ xs. value.IntSeq xs) (drop k zs) refl (nat_le k (length zs)) ∙ ap (nat_le k) (number-is (length zs) n h)
back_there (value.HashSeq ns) n k h = part_there (λ xs. value.HashSeq xs) (drop k ns) refl (nat_le k (length ns)) ∙ ap (nat_le k) (number-is (length ns) n h)
back_there (value.StrSeq ss) n k h = part_there (λ xs. value.StrSeq xs) (drop k ss) refl (nat_le k (length ss)) ∙ ap (nat_le k) (number-is (length ss) n h)

-- at no place all is missing
pub no_element : (v : Value) → element v None ≡ value.Missing
no_element value.Missing = refl
no_element (value.Bool b) = refl
no_element (value.Int z) = refl
no_element (value.Hash n) = refl
no_element (value.Str s) = refl
no_element (value.BoolSeq bs) = refl
no_element (value.IntSeq zs) = refl
no_element (value.HashSeq ns) = refl
no_element (value.StrSeq ss) = refl

pub no_front : (v : Value) → front v None ≡ value.Missing
no_front value.Missing = refl
no_front (value.Bool b) = refl
no_front (value.Int z) = refl
no_front (value.Hash n) = refl
no_front (value.Str s) = refl
no_front (value.BoolSeq bs) = refl
no_front (value.IntSeq zs) = refl
no_front (value.HashSeq ns) = refl
no_front (value.StrSeq ss) = refl

pub no_back : (v : Value) → back v None ≡ value.Missing
no_back value.Missing = refl
no_back (value.Bool b) = refl
no_back (value.Int z) = refl
no_back (value.Hash n) = refl
no_back (value.Str s) = refl
no_back (value.BoolSeq bs) = refl
no_back (value.IntSeq zs) = refl
no_back (value.HashSeq ns) = refl
no_back (value.StrSeq ss) = refl

from_zero : (k : ℕ) → nat_le 0 k ≡ true
from_zero k = grind (arith, nat_tests)

-- a number that is not below 0, and the one behind it
at_place : (n : ℕ) (f : Option ℕ → Bool) → ((k : ℕ) → f (Some k) ≡ nat_lt k n) → f None ≡ false → (z : ℤ) → f (place (value.Int z)) ≡ (int_le (pos 0) z && int_lt z (pos n))
at_place n f some none (pos k) = some k ∙ ap (λ b. b && nat_lt k n) (sym (from_zero k))
at_place n f some none (negsuc k) = none

up_to_place : (n : ℕ) (f : Option ℕ → Bool) → ((k : ℕ) → f (Some k) ≡ nat_le k n) → f None ≡ false → (z : ℤ) → f (place (value.Int z)) ≡ (int_le (pos 0) z && int_le z (pos n))
up_to_place n f some none (pos k) = some k ∙ ap (λ b. b && nat_le k n) (sym (from_zero k))
up_to_place n f some none (negsuc k) = none

up_to_next : (n : ℕ) (f : Option ℕ → Bool) → ((k : ℕ) → f (Some k) ≡ nat_le k n) → f None ≡ false → (z : ℤ) → f (next_place (value.Int z)) ≡ (int_le (negsuc 0) z && int_lt z (pos n))
up_to_next n f some none (pos k) = (let next : nat_le (k + 1) n ≡ nat_lt k n = grind (arith, nat_tests) in some (k + 1) ∙ next)
up_to_next n f some none (negsuc zero) = some 0 ∙ from_zero n
up_to_next n f some none (negsuc (suc k)) = (let below : nat_le (suc k) 0 ≡ false = grind (arith, nat_tests) in none ∙ ap (λ b. b && true) (sym below))

last_below : (m n : ℕ) → m ≡ n → nat_lt (m - 1) n ≡ nat_lt 0 n
last_below m n e = rw e (grind (arith, nat_tests))

last_there : (v : Value) (n : ℕ) → size v ≡ value.Int (pos n) → nat_lt (number_of_elements v - 1) n ≡ nat_lt 0 n
last_there value.Missing n h = absurd (cc h)
last_there (value.Bool b) n h = absurd (cc h)
last_there (value.Int z) n h = absurd (cc h)
last_there (value.Hash c) n h = absurd (cc h)
last_there (value.Str s) n h = absurd (cc h)
last_there (value.BoolSeq bs) n h = last_below (length bs) n (number-is (length bs) n h)
last_there (value.IntSeq zs) n h = last_below (length zs) n (number-is (length zs) n h)
last_there (value.HashSeq ns) n h = last_below (length ns) n (number-is (length ns) n h)
last_there (value.StrSeq ss) n h = last_below (length ss) n (number-is (length ss) n h)

pub values_are_within : ValuesAreWithin
values_are_within base s i n z has is =
    let v = at base s in
    let m : size v ≡ value.Int (pos n) = has in
    let none_at : there (element v None) ≡ false = ap there (no_element v) in
    let none_front : there (front v None) ≡ false = ap there (no_front v) in
    let none_back : there (back v None) ≡ false = ap there (no_back v) in
    record {
      first = element_there v n 0 has;
      last = element_there v n (number_of_elements v - 1) has ∙ last_there v n has;
      at = rw is (at_place n (λ k. there (element v k)) (λ k. element_there v n k has) none_at z);
      upto = rw is (up_to_next n (λ k. there (front v k)) (λ k. front_there v n k has) none_front z);
      before = rw is (up_to_place n (λ k. there (front v k)) (λ k. front_there v n k has) none_front z);
      since = rw is (up_to_place n (λ k. there (back v k)) (λ k. back_there v n k has) none_back z);
      after = rw is (up_to_next n (λ k. there (back v k)) (λ k. back_there v n k has) none_back z);
    }

pub missing_bases_give_missing : MissingBasesGiveMissing
missing_bases_give_missing = record {
  sequence = λ base s i h. record {
    size = rw h refl;
    first = rw h refl;
    last = rw h refl;
    by_index = record { at = rw h refl; upto = rw h refl; before = rw h refl; since = rw h refl; after = rw h refl };
  };
  index = λ base s i h. record {
    at = rw h (no_element (at base s));
    upto = rw h (no_front (at base s));
    before = rw h (no_front (at base s));
    since = rw h (no_back (at base s));
    after = rw h (no_back (at base s));
  };
}
