-- The relations that rows state of numbers and sequences. Numbers are exact.
use Rattle.std.specs.Prelude.{◌==◌, ◌%◌, ℕ, ℤ, pos, ◌+ℤ◌, ◌-ℤ◌, ◌*ℤ◌, int_div, int_le, int_lt, int_rem, unsigned_abs, Bool, not, ◌&&◌, List, codes, drop, length, reverse, zip}
use Rattle.std.specs.Int.{cast_unsigned, int_max, int_min, w64}
use Rattle.std.specs.List.{list_all, list_any}
use Rattle.std.specs.Ordering.{int_eq}
use Rattle.std.specs.Str.{bytes_eq}
use Rattle.dk_arith.specs.Gcd.{gcd}

-- ---- of one value
abbrev pub is_nonzero : ℤ → Bool
is_nonzero x = not (int_eq x (pos 0))

abbrev pub is_nonzero_hash : ℕ → Bool
is_nonzero_hash x = not (x == 0)

-- the string isn't `null`
abbrev pub is_nonnull : List ℕ → Bool
is_nonnull s = not (bytes_eq s (codes "null"))

-- ---- of two
-- they are different by a test of equality
abbrev pub differ : {A : Type 0} → (A → A → Bool) → A → A → Bool
differ same x y = not (same x y)

abbrev pub int_gt : ℤ → ℤ → Bool
int_gt x y = int_lt y x

abbrev pub int_ge : ℤ → ℤ → Bool
int_ge x y = int_le y x

-- x is a multiple of y, which isn't 0
abbrev pub is_multiple : ℤ → ℤ → Bool
is_multiple x y = is_nonzero y && unsigned_abs x % unsigned_abs y == 0

abbrev pub is_square : ℤ → ℤ → Bool
is_square x y = int_eq x (y *ℤ y)

-- ---- of three: z is the result of an operation on x and y
abbrev pub is_sum : ℤ → ℤ → ℤ → Bool
is_sum z x y = int_eq z (x +ℤ y)

abbrev pub is_difference : ℤ → ℤ → ℤ → Bool
is_difference z x y = int_eq z (x -ℤ y)

abbrev pub is_product : ℤ → ℤ → ℤ → Bool
is_product z x y = int_eq z (x *ℤ y)

abbrev pub is_minimum : ℤ → ℤ → ℤ → Bool
is_minimum z x y = int_eq z (int_min x y)

abbrev pub is_maximum : ℤ → ℤ → ℤ → Bool
is_maximum z x y = int_eq z (int_max x y)

-- the quotient is cut towards 0
abbrev pub is_quotient : ℤ → ℤ → ℤ → Bool
is_quotient z x y = is_nonzero y && int_eq z (int_div x y)

-- what x is more than y times that quotient
abbrev pub is_remainder : ℤ → ℤ → ℤ → Bool
is_remainder z x y = is_nonzero y && int_eq z (int_rem x y)

-- bit by bit, of the two's complements of 64 bits
abbrev pub is_bitwise : (ℕ → ℕ → ℕ) → ℤ → ℤ → ℤ → Bool
is_bitwise operation z x y = cast_unsigned w64 z == operation (cast_unsigned w64 x) (cast_unsigned w64 y)

-- at least 0; of 0 and 0 it is 0
abbrev pub is_gcd : ℤ → ℤ → ℤ → Bool
is_gcd z x y = int_eq z (pos (gcd (unsigned_abs x) (unsigned_abs y)))

-- ---- of sequences
module _ {A B : Type 0} (R : A → B → Bool) where
  -- the sequences are of one length, and each element of s is in the relation with its partner in t
  abbrev pub are_pairwise : List A → List B → Bool
  are_pairwise s t = length s == length t && list_all (λ (p : A × B). R p.0 p.1) (zip s t)

  -- each element is in the relation with x
  abbrev pub all_relate : List A → B → Bool
  all_relate s x = list_all (λ e. R e x) s

-- each element is in the relation with the next
abbrev pub are_sorted : {A : Type 0} → (A → A → Bool) → List A → Bool
are_sorted {A} R s = list_all (λ (p : A × A). R p.0 p.1) (zip s (drop 1 s))

-- x is an element of s
abbrev pub is_member : {A : Type 0} → (A → A → Bool) → A → List A → Bool
is_member same x s = list_any (λ e. same e x) s

-- each element of s is one of t
abbrev pub is_subset : {A : Type 0} → (A → A → Bool) → List A → List A → Bool
is_subset same s t = list_all (λ x. is_member same x t) s

-- s read backwards is t
abbrev pub is_reverse : {A : Type 0} → (A → A → Bool) → List A → List A → Bool
is_reverse same s t = are_pairwise same (reverse s) t
