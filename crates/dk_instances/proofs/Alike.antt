-- Relations that are the same both ways round.
use Rattle.std.specs.Prelude.{◌≡◌, ◌==◌, ◌&&◌, ℕ, ℤ, pos, ◌+ℤ◌, ◌*ℤ◌, unsigned_abs, bit_and, bit_or, bit_xor, Bool, true, not, List, [], ◌∷◌, length, refl, reverse, zip}
use Rattle.std.specs.Bool.{Decides}
use Rattle.std.specs.Int.{cast_unsigned, int_max, int_min, w64}
use Rattle.std.specs.List.{list_all}
use Rattle.std.specs.Ordering.{int_eq}
use Rattle.std.proofs.Common.{sym, ap, ◌∙◌, arith, subst}
use Rattle.std.proofs.Math.IntN.{*ℤ_comm}
use Rattle.std.proofs.lemmas.Bool.{and_parts}
use Rattle.std.proofs.lemmas.Bool.Decides.{Decides-eqb, Decides-like, same_from_decides}
use Rattle.std.proofs.lemmas.Int.{clamps, ints}
use Rattle.std.proofs.lemmas.List.{reverse-reverse}
use Rattle.std.proofs.lemmas.Nat.{and_comm, or_comm, xor_comm}
use Rattle.dk_arith.proofs.GcdLaws.{gcd-swap}
use Rattle.dk_arith.specs.Gcd.{gcd}
use Rattle.dk_meanings.specs.Relations.{are_pairwise, differ, is_bitwise, is_gcd, is_maximum, is_minimum, is_product, is_reverse, is_sum}

-- ---- tests of equality
module _ {A : Type 0} (same : A → A → Bool) (tells : (x y : A) → Decides (same x y) (x ≡ y)) where
  pub equal_alike : (x y : A) → same x y ≡ same y x
  equal_alike x y =
      let d : Decides (same x y) (y ≡ x) = Decides-like (same x y) (λ e. sym e) (λ e. sym e) (tells x y) in
      same_from_decides (same x y) (same y x) d (tells y x)

  pub differ_alike : (x y : A) → differ same x y ≡ differ same y x
  differ_alike x y = ap not (equal_alike x y)

  -- ---- sequences that are equal element by element
  equal_by_pairs : (s t : List A) → length s ≡ length t → list_all (λ (p : A × A). same p.0 p.1) (zip s t) ≡ true → s ≡ t
  equal_by_pairs [] [] l h = refl
  equal_by_pairs [] (y ∷ t) l h = absurd (omega (arith, l))
  equal_by_pairs (x ∷ s) [] l h = absurd (omega (arith, l))
  equal_by_pairs (x ∷ s) (y ∷ t) l h =
      let p = and_parts (same x y) (list_all (λ (q : A × A). same q.0 q.1) (zip s t)) h in
      ap (λ z. z ∷ s) ((tells x y).0 p.0) ∙ ap (λ u. y ∷ u) (equal_by_pairs s t (omega (arith, l)) p.1)

  same_by_pairs : (s : List A) → list_all (λ (p : A × A). same p.0 p.1) (zip s s) ≡ true
  same_by_pairs [] = refl
  same_by_pairs (x ∷ s) = ap (λ b. b && list_all (λ (p : A × A). same p.0 p.1) (zip s s)) ((tells x x).1 refl) ∙ same_by_pairs s

  pairwise_same : (s : List A) → are_pairwise same s s ≡ true
  pairwise_same s = ap (λ b. b && list_all (λ (p : A × A). same p.0 p.1) (zip s s)) ((Decides-eqb (length s) (length s)).1 refl) ∙ same_by_pairs s

  pub pairwise_tells : (s t : List A) → Decides (are_pairwise same s t) (s ≡ t)
  pairwise_tells s t = (
    λ h.
        let p = and_parts (length s == length t) (list_all (λ (q : A × A). same q.0 q.1) (zip s t)) h in
        equal_by_pairs s t ((Decides-eqb (length s) (length t)).0 p.0) p.1,
    λ e. subst (λ u. are_pairwise same s u ≡ true) e (pairwise_same s),
  )

  pub reverse_alike : (s t : List A) → is_reverse same s t ≡ is_reverse same t s
  reverse_alike s t =
      let d : Decides (are_pairwise same (reverse s) t) (reverse t ≡ s) = Decides-like (are_pairwise same (reverse s) t)
      (λ e. ap reverse (sym e) ∙ reverse-reverse s) (λ e. ap reverse (sym e) ∙ reverse-reverse t)
      (pairwise_tells (reverse s) t) in
      same_from_decides (are_pairwise same (reverse s) t) (are_pairwise same (reverse t) s) d (pairwise_tells (reverse t) s)

-- ---- results of operations that commute
module _ {A : Type 0} (result : ℤ → A → Bool) (operation : ℤ → ℤ → A) (commutes : (x y : ℤ) → operation x y ≡ operation y x) where
  pub result_alike : (z x y : ℤ) → result z (operation x y) ≡ result z (operation y x)
  result_alike z x y = ap (result z) (commutes x y)

pub sum_alike : (z x y : ℤ) → is_sum z x y ≡ is_sum z y x
sum_alike = result_alike int_eq (λ x y. x +ℤ y) (λ x y. omega (arith, ints))

pub product_alike : (z x y : ℤ) → is_product z x y ≡ is_product z y x
product_alike = result_alike int_eq (λ x y. x *ℤ y) *ℤ_comm

pub minimum_alike : (z x y : ℤ) → is_minimum z x y ≡ is_minimum z y x
minimum_alike = result_alike int_eq int_min (λ x y. omega (arith, ints, clamps))

pub maximum_alike : (z x y : ℤ) → is_maximum z x y ≡ is_maximum z y x
maximum_alike = result_alike int_eq int_max (λ x y. omega (arith, ints, clamps))

pub gcd_alike : (z x y : ℤ) → is_gcd z x y ≡ is_gcd z y x
gcd_alike = result_alike (λ z g. int_eq z (pos g)) (λ x y. gcd (unsigned_abs x) (unsigned_abs y)) (λ x y. gcd-swap (unsigned_abs x) (unsigned_abs y))

bitwise_alike : (operation : ℕ → ℕ → ℕ) → ((a b : ℕ) → operation a b ≡ operation b a) → (z x y : ℤ) → is_bitwise operation z x y ≡ is_bitwise operation z y x
bitwise_alike operation commutes =
    result_alike (λ z n. cast_unsigned w64 z == n) (λ x y. operation (cast_unsigned w64 x) (cast_unsigned w64 y)) (λ x y. commutes (cast_unsigned w64 x) (cast_unsigned w64 y))

pub and_alike : (z x y : ℤ) → is_bitwise bit_and z x y ≡ is_bitwise bit_and z y x
and_alike = bitwise_alike bit_and and_comm

pub or_alike : (z x y : ℤ) → is_bitwise bit_or z x y ≡ is_bitwise bit_or z y x
or_alike = bitwise_alike bit_or or_comm

pub xor_alike : (z x y : ℤ) → is_bitwise bit_xor z x y ≡ is_bitwise bit_xor z y x
xor_alike = bitwise_alike bit_xor xor_comm
