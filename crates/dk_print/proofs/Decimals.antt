-- Decimal texts look like numbers.
use Rattle.std.specs.Prelude.{◌≡◌, ◌==◌, ◌&&◌, ◌||◌, ◌+◌, ◌/◌, ◌%◌, ◌<◌, ℕ, ℤ, pos, negsuc, nat_le, zero, suc, Bool, true, false, not, List, [], ◌∷◌, if◌then◌else◌, refl}
use Rattle.std.specs.Fmt.{decimal, digit_glyph, digits, digits_onto, signed_decimal}
use Rattle.std.specs.List.{list_all}
use Rattle.std.proofs.Common.{◌∙◌, ap, arith}
use Rattle.std.proofs.lemmas.Bool.{and_from, and_parts, le-leb, leb-true, lt-ltb, ne_eqb}
use Rattle.std.proofs.lemmas.Nat.{mod_below}
use Rattle.dk_print.specs.Names.{is_solid}
use Rattle.dk_print.proofs.Tokens.{IsNumber}

abbrev is_digit : ℕ → Bool
is_digit b = nat_le 48 b && nat_le b 57

-- digits, one at least
record AreDigits (text : List ℕ) : Type 0 where
  first : ℕ
  rest : List ℕ
  is : text ≡ first ∷ rest
  digit : is_digit first ≡ true
  digits_too : list_all is_digit rest ≡ true

glyph-digit : (n : ℕ) → is_digit (digit_glyph false (n % 10)) ≡ true
glyph-digit n = of-digit (n % 10) (mod_below n 10 (omega arith))
  where
    of-digit : (d : ℕ) → d < 10 → is_digit (digit_glyph false d) ≡ true
    of-digit d below = ap (λ b. is_digit (if b then 48 + d else 87 + d)) (lt-ltb d 10 below) ∙ and_from (nat_le 48 (48 + d)) (nat_le (48 + d) 57) (le-leb 48 (48 + d) (omega arith)) (le-leb (48 + d) 57 (omega arith))

a-digit : (n : ℕ) (acc : List ℕ) → list_all is_digit acc ≡ true → AreDigits (digit_glyph false (n % 10) ∷ acc)
a-digit n acc all = record { first = digit_glyph false (n % 10); rest = acc; is = refl; digit = glyph-digit n; digits_too = all }

either : (b : Bool) (x y : List ℕ) → AreDigits x → AreDigits y → AreDigits (if b then x else y)
either true x y p q = p
either false x y p q = q

onto-digits : (k n : ℕ) (acc : List ℕ) → list_all is_digit acc ≡ true → AreDigits (digits_onto (suc k) 10 false n acc)
onto-digits zero n acc all = either (n / 10 == 0) _ _ (a-digit n acc all) (a-digit n acc all)
onto-digits (suc k) n acc all =
    either (n / 10 == 0) _ _ (a-digit n acc all)
    (onto-digits k (n / 10) (digit_glyph false (n % 10) ∷ acc) (and_from (is_digit (digit_glyph false (n % 10))) (list_all is_digit acc) (glyph-digit n) all))

decimal-digits : (n : ℕ) → AreDigits (decimal n)
unfolding digits
decimal-digits n = onto-digits 63 n [] refl

-- ---- digits look like a number
solid-digit : (b : ℕ) → is_digit b ≡ true → not (b == 32) ≡ true
solid-digit b e = ap not (ne_eqb b 32 (λ is. let low = leb-true 48 b (and_parts (nat_le 48 b) (nat_le b 57) e).0 in omega arith))

solid-digits : (bs : List ℕ) → list_all is_digit bs ≡ true → is_solid bs ≡ true
solid-digits [] e = refl
solid-digits (b ∷ bs) e =
    let both = and_parts (is_digit b) (list_all is_digit bs) e in
    and_from (not (b == 32)) (is_solid bs) (solid-digit b both.0) (solid-digits bs both.1)

pub number-decimal : (n : ℕ) → IsNumber (decimal n)
number-decimal n =
    let d = decimal-digits n in
    record {
      first = d.first;
      rest = d.rest;
      is = d.is;
      begins = ap (λ b. b || (d.first == 45)) d.digit;
      solid = ap is_solid d.is ∙ solid-digits (d.first ∷ d.rest) (and_from (is_digit d.first) (list_all is_digit d.rest) d.digit d.digits_too);
    }

pub number-signed : (k : ℤ) → IsNumber (signed_decimal k)
number-signed (pos n) = number-decimal n
number-signed (negsuc n) = record { first = 45; rest = decimal (suc n); is = refl; begins = refl; solid = (number-decimal (suc n)).solid }
