-- Whole numbers that cells write, by their digits.
use Rattle.std.proofs.Common.{◌≡◌, ◌≢◌, ◌<◌, ◌^◌, ◌∙◌, ◌==◌, ◌&&◌, ◌||◌, ◌∷◌, [], ℕ, ℤ, zero, suc, Bool, true, false, List, Option, Some, None, drop, get_or, length, refl, sym, ap, arith, nat_lt, if◌then◌else◌}
use Rattle.std.specs.Prelude.{not, option_and_then, option_map}
use Rattle.std.specs.Char.{digit_value, is_digit}
use Rattle.std.specs.Fmt.{decimal, signed_decimal}
use Rattle.std.specs.List.{list_all}
use Rattle.std.specs.Str.{bytes_eq}
use Rattle.std.specs.Str.Parse.{AllDigits, digits_value}
use Rattle.std.proofs.lemmas.Bool.{and_parts, eqb-true, eqb-false, lt-ltb, ltb-true, ne_eqb}
use Rattle.std.proofs.lemmas.Fmt.{decimal-digits_value, decimal_digit, first_decimal}
use Rattle.std.proofs.lemmas.Slice.Eq.{bytes_eq-Decides}
use Rattle.std.proofs.lemmas.Str.Parse.{digit_from_value, numerals_by_value, tells_digits}
use Rattle.dk_base.specs.Numbers.{fits_i64, integer_of, is_numeral, negated, numeral_of, signed, whole_of}
use Rattle.dk_table.specs.Columns.Cells.{is_shortest, whole}

-- ---- digits

-- digits, one or more, and the number that they write
record Writes (ds : List ℕ) (n : ℕ) : Type 0 where
  some : 0 < length ds
  all : AllDigits 10 ds
  value : digits_value 10 ds ≡ n

pub from_tests : (ds : List ℕ) → list_all (λ d. is_digit d 10) ds ≡ true → AllDigits 10 ds
from_tests [] h = tt
from_tests (d ∷ ds) h =
    let parts = and_parts (is_digit d 10) (list_all (λ d. is_digit d 10) ds) h in
    (ltb-true (digit_value d) 10 parts.0, from_tests ds parts.1)

to_tests : (ds : List ℕ) → AllDigits 10 ds → list_all (λ d. is_digit d 10) ds ≡ true
to_tests [] all = refl
to_tests (d ∷ ds) all = rw (lt-ltb (digit_value d) 10 all.0) (to_tests ds all.1)

writes : (ds : List ℕ) (n : ℕ) → numeral_of 10 ds ≡ Some n → Writes ds n
writes ds n h = go (is_numeral 10 ds) refl h
  where
    go : (b : Bool) → is_numeral 10 ds ≡ b → ◌≡◌ {A = Option ℕ} (if b then Some (digits_value 10 ds) else None) (Some n) → Writes ds n
    go false e h = absurd (cc h)
    go true e h =
        let parts = and_parts (nat_lt 0 (length ds)) (list_all (λ d. is_digit d 10) ds) e in
        record { some = ltb-true 0 (length ds) parts.0; all = from_tests ds parts.1; value = cc h }

numeral_is : (ds : List ℕ) → 0 < length ds → AllDigits 10 ds → numeral_of 10 ds ≡ Some (digits_value 10 ds)
numeral_is ds some all = rw (lt-ltb 0 (length ds) some, to_tests ds all) refl

-- digits without a leading zero, or `0` alone, are how their number is printed
printed : (ds : List ℕ) (n : ℕ) → Writes ds n → n < 2 ^ 64 → (get_or ds 0 0 ≡ 48 → length ds ≡ 1) → decimal n ≡ ds
printed ds n w small lead =
    ap decimal (sym w.value) ∙ decimal-digits_value (numerals_by_value (AllDigits 10) tells_digits) ds w.all w.some lead (omega (arith, w.value, small))

-- others are not
unprinted : (ds : List ℕ) (n : ℕ) → n < 2 ^ 64 → get_or ds 0 0 ≡ 48 → 1 < length ds → decimal n ≢ ds
unprinted ds zero small lead long e = omega (arith, long, ap length (sym (decimal_digit 0 (omega arith)) ∙ e))
unprinted ds (suc m) small lead long e = omega (arith, lead, first_decimal (suc m) (omega arith) small, ap (λ (l : List ℕ). get_or l 0 0) e)

-- ---- whole numbers
differ : (a b : List ℕ) → a ≢ b → bytes_eq a b ≡ false
differ a b h = go (bytes_eq a b) refl
  where
    go : (x : Bool) → bytes_eq a b ≡ x → x ≡ false
    go false e = refl
    go true e = absurd (h ((bytes_eq-Decides a b).0 e))

agree : (a b : List ℕ) → a ≡ b → bytes_eq a b ≡ true
agree a b h = (bytes_eq-Decides a b).1 h

abbrev pub fitting : ℤ → Option ℤ
fitting z = if fits_i64 z then Some z else None

-- what fits is there, and fits
fitted : (y z : ℤ) → fitting y ≡ Some z → (y ≡ z) × (fits_i64 y ≡ true)
fitted y z h = go (fits_i64 y) refl h
  where
    go : (b : Bool) → fits_i64 y ≡ b → ◌≡◌ {A = Option ℤ} (if b then Some y else None) (Some z) → (y ≡ z) × (fits_i64 y ≡ true)
    go false e h = absurd (cc h)
    go true e h = (cc h, e)

-- The text is a minus and digits, or digits alone.
record Signed (text : List ℕ) : Type 0 where
  minus : Bool
  size : List ℕ
  is : text ≡ (if minus then 45 ∷ size else size)
  some : 0 < length size
  all : AllDigits 10 size

-- a number and its digits
record IsRead (text : List ℕ) (z : ℤ) : Type 0 where
  by : Signed text
  number : ℕ
  value : digits_value 10 by.size ≡ number
  sign : signed by.minus number ≡ z
  fits : fits_i64 (signed by.minus number) ≡ true

read_by : (text ds : List ℕ) (minus : Bool) (z : ℤ) → text ≡ (if minus then 45 ∷ ds else ds)
    → option_and_then fitting (option_map (signed minus) (numeral_of 10 ds)) ≡ Some z → IsRead text z
read_by text ds minus z is h = go (numeral_of 10 ds) refl h
  where
    go : (o : Option ℕ) → numeral_of 10 ds ≡ o → option_and_then fitting (option_map (signed minus) o) ≡ Some z → IsRead text z
    go None e h = absurd (cc h)
    go (Some n) e h =
        let w = writes ds n e in
        let f = fitted (signed minus n) z h in
        record { by = record { minus = minus; size = ds; is = is; some = w.some; all = w.all }; number = n; value = w.value; sign = f.0; fits = f.1 }

read : (text : List ℕ) (z : ℤ) → integer_of text ≡ Some z → IsRead text z
unfolding integer_of whole_of
read [] z h = absurd (cc h)
read (b ∷ bs) z h = go (b == 45) refl h
  where
    go : (m : Bool) → (b == 45) ≡ m
        → option_and_then fitting (if m then option_map (signed true) (numeral_of 10 bs) else option_map (signed false) (numeral_of 10 (b ∷ bs))) ≡ Some z → IsRead (b ∷ bs) z
    go true e h = read_by (b ∷ bs) bs true z (ap (λ (c : ℕ). c ∷ bs) (eqb-true b 45 e)) h
    go false e h = read_by (b ∷ bs) (b ∷ bs) false z refl h

size_fits : (minus : Bool) (n : ℕ) → fits_i64 (signed minus n) ≡ true → n < 2 ^ 64
size_fits true zero h = omega arith
size_fits true (suc n) h = omega (arith, ltb-true n (2 ^ 63) h)
size_fits false n h = omega (arith, ltb-true n (2 ^ 63) h)

-- ---- the shortest spelling

first_digit : (c : ℕ) (cs : List ℕ) → AllDigits 10 (c ∷ cs) → (c == 45) ≡ false
first_digit c cs all = ne_eqb c 45 (λ e. absurd (omega (arith, digit_from_value c all.0)))

positive_shortest : (ds : List ℕ) (n : ℕ) → Writes ds n → n < 2 ^ 64 → bytes_eq (decimal n) ds ≡ is_shortest ds
positive_shortest [] n w small = absurd (omega (arith, w.some))
positive_shortest (c ∷ []) n w small = agree (decimal n) (c ∷ []) (printed (c ∷ []) n w small (λ e. refl))
positive_shortest (c ∷ d ∷ cs) n w small =
    go (c == 48) refl ∙ ap (λ (b : Bool). not ((c == 48) || (b && (d == 48)))) (sym (first_digit c (d ∷ cs) w.all))
  where
    go : (b : Bool) → (c == 48) ≡ b → bytes_eq (decimal n) (c ∷ d ∷ cs) ≡ not (b || (false && (d == 48)))
    go true e = differ (decimal n) (c ∷ d ∷ cs) (unprinted (c ∷ d ∷ cs) n small (eqb-true c 48 e) (omega arith))
    go false e = agree (decimal n) (c ∷ d ∷ cs) (printed (c ∷ d ∷ cs) n w small (λ f. absurd (eqb-false c 48 e f)))

negative_shortest : (ds : List ℕ) (n : ℕ) → Writes ds n → n < 2 ^ 64 → bytes_eq (signed_decimal (negated n)) (45 ∷ ds) ≡ is_shortest (45 ∷ ds)
negative_shortest [] n w small = absurd (omega (arith, w.some))
negative_shortest (c ∷ cs) zero w small = go (c == 48) refl
  where
    zero_text : decimal 0 ≡ 48 ∷ []
    zero_text = decimal_digit 0 (omega arith)

    go : (b : Bool) → (c == 48) ≡ b → bytes_eq (decimal 0) (45 ∷ c ∷ cs) ≡ not (false || (true && b))
    go true e = differ (decimal 0) (45 ∷ c ∷ cs) (λ f. absurd (cc (sym zero_text ∙ f)))
    go false e =
        let own : decimal 0 ≡ c ∷ cs = printed (c ∷ cs) 0 w small (λ f. absurd (eqb-false c 48 e f)) in
        absurd (eqb-false c 48 e (sym (ap (λ (l : List ℕ). get_or l 0 0) (sym zero_text ∙ own))))
negative_shortest (c ∷ cs) (suc m) w small = go (c == 48) refl
  where
    go : (b : Bool) → (c == 48) ≡ b → bytes_eq (45 ∷ decimal (suc m)) (45 ∷ c ∷ cs) ≡ not (false || (true && b))
    go true e =
        differ (45 ∷ decimal (suc m)) (45 ∷ c ∷ cs)
        (λ f. omega (arith, eqb-true c 48 e, first_decimal (suc m) (omega arith) small, ap (λ (l : List ℕ). get_or (drop 1 l) 0 0) f))
    go false e =
        agree (45 ∷ decimal (suc m)) (45 ∷ c ∷ cs)
        (ap (λ (l : List ℕ). 45 ∷ l) (printed (c ∷ cs) (suc m) w small (λ f. absurd (eqb-false c 48 e f))))

-- A number is printed as the text that it was read from exactly where that is the shortest one.
pub shortest : (text : List ℕ) (z : ℤ) → integer_of text ≡ Some z → bytes_eq (signed_decimal z) text ≡ is_shortest text
shortest text z h =
    let r = read text z h in
    let w : Writes r.by.size r.number = record { some = r.by.some; all = r.by.all; value = r.value } in
    go r.by.minus r.by.size r.number r.by.is r.sign w (size_fits r.by.minus r.number r.fits)
  where
    go : (minus : Bool) (ds : List ℕ) (n : ℕ) → text ≡ (if minus then 45 ∷ ds else ds) → signed minus n ≡ z → Writes ds n → n < 2 ^ 64
        → bytes_eq (signed_decimal z) text ≡ is_shortest text
    go true ds n is sign w small =
        ap (λ (y : ℤ). bytes_eq (signed_decimal y) text) (sym sign) ∙ ap (λ (l : List ℕ). bytes_eq (signed_decimal (negated n)) l) is
        ∙ negative_shortest ds n w small ∙ ap is_shortest (sym is)
    go false ds n is sign w small =
        ap (λ (y : ℤ). bytes_eq (signed_decimal y) text) (sym sign) ∙ ap (λ (l : List ℕ). bytes_eq (decimal n) l) is
        ∙ positive_shortest ds n w small ∙ ap is_shortest (sym is)

-- a cell writes a whole number where it is the shortest text of one
by_test : (cell : List ℕ) (o : Option ℤ) → integer_of cell ≡ o
    → option_and_then (λ (y : ℤ). if bytes_eq (signed_decimal y) cell then Some y else None) o ≡ (if is_shortest cell then o else None)
by_test cell None h = either (is_shortest cell)
  where
    either : (b : Bool) → ◌≡◌ {A = Option ℤ} None (if b then None else None)
    either true = refl
    either false = refl
by_test cell (Some z) h = ap (λ (b : Bool). if b then Some z else None) (shortest cell z h)

pub whole_by : (cell : List ℕ) → whole cell ≡ (if is_shortest cell then integer_of cell else None)
unfolding whole
whole_by cell = by_test cell (integer_of cell) refl

-- a cell that writes a whole number is how that number is printed
pub as_printed : (cell : List ℕ) (z : ℤ) → whole cell ≡ Some z → signed_decimal z ≡ cell
unfolding whole
as_printed cell z h = go (integer_of cell) h
  where
    test : (y : ℤ) (b : Bool) → bytes_eq (signed_decimal y) cell ≡ b → ◌≡◌ {A = Option ℤ} (if b then Some y else None) (Some z) → signed_decimal z ≡ cell
    test y false e h = absurd (cc h)
    test y true e h = let same : y ≡ z = cc h in ap signed_decimal (sym same) ∙ (bytes_eq-Decides (signed_decimal y) cell).0 e

    go : (o : Option ℤ) → option_and_then (λ y. if bytes_eq (signed_decimal y) cell then Some y else None) o ≡ Some z → signed_decimal z ≡ cell
    go None h = absurd (cc h)
    go (Some y) h = test y (bytes_eq (signed_decimal y) cell) refl h

-- the shortest text of a number is how it is printed
pub shortest_is : (text : List ℕ) (z : ℤ) → integer_of text ≡ Some z → is_shortest text ≡ true → signed_decimal z ≡ text
shortest_is text z h short = (bytes_eq-Decides (signed_decimal z) text).0 (shortest text z h ∙ short)
