-- Few digits write a number within 64 bits.
use Rattle.std.proofs.Common.{◌≡◌, ◌≤◌, ◌<◌, ◌+◌, ◌-◌, ◌^◌, ◌∙◌, ◌==◌, ◌&&◌, ◌∷◌, ◌++◌, [], ℕ, zero, suc, Bool, true, false, List, Option, Some, None, codes, drop, length, nat_le, nat_lt, refl, sym, ap, arith, length-append, length-drop, length-take, take, if◌then◌else◌}
use Rattle.std.specs.Prelude.{is_some, option_and_then, option_map, slice_index, ◌||◌}
use Rattle.std.specs.Char.{digit_value, is_ascii_digit, is_digit}
use Rattle.std.specs.Int.{IsInRange}
use Rattle.std.specs.List.{list_all}
use Rattle.std.specs.Str.{bytes_eq}
use Rattle.std.specs.Str.Parse.{AllDigits, digits_value}
use Rattle.std.proofs.Math.Nat.{pow-le-pow_right}
use Rattle.std.proofs.lemmas.Bool.{and_parts, eqb-false, eqb-true, false≢true, leb-true, le-leb, lt-ltb, ltb-true}
use Rattle.std.proofs.lemmas.Bool.Decides.{same_from_decides}
use Rattle.std.proofs.lemmas.Int.Digits.{digits_value-lt}
use Rattle.std.proofs.lemmas.List.Folds.{list_all-append}
use Rattle.std.proofs.lemmas.Slice.Eq.{bytes_eq-Decides}
use Rattle.std.proofs.lemmas.Str.{digit_value_digit}
use Rattle.std.proofs.lemmas.Str.Parse.{digit_from_value}
use Rattle.dk_base.specs.Numbers.{fits_i64, integer_of, is_numeral, numeral_of, signed, whole_of}
use Rattle.dk_table.specs.Columns.Cells.{decimal_of, dot_of, is_dot, is_front, is_shortest, size_of, whole}
use Rattle.dk_table.proofs.Spelled.{fitting, from_tests, whole_by}

-- ---- digits
ranged : (c : ℕ) → is_ascii_digit c ≡ true → IsInRange 48 57 c
ranged c h = let parts = and_parts (nat_le 48 c) (nat_le c 57) h in (leb-true 48 c parts.0, leb-true c 57 parts.1)

tested : (c : ℕ) → IsInRange 48 57 c → is_ascii_digit c ≡ true
tested c r = rw (le-leb 48 c r.0, le-leb c 57 r.1) refl

valued : (c : ℕ) → IsInRange 48 57 c → is_digit c 10 ≡ true
valued c r = lt-ltb (digit_value c) 10 (omega (arith, digit_value_digit c r, r.1))

digit_same : (c : ℕ) → is_ascii_digit c ≡ is_digit c 10
digit_same c = same_from_decides {P = IsInRange 48 57 c} (is_ascii_digit c) (is_digit c 10) (ranged c, tested c) (λ h. digit_from_value c (ltb-true (digit_value c) 10 h), valued c)

digits_same : (ds : List ℕ) → list_all is_ascii_digit ds ≡ list_all (λ d. is_digit d 10) ds
digits_same [] = refl
digits_same (d ∷ ds) = ap (λ (b : Bool). b && list_all is_ascii_digit ds) (digit_same d) ∙ ap (λ (b : Bool). is_digit d 10 && b) (digits_same ds)

-- ---- numbers
small_fits : (minus : Bool) (n : ℕ) → n < 2 ^ 63 → fits_i64 (signed minus n) ≡ true
small_fits false n h = lt-ltb n (2 ^ 63) h
small_fits true zero h = refl
small_fits true (suc n) h = lt-ltb n (2 ^ 63) (omega (arith, h))

by_numeral : (minus : Bool) (ds : List ℕ) → length ds ≤ 18 → is_some (option_and_then fitting (option_map (signed minus) (numeral_of 10 ds))) ≡ is_numeral 10 ds
by_numeral minus ds few = go (is_numeral 10 ds) refl
  where
    fits : (n : ℕ) (b : Bool) → fits_i64 (signed minus n) ≡ b → b ≡ true → is_some (if b then Some (signed minus n) else None) ≡ true
    fits n true is h = refl
    fits n false is h = absurd (false≢true h)

    go : (b : Bool) → is_numeral 10 ds ≡ b → is_some (option_and_then fitting (option_map (signed minus) (if b then Some (digits_value 10 ds) else None))) ≡ b
    go false e = refl
    go true e =
        let all : AllDigits 10 ds = from_tests ds (and_parts (nat_lt 0 (length ds)) (list_all (λ d. is_digit d 10) ds) e).1 in
        let n : ℕ = digits_value 10 ds in
        let bound : n < 10 ^ length ds = digits_value-lt 10 ds all in
        let power : 10 ^ length ds ≤ 10 ^ 18 = pow-le-pow_right (omega arith) few in
        let small : n < 2 ^ 63 = omega (arith, bound, power) in
        fits n (fits_i64 (signed minus n)) refl (small_fits minus n small)

-- a text of few bytes writes a number where it has digits behind a minus, or digits alone
pub integer_few : (text : List ℕ) → length text ≤ 18 → is_some (integer_of text) ≡ is_numeral 10 (size_of text)
unfolding integer_of whole_of
integer_few [] few = refl
integer_few (b ∷ bs) few = go (b == 45)
  where
    go : (m : Bool) → is_some (option_and_then fitting (if m then option_map (signed true) (numeral_of 10 bs) else option_map (signed false) (numeral_of 10 (b ∷ bs))))
        ≡ is_numeral 10 (if m then bs else b ∷ bs)
    go true = by_numeral true bs (omega (arith, few))
    go false = by_numeral false (b ∷ bs) few

pub few_digits : (text : List ℕ) → length text ≤ 18 → (nat_lt 0 (length (size_of text)) && list_all is_ascii_digit (size_of text)) ≡ is_some (integer_of text)
few_digits text few =
    ap (λ (b : Bool). nat_lt 0 (length (size_of text)) && b) (digits_same (size_of text)) ∙ sym (integer_few text few)

pub digits_decide : (text size : List ℕ) → size ≡ size_of text → length text ≤ 18 → (length size == 0) ≡ false → list_all is_ascii_digit size ≡ is_some (integer_of text)
digits_decide text size is few some =
    let long : 0 < length size = omega (arith, eqb-false (length size) 0 some) in
    ap (λ (b : Bool). b && list_all is_ascii_digit size) (sym (lt-ltb 0 (length size) long))
    ∙ ap (λ (l : List ℕ). nat_lt 0 (length l) && list_all is_ascii_digit l) is ∙ few_digits text few

pub none_decide : (text size : List ℕ) → size ≡ size_of text → length text ≤ 18 → (length size == 0) ≡ true → false ≡ is_some (integer_of text)
none_decide text size is few none =
    ap (λ (n : ℕ). nat_lt 0 n && list_all is_ascii_digit size) (sym (eqb-true (length size) 0 none))
    ∙ ap (λ (l : List ℕ). nat_lt 0 (length l) && list_all is_ascii_digit l) is ∙ few_digits text few

-- ---- whole numbers
pub whole_is : (cell : List ℕ) → is_some (whole cell) ≡ (is_shortest cell && is_some (integer_of cell))
whole_is cell = ap is_some (whole_by cell) ∙ go (is_shortest cell)
  where
    go : (b : Bool) → is_some (if b then integer_of cell else None) ≡ (b && is_some (integer_of cell))
    go true = refl
    go false = refl

pub whole_where : (cell : List ℕ) → is_shortest cell ≡ true → is_some (integer_of cell) ≡ is_some (whole cell)
whole_where cell short = ap (λ (b : Bool). b && is_some (integer_of cell)) (sym short) ∙ sym (whole_is cell)

pub whole_nowhere : (cell : List ℕ) → is_shortest cell ≡ false → false ≡ is_some (whole cell)
whole_nowhere cell long = ap (λ (b : Bool). b && is_some (integer_of cell)) (sym long) ∙ sym (whole_is cell)

-- ---- decimals
size_append : (front back : List ℕ) → 0 < length front → size_of (front ++ back) ≡ size_of front ++ back
size_append [] back some = absurd (omega (arith, some))
size_append (b ∷ bs) back some = go (b == 45)
  where
    go : (m : Bool) → (if m then bs ++ back else b ∷ (bs ++ back)) ≡ (if m then bs else b ∷ bs) ++ back
    go true = refl
    go false = refl

-- more digits behind a number
numeral_append : (ds back : List ℕ) → is_numeral 10 ds ≡ true → list_all is_ascii_digit back ≡ true → is_numeral 10 (ds ++ back) ≡ true
numeral_append ds back e more =
    let parts = and_parts (nat_lt 0 (length ds)) (list_all (λ d. is_digit d 10) ds) e in
    let some : 0 < length ds = ltb-true 0 (length ds) parts.0 in
    let long : 0 < length (ds ++ back) = omega (arith, length-append ds back, some) in
    ap (λ (b : Bool). b && list_all (λ d. is_digit d 10) (ds ++ back)) (lt-ltb 0 (length (ds ++ back)) long)
    ∙ list_all-append (λ d. is_digit d 10) ds back
    ∙ ap (λ (b : Bool). b && list_all (λ d. is_digit d 10) back) parts.1 ∙ sym (digits_same back) ∙ more

front_numeral : (front : List ℕ) → is_front front ≡ true → length front ≤ 18 → is_numeral 10 (size_of front) ≡ true
unfolding is_front
front_numeral front e few = go (is_some (whole front)) refl e
  where
    go : (b : Bool) → is_some (whole front) ≡ b → (b || bytes_eq front (codes "-0")) ≡ true → is_numeral 10 (size_of front) ≡ true
    go true is h =
        sym (integer_few front few) ∙ (and_parts (is_shortest front) (is_some (integer_of front)) (sym (whole_is front) ∙ is)).1
    go false is h = ap (λ (l : List ℕ). is_numeral 10 (size_of l)) ((bytes_eq-Decides front (codes "-0")).0 h)

front_some : (front : List ℕ) → is_numeral 10 (size_of front) ≡ true → 0 < length front
front_some [] e = absurd (false≢true e)
front_some (b ∷ bs) e = omega arith

digits_written : (cell : List ℕ) (dot : ℕ) → length cell ≤ 18 → is_dot cell dot ≡ true → is_some (integer_of (take dot cell ++ drop (dot + 1) cell)) ≡ true
unfolding is_dot
digits_written cell dot few e =
    let front : List ℕ = take dot cell in
    let back : List ℕ = drop (dot + 1) cell in
    let parts = and_parts (is_front front) (list_all is_ascii_digit back) (and_parts (slice_index cell dot == 46) (is_front front && list_all is_ascii_digit back) e).1 in
    let short : length front ≤ 18 = omega (arith, length-take dot cell, few) in
    let all : length (front ++ back) ≤ 18 =
    omega (arith, length-append front back, length-take dot cell, length-drop (dot + 1) cell, few) in
    let numeral : is_numeral 10 (size_of front) ≡ true = front_numeral front parts.0 short in
    integer_few (front ++ back) all ∙ ap (is_numeral 10) (size_append front back (front_some front numeral)) ∙ numeral_append (size_of front) back numeral parts.1

-- where a decimal's dot stands, and what it says
pub record IsDot (places : ℕ) (cell : List ℕ) (dot : ℕ) : Type 0 where
  pub room : places < length cell
  pub at : dot ≡ length cell - places - 1
  pub is : is_dot cell dot ≡ true

pub dot_is : (places : ℕ) (cell : List ℕ) (dot : ℕ) → dot_of places cell ≡ Some dot → IsDot places cell dot
unfolding dot_of
dot_is places cell dot e = go (nat_lt places (length cell)) (is_dot cell (length cell - places - 1)) refl refl e
  where
    go : (a b : Bool) → nat_lt places (length cell) ≡ a → is_dot cell (length cell - places - 1) ≡ b
        → ◌≡◌ {A = Option ℕ} (if a && b then Some (length cell - places - 1) else None) (Some dot) → IsDot places cell dot
    go true true room is h =
        let at : length cell - places - 1 ≡ dot = cc h in
        record { room = ltb-true places (length cell) room; at = sym at; is = ap (is_dot cell) (sym at) ∙ is }
    go true false room is h = absurd (cc h)
    go false b room is h = absurd (cc h)

-- few bytes write a decimal where its dot is there
pub decimal_few : (places : ℕ) (cell : List ℕ) → length cell ≤ 18 → is_some (dot_of places cell) ≡ is_some (decimal_of places cell)
unfolding decimal_of
decimal_few places cell few = go (dot_of places cell) refl
  where
    go : (o : Option ℕ) → dot_of places cell ≡ o → is_some o ≡ is_some (option_and_then (λ dot. integer_of (take dot cell ++ drop (dot + 1) cell)) o)
    go None e = refl
    go (Some dot) e = sym (digits_written cell dot few (dot_is places cell dot e).is)

-- a decimal has a dot
pub decimal_dot : (places : ℕ) (cell : List ℕ) → is_some (decimal_of places cell) ≡ true → (dot : ℕ) × (dot_of places cell ≡ Some dot)
unfolding decimal_of
decimal_dot places cell h = go (dot_of places cell) refl h
  where
    go : (o : Option ℕ) → dot_of places cell ≡ o → is_some (option_and_then (λ dot. integer_of (take dot cell ++ drop (dot + 1) cell)) o) ≡ true → (dot : ℕ) × (dot_of places cell ≡ Some dot)
    go None e h = absurd (false≢true h)
    go (Some dot) e h = (dot, e)
