-- Short whole numbers in front of other bytes.
use Rattle.std.proofs.Common.{◌≡◌, ◌≤◌, ◌<◌, ◌-◌, ◌%◌, ◌^◌, ◌++◌, ◌∙◌, ◌⊎◌, inl, inr, ◌&&◌, ℕ, ℤ, pos, neg_ℤ, zero, suc, Bool, true, false, List, [], ◌∷◌, length, take, drop, get_or, Option, Some, None, refl, sym, ap, arith, nat_lt, length-append, length-drop, append-nil, map, if◌then◌else◌}
use Rattle.std.specs.Prelude.{◌==◌}
use Rattle.std.specs.Char.{digit_value, is_ascii_digit, is_digit}
use Rattle.std.specs.List.{list_all}
use Rattle.std.specs.Option.{option_map}
use Rattle.std.specs.Str.Parse.{AllDigits, digits_value}
use Rattle.std.proofs.Math.Nat.{pow-le-pow_right}
use Rattle.std.proofs.lemmas.Bool.{eqb-true}
use Rattle.std.proofs.lemmas.Bool.Decides.{nat_tests}
use Rattle.std.proofs.lemmas.Int.Digits.{digits_value-lt}
use Rattle.std.proofs.lemmas.List.{get_or-take, length-take-le, take_all, take-append-drop}
use Rattle.std.proofs.lemmas.List.Sums.{prefix_len_passes, prefix_len-le-length}
use Rattle.core.specs.Float.Numeral.{digits_len}
use Rattle.dk_base.specs.Values.Items.{int_item, item_in_range}
use Rattle.dk_base.specs.Numbers.{fits_i64, negated, numeral_of, short_digits, short_number, signed, whole_of}
use Rattle.dk_base.specs.Pieces.{pieces}
use Rattle.dk_base.specs.Values.Sequences.{IsFrontItem}
use Rattle.dk_base.specs.declared.values.items.Item.{Item}
use Rattle.dk_base.specs.declared.values.items.Item.TheVariants.{Present}
use Rattle.dk_base.specs.declared.splitting.Cut.TheVariants.{AtBlanksOutsideQuotes}
use Rattle.dk_base.proofs.Splits.{piece_in_front, piece_to_end}
use Rattle.dk_base.proofs.Wordless.{int_by_number}

-- what is left behind a place, as a slice without an end gives it
pub to_end : (xs : List ℕ) (k : ℕ) → take (length xs - k) (drop k xs) ≡ drop k xs
to_end xs k = take_all (length xs - k) (drop k xs) (omega (arith, length-drop k xs))

-- a byte and what follows
pub front_is : (bytes : List ℕ) (b : ℕ) → 1 ≤ length bytes → get_or bytes 0 0 ≡ b → bytes ≡ b ∷ drop 1 bytes
front_is [] b long first = absurd (omega (arith, long))
front_is (x ∷ xs) b long first = ap (λ (c : ℕ). c ∷ xs) first

pub one_front : (bytes : List ℕ) (b : ℕ) → 1 ≤ length bytes → get_or bytes 0 0 ≡ b → bytes ≡ b ∷ take (length bytes - 1) (drop 1 bytes)
one_front bytes b long first = front_is bytes b long first ∙ ap (λ (l : List ℕ). b ∷ l) (sym (to_end bytes 1))

-- ---- digits

-- each byte is a decimal digit
abbrev pub AreDigits : List ℕ → Type 0
AreDigits ds = (k : ℕ) → k < length ds → (48 ≤ get_or ds k 0) × (get_or ds k 0 ≤ 57)

digit_below : (c : ℕ) → 48 ≤ c → c ≤ 57 → digit_value c < 10
digit_below c low high = grind (arith, nat_tests)

all_digits : (ds : List ℕ) → AreDigits ds → AllDigits 10 ds
all_digits [] are = tt
all_digits (c ∷ cs) are = (digit_below c (are 0 (omega arith)).0 (are 0 (omega arith)).1, all_digits cs (λ k lt. are (suc k) (omega arith)))

is_all : (ds : List ℕ) → AllDigits 10 ds → list_all (λ d. is_digit d 10) ds ≡ true
is_all [] all = refl
is_all (c ∷ cs) all = rw (test (digit_value c) all.0) (is_all cs all.1)
  where
    test : (n : ℕ) → n < 10 → nat_lt n 10 ≡ true
    test n lt = grind (arith, nat_tests)

numeral_here : (ds : List ℕ) → 0 < length ds → AreDigits ds → numeral_of 10 ds ≡ Some (digits_value 10 ds)
numeral_here [] some are = absurd (omega arith)
numeral_here (c ∷ cs) some are = rw (is_all (c ∷ cs) (all_digits (c ∷ cs) are), has_one (length cs)) refl
  where
    has_one : (n : ℕ) → nat_lt 0 (suc n) ≡ true
    has_one n = grind (arith, nat_tests)

-- up to eighteen digits are below 10 ^ 18
short_below : (ds : List ℕ) → length ds ≤ 18 → AreDigits ds → digits_value 10 ds < 1000000000000000000
short_below ds most are =
    let below : digits_value 10 ds < 10 ^ length ds = digits_value-lt 10 ds (all_digits ds are) in
    let large : 10 ^ length ds ≤ 10 ^ 18 = pow-le-pow_right {n = 10} (omega arith) most in
    omega (arith, below, large)

digit_at : (xs : List ℕ) (k : ℕ) → k < digits_len xs → (48 ≤ get_or xs k 0) × (get_or xs k 0 ≤ 57)
digit_at xs k lt = in_range (get_or xs k 0) (prefix_len_passes is_ascii_digit xs k 0 lt)
  where
    in_range : (c : ℕ) → is_ascii_digit c ≡ true → (48 ≤ c) × (c ≤ 57)
    in_range c is = (grind (arith, nat_tests), grind (arith, nat_tests))

len_within : (xs : List ℕ) → digits_len xs ≤ length xs
len_within xs = prefix_len-le-length is_ascii_digit xs

front_digits : (xs : List ℕ) → AreDigits (take (digits_len xs) xs)
front_digits xs k lt =
    let low : k < digits_len xs = omega (arith, length-take-le (digits_len xs) xs (len_within xs), lt) in
    let at = digit_at xs k low in
    let same = get_or-take (digits_len xs) xs k 0 low in
    (omega (arith, at.0, same), omega (arith, at.1, same))

-- ---- digits in front

is_within : (n : ℕ) → (nat_lt 0 n && nat_lt n 19) ≡ true → (0 < n) × (n ≤ 18)
is_within n is = (grind (arith, nat_tests), grind (arith, nat_tests))

within : (n : ℕ) → 0 < n → n ≤ 18 → (nat_lt 0 n && nat_lt n 19) ≡ true
within n some most = grind (arith, nat_tests)

beyond : (n : ℕ) → (n ≡ 0) ⊎ (18 < n) → (nat_lt 0 n && nat_lt n 19) ≡ false
beyond n is = elim is [ inl nothing ↦ none n nothing | inr many ↦ large n many ]
  where
    none : (n : ℕ) → n ≡ 0 → (nat_lt 0 n && nat_lt n 19) ≡ false
    none n is = grind (arith, nat_tests)

    large : (n : ℕ) → 18 < n → (nat_lt 0 n && nat_lt n 19) ≡ false
    large n is = grind (arith, nat_tests)

pub no_digits : (xs : List ℕ) (n : ℕ) → n ≡ digits_len xs → (n ≡ 0) ⊎ (18 < n) → None ≡ short_digits xs
unfolding short_digits
no_digits xs n is out =
    let test : (nat_lt 0 (digits_len xs) && nat_lt (digits_len xs) 19) ≡ false = ap (λ (m : ℕ). nat_lt 0 m && nat_lt m 19) (sym is) ∙ beyond n out in
    rw test refl

mod_small : (n : ℕ) → n < 2 ^ 64 → n % 2 ^ 64 ≡ n
mod_small n lt = grind arith

pub are_short : (xs rest : List ℕ) (n size : ℕ) → n ≡ digits_len xs → 0 < n → n ≤ 18 → size ≡ digits_value 10 (take n xs) % 2 ^ 64 → rest ≡ drop n xs
    → Some (size, rest) ≡ short_digits xs
unfolding short_digits
are_short xs rest n size is some most value left =
    let len : length (take (digits_len xs) xs) ≡ digits_len xs = length-take-le (digits_len xs) xs (len_within xs) in
    let below : digits_value 10 (take (digits_len xs) xs) < 1000000000000000000 = short_below (take (digits_len xs) xs) (omega (arith, len, is, most)) (front_digits xs) in
    let number : size ≡ digits_value 10 (take (digits_len xs) xs) =
    value ∙ ap (λ (m : ℕ). digits_value 10 (take m xs) % 2 ^ 64) is ∙ mod_small (digits_value 10 (take (digits_len xs) xs)) (omega (arith, below)) in
    let behind : rest ≡ drop (digits_len xs) xs = left ∙ ap (λ (m : ℕ). drop m xs) is in
    let test : (nat_lt 0 (digits_len xs) && nat_lt (digits_len xs) 19) ≡ true = within (digits_len xs) (omega (arith, is, some)) (omega (arith, is, most)) in
    rw (test, number, behind) refl

-- up to eighteen digits stand in front, and write this number
record DigitsStand (bytes : List ℕ) (size : ℕ) (rest : List ℕ) : Type 0 where
  digits : List ℕ
  whole : bytes ≡ digits ++ rest
  some : 0 < length digits
  short : length digits ≤ 18
  are : AreDigits digits
  value : size ≡ digits_value 10 digits

-- what Some holds
abbrev held : {A : Type 0} → A → Option A → A
held d None = d
held d (Some x) = x

digits_stand : (xs rest : List ℕ) (size : ℕ) → short_digits xs ≡ Some (size, rest) → DigitsStand xs size rest
unfolding short_digits
digits_stand xs rest size is = go (nat_lt 0 (digits_len xs) && nat_lt (digits_len xs) 19) refl is
  where
    go : (b : Bool) → (nat_lt 0 (digits_len xs) && nat_lt (digits_len xs) 19) ≡ b
        → ◌≡◌ {A = Option (ℕ × List ℕ)} (if b then Some (digits_value 10 (take (digits_len xs) xs), drop (digits_len xs) xs) else None) (Some (size, rest)) → DigitsStand xs size rest
    go false e h = absurd (cc h)
    go true e h =
        let n : ℕ = digits_len xs in
        let len : length (take n xs) ≡ n = length-take-le n xs (len_within xs) in
        let same : ◌≡◌ {A = ℕ × List ℕ} (digits_value 10 (take n xs), drop n xs) (size, rest) = ap (held (0, [])) h in
        record {
          digits = take n xs;
          whole = sym (take-append-drop n xs) ∙ ap (λ (r : ℕ × List ℕ). take n xs ++ r.1) same;
          some = omega (arith, len, (is_within n e).0);
          short = omega (arith, len, (is_within n e).1);
          are = front_digits xs;
          value = sym (ap (λ (r : ℕ × List ℕ). r.0) same);
        }

pub size_below : (xs rest : List ℕ) (size : ℕ) → Some (size, rest) ≡ short_digits xs → size < 1000000000000000000
size_below xs rest size is =
    let stands = digits_stand xs rest size (sym is) in
    omega (arith, stands.value, short_below stands.digits stands.short stands.are)

-- ---- numbers in front

no_minus : (c : ℕ) → 48 ≤ c → (c == 45) ≡ false
no_minus c low = grind (arith, nat_tests)

whole_positive : (ds : List ℕ) → 0 < length ds → AreDigits ds → whole_of ds ≡ Some (pos (digits_value 10 ds))
unfolding whole_of
whole_positive [] some are = absurd (omega arith)
whole_positive (c ∷ cs) some are = rw (no_minus c (are 0 (omega arith)).0) (ap (option_map (signed false)) (numeral_here (c ∷ cs) some are))

whole_negative : (ds : List ℕ) → 0 < length ds → AreDigits ds → whole_of (45 ∷ ds) ≡ Some (neg_ℤ (pos (digits_value 10 ds)))
unfolding whole_of
whole_negative ds some are = ap (option_map (signed true)) (numeral_here ds some are)

fits_short : (is_negative : Bool) (n : ℕ) → n < 1000000000000000000 → fits_i64 (signed is_negative n) ≡ true
fits_short true zero lt = refl
fits_short true (suc n) lt = test n (omega arith) where
  test : (n : ℕ) → n < 1000000000000000000 → nat_lt n (2 ^ 63) ≡ true
  test n lt = grind (arith, nat_tests)
fits_short false n lt = grind (arith, nat_tests)

-- Digits with an optional minus stand in front, and write this number.
pub record ShortStands (bytes : List ℕ) (z : ℤ) (rest : List ℕ) : Type 0 where
  pub text : List ℕ
  pub whole : bytes ≡ text ++ rest
  pub some : 0 < length text
  pub low : (k : ℕ) → k < length text → 45 ≤ get_or text k 0
  pub high : (k : ℕ) → k < length text → get_or text k 0 ≤ 57
  pub reads : item_in_range fits_i64 (whole_of text) ≡ Present z

item_of_whole : (text : List ℕ) (z : ℤ) → whole_of text ≡ Some z → fits_i64 z ≡ true → item_in_range fits_i64 (whole_of text) ≡ Present z
item_of_whole text z reads fits = ap (item_in_range fits_i64) reads ∙ rw fits refl

positive_stands : (xs rest : List ℕ) (size : ℕ) (z : ℤ) → DigitsStand xs size rest → z ≡ pos size → ShortStands xs z rest
positive_stands xs rest size z stands is =
    let number : z ≡ pos (digits_value 10 stands.digits) = is ∙ ap pos stands.value in
    record {
      text = stands.digits;
      whole = stands.whole;
      some = stands.some;
      low = λ k lt. omega (arith, (stands.are k lt).0);
      high = λ k lt. (stands.are k lt).1;
      reads = item_of_whole stands.digits z (whole_positive stands.digits stands.some stands.are ∙ ap Some (sym number))
          (ap fits_i64 number ∙ fits_short false (digits_value 10 stands.digits) (short_below stands.digits stands.short stands.are));
    }

low_behind_minus : (ds : List ℕ) → AreDigits ds → (k : ℕ) → k < length (45 ∷ ds) → 45 ≤ get_or (45 ∷ ds) k 0
low_behind_minus ds are zero lt = omega arith
low_behind_minus ds are (suc k) lt = omega (arith, (are k (omega (arith, lt))).0)

high_behind_minus : (ds : List ℕ) → AreDigits ds → (k : ℕ) → k < length (45 ∷ ds) → get_or (45 ∷ ds) k 0 ≤ 57
high_behind_minus ds are zero lt = omega arith
high_behind_minus ds are (suc k) lt = (are k (omega (arith, lt))).1

negative_stands : (b : ℕ) (xs rest : List ℕ) (size : ℕ) (z : ℤ) → b ≡ 45 → DigitsStand xs size rest → z ≡ neg_ℤ (pos size) → ShortStands (b ∷ xs) z rest
negative_stands b xs rest size z minus stands is =
    let number : z ≡ neg_ℤ (pos (digits_value 10 stands.digits)) = is ∙ ap (λ (n : ℕ). neg_ℤ (pos n)) stands.value in
    record {
      text = 45 ∷ stands.digits;
      whole = ap (λ (c : ℕ). c ∷ xs) minus ∙ ap (λ (l : List ℕ). 45 ∷ l) stands.whole;
      some = omega arith;
      low = low_behind_minus stands.digits stands.are;
      high = high_behind_minus stands.digits stands.are;
      reads = item_of_whole (45 ∷ stands.digits) z (whole_negative stands.digits stands.some stands.are ∙ ap Some (sym number))
          (ap fits_i64 number ∙ fits_short true (digits_value 10 stands.digits) (short_below stands.digits stands.short stands.are));
    }

-- the number by its digits, and what follows them
abbrev with_number : (ℕ → ℤ) → Option (ℕ × List ℕ) → Option (ℤ × List ℕ)
with_number f o = option_map (λ (r : ℕ × List ℕ). let out : ℤ × List ℕ = (f r.0, r.1) in out) o

mapped : (f : ℕ → ℤ) (o : Option (ℕ × List ℕ)) (z : ℤ) (rest : List ℕ) → with_number f o ≡ Some (z, rest)
    → (n : ℕ) × (o ≡ Some (n, rest)) × (z ≡ f n)
mapped f None z rest h = absurd (cc h)
mapped f (Some r) z rest h =
    let same : ◌≡◌ {A = ℤ × List ℕ} (f r.0, r.1) (z, rest) = ap (held (pos 0, [])) h in
    (r.0, ap (λ (q : ℤ × List ℕ). let o : Option (ℕ × List ℕ) = Some (r.0, q.1) in o) same, sym (ap (λ (q : ℤ × List ℕ). q.0) same))

pub short_stands : (bytes rest : List ℕ) (z : ℤ) → short_number bytes ≡ Some (z, rest) → ShortStands bytes z rest
unfolding short_number
short_stands [] rest z is = absurd (cc is)
short_stands (b ∷ bs) rest z is = go (b == 45) refl is
  where
    go : (m : Bool) → (b == 45) ≡ m
        → ◌≡◌ {A = Option (ℤ × List ℕ)} (if m then with_number negated (short_digits bs) else with_number pos (short_digits (b ∷ bs))) (Some (z, rest))
        → ShortStands (b ∷ bs) z rest
    go true e h = let r = mapped negated (short_digits bs) z rest h in negative_stands b bs rest r.0 z (eqb-true b 45 e) (digits_stand bs rest r.0 r.1) r.2
    go false e h = let r = mapped pos (short_digits (b ∷ bs)) z rest h in positive_stands (b ∷ bs) rest r.0 z (digits_stand (b ∷ bs) rest r.0 r.1) r.2

-- nothing, by its length
pub nothing : (l : List ℕ) → length l < 1 → l ≡ []
nothing [] short = refl
nothing (b ∷ bs) short = absurd (omega (arith, short))

-- a text that is all such a number
pub all_number : (bytes rest : List ℕ) (z : ℤ) → Some (z, rest) ≡ short_number bytes → rest ≡ [] → Present z ≡ item_in_range fits_i64 (whole_of bytes)
all_number bytes rest z is nothing =
    let stands = short_stands bytes rest z (sym is) in
    let same : stands.text ≡ bytes = sym (append-nil stands.text) ∙ ap (λ (l : List ℕ). stands.text ++ l) (sym nothing) ∙ sym stands.whole in
    sym stands.reads ∙ ap (λ (l : List ℕ). item_in_range fits_i64 (whole_of l)) same

-- ---- items in front

pub number_item : (text : List ℕ) (z : ℤ) → item_in_range fits_i64 (whole_of text) ≡ Present z → int_item text ≡ Present z
number_item text z reads = sym (int_by_number text (λ bad. let none = sym bad ∙ reads in cc none)) ∙ reads

pub item_to_end : (bytes rest : List ℕ) (z : ℤ) → Some (z, rest) ≡ short_number bytes → rest ≡ [] → IsFrontItem int_item bytes z rest
item_to_end bytes rest z is nothing =
    let stands = short_stands bytes rest z (sym is) in (
      ap (map int_item) (piece_to_end AtBlanksOutsideQuotes stands.text rest bytes stands.whole nothing stands.some stands.low stands.high)
          ∙ ap (λ (i : Item ℤ). i ∷ map int_item (pieces AtBlanksOutsideQuotes rest)) (number_item stands.text z stands.reads),
      omega (arith, ap length stands.whole, length-append stands.text rest, stands.some),
    )

pub item_in_front : (bytes rest left : List ℕ) (z : ℤ) → Some (z, rest) ≡ short_number bytes → rest ≡ 32 ∷ left → IsFrontItem int_item bytes z left
item_in_front bytes rest left z is blank =
    let stands = short_stands bytes rest z (sym is) in (
      ap (map int_item) (piece_in_front AtBlanksOutsideQuotes stands.text rest left bytes stands.whole blank stands.some stands.low stands.high)
          ∙ ap (λ (i : Item ℤ). i ∷ map int_item (pieces AtBlanksOutsideQuotes left)) (number_item stands.text z stands.reads),
      omega (arith, ap length stands.whole, ap length blank, length-append stands.text rest, stands.some),
    )
