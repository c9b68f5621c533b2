-- The numbers that `clap` reads, as the numbers that texts write.
use Rattle.std.proofs.Common.{◌≡◌, ◌<◌, ◌^◌, ℕ, Bool, true, false, List, [], ◌∷◌, Option, Some, None, Result, length, nat_lt, refl, ap}
use Rattle.std.specs.Prelude.{option_and_then}
use Rattle.std.specs.Char.{digit_value, is_digit}
use Rattle.std.specs.List.{list_all}
use Rattle.std.specs.Str.Parse.{AllDigits, IsNumeral, ParsesUnsigned, digits_value, without_leading_plus}
use Rattle.std.proofs.lemmas.Bool.{lt-ltb, ltb-true}
use Rattle.clap.specs.Words.{ReadsOne, Text}
use Rattle.clap.proofs.WalkLemmas.{both}
use Rattle.dk_base.specs.Numbers.{is_numeral, natural_of}

-- the number that the text gives
abbrev pub read : Option Text → Option ℕ
read o = option_and_then (λ text. natural_of (without_leading_plus text)) o

digits : (ds : List ℕ) → list_all (λ d. is_digit d 10) ds ≡ true → AllDigits 10 ds
digits [] e = tt
digits (d ∷ ds) e =
    let parts = both _ _ e in
    (ltb-true _ _ parts.0, digits ds parts.1)

digits_back : (ds : List ℕ) → AllDigits 10 ds → list_all (λ d. is_digit d 10) ds ≡ true
digits_back [] h = refl
digits_back (d ∷ ds) h = rw (lt-ltb (digit_value d) 10 h.0) (digits_back ds h.1)

numeral : (ds : List ℕ) → is_numeral 10 ds ≡ true → IsNumeral 10 ds
numeral ds e =
    let parts = both _ _ e in
    (ltb-true _ _ parts.0, digits ds parts.1)

natural : (ds : List ℕ) (n : ℕ) → IsNumeral 10 ds → digits_value 10 ds < 2 ^ 64 → n ≡ digits_value 10 ds → Some n ≡ natural_of ds
unfolding natural_of
natural ds n h lt e = rw (lt-ltb 0 (length ds) h.0, digits_back ds h.1, lt-ltb (digits_value 10 ds) (2 ^ 64) lt) (ap Some e)

no_natural : (ds : List ℕ) → ¬ (IsNumeral 10 ds × (digits_value 10 ds < 2 ^ 64)) → None ≡ natural_of ds
unfolding natural_of
no_natural ds isnt = go (is_numeral 10 ds) refl (nat_lt (digits_value 10 ds) (2 ^ 64)) refl
  where
    go : (is : Bool) → is_numeral 10 ds ≡ is → (fits : Bool) → nat_lt (digits_value 10 ds) (2 ^ 64) ≡ fits → None ≡ natural_of ds
    go false e fits f = rw e refl
    go true e false f = rw (e, f) refl
    go true e true f = absurd (isnt (numeral ds e, ltb-true _ _ f))

-- the number that `clap` reads is the one that the text gives
pub number_read : {E : Type 0} (gives : List ℕ → Result ℕ E → Type 0) (o : Option Text) (r : Option ℕ)
    → ((t : List ℕ) (x : Result ℕ E) → gives t x → ParsesUnsigned 64 10 t x)
    → (o ≡ None → r ≡ None) → ((t : List ℕ) → o ≡ Some t → ReadsOne gives t r) → r ≡ read o
number_read gives None r parses none some = none refl
number_read gives (Some t) None parses none some =
    let got = some t refl in
    no_natural (without_leading_plus t) (parses t _ got.1)
number_read gives (Some t) (Some n) parses none some =
    let got = parses t _ (some t refl) in
    natural (without_leading_plus t) n got.0.0 got.0.1 got.1
