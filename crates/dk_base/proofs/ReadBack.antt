-- The text of a value is read as the value.
use Rattle.std.proofs.Common.{◌≡◌, ◌<◌, ◌≤◌, ◌+◌, ◌-◌, ◌^◌, ◌∙◌, ◌==◌, ◌&&◌, ◌||◌, ◌⊎◌, ◌∷◌, ◌++◌, [], ℕ, ℤ, pos, negsuc, Bool, true, false, not, List, All, IsTrue, Some, length, map, take, codes, refl, sym, ap, append-nil, if◌then◌else◌, zero, suc, arith, nat_lt, subst, inl, inr, filter_map, ap₂, slice_index}
use Rattle.std.specs.Char.{digit_value, is_digit}
use Rattle.std.specs.Fmt.{digits, decimal, signed_decimal}
use Rattle.std.specs.List.{join_with_byte, list_all, list_any}
use Rattle.std.specs.Str.{bytes_eq}
use Rattle.std.specs.Str.Parse.{AllDigits, IsNumeral, digits_value}
use Rattle.std.proofs.lemmas.Bool.{eqb-true, lt-ltb, ltb-true, ne_eqb, or_cases, and_parts, cond_both, false≢true, ltb-false, not-true, not_from_false, true≢false}
use Rattle.std.proofs.lemmas.Fmt.{digits_is_IsNumeral}
use Rattle.std.proofs.lemmas.List.{get_or_push, length_push, map-id, take_at}
use Rattle.std.proofs.lemmas.List.Elements.{All-head, All-map, All-tail, All-weaker}
use Rattle.std.proofs.lemmas.Slice.Eq.{bytes_eq-Decides}
use Rattle.dk_base.specs.Values.Items.{bool_item, closes_quote, hash_code_of, hash_item, int_item, is_missing_word, is_quoted, is_text, str_item}
use Rattle.dk_base.specs.Numbers.{fits_i64, numeral_of, whole_of}
use Rattle.dk_base.specs.Pieces.{behind, is_empty, outside, parts, nonempty, pieces}
use Rattle.dk_base.specs.Values.Sequences.{all_of, inside, is_bad, is_missing, present, sequence}
use Rattle.dk_base.specs.Values.Spelling.{IsWritten, bool_text, hash_text, sequence_text, spelling}
use Rattle.dk_base.specs.Values.{IsOfKind, value_of_text}
use Rattle.dk_base.proofs.Splits.{kept}
use Rattle.dk_base.specs.declared.values.items.Item.{Item}
use Rattle.dk_base.specs.declared.values.items.Item.TheVariants.{Present}
use Rattle.dk_base.specs.declared.kinds.Kind.{Kind}
use Rattle.dk_base.specs.declared.kinds.Kind.TheVariants as kind
use Rattle.dk_base.specs.declared.splitting.Cut.TheVariants.{AtBlanksOutsideQuotes}
use Rattle.dk_base.specs.declared.values.Value.{Value}
use Rattle.dk_base.specs.declared.values.Value.TheVariants as value

-- ---- numbers

digits_pass : (radix : ℕ) (ds : List ℕ) → AllDigits radix ds → list_all (λ d. is_digit d radix) ds ≡ true
digits_pass radix [] all = refl
digits_pass radix (d ∷ ds) all = rw (lt-ltb (digit_value d) radix all.0) (digits_pass radix ds all.1)

numeral_back : (radix : ℕ) (ds : List ℕ) (n : ℕ) → IsNumeral radix ds → digits_value radix ds ≡ n → numeral_of radix ds ≡ Some n
numeral_back radix ds n all is =
    rw (lt-ltb 0 (length ds) all.0, digits_pass radix ds all.1) (ap (λ (m : ℕ). Some m) is)

-- a decimal digit is a byte from 48 to 57
digit_range : (b : ℕ) → digit_value b < 10 → (48 ≤ b) × (b ≤ 57)
digit_range b h =
    let P : ℕ → Type 0 = λ v. v < 10 → (48 ≤ b) × (b ≤ 57) in
    cond_both (nat_lt b 48) 36 _ P (λ e small. absurd (omega arith))
    (λ low. cond_both (nat_lt b 58) (b - 48) _ P (λ high small. (ltb-false b 48 low, omega (arith, ltb-true b 58 high)))
    (λ high. cond_both (nat_lt b 65) 36 _ P (λ e small. absurd (omega arith))
    (λ e. cond_both (nat_lt b 91) (b - 55) _ P (λ f small. absurd (omega (arith, ltb-false b 65 e)))
    (λ f. cond_both (nat_lt b 97) 36 _ P (λ g small. absurd (omega arith))
    (λ g. cond_both (nat_lt b 123) (b - 87) 36 P (λ k small. absurd (omega (arith, ltb-false b 97 g))) (λ k small. absurd (omega arith)))))))
    h

int_back_plain : (ds : List ℕ) (n : ℕ) → IsNumeral 10 ds → digits_value 10 ds ≡ n → n < 2 ^ 63 → int_item ds ≡ Present (pos n)
unfolding int_item whole_of
int_back_plain [] n all is small = absurd (omega (arith, all.0))
int_back_plain (b ∷ bs) n all is small =
    let range : (48 ≤ b) × (b ≤ 57) = digit_range b all.1.0 in
    let not_n : (b == 110) ≡ false = ne_eqb b 110 (λ e. absurd (omega arith)) in
    let not_u : (b == 117) ≡ false = ne_eqb b 117 (λ e. absurd (omega arith)) in
    let not_m : (b == 109) ≡ false = ne_eqb b 109 (λ e. absurd (omega arith)) in
    let not_t : (b == 116) ≡ false = ne_eqb b 116 (λ e. absurd (omega arith)) in
    let not_f : (b == 102) ≡ false = ne_eqb b 102 (λ e. absurd (omega arith)) in
    let not_minus : (b == 45) ≡ false = ne_eqb b 45 (λ e. absurd (omega arith)) in
    rw (not_n, not_u, not_m, not_t, not_f, not_minus, numeral_back 10 (b ∷ bs) n all is, lt-ltb n (2 ^ 63) small) refl

int_back_minus : (ds : List ℕ) (n : ℕ) → IsNumeral 10 ds → digits_value 10 ds ≡ suc n → n < 2 ^ 63 → int_item (45 ∷ ds) ≡ Present (negsuc n)
unfolding int_item whole_of
int_back_minus ds n all is small = rw (numeral_back 10 ds (suc n) all is, lt-ltb n (2 ^ 63) small) refl

int_back : (z : ℤ) → IsTrue (fits_i64 z) → int_item (signed_decimal z) ≡ Present z
int_back (pos n) fits =
    let small : n < 2 ^ 63 = ltb-true n (2 ^ 63) fits in
    let h = digits_is_IsNumeral 10 false (omega arith) (omega arith) n (omega arith) in
    int_back_plain (decimal n) n h.0 h.1 small
int_back (negsuc n) fits =
    let small : n < 2 ^ 63 = ltb-true n (2 ^ 63) fits in
    let h = digits_is_IsNumeral 10 false (omega arith) (omega arith) (suc n) (omega arith) in
    int_back_minus (decimal (suc n)) n h.0 h.1 small

code_back : (ds : List ℕ) (n : ℕ) → IsNumeral 16 ds → digits_value 16 ds ≡ n → n < 2 ^ 64 → hash_item (48 ∷ 120 ∷ ds) ≡ Present n
unfolding hash_item hash_code_of
code_back ds n all is small = rw (numeral_back 16 ds n all is, lt-ltb n (2 ^ 64) small) refl

code_text : (n : ℕ) → hash_text (suc n) ≡ 48 ∷ 120 ∷ digits 16 false (suc n)
code_text n = rw (ne_eqb (suc n) 0 (λ e. absurd (omega arith))) refl

hash_back : (n : ℕ) → n < 2 ^ 64 → hash_item (hash_text n) ≡ Present n
unfolding hash_item
hash_back zero small = refl
hash_back (suc n) small =
    let h = digits_is_IsNumeral 16 false (omega arith) (omega arith) (suc n) (omega arith) in
    ap hash_item (code_text n) ∙ code_back (digits 16 false (suc n)) (suc n) h.0 h.1 small

bool_back : (b : Bool) → bool_item (bool_text b) ≡ Present b
unfolding bool_item
bool_back true = refl
bool_back false = refl

-- ---- items

-- without blanks, outside of quotes before and behind, and not empty
abbrev pub IsWhole : List ℕ → Type 0
IsWhole p = (0 < length p) × ((rest : List ℕ) → parts AtBlanksOutsideQuotes outside (p ++ rest) ≡ behind p (parts AtBlanksOutsideQuotes outside rest))

-- a text read as the value it was written for, as an item of a sequence
abbrev pub ReadsBack : {A : Type 0} → (List ℕ → Item A) → (A → List ℕ) → A → Type 0
ReadsBack item text x = (item (text x) ≡ Present x) × IsWhole (text x)

pieces_of_joined : (ps : List (List ℕ)) → All IsWhole ps → pieces AtBlanksOutsideQuotes (join_with_byte 32 ps) ≡ ps
unfolding pieces
pieces_of_joined [] all = refl
pieces_of_joined (p ∷ []) all =
    let whole : IsWhole p = All-head IsWhole p [] all in
    let alone : parts AtBlanksOutsideQuotes outside p ≡ (p, []) =
    ap (parts AtBlanksOutsideQuotes outside) (sym (append-nil p)) ∙ whole.1 [] ∙ ap (λ (first : List ℕ). (first, [])) (append-nil p) in
    ap (λ (found : List ℕ × List (List ℕ)). nonempty (found.0 ∷ found.1)) alone ∙ kept p [] whole.0
pieces_of_joined (p ∷ q ∷ ps) all =
    let whole : IsWhole p = All-head IsWhole p (q ∷ ps) all in
    let more : List ℕ = join_with_byte 32 (q ∷ ps) in
    let others : List ℕ × List (List ℕ) = parts AtBlanksOutsideQuotes outside more in
    let first : parts AtBlanksOutsideQuotes outside (p ++ 32 ∷ more) ≡ (p, others.0 ∷ others.1) =
    whole.1 (32 ∷ more) ∙ ap (λ (front : List ℕ). (front, others.0 ∷ others.1)) (append-nil p) in
    ap (λ (found : List ℕ × List (List ℕ)). nonempty (found.0 ∷ found.1)) first
    ∙ kept p (others.0 ∷ others.1) whole.0
    ∙ ap (λ (found : List (List ℕ)). p ∷ found) (pieces_of_joined (q ∷ ps) (All-tail IsWhole p (q ∷ ps) all))

none_bad : {A : Type 0} (xs : List A) → list_any is_bad (map (λ x. Present x) xs) ≡ false
none_bad [] = refl
none_bad (x ∷ xs) = none_bad xs

none_missing : {A : Type 0} (xs : List A) → list_any is_missing (map (λ x. Present x) xs) ≡ false
none_missing [] = refl
none_missing (x ∷ xs) = none_missing xs

each_present : {A : Type 0} (xs : List A) → filter_map present (map (λ x. Present x) xs) ≡ xs
each_present [] = refl
each_present {A = A} (x ∷ xs) = ap (λ (ys : List A). x ∷ ys) (each_present xs)

all_present : {A : Type 0} (xs : List A) → all_of (map (λ x. Present x) xs) ≡ Present xs
all_present {A = A} xs = rw (none_bad xs, none_missing xs) (ap (λ (ys : List A). Present ys) (each_present xs))

items_back : {A : Type 0} (item : List ℕ → Item A) (text : A → List ℕ) (xs : List A) → All (ReadsBack item text) xs
    → map item (map text xs) ≡ map (λ x. Present x) xs
items_back item text [] all = refl
items_back {A = A} item text (x ∷ xs) all =
    ap₂ (λ (y : Item A) (ys : List (Item A)). y ∷ ys) (All-head (ReadsBack item text) x xs all).0 (items_back item text xs (All-tail (ReadsBack item text) x xs all))

each_whole : {A : Type 0} (item : List ℕ → Item A) (text : A → List ℕ) (xs : List A) → All (ReadsBack item text) xs → All IsWhole (map text xs)
each_whole item text xs all = All-map IsWhole text xs (All-weaker (ReadsBack item text) (λ x. IsWhole (text x)) (λ x h. h.1) xs all)

inside_of : (t : List ℕ) → inside (91 ∷ (t ++ 93 ∷ [])) ≡ Some t
inside_of t =
    let size : length (t ++ 93 ∷ []) ≡ length t + 1 = length_push t 93 in
    let some : nat_lt 0 (length (t ++ 93 ∷ [])) ≡ true = lt-ltb 0 (length (t ++ 93 ∷ [])) (omega arith) in
    let before : length (t ++ 93 ∷ []) - 1 ≡ length t = omega arith in
    let last : slice_index (t ++ 93 ∷ []) (length t) ≡ 93 = get_or_push t 93 0 (length t) refl in
    let front : take (length t) (t ++ 93 ∷ []) ≡ t = take_at t (93 ∷ []) (length t) refl in
    rw (some, before, last, front) refl

sequence_back : {A : Type 0} (item : List ℕ → Item A) (text : A → List ℕ) (xs : List A) → All (ReadsBack item text) xs
    → sequence item (sequence_text (map text xs)) ≡ Present xs
unfolding sequence
sequence_back item text xs all =
    rw (inside_of (join_with_byte 32 (map text xs)), pieces_of_joined (map text xs) (each_whole item text xs all), items_back item text xs all) (all_present xs)

-- ---- which texts are whole

plain_whole : (p : List ℕ) → list_all (λ b. not (b == 32) && not (b == 34)) p ≡ true → (rest : List ℕ)
    → parts AtBlanksOutsideQuotes outside (p ++ rest) ≡ behind p (parts AtBlanksOutsideQuotes outside rest)
plain_whole [] h rest = refl
plain_whole (b ∷ bs) h rest =
    let both = and_parts (not (b == 32) && not (b == 34)) (list_all (λ c. not (c == 32) && not (c == 34)) bs) h in
    let each = and_parts (not (b == 32)) (not (b == 34)) both.0 in
    let no_blank : (b == 32) ≡ false = not-true (b == 32) each.0 in
    let no_quote : (b == 34) ≡ false = not-true (b == 34) each.1 in
    rw (no_blank, no_quote) (ap (λ (r : List ℕ × List (List ℕ)). (b ∷ r.0, r.1)) (plain_whole bs both.1 rest))

digits_plain : (radix : ℕ) → radix ≤ 16 → (ds : List ℕ) → AllDigits radix ds → list_all (λ b. not (b == 32) && not (b == 34)) ds ≡ true
digits_plain radix small [] all = refl
digits_plain radix small (d ∷ ds) all =
    let P : ℕ → Type 0 = λ c. digit_value c < radix in
    let no_blank : (d == 32) ≡ false = ne_eqb d 32 (λ e. let big : 36 < radix = subst P e all.0 in absurd (omega arith)) in
    let no_quote : (d == 34) ≡ false = ne_eqb d 34 (λ e. let big : 36 < radix = subst P e all.0 in absurd (omega arith)) in
    rw (no_blank, no_quote) (digits_plain radix small ds all.1)

bool_whole : (b : Bool) → IsWhole (bool_text b)
bool_whole true = (omega arith, λ rest. refl)
bool_whole false = (omega arith, λ rest. refl)

int_whole : (z : ℤ) → IsTrue (fits_i64 z) → IsWhole (signed_decimal z)
int_whole (pos n) fits =
    let small : n < 2 ^ 63 = ltb-true n (2 ^ 63) fits in
    let h = digits_is_IsNumeral 10 false (omega arith) (omega arith) n (omega arith) in
    (h.0.0, plain_whole (decimal n) (digits_plain 10 (omega arith) (decimal n) h.0.1))
int_whole (negsuc n) fits =
    let small : n < 2 ^ 63 = ltb-true n (2 ^ 63) fits in
    let h = digits_is_IsNumeral 10 false (omega arith) (omega arith) (suc n) (omega arith) in
    (omega arith, plain_whole (45 ∷ decimal (suc n)) (digits_plain 10 (omega arith) (decimal (suc n)) h.0.1))

hash_whole : (n : ℕ) → n < 2 ^ 64 → IsWhole (hash_text n)
hash_whole zero small = (omega arith, λ rest. refl)
hash_whole (suc n) small =
    let h = digits_is_IsNumeral 16 false (omega arith) (omega arith) (suc n) (omega arith) in
    subst IsWhole (sym (code_text n))
    (omega arith, plain_whole (48 ∷ 120 ∷ digits 16 false (suc n)) (digits_plain 16 (omega arith) (digits 16 false (suc n)) h.0.1))

-- a quote that no backslash takes closes
closing : (escaped : Bool) (b : ℕ) (rest : List ℕ) → escaped ≡ false → b ≡ 34
    → parts AtBlanksOutsideQuotes (record { quoted = true; escaped = escaped }) (b ∷ rest) ≡ behind (b ∷ []) (parts AtBlanksOutsideQuotes outside rest)
closing true b rest e f = absurd (true≢false e)
closing false b rest e f =
    let P : ℕ → Type 0 = λ c. parts AtBlanksOutsideQuotes (record { quoted = true; escaped = false }) (c ∷ rest) ≡ behind (c ∷ []) (parts AtBlanksOutsideQuotes outside rest) in
    subst P (sym f) refl

-- what else stands in quotes leaves them open
still_open : (escaped : Bool) (b : ℕ) → (not escaped && b == 34) ≡ false → (escaped || not (b == 34)) ≡ true
still_open true b h = refl
still_open false b h = not_from_false (b == 34) h

quoted_step : (escaped : Bool) (b : ℕ) (bs rest : List ℕ)
    → (closes_quote (not escaped && b == 92) bs ≡ true
    → parts AtBlanksOutsideQuotes (record { quoted = true; escaped = not escaped && b == 92 }) (bs ++ rest) ≡ behind bs (parts AtBlanksOutsideQuotes outside rest))
    → closes_quote escaped (b ∷ bs) ≡ true
    → parts AtBlanksOutsideQuotes (record { quoted = true; escaped = escaped }) (b ∷ (bs ++ rest)) ≡ behind (b ∷ bs) (parts AtBlanksOutsideQuotes outside rest)
quoted_step escaped b bs rest later h = go (b == 10) (not escaped && b == 34) refl bs later h
  where
    go : (lf quote : Bool) → (not escaped && b == 34) ≡ quote → (bs : List ℕ)
        → (closes_quote (not escaped && b == 92) bs ≡ true
        → parts AtBlanksOutsideQuotes (record { quoted = true; escaped = not escaped && b == 92 }) (bs ++ rest) ≡ behind bs (parts AtBlanksOutsideQuotes outside rest))
        → (if lf then false else if quote then is_empty bs else closes_quote (not escaped && b == 92) bs) ≡ true
        → parts AtBlanksOutsideQuotes (record { quoted = true; escaped = escaped }) (b ∷ (bs ++ rest)) ≡ behind (b ∷ bs) (parts AtBlanksOutsideQuotes outside rest)
    go true quote e bs later h = absurd (false≢true h)
    go false true e [] later h =
        let both = and_parts (not escaped) (b == 34) e in
        closing escaped b rest (not-true escaped both.0) (eqb-true b 34 both.1)
    go false true e (c ∷ bs) later h = absurd (false≢true h)
    go false false e bs later h =
        rw (still_open escaped b e) (ap (λ (r : List ℕ × List (List ℕ)). (b ∷ r.0, r.1)) (later h))

-- behind an opening quote, up to the one that closes it
quoted_whole : (escaped : Bool) (bs rest : List ℕ) → closes_quote escaped bs ≡ true
    → parts AtBlanksOutsideQuotes (record { quoted = true; escaped = escaped }) (bs ++ rest) ≡ behind bs (parts AtBlanksOutsideQuotes outside rest)
quoted_whole escaped [] rest h = absurd (false≢true h)
quoted_whole escaped (b ∷ bs) rest h = quoted_step escaped b bs rest (quoted_whole (not escaped && b == 92) bs rest) h

in_quotes_whole : (s : List ℕ) → is_quoted s ≡ true → IsWhole s
unfolding is_quoted
in_quotes_whole [] h = absurd (false≢true h)
in_quotes_whole (b ∷ bs) h =
    let both = and_parts (b == 34) (closes_quote false bs) h in
    let P : ℕ → Type 0 = λ c. IsWhole (c ∷ bs) in
    subst P (sym (eqb-true b 34 both.0)) (omega arith, λ rest. ap (λ (r : List ℕ × List (List ℕ)). (34 ∷ r.0, r.1)) (quoted_whole false bs rest both.1))

in_quotes_no_word : (s : List ℕ) → is_quoted s ≡ true → is_missing_word s ≡ false
unfolding is_quoted
in_quotes_no_word [] h = absurd (false≢true h)
in_quotes_no_word (b ∷ bs) h =
    let P : ℕ → Type 0 = λ c. is_missing_word (c ∷ bs) ≡ false in
    subst P (sym (eqb-true b 34 (and_parts (b == 34) (closes_quote false bs) h).0)) refl

-- `null`, or in quotes
null_or_quoted : (s : List ℕ) → IsTrue (is_text s) → (s ≡ codes "null") ⊎ (is_quoted s ≡ true)
unfolding is_text
null_or_quoted s h =
    elim (or_cases (bytes_eq s (codes "null")) (is_quoted s) h) [ inl e ↦ inl ((bytes_eq-Decides s (codes "null")).0 e) | inr q ↦ inr q ]

text_whole : (s : List ℕ) → IsTrue (is_text s) → IsWhole s
text_whole s h =
    elim (null_or_quoted s h) [ inl e ↦ subst IsWhole (sym e) (omega arith, λ rest. refl) | inr q ↦ in_quotes_whole s q ]

pub text_no_word : (s : List ℕ) → IsTrue (is_text s) → is_missing_word s ≡ false
text_no_word s h =
    let P : List ℕ → Type 0 = λ t. is_missing_word t ≡ false in
    elim (null_or_quoted s h) [ inl e ↦ subst P (sym e) refl | inr q ↦ in_quotes_no_word s q ]

text_back : (s : List ℕ) → IsTrue (is_text s) → str_item s ≡ Present s
unfolding str_item
text_back s h = rw (text_no_word s h, h) refl

texts_back : (ss : List (List ℕ)) → All (λ s. IsTrue (is_text s)) ss → sequence str_item (sequence_text ss) ≡ Present ss
texts_back ss written =
    ap (λ (ts : List (List ℕ)). sequence str_item (sequence_text ts)) (sym (map-id ss))
    ∙ sequence_back str_item (λ s. s) ss (λ i d lt. (text_back _ (written i d lt), text_whole _ (written i d lt)))

-- ---- values

pub spelled_back : (k : Kind) (v : Value) → IsOfKind k v → IsWritten v → value_of_text k (spelling v) ≡ Some v
unfolding bool_item int_item hash_item str_item sequence
spelled_back kind.Bool value.Missing of written = refl
spelled_back kind.Int value.Missing of written = refl
spelled_back kind.Hash value.Missing of written = refl
spelled_back kind.Str value.Missing of written = refl
spelled_back kind.BoolSeq value.Missing of written = refl
spelled_back kind.IntSeq value.Missing of written = refl
spelled_back kind.HashSeq value.Missing of written = refl
spelled_back kind.StrSeq value.Missing of written = refl
spelled_back k (value.Bool b) of written =
    let P : Kind → Type 0 = λ j. value_of_text j (bool_text b) ≡ Some (value.Bool b) in
    subst P of (rw (bool_back b) refl)
spelled_back k (value.Int z) of written =
    let P : Kind → Type 0 = λ j. value_of_text j (signed_decimal z) ≡ Some (value.Int z) in
    subst P of (rw (int_back z written) refl)
spelled_back k (value.Hash n) of written =
    let P : Kind → Type 0 = λ j. value_of_text j (hash_text n) ≡ Some (value.Hash n) in
    subst P of (rw (hash_back n written) refl)
spelled_back k (value.Str s) of written =
    let P : Kind → Type 0 = λ j. value_of_text j s ≡ Some (value.Str s) in
    subst P of (rw (text_back s written) refl)
spelled_back k (value.BoolSeq bs) of written =
    let P : Kind → Type 0 = λ j. value_of_text j (sequence_text (map bool_text bs)) ≡ Some (value.BoolSeq bs) in
    subst P of (rw (sequence_back bool_item bool_text bs (λ i d lt. (bool_back _, bool_whole _))) refl)
spelled_back k (value.IntSeq zs) of written =
    let P : Kind → Type 0 = λ j. value_of_text j (sequence_text (map signed_decimal zs)) ≡ Some (value.IntSeq zs) in
    subst P of (rw (sequence_back int_item signed_decimal zs (λ i d lt. (int_back _ (written i d lt), int_whole _ (written i d lt)))) refl)
spelled_back k (value.HashSeq ns) of written =
    let P : Kind → Type 0 = λ j. value_of_text j (sequence_text (map hash_text ns)) ≡ Some (value.HashSeq ns) in
    subst P of (rw (sequence_back hash_item hash_text ns (λ i d lt. (hash_back _ (written i d lt), hash_whole _ (written i d lt)))) refl)
spelled_back k (value.StrSeq ss) of written =
    let P : Kind → Type 0 = λ j. value_of_text j (sequence_text ss) ≡ Some (value.StrSeq ss) in
    subst P of (rw (texts_back ss written) refl)
