-- Fields and lines end where they are meant to.
use Rattle.std.specs.Prelude.{◌≡◌, ◌<◌, ◌^◌, ◌++◌, ◌∷◌, ◌==◌, ◌||◌, ◌&&◌, [], ℕ, ℤ, pos, negsuc, suc, zero, Bool, true, false, not, All, IfOk, IsTrue, List, Ok, Err, Result, codes, map, unsigned_abs, refl, if◌then◌else◌}
use Rattle.std.specs.Char.{digit_value}
use Rattle.std.specs.Fmt.{digits, signed_decimal}
use Rattle.std.specs.List.{join_with_byte, list_all}
use Rattle.std.specs.Str.{bytes_eq}
use Rattle.std.specs.Str.Parse.{AllDigits}
use Rattle.std.proofs.Common.{arith, inl, inr, subst, sym}
use Rattle.std.proofs.lemmas.Bool.{and_parts, cond_both, eqb-true, false≢true, ltb-true, ne_eqb, not-true, or_cases}
use Rattle.std.proofs.lemmas.Fmt.{digits_is_IsNumeral}
use Rattle.std.proofs.lemmas.List.{map-id}
use Rattle.std.proofs.lemmas.List.Elements.{All-head, All-tail}
use Rattle.std.proofs.lemmas.Slice.Eq.{bytes_eq-Decides}
use Rattle.dk_base.specs.Values.Items.{closes_quote, is_quoted, is_text}
use Rattle.dk_base.specs.Names.{escaped, escaped_byte}
use Rattle.dk_base.specs.Numbers.{fits_i64}
use Rattle.dk_base.specs.Pieces.{is_empty}
use Rattle.dk_base.specs.Values.Spelling.{IsWritten, bool_text, hash_text, sequence_text, spelling}
use Rattle.dk_base.specs.declared.values.Value.{Value}
use Rattle.dk_base.specs.declared.values.Value.TheVariants as value
use Rattle.dk_state.specs.Reading.{HasNone, ends_field, ends_line}
use Rattle.dk_state.proofs.Numerals.{number_plain}

pub if_ok_weaker : {X E : Type 0} {P Q : X → Type 0} (r : Result X E) → ((x : X) → P x → Q x) → IfOk r P → IfOk r Q
if_ok_weaker (Ok x) f h = f x h
if_ok_weaker (Err e) f h = h

pub none_append : (test : ℕ → Bool) (xs ys : List ℕ) → HasNone test xs → HasNone test ys → HasNone test (xs ++ ys)
none_append test [] ys h k = k
none_append test (x ∷ xs) ys h k =
    let both = and_parts (not (test x)) (list_all (λ c. not (test c)) xs) h in
    rw both.0 (none_append test xs ys both.1 k)

no_end : (b : ℕ) → not (b == 32 || b == 10) ≡ true → not (b == 10) ≡ true
no_end b h = go (b == 32) (b == 10) h
  where
    go : (x y : Bool) → not (x || y) ≡ true → not y ≡ true
    go true y h = absurd (false≢true h)
    go false y h = h

-- what ends no field ends no line
pub fields_in_line : (xs : List ℕ) → HasNone ends_field xs → HasNone ends_line xs
fields_in_line [] h = refl
fields_in_line (x ∷ xs) h =
    let both = and_parts (not (ends_field x)) (list_all (λ c. not (ends_field c)) xs) h in
    rw (no_end x both.0) (fields_in_line xs both.1)

escaped_plain : (b : ℕ) → (b == 10) ≡ false → HasNone ends_field (escaped_byte b)
escaped_plain b h = go (b == 32) refl
  where
    go : (blank : Bool) → (b == 32) ≡ blank → HasNone ends_field (if blank then 92 ∷ 95 ∷ [] else if b == 92 then 92 ∷ 92 ∷ [] else b ∷ [])
    go true e = refl
    go false e = cond_both (b == 92) (92 ∷ 92 ∷ []) (b ∷ []) (HasNone ends_field) (λ f. refl) (λ f. rw (e, h) refl)

-- the spelling of a name without an LF
pub name_plain : (name : List ℕ) → HasNone ends_line name → HasNone ends_field (escaped name)
name_plain [] h = refl
name_plain (b ∷ name) h =
    let both = and_parts (not (ends_line b)) (list_all (λ c. not (ends_line c)) name) h in
    none_append ends_field (escaped_byte b) (escaped name) (escaped_plain b (not-true (b == 10) both.0)) (name_plain name both.1)

-- ---- values
hex_plain : (ds : List ℕ) → AllDigits 16 ds → HasNone ends_line ds
hex_plain [] all = refl
hex_plain (d ∷ ds) all =
    let P : ℕ → Type 0 = λ c. digit_value c < 16 in
    let other : (d == 10) ≡ false = ne_eqb d 10 (λ e. let big : 36 < 16 = subst P e all.0 in absurd (omega arith)) in
    rw other (hex_plain ds all.1)

hash_plain : (n : ℕ) → n < 2 ^ 64 → HasNone ends_line (hash_text n)
hash_plain zero small = refl
hash_plain (suc n) small =
    let h = digits_is_IsNumeral 16 false (omega arith) (omega arith) (suc n) (omega arith) in
    rw (ne_eqb (suc n) 0 (λ e. absurd (omega arith))) (hex_plain (digits 16 false (suc n)) h.0.1)

bool_plain : (b : Bool) → HasNone ends_line (bool_text b)
bool_plain true = refl
bool_plain false = refl

pub small_whole : (z : ℤ) → IsTrue (fits_i64 z) → unsigned_abs z < 2 ^ 127
small_whole (pos n) fits = omega (arith, ltb-true n (2 ^ 63) fits)
small_whole (negsuc n) fits = omega (arith, ltb-true n (2 ^ 63) fits)

pub int_plain : (z : ℤ) → IsTrue (fits_i64 z) → HasNone ends_line (signed_decimal z)
int_plain z fits = fields_in_line (signed_decimal z) (number_plain z (small_whole z fits))

closed_plain : (escaped : Bool) (bs : List ℕ) → closes_quote escaped bs ≡ true → HasNone ends_line bs
closed_plain escaped [] h = refl
closed_plain escaped (b ∷ bs) h = go (b == 10) (not escaped && b == 34) refl refl bs h (closed_plain (not escaped && b == 92) bs)
  where
    empty_plain : (bs : List ℕ) → is_empty bs ≡ true → HasNone ends_line bs
    empty_plain [] h = refl
    empty_plain (c ∷ bs) h = absurd (false≢true h)

    go : (lf quote : Bool) → (b == 10) ≡ lf → (not escaped && b == 34) ≡ quote → (bs : List ℕ)
        → (if lf then false else if quote then is_empty bs else closes_quote (not escaped && b == 92) bs) ≡ true
        → (closes_quote (not escaped && b == 92) bs ≡ true → HasNone ends_line bs) → HasNone ends_line (b ∷ bs)
    go true quote e f bs h later = absurd (false≢true h)
    go false true e f bs h later = rw e (empty_plain bs h)
    go false false e f bs h later = rw e (later h)

quoted_plain : (s : List ℕ) → is_quoted s ≡ true → HasNone ends_line s
unfolding is_quoted
quoted_plain [] h = absurd (false≢true h)
quoted_plain (b ∷ bs) h =
    let both = and_parts (b == 34) (closes_quote false bs) h in
    let P : ℕ → Type 0 = λ c. HasNone ends_line (c ∷ bs) in
    subst P (sym (eqb-true b 34 both.0)) (closed_plain false bs both.1)

pub text_plain : (s : List ℕ) → IsTrue (is_text s) → HasNone ends_line s
unfolding is_text
text_plain s h =
    elim (or_cases (bytes_eq s (codes "null")) (is_quoted s) h) [
      | inl e ↦ subst (HasNone ends_line) (sym ((bytes_eq-Decides s (codes "null")).0 e)) refl
      | inr q ↦ quoted_plain s q
    ]

-- items with single blanks between them
pub joined_plain : {X : Type 0} (text : X → List ℕ) (P : X → Type 0) → ((x : X) → P x → HasNone ends_line (text x)) → (xs : List X) → All P xs
    → HasNone ends_line (join_with_byte 32 (map text xs))
joined_plain text P each [] all = refl
joined_plain text P each (x ∷ []) all = each x (All-head P x [] all)
joined_plain text P each (x ∷ y ∷ xs) all =
    none_append ends_line (text x) (32 ∷ join_with_byte 32 (map text (y ∷ xs))) (each x (All-head P x (y ∷ xs) all))
    (joined_plain text P each (y ∷ xs) (All-tail P x (y ∷ xs) all))

bracketed_plain : {X : Type 0} (text : X → List ℕ) (P : X → Type 0) → ((x : X) → P x → HasNone ends_line (text x)) → (xs : List X) → All P xs
    → HasNone ends_line (sequence_text (map text xs))
bracketed_plain text P each xs all = none_append ends_line (join_with_byte 32 (map text xs)) (93 ∷ []) (joined_plain text P each xs all) refl

-- no value's spelling has an LF
pub value_plain : (v : Value) → IsWritten v → HasNone ends_line (spelling v)
value_plain value.Missing written = refl
value_plain (value.Bool b) written = bool_plain b
value_plain (value.Int z) written = int_plain z written
value_plain (value.Hash n) written = hash_plain n written
value_plain (value.Str s) written = text_plain s written
value_plain (value.BoolSeq bs) written = bracketed_plain bool_text (λ _. Unit {0}) (λ b _. bool_plain b) bs (λ k d l. tt)
value_plain (value.IntSeq zs) written = bracketed_plain signed_decimal (λ z. IsTrue (fits_i64 z)) int_plain zs written
value_plain (value.HashSeq ns) written = bracketed_plain hash_text (λ n. n < 2 ^ 64) hash_plain ns written
value_plain (value.StrSeq ss) written =
    subst (λ texts. HasNone ends_line (sequence_text texts)) (map-id ss) (bracketed_plain (λ s. s) (λ s. IsTrue (is_text s)) text_plain ss written)
