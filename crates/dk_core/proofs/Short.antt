-- Sequences with fewer than 2^63 elements: those of texts, and of lines, with fewer bytes.
use Rattle.std.proofs.Common.{◌≡◌, ◌-◌, ◌<◌, ◌≤◌, ◌^◌, ◌&&◌, ◌||◌, ◌==◌, ℕ, suc, Bool, true, false, All, List, [], ◌∷◌, Option, Some, None, IfSome, drop, filter_map, length, length-append, map, nat_lt, refl, reverse, sym, subst, arith, codes, slice_index, take, if◌then◌else◌}
use Rattle.std.specs.List.{cons_option, flat_map, join_with_byte, list_any}
use Rattle.std.specs.Fmt.{signed_decimal}
use Rattle.std.specs.Str.{bytes_eq}
use Rattle.std.proofs.lemmas.List.{length-drop, length-map, length-reverse, length-take}
use Rattle.std.proofs.lemmas.List.Elements.{All-cons, All-nil}
use Rattle.dk_base.proofs.Written.{read_is_written}
use Rattle.dk_base.specs.Pieces.{cuts, is_blank, nonempty, outside, parts, pieces, place_after}
use Rattle.dk_base.specs.Reading.{Line}
use Rattle.dk_base.specs.Values.{IsOfKind, value_of_text, valued}
use Rattle.dk_base.specs.Values.Items.{bool_item, hash_item, int_item, is_missing_word, str_item}
use Rattle.dk_base.specs.Values.Sequences.{all_of, bracketed, inside, is_bad, is_missing, present, sequence}
use Rattle.dk_base.specs.Values.Spelling.{bool_text, hash_text, sequence_text, spelling}
use Rattle.dk_base.specs.Words.{rest_of_line, trim_blanks, without_front, word_len}
use Rattle.dk_base.specs.declared.kinds.Kind.{Kind}
use Rattle.dk_base.specs.declared.kinds.Kind.TheVariants as kind
use Rattle.dk_base.specs.declared.values.Value.{Value}
use Rattle.dk_base.specs.declared.values.Value.TheVariants as value
use Rattle.dk_derive.specs.Values.{number_of_elements}

-- fewer than 2^63 elements
abbrev pub IsShort : Value → Type 0
IsShort v = number_of_elements v < 2 ^ 63

-- a line of fewer than 2^63 bytes
abbrev pub IsShortLine : Line → Type 0
IsShortLine l = length l.bytes < 2 ^ 63

-- ---- the pieces of a text
fewer_nonempty : (t : List ℕ) (ts : List (List ℕ)) → length (nonempty ts) ≤ length (nonempty (t ∷ ts))
fewer_nonempty [] ts = omega arith
fewer_nonempty (b ∷ bs) ts = omega arith

parts_few : (cut : _) (p : _) (bs : List ℕ) → length (nonempty ((parts cut p bs).0 ∷ (parts cut p bs).1)) ≤ length bs
parts_few cut p [] = omega arith
parts_few cut p (b ∷ bs) = by (cuts cut p b) (parts_few cut outside bs) (parts_few cut (place_after cut p b) bs)
  where
    cut_off : List ℕ × List (List ℕ)
    cut_off = ([], (parts cut outside bs).0 ∷ (parts cut outside bs).1)

    goes_on : List ℕ × List (List ℕ)
    goes_on = (b ∷ (parts cut (place_after cut p b) bs).0, (parts cut (place_after cut p b) bs).1)

    by : (c : Bool) → length (nonempty ((parts cut outside bs).0 ∷ (parts cut outside bs).1)) ≤ length bs
        → length (nonempty ((parts cut (place_after cut p b) bs).0 ∷ (parts cut (place_after cut p b) bs).1)) ≤ length bs
        → length (nonempty ((if c then cut_off else goes_on).0 ∷ (if c then cut_off else goes_on).1)) ≤ suc (length bs)
    by true first second = omega arith
    by false first second =
        let rest = fewer_nonempty (parts cut (place_after cut p b) bs).0 (parts cut (place_after cut p b) bs).1 in
        omega (arith, rest, second)

pieces_few : (cut : _) (text : List ℕ) (n : ℕ) → length text ≤ n → length (pieces cut text) ≤ n
unfolding pieces
pieces_few cut text n few = omega (arith, few, parts_few cut outside text)

-- ---- the items of a sequence
some_few : {X Y : Type 0} (f : X → Option Y) (xs : List X) → length (filter_map f xs) ≤ length xs
some_few f [] = omega arith
some_few {X} {Y} f (x ∷ xs) = by (f x) (some_few f xs)
  where
    by : (o : Option Y) → length (filter_map f xs) ≤ length xs → length (cons_option o (filter_map f xs)) ≤ suc (length xs)
    by None few = omega (arith, few)
    by (Some y) few = omega (arith, few)

inside_few : (text : List ℕ) → IfSome (inside text) (λ t. length t ≤ length text)
inside_few [] = tt
inside_few (b ∷ bs) = by (b == 91 && (nat_lt 0 (length bs) && slice_index bs (length bs - 1) == 93))
  where
    by : (c : Bool) → IfSome (if c then Some (take (length bs - 1) bs) else None) (λ t. length t ≤ suc (length bs))
    by true = omega (arith, length-take (length bs - 1) bs)
    by false = tt

-- ---- the value of a text
-- it has at most so many elements
abbrev HasAtMost : ℕ → Option Value → Type 0
HasAtMost n o = IfSome o (λ v. number_of_elements v ≤ n)

items_few : {A : Type 0} (item : List ℕ → _) (make : List A → Value) → ((xs : List A) → number_of_elements (make xs) ≡ length xs) → (ps : List (List ℕ)) (n : ℕ) → length ps ≤ n
    → HasAtMost n (valued make (all_of (map item ps)))
items_few item make same ps n few = by (list_any is_bad (map item ps)) refl (list_any is_missing (map item ps)) refl
  where
    by : (bad : Bool) → list_any is_bad (map item ps) ≡ bad → (missing : Bool) → list_any is_missing (map item ps) ≡ missing → HasAtMost n (valued make (all_of (map item ps)))
    by true is missing other = rw is tt
    by false is true other = rw (is, other) (omega arith)
    by false is false other =
        let elements : number_of_elements (make (filter_map present (map item ps))) ≤ n =
        omega (arith, same (filter_map present (map item ps)), some_few present (map item ps), length-map ps item, few) in
        rw (is, other) elements

bracketed_few : {A : Type 0} (item : List ℕ → _) (make : List A → Value) → ((xs : List A) → number_of_elements (make xs) ≡ length xs) → (o : Option (List ℕ)) (n : ℕ) → IfSome o (λ t. length t ≤ n)
    → HasAtMost n (valued make (bracketed item o))
bracketed_few item make same None n few = tt
bracketed_few item make same (Some t) n few = items_few item make same _ n (pieces_few _ t n few)

sequence_few : {A : Type 0} (item : List ℕ → _) (make : List A → Value) → ((xs : List A) → number_of_elements (make xs) ≡ length xs) → (text : List ℕ) → HasAtMost (length text) (valued make (sequence item text))
unfolding sequence
sequence_few item make same text = by (is_missing_word text || bytes_eq text (codes "null")) refl
  where
    by : (b : Bool) → (is_missing_word text || bytes_eq text (codes "null")) ≡ b → HasAtMost (length text) (valued make (sequence item text))
    by true is = rw is (omega arith)
    by false is = rw is (bracketed_few item make same (inside text) (length text) (inside_few text))

-- a kind without elements
abbrev IsPlain : Kind → Type 0
IsPlain kind.Bool = Unit {0}
IsPlain kind.Int = Unit {0}
IsPlain kind.Hash = Unit {0}
IsPlain kind.Str = Unit {0}
IsPlain _ = ⊥

plain_none : (k : Kind) (v : Value) → IsPlain k → IsOfKind k v → number_of_elements v ≡ 0
plain_none k value.Missing plain own = refl
plain_none k (value.Bool b) plain own = refl
plain_none k (value.Int z) plain own = refl
plain_none k (value.Hash n) plain own = refl
plain_none k (value.Str s) plain own = refl
plain_none k (value.BoolSeq bs) plain own = absurd (subst IsPlain (sym own) plain)
plain_none k (value.IntSeq zs) plain own = absurd (subst IsPlain (sym own) plain)
plain_none k (value.HashSeq ns) plain own = absurd (subst IsPlain (sym own) plain)
plain_none k (value.StrSeq ss) plain own = absurd (subst IsPlain (sym own) plain)

plain_short : (k : Kind) (text : List ℕ) (v : Value) → IsPlain k → value_of_text k text ≡ Some v → IsShort v
plain_short k text v plain is = omega (arith, plain_none k v plain (read_is_written k text v is).0)

seq_short : (text : List ℕ) (o : Option Value) (v : Value) → HasAtMost (length text) o → length text < 2 ^ 63 → o ≡ Some v → IsShort v
seq_short text o v most few is = let P : Option Value → Type 0 = HasAtMost (length text) in let elements : number_of_elements v ≤ length text = subst P is most in omega (arith, elements, few)

-- a text of fewer than 2^63 bytes has a short value
pub text_short : (k : Kind) (text : List ℕ) (v : Value) → length text < 2 ^ 63 → value_of_text k text ≡ Some v → IsShort v
text_short kind.Bool text v few is = plain_short kind.Bool text v tt is
text_short kind.Int text v few is = plain_short kind.Int text v tt is
text_short kind.Hash text v few is = plain_short kind.Hash text v tt is
text_short kind.Str text v few is = plain_short kind.Str text v tt is
text_short kind.BoolSeq text v few is = seq_short text (value_of_text kind.BoolSeq text) v (sequence_few bool_item (λ bs. value.BoolSeq bs) (λ xs. refl) text) few is
text_short kind.IntSeq text v few is = seq_short text (value_of_text kind.IntSeq text) v (sequence_few int_item (λ zs. value.IntSeq zs) (λ xs. refl) text) few is
text_short kind.HashSeq text v few is = seq_short text (value_of_text kind.HashSeq text) v (sequence_few hash_item (λ ns. value.HashSeq ns) (λ xs. refl) text) few is
text_short kind.StrSeq text v few is = seq_short text (value_of_text kind.StrSeq text) v (sequence_few str_item (λ ss. value.StrSeq ss) (λ xs. refl) text) few is

-- ---- the spelling of a value
items_joined : (ts : List (List ℕ)) → length ts ≤ suc (length (join_with_byte 32 ts))
items_joined [] = omega arith
items_joined (t ∷ []) = omega arith
items_joined (t ∷ u ∷ ts) =
    let rest = items_joined (u ∷ ts) in
    omega (arith, rest, length-append t (32 ∷ join_with_byte 32 (u ∷ ts)))

sequence_spelled : (ts : List (List ℕ)) → length ts ≤ length (sequence_text ts)
sequence_spelled ts =
    let joined = items_joined ts in
    omega (arith, joined, length-append (join_with_byte 32 ts) (93 ∷ []))

-- each element of a sequence has a byte in its spelling
pub spelling_few : (v : Value) → number_of_elements v ≤ length (spelling v)
spelling_few (value.BoolSeq bs) = omega (arith, sequence_spelled (map bool_text bs), length-map bs bool_text)
spelling_few (value.IntSeq zs) = omega (arith, sequence_spelled (map signed_decimal zs), length-map zs signed_decimal)
spelling_few (value.HashSeq ns) = omega (arith, sequence_spelled (map hash_text ns), length-map ns hash_text)
spelling_few (value.StrSeq ss) = sequence_spelled ss
spelling_few value.Missing = omega arith
spelling_few (value.Bool b) = omega arith
spelling_few (value.Int z) = omega arith
spelling_few (value.Hash n) = omega arith
spelling_few (value.Str s) = omega arith

-- ---- parts of a line
front_few : (bs : List ℕ) → length (without_front bs) ≤ length bs
front_few [] = omega arith
front_few (b ∷ bs) = by (is_blank b) (front_few bs)
  where
    by : (c : Bool) → length (without_front bs) ≤ length bs → length (if c then without_front bs else b ∷ bs) ≤ suc (length bs)
    by true few = omega (arith, few)
    by false few = omega arith

pub rest_few : (bs : List ℕ) → length (rest_of_line bs) ≤ length bs
rest_few bs = omega (arith, front_few (drop (word_len bs) bs), length-drop (word_len bs) bs)

pub trimmed_few : (bs : List ℕ) → length (trim_blanks bs) ≤ length bs
trimmed_few bs =
    let front = without_front bs in
    omega (arith, front_few bs, length-reverse front, front_few (reverse front), length-reverse (without_front (reverse front)))

-- ---- parts of a text
-- a list of texts has none that is longer than all of them together
pub each_within : {X Y : Type 0} (f : X → List Y) (xs : List X) (most : ℕ) → length (flat_map f xs) ≤ most → All (λ x. length (f x) ≤ most) xs
each_within f [] most few = All-nil (λ x. length (f x) ≤ most)
each_within f (x ∷ xs) most few =
    let whole = length-append (f x) (flat_map f xs) in
    All-cons (λ x. length (f x) ≤ most) x xs (omega (arith, few, whole)) (each_within f xs most (omega (arith, few, whole)))
