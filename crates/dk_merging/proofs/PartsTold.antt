-- What is kept of samples is told by its lines.
use Rattle.std.specs.Prelude.{◌≡◌, ◌<◌, ◌==◌, ◌^◌, ◌++◌, ◌∷◌, [], ℕ, ℤ, Bool, true, false, All, IsTrue, List, Some, codes, drop, flat_map, length, map, nat_eq, refl, unsigned_abs}
use Rattle.std.specs.Fmt.{decimal, signed_decimal}
use Rattle.std.specs.List.{join_with_byte, starts_with}
use Rattle.std.specs.Str.Parse.{AllDigits}
use Rattle.std.proofs.Common.{◌∙◌, ap, append_assoc, arith, subst, sym}
use Rattle.std.proofs.lemmas.Fmt.{decimal_is_IsNumeral_wide}
use Rattle.std.proofs.lemmas.List.{map-id}
use Rattle.std.proofs.lemmas.Str.Parse.{digit_from_value}
use Rattle.dk_base.proofs.ReadBack.{spelled_back}
use Rattle.dk_base.specs.Values.Items.{is_text}
use Rattle.dk_base.specs.Numbers.{fits_i64}
use Rattle.dk_base.specs.Values.Spelling.{IsWritten, bool_text, hash_text, spelling}
use Rattle.dk_base.specs.Values.{IsOfKind, value_of_text}
use Rattle.dk_base.specs.declared.kinds.Kind.{Kind}
use Rattle.dk_base.specs.declared.kinds.Kind.TheVariants as kind
use Rattle.dk_base.specs.declared.kinds.VarId.{VarId}
use Rattle.dk_base.specs.declared.kinds.VarInfo.{VarInfo}
use Rattle.dk_base.specs.declared.values.Value.{Value}
use Rattle.dk_base.specs.declared.values.Value.TheVariants as value
use Rattle.dk_classes.specs.Classes.{kind_at, var_kinds}
use Rattle.dk_engine.specs.declared.saved.parts.Parts.{Parts}
use Rattle.dk_engine.specs.declared.slots.slot.Slot.{Slot}
use Rattle.dk_forms.specs.declared.states.State.{State}
use Rattle.dk_forms.specs.declared.states.State.TheVariants as state
use Rattle.dk_graph.proofs.Places.{some-injective}
use Rattle.dk_state.specs.Fitting.{FitsClass, FitsKnown, FitsParts, FitsPattern, FitsPlace, FitsSlot, FitsState}
use Rattle.dk_state.specs.Kept.{behind_samples, bits_of, class_line, if_any, known_line, parts_lines, pattern_line, slot_line}
use Rattle.dk_state.specs.Lines.{behind_blank, fields_text, state_line}
use Rattle.dk_state.specs.Reading.{BeginsWith, HasNone, begins_number, ends_field, ends_line}
use Rattle.dk_state.specs.StateWords.{state_word, state_word_in, told_fields}
use Rattle.dk_state.specs.States.{state_fields}
use Rattle.dk_state.proofs.KeptLines.{bits_back, bits_first, bits_plain, class_onto, leaders_first, lf_no_number, no_class, no_known, no_pattern, slot_onto, vars_text}
use Rattle.dk_state.proofs.Numerals.{number_plain}
use Rattle.dk_state.proofs.Onto.{fields_of_items, fields_onto, fields_text_onto, line_onto}
use Rattle.dk_state.proofs.Plain.{joined_plain, small_whole, text_plain, value_plain}
use Rattle.dk_state.proofs.StateFields.{Cases, by_word, fields_joined, state_first, state_no_number, told_first, word_first}
use Rattle.dk_merging.proofs.Telling.{Tells, all_told, field_told, number_told, same_signed}

-- ---- fields
-- a whole number of 128 bits
wide_told : (y z : ℤ) (r s : List ℕ) → unsigned_abs y < 2 ^ 127 → unsigned_abs z < 2 ^ 127 → BeginsWith ends_field r → BeginsWith ends_field s
    → behind_blank (signed_decimal y) ++ r ≡ behind_blank (signed_decimal z) ++ s → (y ≡ z) × (r ≡ s)
wide_told y z r s p q a b e =
    let same = field_told ends_field (signed_decimal y) (signed_decimal z) r s (number_plain y p) (number_plain z q) a b (ap (drop 1) e) in
    (same_signed y z p q same.0, same.1)

whole_told : (y z : ℤ) (r s : List ℕ) → IsTrue (fits_i64 y) → IsTrue (fits_i64 z) → BeginsWith ends_field r → BeginsWith ends_field s
    → behind_blank (signed_decimal y) ++ r ≡ behind_blank (signed_decimal z) ++ s → (y ≡ z) × (r ≡ s)
whole_told y z r s p q = wide_told y z r s (small_whole y p) (small_whole z q)

-- a value of a kind, which is the last field of its line
value_told : (k : Kind) (x y : Value) (r s : List ℕ) → IsOfKind k x → IsOfKind k y → IsWritten x → IsWritten y
    → behind_blank (spelling x) ++ 10 ∷ r ≡ behind_blank (spelling y) ++ 10 ∷ s → (x ≡ y) × (r ≡ s)
value_told k x y r s of also p q e =
    let same = field_told ends_line (spelling x) (spelling y) (10 ∷ r) (10 ∷ s) (value_plain x p) (value_plain y q) refl refl (ap (drop 1) e) in
    (some-injective (sym (spelled_back k x of p) ∙ ap (value_of_text k) same.0 ∙ spelled_back k y also q), ap (drop 1) same.1)

-- ---- variables
begins_so : (digits rest : List ℕ) → AllDigits 10 digits → 0 < length digits → begins_number (behind_blank digits ++ rest) ≡ true
begins_so [] rest all some = absurd (omega (arith, some))
begins_so (d ∷ ds) rest all some = let range = digit_from_value d all.0 in grind (arith, range)

var_begins : (v : VarId) (rest : List ℕ) → FitsPlace v → begins_number (behind_blank (decimal v.0) ++ rest) ≡ true
var_begins v rest fits =
    let is = decimal_is_IsNumeral_wide v.0 (omega (arith, fits)) in
    begins_so (decimal v.0) rest is.0.1 (omega (arith, is.0.0))

var_told : Tells (λ v. behind_blank (decimal v.0)) FitsPlace (BeginsWith ends_field)
var_told v w r s h k a b e =
    let same = number_told v.0 w.0 r s (omega (arith, h)) (omega (arith, k)) a b e in
    (λ i. record { 0 = same.0 i }, same.1)

vars_told : (vs ws : List VarId) (r s : List ℕ) → All FitsPlace vs → All FitsPlace ws → begins_number r ≡ false → begins_number s ≡ false → BeginsWith ends_field r → BeginsWith ends_field s
    → vars_text vs ++ r ≡ vars_text ws ++ s → (vs ≡ ws) × (r ≡ s)
vars_told = all_told (λ v. behind_blank (decimal v.0)) FitsPlace begins_number (BeginsWith ends_field) var_begins (λ v rest _. refl) var_told

-- ---- classes, patterns, constants
class_told : Tells class_line FitsClass (λ _. Unit {0})
class_told c d r s h k _ _ e =
    let fields = ap (drop 5) (sym (class_onto c r) ∙ e ∙ class_onto d s) in
    let same = vars_told c d (10 ∷ r) (10 ∷ s) h k (lf_no_number r) (lf_no_number s) refl refl fields in
    (same.0, ap (drop 1) same.1)

bits_told : (b c : List Bool) (r s : List ℕ) → fields_onto (if_any (bits_of b)) (10 ∷ r) ≡ fields_onto (if_any (bits_of c)) (10 ∷ s) → (b ≡ c) × (r ≡ s)
bits_told [] [] r s e = (refl, ap (drop 1) e)
bits_told [] (y ∷ c) r s e = absurd (cc e)
bits_told (x ∷ b) [] r s e = absurd (cc e)
bits_told (x ∷ b) (y ∷ c) r s e =
    let same = field_told ends_field (bits_of (x ∷ b)) (bits_of (y ∷ c)) (10 ∷ r) (10 ∷ s) (bits_plain (x ∷ b)) (bits_plain (y ∷ c)) refl refl (ap (drop 1) e) in
    (sym (bits_back (x ∷ b)) ∙ ap (map (λ d. d == 49)) same.0 ∙ bits_back (y ∷ c), ap (drop 1) same.1)

pattern_told : Tells pattern_line FitsPattern (λ _. Unit {0})
pattern_told p q r s h k _ _ e =
    let fields = ap (drop 7) (sym (line_onto (codes "pattern") (decimal p.count ∷ if_any (bits_of p.present)) r) ∙ e ∙ line_onto (codes "pattern") (decimal q.count ∷ if_any (bits_of q.present)) s) in
    let count = number_told p.count q.count (fields_onto (if_any (bits_of p.present)) (10 ∷ r)) (fields_onto (if_any (bits_of q.present)) (10 ∷ s)) (omega (arith, h)) (omega (arith, k)) (bits_first p.present r) (bits_first q.present s) fields in
    let bits = bits_told p.present q.present r s count.1 in
    (λ i. record { count = count.0 i; present = bits.0 i }, bits.1)

known_told : (infos : List VarInfo) → Tells known_line (FitsKnown infos) (λ _. Unit {0})
known_told infos p q r s h k _ _ e =
    let fields = ap (drop 5) (sym (line_onto (codes "known") (decimal p.leader.0 ∷ spelling p.value ∷ []) r) ∙ e ∙ line_onto (codes "known") (decimal q.leader.0 ∷ spelling q.value ∷ []) s) in
    let number = number_told p.leader.0 q.leader.0 (behind_blank (spelling p.value) ++ 10 ∷ r) (behind_blank (spelling q.value) ++ 10 ∷ s) (omega (arith, h.place)) (omega (arith, k.place)) refl refl fields in
    let leader : p.leader ≡ q.leader = λ i. record { 0 = number.0 i } in
    let kind : IsOfKind (kind_at (var_kinds infos) p.leader.0) q.value = subst (λ n. IsOfKind (kind_at (var_kinds infos) n) q.value) (sym number.0) k.kind in
    let same = value_told (kind_at (var_kinds infos) p.leader.0) p.value q.value r s h.kind kind h.written k.written number.1 in
    (λ i. record { leader = leader i; value = same.0 i }, same.1)

-- ---- states
abbrev ends_blank : List ℕ → Bool
ends_blank [] = false
ends_blank (b ∷ bytes) = b == 32

whole_tells : Tells (λ (z : ℤ). behind_blank (signed_decimal z)) (λ z. IsTrue (fits_i64 z)) (BeginsWith ends_field)
whole_tells y z r s h k a b e = whole_told y z r s h k a b e

-- some numbers, the last fields of their line
wholes_told : (ys zs : List ℤ) (r s : List ℕ) → All (λ z. IsTrue (fits_i64 z)) ys → All (λ z. IsTrue (fits_i64 z)) zs
    → fields_text (map signed_decimal ys) ++ 10 ∷ r ≡ fields_text (map signed_decimal zs) ++ 10 ∷ s → (ys ≡ zs) × (r ≡ s)
wholes_told ys zs r s h k e =
    let onto = λ (l : List ℤ) (m : List ℕ). ap (λ t. t ++ 10 ∷ m) (fields_of_items signed_decimal l) in
    let same = all_told (λ (z : ℤ). behind_blank (signed_decimal z)) (λ z. IsTrue (fits_i64 z)) ends_blank (BeginsWith ends_field) (λ z rest _. refl) (λ z rest _. refl) whole_tells
    ys zs (10 ∷ r) (10 ∷ s) h k refl refl refl refl (sym (onto ys r) ∙ e ∙ onto zs s) in
    (same.0, ap (drop 1) same.1)

-- some strings
joined_texts : (ts us : List (List ℕ)) → All (λ t. IsTrue (is_text t)) ts → All (λ t. IsTrue (is_text t)) us → join_with_byte 32 ts ≡ join_with_byte 32 us → ts ≡ us
joined_texts ts us h k e =
    let same : Some (value.StrSeq ts) ≡ Some (value.StrSeq us) =
    sym (spelled_back kind.StrSeq (value.StrSeq ts) refl h) ∙ ap (λ (l : List ℕ). value_of_text kind.StrSeq (codes "[" ++ (l ++ codes "]"))) e ∙ spelled_back kind.StrSeq (value.StrSeq us) refl k in
    cc same

texts_plain : (ts : List (List ℕ)) → All (λ t. IsTrue (is_text t)) ts → HasNone ends_line (join_with_byte 32 ts)
texts_plain ts all = subst (λ texts. HasNone ends_line (join_with_byte 32 texts)) (map-id ts) (joined_plain (λ t. t) (λ t. IsTrue (is_text t)) text_plain ts all)

texts_told : (ts us : List (List ℕ)) (r s : List ℕ) → 0 < length ts → 0 < length us → All (λ t. IsTrue (is_text t)) ts → All (λ t. IsTrue (is_text t)) us
    → fields_text ts ++ 10 ∷ r ≡ fields_text us ++ 10 ∷ s → (ts ≡ us) × (r ≡ s)
texts_told [] us r s some also h k e = absurd (omega (arith, some))
texts_told (t ∷ ts) [] r s some also h k e = absurd (omega (arith, also))
texts_told (t ∷ ts) (u ∷ us) r s some also h k e =
    let one = t ∷ ts in
    let other = u ∷ us in
    let line = ap (drop 1) (sym (ap (λ l. l ++ 10 ∷ r) (fields_joined t ts)) ∙ e ∙ ap (λ l. l ++ 10 ∷ s) (fields_joined u us)) in
    let same = field_told ends_line (join_with_byte 32 one) (join_with_byte 32 other) (10 ∷ r) (10 ∷ s) (texts_plain one h) (texts_plain other k) refl refl line in
    (joined_texts one other h k same.0, ap (drop 1) same.1)

-- what a state tells behind its word
module _ (r s : List ℕ) where
  abbrev IsTold : State → State → Type 0
  IsTold a b = FitsState b → fields_text (told_fields a) ++ 10 ∷ r ≡ fields_text (told_fields b) ++ 10 ∷ s → (a ≡ b) × (r ≡ s)

  -- numbers in front of others
  onto : (fs : List (List ℕ)) (m : List ℕ) → fields_text fs ++ 10 ∷ m ≡ fields_onto fs (10 ∷ m)
  onto fs m = fields_text_onto fs (10 ∷ m)

  abbrev Both : List (List ℕ) → List (List ℕ) → Type 0
  Both fs gs = fields_text fs ++ 10 ∷ r ≡ fields_text gs ++ 10 ∷ s

  told_onto : (fs gs : List (List ℕ)) → Both fs gs → fields_onto fs (10 ∷ r) ≡ fields_onto gs (10 ∷ s)
  told_onto fs gs e = sym (onto fs r) ∙ e ∙ onto gs s

  one_whole : (x y : ℤ) → IsTrue (fits_i64 x) → IsTrue (fits_i64 y) → Both (signed_decimal x ∷ []) (signed_decimal y ∷ []) → (x ≡ y) × (r ≡ s)
  one_whole x y h k e =
      let same = whole_told x y (10 ∷ r) (10 ∷ s) h k refl refl (told_onto (signed_decimal x ∷ []) (signed_decimal y ∷ []) e) in
      (same.0, ap (drop 1) same.1)

  -- each of some fields is a number
  abbrev wide : List ℤ → List (List ℕ)
  wide zs = map signed_decimal zs

  abbrev AreWide : List ℤ → Type 0
  AreWide [] = Unit {0}
  AreWide (z ∷ zs) = (unsigned_abs z < 2 ^ 127) × AreWide zs

  begins_field : (zs : List ℤ) (m : List ℕ) → BeginsWith ends_field (fields_onto (wide zs) (10 ∷ m))
  begins_field [] m = refl
  begins_field (z ∷ zs) m = refl

  wides_onto : (ys zs : List ℤ) → length ys ≡ length zs → AreWide ys → AreWide zs → fields_onto (wide ys) (10 ∷ r) ≡ fields_onto (wide zs) (10 ∷ s) → (ys ≡ zs) × (r ≡ s)
  wides_onto [] [] long h k e = (refl, ap (drop 1) e)
  wides_onto [] (z ∷ zs) long h k e = absurd (omega (arith, long))
  wides_onto (y ∷ ys) [] long h k e = absurd (omega (arith, long))
  wides_onto (y ∷ ys) (z ∷ zs) long h k e =
      let first = wide_told y z (fields_onto (wide ys) (10 ∷ r)) (fields_onto (wide zs) (10 ∷ s)) h.0 k.0 (begins_field ys r) (begins_field zs s) e in
      let later = wides_onto ys zs (omega (arith, long)) h.1 k.1 first.1 in
      (λ i. first.0 i ∷ later.0 i, later.1)

  wides_told : (ys zs : List ℤ) → length ys ≡ length zs → AreWide ys → AreWide zs → Both (wide ys) (wide zs) → (ys ≡ zs) × (r ≡ s)
  wides_told ys zs long h k e = wides_onto ys zs long h k (told_onto (wide ys) (wide zs) e)

  moduli_told : (m n a b : ℕ) → m < 2 ^ 64 → n < 2 ^ 64 → a < 2 ^ 64 → b < 2 ^ 64 → Both (decimal m ∷ decimal n ∷ []) (decimal a ∷ decimal b ∷ []) → (m ≡ a) × (n ≡ b) × (r ≡ s)
  moduli_told m n a b hm hn ha hb e =
      let first = number_told m a (behind_blank (decimal n) ++ 10 ∷ r) (behind_blank (decimal b) ++ 10 ∷ s) (omega (arith, hm)) (omega (arith, ha)) refl refl (told_onto (decimal m ∷ decimal n ∷ []) (decimal a ∷ decimal b ∷ []) e) in
      let second = number_told n b (10 ∷ r) (10 ∷ s) (omega (arith, hn)) (omega (arith, hb)) refl refl first.1 in
      (first.0, second.0, ap (drop 1) second.1)

  by_state : (a : State) → FitsState a → Cases (state_word a) (IsTold a)
  by_state state.Empty h = λ k e. (refl, ap (drop 1) e)
  by_state state.Broken h = absurd h
  by_state state.Holds h = λ k e. (refl, ap (drop 1) e)
  by_state (state.Least x) h = λ y k e. let same = one_whole x y h k e in (ap (λ z. state.Least z) same.0, same.1)
  by_state (state.Greatest x) h = λ y k e. let same = one_whole x y h k e in (ap (λ z. state.Greatest z) same.0, same.1)
  by_state (state.Ints xs) h = λ ys k e. let same = wholes_told xs ys r s h.2 k.2 e in (ap (λ zs. state.Ints zs) same.0, same.1)
  by_state (state.Truth x) h = λ y k e.
      let same = value_told kind.Bool (value.Bool x) (value.Bool y) r s refl refl tt tt (told_onto (bool_text x ∷ []) (bool_text y ∷ []) e) in
      let truth : x ≡ y = cc same.0 in
      (ap (λ b. state.Truth b) truth, same.1)
  by_state (state.Code x) h = λ y k e.
      let same = value_told kind.Hash (value.Hash x) (value.Hash y) r s refl refl h k (told_onto (hash_text x ∷ []) (hash_text y ∷ []) e) in
      let code : x ≡ y = cc same.0 in
      (ap (λ n. state.Code n) code, same.1)
  by_state (state.Texts ts) h = λ us k e. let same = texts_told ts us r s h.0 k.0 h.1 k.1 e in (ap (λ l. state.Texts l) same.0, same.1)
  by_state (state.One x) h = λ y k e. let same = one_whole x y h k e in (ap (λ z. state.One z) same.0, same.1)
  by_state (state.Modulus m n) h = λ a b k e.
      let same = moduli_told m n a b h.0 h.1 k.0 k.1 e in
      let first = same.0 in
      let second = same.1 in
      (λ i. state.Modulus (first i) (second i), same.2)
  by_state (state.Spot x1 x2) h = λ y1 y2 k e.
      let same = wides_told (x1 ∷ x2 ∷ []) (y1 ∷ y2 ∷ []) refl (small_whole x1 h.0, (small_whole x2 h.1, tt)) (small_whole y1 k.0, (small_whole y2 k.1, tt)) e in
      let is : state.Spot x1 x2 ≡ state.Spot y1 y2 = cc same.0 in
      (is, same.1)
  by_state (state.Straight x1 x2 x3) h = λ y1 y2 y3 k e.
      let same = wides_told (x1 ∷ x2 ∷ x3 ∷ []) (y1 ∷ y2 ∷ y3 ∷ []) refl (h.0, (h.1, (h.2, tt))) (k.0, (k.1, (k.2, tt))) e in
      let is : state.Straight x1 x2 x3 ≡ state.Straight y1 y2 y3 = cc same.0 in
      (is, same.1)
  by_state (state.Span x1 x2 x3 x4 x5 x6) h = λ y1 y2 y3 y4 y5 y6 k e.
      let same = wides_told (x1 ∷ x2 ∷ x3 ∷ x4 ∷ x5 ∷ x6 ∷ []) (y1 ∷ y2 ∷ y3 ∷ y4 ∷ y5 ∷ y6 ∷ []) refl
      (small_whole x1 h.0, (small_whole x2 h.1, (small_whole x3 h.2, (small_whole x4 h.3, (small_whole x5 h.4, (small_whole x6 h.5, tt))))))
      (small_whole y1 k.0, (small_whole y2 k.1, (small_whole y3 k.2, (small_whole y4 k.3, (small_whole y5 k.4, (small_whole y6 k.5, tt)))))) e in
      let is : state.Span x1 x2 x3 x4 x5 x6 ≡ state.Span y1 y2 y3 y4 y5 y6 = cc same.0 in
      (is, same.1)
  by_state (state.Plane x1 x2 x3 x4) h = λ y1 y2 y3 y4 k e.
      let same = wides_told (x1 ∷ x2 ∷ x3 ∷ x4 ∷ []) (y1 ∷ y2 ∷ y3 ∷ y4 ∷ []) refl (h.0, (h.1, (h.2, (h.3, tt)))) (k.0, (k.1, (k.2, (k.3, tt)))) e in
      let is : state.Plane x1 x2 x3 x4 ≡ state.Plane y1 y2 y3 y4 = cc same.0 in
      (is, same.1)
  by_state (state.Offset x) h = λ y k e.
      let same = wides_told (x ∷ []) (y ∷ []) refl (h, tt) (k, tt) e in
      let is : x ≡ y = cc same.0 in
      (ap (λ z. state.Offset z) is, same.1)

  state_onto : (a : State) (m : List ℕ) → fields_text (state_fields a) ++ 10 ∷ m ≡ behind_blank (word_first a).text ++ (fields_text (told_fields a) ++ 10 ∷ m)
  state_onto a m = ap (λ fs. fields_text fs ++ 10 ∷ m) (word_first a).fields ∙ append_assoc (behind_blank (word_first a).text) (fields_text (told_fields a)) (10 ∷ m)

  state_told : (a b : State) → FitsState a → FitsState b → fields_text (state_fields a) ++ 10 ∷ r ≡ fields_text (state_fields b) ++ 10 ∷ s → (a ≡ b) × (r ≡ s)
  state_told a b h k e =
      let one = word_first a in
      let other = word_first b in
      let same = field_told ends_field one.text other.text (fields_text (told_fields a) ++ 10 ∷ r) (fields_text (told_fields b) ++ 10 ∷ s) one.plain other.plain (told_first (told_fields a) r) (told_first (told_fields b) s)
      (ap (drop 1) (sym (state_onto a r) ∙ e ∙ state_onto b s)) in
      let word : state_word a ≡ state_word b = sym one.word ∙ ap state_word_in same.0 ∙ other.word in
      by_word (IsTold a) (state_word a) b (by_state a h) word k same.1

-- ---- slots
slot_told : Tells slot_line FitsSlot (λ _. Unit {0})
slot_told x y r s h k _ _ e =
    let told = λ (z : Slot) (m : List ℕ). fields_text (state_fields z.state) ++ 10 ∷ m in
    let fields = ap (drop 4) (sym (slot_onto x r) ∙ e ∙ slot_onto y s) in
    let row = number_told x.row.0 y.row.0 (vars_text x.leaders ++ told x r) (vars_text y.leaders ++ told y s) (omega (arith, h.row)) (omega (arith, k.row)) (leaders_first x x.leaders r) (leaders_first y y.leaders s) fields in
    let leaders = vars_told x.leaders y.leaders (told x r) (told y s) h.leaders k.leaders (state_no_number x.state (10 ∷ r)) (state_no_number y.state (10 ∷ s)) (state_first x.state (10 ∷ r)) (state_first y.state (10 ∷ s)) row.1 in
    let same = state_told r s x.state y.state h.state k.state leaders.1 in
    let number = row.0 in
    (λ i. record { row = record { 0 = number i }; leaders = leaders.0 i; state = same.0 i }, same.1)

-- ---- all parts
abbrev behind_slots : List ℕ → List ℕ
behind_slots r = 101 ∷ 110 ∷ 100 ∷ 10 ∷ r

parts_onto : (parts : Parts) (r : List ℕ) → behind_samples parts ++ r
    ≡ flat_map class_line parts.classes ++ (flat_map pattern_line parts.patterns ++ (flat_map known_line parts.known ++ (flat_map slot_line parts.slots ++ behind_slots r)))
parts_onto parts r =
    let classes = flat_map class_line parts.classes in
    let patterns = flat_map pattern_line parts.patterns in
    let known = flat_map known_line parts.known in
    let slots = flat_map slot_line parts.slots in
    let end = state_line "end" [] in
    append_assoc classes (patterns ++ (known ++ (slots ++ end))) r
    ∙ ap (λ l. classes ++ l) (append_assoc patterns (known ++ (slots ++ end)) r ∙ ap (λ l. patterns ++ l) (append_assoc known (slots ++ end) r ∙ ap (λ l. known ++ l) (append_assoc slots end r)))

behind_told : (infos : List VarInfo) (p q : Parts) (r s : List ℕ) → p.samples ≡ q.samples → FitsParts infos p → FitsParts infos q → behind_samples p ++ r ≡ behind_samples q ++ s → (p ≡ q) × (r ≡ s)
behind_told infos p q r s number h k e =
    let slots_of = λ (x : Parts) (l : List ℕ). flat_map slot_line x.slots ++ behind_slots l in
    let known_of = λ (x : Parts) (l : List ℕ). flat_map known_line x.known ++ slots_of x l in
    let patterns_of = λ (x : Parts) (l : List ℕ). flat_map pattern_line x.patterns ++ known_of x l in
    let classes = all_told class_line FitsClass (λ l. starts_with nat_eq l (codes "class")) (λ _. Unit {0}) (λ x rest _. refl) (λ x rest _. tt) class_told
    p.classes q.classes (patterns_of p r) (patterns_of q s) h.classes k.classes (no_class p.patterns p.known p.slots r) (no_class q.patterns q.known q.slots s) tt tt (sym (parts_onto p r) ∙ e ∙ parts_onto q s) in
    let patterns = all_told pattern_line FitsPattern (λ l. starts_with nat_eq l (codes "pattern ")) (λ _. Unit {0}) (λ x rest _. refl) (λ x rest _. tt) pattern_told
    p.patterns q.patterns (known_of p r) (known_of q s) h.patterns k.patterns (no_pattern p.known p.slots r) (no_pattern q.known q.slots s) tt tt classes.1 in
    let known = all_told known_line (FitsKnown infos) (λ l. starts_with nat_eq l (codes "known ")) (λ _. Unit {0}) (λ x rest _. refl) (λ x rest _. tt) (known_told infos)
    p.known q.known (slots_of p r) (slots_of q s) h.known k.known (no_known p.slots r) (no_known q.slots s) tt tt patterns.1 in
    let slots = all_told slot_line FitsSlot (λ l. starts_with nat_eq l (codes "slot ")) (λ _. Unit {0}) (λ x rest _. refl) (λ x rest _. tt) slot_told
    p.slots q.slots (behind_slots r) (behind_slots s) h.slots k.slots refl refl tt tt known.1 in
    (λ i. record { samples = number i; classes = classes.0 i; patterns = patterns.0 i; known = known.0 i; slots = slots.0 i }, ap (drop 4) slots.1)

-- the lines of what is kept at a place
lines_onto : (place : ℕ) (parts : Parts) (r : List ℕ)
    → parts_lines place parts ++ r ≡ codes "samples" ++ (behind_blank (decimal place) ++ (behind_blank (decimal parts.samples) ++ (10 ∷ (behind_samples parts ++ r))))
lines_onto place parts r =
    append_assoc (state_line "samples" (decimal place ∷ decimal parts.samples ∷ [])) (behind_samples parts) r
    ∙ line_onto (codes "samples") (decimal place ∷ decimal parts.samples ∷ []) (behind_samples parts ++ r)

-- they tell the place
pub place_told : (m n : ℕ) (p q : Parts) (r s : List ℕ) → m < 2 ^ 127 → n < 2 ^ 127 → parts_lines m p ++ r ≡ parts_lines n q ++ s
    → (m ≡ n) × (behind_blank (decimal p.samples) ++ (10 ∷ (behind_samples p ++ r)) ≡ behind_blank (decimal q.samples) ++ (10 ∷ (behind_samples q ++ s)))
place_told m n p q r s h k e =
    number_told m n (behind_blank (decimal p.samples) ++ (10 ∷ (behind_samples p ++ r))) (behind_blank (decimal q.samples) ++ (10 ∷ (behind_samples q ++ s))) h k refl refl
    (ap (drop 7) (sym (lines_onto m p r) ∙ e ∙ lines_onto n q s))

-- and the parts
pub parts_told : (infos : List VarInfo) (place : ℕ) (p q : Parts) (r s : List ℕ) → place < 2 ^ 127 → FitsParts infos p → FitsParts infos q → parts_lines place p ++ r ≡ parts_lines place q ++ s → (p ≡ q) × (r ≡ s)
parts_told infos place p q r s small h k e =
    let at = place_told place place p q r s small small e in
    let number = number_told p.samples q.samples (10 ∷ (behind_samples p ++ r)) (10 ∷ (behind_samples q ++ s)) (omega (arith, h.samples)) (omega (arith, k.samples)) refl refl at.1 in
    behind_told infos p q r s number.0 h k (ap (drop 1) number.1)
