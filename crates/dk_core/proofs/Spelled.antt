-- Bytes that a line or a part of it has: not empty, without a tab (9) at either end, and without an LF (10).
use Rattle.std.proofs.Common.{◌≡◌, ◌∙◌, ◌-◌, ◌&&◌, ◌||◌, ◌==◌, ◌++◌, ℕ, zero, suc, Bool, true, false, not, List, [], ◌∷◌, All, drop, length, nat_lt, reverse, refl, sym, ap, subst, arith, if◌then◌else◌, slice_index_or}
use Rattle.std.specs.List.{onto_first, slice_split}
use Rattle.std.proofs.lemmas.List.{reverse-append, reverse-reverse}
use Rattle.std.proofs.lemmas.List.Elements.{All-cons, All-head, All-nil, All-tail}
use Rattle.std.proofs.lemmas.List.Folds.{list_all-append}
use Rattle.dk_base.specs.Names.{unescaped}
use Rattle.dk_base.proofs.Parted.{words_are_parts}
use Rattle.dk_base.specs.Pieces.{is_blank, is_empty, nonempty}
use Rattle.dk_base.specs.Words.{rest_of_line, trim_blanks, without_front, word_len, words}
use Rattle.dk_state.specs.Given.{is_name}
use Rattle.dk_write.specs.Names.{has_none}

abbrev pub begins_well : List ℕ → Bool
begins_well [] = false
begins_well (b ∷ bs) = not (b == 9)

abbrev pub ends_well : List ℕ → Bool
ends_well [] = true
ends_well (b ∷ []) = not (b == 9)
ends_well (b ∷ c ∷ bs) = ends_well (c ∷ bs)

pub record IsSpelled (bytes : List ℕ) : Type 0 where
  pub begins : begins_well bytes ≡ true
  pub ends : ends_well bytes ≡ true
  pub none : has_none 10 bytes ≡ true

pub both : (a b : Bool) → a ≡ true → b ≡ true → (a && b) ≡ true
both true b p q = q
both false b p q = absurd (cc p)

pub left : (a b : Bool) → (a && b) ≡ true → a ≡ true
left true b p = refl
left false b p = absurd (cc p)

pub right : (a b : Bool) → (a && b) ≡ true → b ≡ true
right true b p = p
right false b p = absurd (cc p)

-- ---- names
last_is : (b : ℕ) (bs : List ℕ) → not (slice_index_or (b ∷ bs) (length (b ∷ bs) - 1) 0 == 9) ≡ ends_well (b ∷ bs)
last_is b [] = refl
last_is b (c ∷ bs) =
    let e : length (b ∷ c ∷ bs) - 1 ≡ suc (length (c ∷ bs) - 1) = omega arith in
    ap (λ k. not (slice_index_or (b ∷ c ∷ bs) k 0 == 9)) e ∙ last_is c bs

some_bytes : (n : ℕ) → nat_lt 0 (suc n) ≡ true
some_bytes n = grind arith

-- they are a name that a line can tell
pub is_name_spelled : (bytes : List ℕ) → IsSpelled bytes → is_name bytes ≡ true
is_name_spelled [] s = absurd (cc (s.begins))
is_name_spelled (b ∷ bs) s = both _ _ (some_bytes (length bs)) (both _ _ s.begins (both _ _ (last_is b bs ∙ s.ends) s.none))

-- ---- names undone
pub unescaped_none : (other : ℕ) → (32 == other) ≡ false → (92 == other) ≡ false → (bs : List ℕ) → has_none other bs ≡ true → has_none other (unescaped bs) ≡ true
unfolding unescaped
unescaped_none other blank slash [] none = none
unescaped_none other blank slash (b ∷ []) none = none
unescaped_none other blank slash (b ∷ c ∷ bs) none =
    let later : has_none other (c ∷ bs) ≡ true = right (not (b == other)) (has_none other (c ∷ bs)) none in
    let last : has_none other bs ≡ true = right (not (c == other)) (has_none other bs) later in
    by (b == 92 && c == 95) (b == 92 && c == 92) (unescaped_none other blank slash bs last) (unescaped_none other blank slash (c ∷ bs) later)
  where
    by : (x y : Bool) → has_none other (unescaped bs) ≡ true → has_none other (unescaped (c ∷ bs)) ≡ true
        → has_none other (if x then 32 ∷ unescaped bs else if y then 92 ∷ unescaped bs else b ∷ unescaped (c ∷ bs)) ≡ true
    by true y rest more = both (not (32 == other)) _ (ap not blank) rest
    by false true rest more = both (not (92 == other)) _ (ap not slash) rest
    by false false rest more = both (not (b == other)) _ (left (not (b == other)) (has_none other (c ∷ bs)) none) more

unescaped_begins : (bs : List ℕ) → begins_well bs ≡ true → begins_well (unescaped bs) ≡ true
unfolding unescaped
unescaped_begins [] h = h
unescaped_begins (b ∷ []) h = h
unescaped_begins (b ∷ c ∷ bs) h = by (b == 92 && c == 95) (b == 92 && c == 92)
  where
    by : (x y : Bool) → begins_well (if x then 32 ∷ unescaped bs else if y then 92 ∷ unescaped bs else b ∷ unescaped (c ∷ bs)) ≡ true
    by true y = refl
    by false true = refl
    by false false = h

ends_tail : (b : ℕ) (bs : List ℕ) → ends_well (b ∷ bs) ≡ true → ends_well bs ≡ true
ends_tail b [] h = refl
ends_tail b (c ∷ bs) h = h

ends_cons : (b : ℕ) (bs : List ℕ) → not (b == 9) ≡ true → ends_well bs ≡ true → ends_well (b ∷ bs) ≡ true
ends_cons b [] own h = own
ends_cons b (c ∷ bs) own h = h

ends_more : (b : ℕ) (bs : List ℕ) → is_empty bs ≡ false → ends_well bs ≡ true → ends_well (b ∷ bs) ≡ true
ends_more b [] some h = absurd (cc some)
ends_more b (c ∷ bs) some h = h

unescaped_some : (c : ℕ) (bs : List ℕ) → is_empty (unescaped (c ∷ bs)) ≡ false
unfolding unescaped
unescaped_some c [] = refl
unescaped_some c (d ∷ bs) = by (c == 92 && d == 95) (c == 92 && d == 92)
  where
    by : (x y : Bool) → is_empty (if x then 32 ∷ unescaped bs else if y then 92 ∷ unescaped bs else c ∷ unescaped (d ∷ bs)) ≡ false
    by true y = refl
    by false true = refl
    by false false = refl

unescaped_ends : (bs : List ℕ) → ends_well bs ≡ true → ends_well (unescaped bs) ≡ true
unfolding unescaped
unescaped_ends [] h = h
unescaped_ends (b ∷ []) h = h
unescaped_ends (b ∷ c ∷ bs) h = by (b == 92 && c == 95) (b == 92 && c == 92) (unescaped_ends bs (ends_tail c bs h)) (unescaped_ends (c ∷ bs) h)
  where
    by : (x y : Bool) → ends_well (unescaped bs) ≡ true → ends_well (unescaped (c ∷ bs)) ≡ true
        → ends_well (if x then 32 ∷ unescaped bs else if y then 92 ∷ unescaped bs else b ∷ unescaped (c ∷ bs)) ≡ true
    by true y rest more = ends_cons 32 (unescaped bs) refl rest
    by false true rest more = ends_cons 92 (unescaped bs) refl rest
    by false false rest more = ends_more b (unescaped (c ∷ bs)) (unescaped_some c bs) more

pub spelled_undone : (bs : List ℕ) → IsSpelled bs → IsSpelled (unescaped bs)
spelled_undone bs s = record { begins = unescaped_begins bs s.begins; ends = unescaped_ends bs s.ends; none = unescaped_none 10 refl refl bs s.none }

-- ---- what stands behind the first word
ends_drop : (n : ℕ) (bs : List ℕ) → ends_well bs ≡ true → ends_well (drop n bs) ≡ true
ends_drop zero bs h = h
ends_drop (suc n) [] h = h
ends_drop (suc n) (b ∷ bs) h = ends_drop n bs (ends_tail b bs h)

none_drop : (other n : ℕ) (bs : List ℕ) → has_none other bs ≡ true → has_none other (drop n bs) ≡ true
none_drop other zero bs h = h
none_drop other (suc n) [] h = h
none_drop other (suc n) (b ∷ bs) h = none_drop other n bs (right (not (b == other)) (has_none other bs) h)

ends_front : (bs : List ℕ) → ends_well bs ≡ true → ends_well (without_front bs) ≡ true
ends_front [] h = h
ends_front (b ∷ bs) h = by (is_blank b) (ends_front bs (ends_tail b bs h))
  where
    by : (x : Bool) → ends_well (without_front bs) ≡ true → ends_well (if x then without_front bs else b ∷ bs) ≡ true
    by true rest = rest
    by false rest = h

none_front : (other : ℕ) (bs : List ℕ) → has_none other bs ≡ true → has_none other (without_front bs) ≡ true
none_front other [] h = h
none_front other (b ∷ bs) h = by (is_blank b) (none_front other bs (right (not (b == other)) (has_none other bs) h))
  where
    by : (x : Bool) → has_none other (without_front bs) ≡ true → has_none other (if x then without_front bs else b ∷ bs) ≡ true
    by true rest = rest
    by false rest = h

no_tab : (b : ℕ) → is_blank b ≡ false → not (b == 9) ≡ true
no_tab b h = by (b == 32) (b == 9) h
  where
    by : (x y : Bool) → (x || y) ≡ false → not y ≡ true
    by true y e = absurd (cc e)
    by false true e = absurd (cc e)
    by false false e = refl

pub begins_front : (bs : List ℕ) → is_empty (without_front bs) ≡ false → begins_well (without_front bs) ≡ true
begins_front [] some = absurd (cc some)
begins_front (b ∷ bs) some = by (is_blank b) refl some (begins_front bs)
  where
    by : (x : Bool) → is_blank b ≡ x → is_empty (if x then without_front bs else b ∷ bs) ≡ false → (is_empty (without_front bs) ≡ false → begins_well (without_front bs) ≡ true)
        → begins_well (if x then without_front bs else b ∷ bs) ≡ true
    by true is some rest = rest some
    by false is some rest = no_tab b is

pub none_rest : (other : ℕ) (bs : List ℕ) → has_none other bs ≡ true → has_none other (rest_of_line bs) ≡ true
none_rest other bs none = none_front other (drop (word_len bs) bs) (none_drop other (word_len bs) bs none)

pub spelled_rest : (bs : List ℕ) → IsSpelled bs → is_empty (rest_of_line bs) ≡ false → IsSpelled (rest_of_line bs)
spelled_rest bs s some = record {
  begins = begins_front (drop (word_len bs) bs) some;
  ends = ends_front (drop (word_len bs) bs) (ends_drop (word_len bs) bs s.ends);
  none = none_rest 10 bs s.none;
}

-- ---- a line without the blanks at its ends
begins_ends : (bs : List ℕ) → is_empty bs ≡ false → begins_well bs ≡ true → ends_well (reverse bs) ≡ true
begins_ends [] some h = absurd (cc some)
begins_ends (b ∷ bs) some h = subst (λ (xs : List ℕ). ends_well xs ≡ true) (sym (reverse-append (b ∷ []) bs)) (ends_push (reverse bs) b h)
  where
    ends_push : (xs : List ℕ) (b : ℕ) → not (b == 9) ≡ true → ends_well (xs ++ b ∷ []) ≡ true
    ends_push [] b h = h
    ends_push (x ∷ []) b h = h
    ends_push (x ∷ y ∷ xs) b h = ends_push (y ∷ xs) b h

ends_begins : (bs : List ℕ) → is_empty bs ≡ false → ends_well bs ≡ true → begins_well (reverse bs) ≡ true
ends_begins bs some h = by (reverse bs) (reverse-reverse bs)
  where
    last_push : (xs : List ℕ) (b : ℕ) → ends_well (xs ++ b ∷ []) ≡ not (b == 9)
    last_push [] b = refl
    last_push (x ∷ []) b = refl
    last_push (x ∷ y ∷ xs) b = last_push (y ∷ xs) b

    by : (rs : List ℕ) → reverse rs ≡ bs → begins_well rs ≡ true
    by [] is = let e : is_empty bs ≡ true = ap is_empty (sym is) in absurd (cc (some, e))
    by (r ∷ rs) is = sym (last_push (reverse rs) r) ∙ ap ends_well (sym (reverse-append (r ∷ []) rs) ∙ is) ∙ h

none_reverse : (other : ℕ) (bs : List ℕ) → has_none other bs ≡ true → has_none other (reverse bs) ≡ true
none_reverse other [] h = h
none_reverse other (b ∷ bs) h =
    subst (λ (xs : List ℕ). has_none other xs ≡ true) (sym (reverse-append (b ∷ []) bs))
    (list_all-append (λ x. not (x == other)) (reverse bs) (b ∷ [])
    ∙ both _ _ (none_reverse other bs (right (not (b == other)) (has_none other bs) h)) (both _ _ (left (not (b == other)) (has_none other bs) h) refl))

some_reverse : (bs : List ℕ) → is_empty (reverse bs) ≡ false → is_empty bs ≡ false
some_reverse [] some = absurd (cc some)
some_reverse (b ∷ bs) some = refl

pub spelled_trimmed : (bs : List ℕ) → is_empty (trim_blanks bs) ≡ false → has_none 10 bs ≡ true → IsSpelled (trim_blanks bs)
spelled_trimmed bs some none =
    let front = without_front bs in
    let back = without_front (reverse front) in
    let there : is_empty back ≡ false = some_reverse back some in
    let first : is_empty front ≡ false = front_some front there in
    record {
      begins = ends_begins back there (ends_front (reverse front) (begins_ends front first (begins_front bs first)));
      ends = begins_ends back there (begins_front (reverse front) there);
      none = none_reverse 10 back (none_front 10 (reverse front) (none_reverse 10 front (none_front 10 bs none)));
    }
  where
    front_some : (front : List ℕ) → is_empty (without_front (reverse front)) ≡ false → is_empty front ≡ false
    front_some [] h = absurd (cc h)
    front_some (b ∷ bs) h = refl

-- ---- words
pub record IsWord (bytes : List ℕ) : Type 0 where
  pub some : is_empty bytes ≡ false
  pub no_tab : has_none 9 bytes ≡ true
  pub none : has_none 10 bytes ≡ true

-- the part, if it is not empty
abbrev IsPart : List ℕ → Type 0
IsPart bytes = (has_none 9 bytes ≡ true) × (has_none 10 bytes ≡ true)

on_first : (b : ℕ) (ts : List (List ℕ)) → not (b == 9) ≡ true → not (b == 10) ≡ true → All IsPart ts → All IsPart (onto_first b ts)
on_first b [] tab lf all = All-cons IsPart (b ∷ []) [] (both _ _ tab refl, both _ _ lf refl) (All-nil IsPart)
on_first b (t ∷ ts) tab lf all = let own = All-head IsPart t ts all in All-cons IsPart (b ∷ t) ts (both _ _ tab own.0, both _ _ lf own.1) (All-tail IsPart t ts all)

parts_are : (bs : List ℕ) → has_none 10 bs ≡ true → All IsPart (slice_split is_blank bs)
parts_are [] none = All-cons IsPart [] [] (refl, refl) (All-nil IsPart)
parts_are (b ∷ bs) none = by (is_blank b) refl (parts_are bs (right (not (b == 10)) (has_none 10 bs) none))
  where
    by : (x : Bool) → is_blank b ≡ x → All IsPart (slice_split is_blank bs) → All IsPart (if x then [] ∷ slice_split is_blank bs else onto_first b (slice_split is_blank bs))
    by true is rest = All-cons IsPart [] _ (refl, refl) rest
    by false is rest = on_first b _ (no_tab b is) (left (not (b == 10)) (has_none 10 bs) none) rest

words_are : (ts : List (List ℕ)) → All IsPart ts → All IsWord (nonempty ts)
words_are [] all = All-nil IsWord
words_are (t ∷ ts) all = by (is_empty t) refl (words_are ts (All-tail IsPart t ts all))
  where
    by : (x : Bool) → is_empty t ≡ x → All IsWord (nonempty ts) → All IsWord (if not x then t ∷ nonempty ts else nonempty ts)
    by true is rest = rest
    by false is rest = let own = All-head IsPart t ts all in All-cons IsWord t _ (record { some = is; no_tab = own.0; none = own.1 }) rest

pub are_words : (bs : List ℕ) → has_none 10 bs ≡ true → All IsWord (words bs)
are_words bs none = subst (All IsWord) (sym (words_are_parts bs)) (words_are (slice_split is_blank bs) (parts_are bs none))

pub spelled_word : (bs : List ℕ) → IsWord bs → IsSpelled bs
spelled_word bs w = record { begins = first bs w.some w.no_tab; ends = last bs w.no_tab; none = w.none }
  where
    first : (bs : List ℕ) → is_empty bs ≡ false → has_none 9 bs ≡ true → begins_well bs ≡ true
    first [] some none = absurd (cc some)
    first (b ∷ bs) some none = left (not (b == 9)) (has_none 9 bs) none

    last : (bs : List ℕ) → has_none 9 bs ≡ true → ends_well bs ≡ true
    last [] none = refl
    last (b ∷ bs) none = ends_cons b bs (left (not (b == 9)) (has_none 9 bs) none) (last bs (right (not (b == 9)) (has_none 9 bs) none))
