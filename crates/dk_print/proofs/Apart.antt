-- Words that can't spell one text, and what two words that spell one text tell of names.
use Rattle.std.specs.Prelude.{◌≡◌, ◌==◌, ◌&&◌, ◌||◌, ◌++◌, ℕ, Bool, true, false, not, List, [], ◌∷◌, Option, Some, None, if◌then◌else◌, refl}
use Rattle.std.specs.Option.{option_map}
use Rattle.std.specs.Str.{bytes_eq}
use Rattle.std.proofs.Common.{inl, inr, sym, ◌∙◌, ap, subst}
use Rattle.std.proofs.lemmas.Bool.{and_parts, eq-eqb, eqb-true, false≢true, not-true, or_cases}
use Rattle.std.proofs.lemmas.Slice.Eq.{bytes_eq-Decides}
use Rattle.std.proofs.lemmas.List.{append_cancel_right, append-nil}
use Rattle.dk_print.specs.Names.{is_number_start, is_plain_name}
use Rattle.dk_print.specs.Parts.{name_at}
use Rattle.dk_print.proofs.Tokens.{Token, letter, called, numeral, plus_or_minus, anything, Spells, is_sign}
use Rattle.dk_print.proofs.TokenWords.{AllShared, LineSpells, Shared, heads, one-cut, tails}

-- ---- by the first byte
abbrev pub may_begin : Token → ℕ → Bool
may_begin (letter b) c = b == c
may_begin (called role) c = not (is_number_start c) && not (c == 34)
may_begin numeral c = is_number_start c
may_begin plus_or_minus c = is_sign c
may_begin anything c = true

-- no byte begins both
abbrev pub clash : Token → Token → Bool
clash (letter b) q = not (may_begin q b)
clash p (letter c) = not (may_begin p c)
clash numeral (called role) = true
clash (called role) numeral = true
clash p q = false

abbrev pub is_anything : Token → Bool
is_anything anything = true
is_anything t = false

abbrev pub excludes : Token → Token → Bool
excludes p q = (not (is_anything p) && not (is_anything q)) && clash p q

-- the text begins with a byte that may begin the token
record Begun (t : Token) (text : List ℕ) : Type 0 where
  first : ℕ
  rest : List ℕ
  is : text ≡ first ∷ rest
  may : may_begin t first ≡ true

refuted : (b : Bool) → not b ≡ true → b ≡ true → ⊥
refuted true e h = false≢true e
refuted false e h = false≢true h

module _ (names : List (List ℕ)) where
  begun : (t : Token) (ts : List Token) (u : List ℕ) → is_anything t ≡ false → Spells names (t ∷ ts) u → Begun t u
  begun (letter b) ts u o (v, e, p) = record { first = b; rest = v; is = e; may = eq-eqb b b refl }
  begun (called role) ts u o (v, plain, e, p) = by (name_at names role) plain e
    where
      by : (n : List ℕ) → is_plain_name n ≡ true → u ≡ n ++ v → Begun (called role) u
      by [] h e = absurd (false≢true h)
      by (b ∷ bs) h e = record { first = b; rest = bs ++ v; is = e; may = (and_parts _ _ h).0 }
  begun numeral ts u o (x, v, is, e, p) = record { first = is.first; rest = is.rest ++ v; is = e ∙ ap (λ l. l ++ v) is.is; may = is.begins }
  begun plus_or_minus ts u o (b, v, is, e, p) = record { first = b; rest = v; is = e; may = is }
  begun anything ts u o p = absurd (false≢true (sym o))

-- tokens that clash begin no text in common
none-first : (p q : Token) (c : ℕ) → clash p q ≡ true → may_begin p c ≡ true → may_begin q c ≡ true → ⊥
none-first (letter b) q c e h k = refuted (may_begin q b) e (ap (may_begin q) (eqb-true b c h) ∙ k)
none-first (called role) (letter b) c e h k = refuted (may_begin (called role) b) e (ap (may_begin (called role)) (eqb-true b c k) ∙ h)
none-first (called role) (called other) c e h k = false≢true e
none-first (called role) numeral c e h k = refuted (is_number_start c) (and_parts _ _ h).0 k
none-first (called role) plus_or_minus c e h k = false≢true e
none-first (called role) anything c e h k = false≢true e
none-first numeral (letter b) c e h k = refuted (is_number_start b) e (ap is_number_start (eqb-true b c k) ∙ h)
none-first numeral (called role) c e h k = refuted (is_number_start c) (and_parts _ _ k).0 h
none-first numeral numeral c e h k = false≢true e
none-first numeral plus_or_minus c e h k = false≢true e
none-first numeral anything c e h k = false≢true e
none-first plus_or_minus (letter b) c e h k = refuted (is_sign b) e (ap is_sign (eqb-true b c k) ∙ h)
none-first plus_or_minus (called role) c e h k = false≢true e
none-first plus_or_minus numeral c e h k = false≢true e
none-first plus_or_minus plus_or_minus c e h k = false≢true e
none-first plus_or_minus anything c e h k = false≢true e
none-first anything (letter b) c e h k = refuted true e refl
none-first anything (called role) c e h k = false≢true e
none-first anything numeral c e h k = false≢true e
none-first anything plus_or_minus c e h k = false≢true e
none-first anything anything c e h k = false≢true e

abbrev pub same_letter : Token → Token → Bool
same_letter (letter b) (letter c) = b == c
same_letter p q = false

-- the words differ at some byte, or in length
abbrev pub differ : List Token → List Token → Bool
differ [] [] = false
differ [] (q ∷ b) = not (is_anything q)
differ (p ∷ a) [] = not (is_anything p)
differ (p ∷ a) (q ∷ b) = excludes p q || (same_letter p q && differ a b)

-- the bytes of a word of letters
abbrev pub literal : List Token → Option (List ℕ)
literal [] = Some []
literal (letter b ∷ ts) = option_map (λ bs. b ∷ bs) (literal ts)
literal (t ∷ ts) = None

abbrev pub is_unplain : Option (List ℕ) → Bool
is_unplain None = false
is_unplain (Some bs) = not (is_plain_name bs)

-- the one is a name, and the other one is no plain name
abbrev pub is_no_name : List Token → List Token → Bool
is_no_name (called role ∷ []) b = is_unplain (literal b)
is_no_name a b = false

abbrev pub apart : List Token → List Token → Bool
apart a b = differ a b || (is_no_name a b || is_no_name b a)

nothing-begins : (b : ℕ) (v : List ℕ) → [] ≡ b ∷ v → ⊥
nothing-begins b v e = cc

module _ (names : List (List ℕ)) where
  not-empty : (p : Token) (a : List Token) (u : List ℕ) → not (is_anything p) ≡ true → u ≡ [] → Spells names (p ∷ a) u → ⊥
  not-empty p a u o e s = let b = begun names p a u (not-true (is_anything p) o) s in nothing-begins b.first b.rest (sym e ∙ b.is)

  spelled : (ts : List Token) (u : List ℕ) → Spells names ts u → (bs : List ℕ) → literal ts ≡ Some bs → u ≡ bs
  spelled [] u p bs e = cc
  spelled (letter b ∷ ts) u (v, f, p) bs e = inside (literal ts) (λ l h. spelled ts v p l h) e
    where
      the-same : (x y : List ℕ) → Some x ≡ Some y → x ≡ y
      the-same x y h = cc

      inside : (o : Option (List ℕ)) → ((l : List ℕ) → o ≡ Some l → v ≡ l) → option_map (λ l. b ∷ l) o ≡ Some bs → u ≡ bs
      inside None known k = cc
      inside (Some l) known k = f ∙ ap (λ x. b ∷ x) (known l refl) ∙ the-same (b ∷ l) bs k
  spelled (called role ∷ ts) u p bs e = cc
  spelled (numeral ∷ ts) u p bs e = cc
  spelled (plus_or_minus ∷ ts) u p bs e = cc
  spelled (anything ∷ ts) u p bs e = cc

module _ (names others : List (List ℕ)) where
  first-differ : (p q : Token) (a b : List Token) (u : List ℕ) → excludes p q ≡ true → Spells names (p ∷ a) u → Spells others (q ∷ b) u → ⊥
  first-differ p q a b u e l r =
      let parts = and_parts (not (is_anything p) && not (is_anything q)) (clash p q) e in
      let both = and_parts (not (is_anything p)) (not (is_anything q)) parts.0 in
      let x = begun names p a u (not-true (is_anything p) both.0) l in
      let y = begun others q b u (not-true (is_anything q) both.1) r in
      none-first p q x.first parts.1 x.may (ap (may_begin q) (heads x.first y.first x.rest y.rest (sym x.is ∙ y.is)) ∙ y.may)

  pub differ-apart : (a b : List Token) (u : List ℕ) → differ a b ≡ true → Spells names a u → Spells others b u → ⊥
  differ-apart [] [] u e l r = false≢true e
  differ-apart [] (q ∷ b) u e l r = not-empty others q b u e l r
  differ-apart (p ∷ a) [] u e l r = not-empty names p a u e r l
  differ-apart (p ∷ a) (q ∷ b) u e l r = elim (or_cases (excludes p q) (same_letter p q && differ a b) e) as (λ _. ⊥) [
    | inl h ↦ first-differ p q a b u h l r
    | inr h ↦ behind p q (and_parts (same_letter p q) (differ a b) h).0 l r (λ v l' r'. differ-apart a b v (and_parts (same_letter p q) (differ a b) h).1 l' r')
  ]
    where
      behind : (p q : Token) → same_letter p q ≡ true → Spells names (p ∷ a) u → Spells others (q ∷ b) u → ((v : List ℕ) → Spells names a v → Spells others b v → ⊥) → ⊥
      behind (letter x) (letter y) h (v, f, m) (w, g, n) next = next v m (subst (Spells others b) (tails y x w v (sym g ∙ f)) n)
      behind (letter x) (called i) h m n next = false≢true h
      behind (letter x) numeral h m n next = false≢true h
      behind (letter x) plus_or_minus h m n next = false≢true h
      behind (letter x) anything h m n next = false≢true h
      behind (called i) q h m n next = false≢true h
      behind numeral q h m n next = false≢true h
      behind plus_or_minus q h m n next = false≢true h
      behind anything q h m n next = false≢true h

  pub no-name-apart : (a b : List Token) (u : List ℕ) → is_no_name a b ≡ true → Spells names a u → Spells others b u → ⊥
  no-name-apart [] b u e l r = false≢true e
  no-name-apart (called role ∷ []) b u e (v, plain, f, g) r = inside (literal b) (λ bs h. spelled others b u r bs h) e
    where
      inside : (o : Option (List ℕ)) → ((bs : List ℕ) → o ≡ Some bs → u ≡ bs) → is_unplain o ≡ true → ⊥
      inside None known h = false≢true h
      inside (Some bs) known h =
          let same : name_at names role ≡ bs = sym (append-nil (name_at names role)) ∙ sym (ap (λ l. name_at names role ++ l) g) ∙ sym f ∙ known bs refl in
          refuted (is_plain_name bs) h (sym (ap is_plain_name same) ∙ plain)
  no-name-apart (called role ∷ t ∷ ts) b u e l r = false≢true e
  no-name-apart (letter c ∷ ts) b u e l r = false≢true e
  no-name-apart (numeral ∷ ts) b u e l r = false≢true e
  no-name-apart (plus_or_minus ∷ ts) b u e l r = false≢true e
  no-name-apart (anything ∷ ts) b u e l r = false≢true e

pub apart-apart : (names others : List (List ℕ)) (a b : List Token) → apart a b ≡ true → Shared names others a b → ⊥
apart-apart names others a b e s = elim (or_cases (differ a b) (is_no_name a b || is_no_name b a) e) as (λ _. ⊥) [
  | inl h ↦ differ-apart names others a b s.text h s.left s.right
  | inr h ↦ elim (or_cases (is_no_name a b) (is_no_name b a) h) as (λ _. ⊥) [
    | inl k ↦ no-name-apart names others a b s.text k s.left s.right
    | inr k ↦ no-name-apart others names b a s.text k s.right s.left
  ]
]

-- ---- where one line ends with anything, and the other one goes on
abbrev pub begin_apart : List Token → List Token → Bool
begin_apart (p ∷ a) (q ∷ b) = excludes p q
begin_apart [] b = false
begin_apart (p ∷ a) [] = false

-- the last word of the shorter line and the word at its place begin differently
abbrev pub end_apart : List Token → List (List Token) → List Token → List (List Token) → Bool
end_apart a [] b [] = false
end_apart a [] b (b2 ∷ bs) = begin_apart a b
end_apart a (a2 ∷ xs) b [] = begin_apart b a
end_apart a (a2 ∷ xs) b (b2 ∷ bs) = end_apart a2 xs b2 bs

module _ (names others : List (List ℕ)) where
  begins-differ : (a b : List Token) (t u v : List ℕ) → begin_apart a b ≡ true → t ≡ u ++ v → Spells names a t → Spells others b u → ⊥
  begins-differ [] b t u v e f l r = false≢true e
  begins-differ (p ∷ a) [] t u v e f l r = false≢true e
  begins-differ (p ∷ a) (q ∷ b) t u v e f l r =
      let parts = and_parts (not (is_anything p) && not (is_anything q)) (clash p q) e in
      let both = and_parts (not (is_anything p)) (not (is_anything q)) parts.0 in
      let x = begun names p a t (not-true (is_anything p) both.0) l in
      let y = begun others q b u (not-true (is_anything q) both.1) r in
      let one : x.first ∷ x.rest ≡ y.first ∷ (y.rest ++ v) = sym x.is ∙ f ∙ ap (λ k. k ++ v) y.is in
      none-first p q x.first parts.1 x.may (ap (may_begin q) (heads x.first y.first x.rest (y.rest ++ v) one) ∙ y.may)

module _ (names others : List (List ℕ)) where
  pub ends-differ : (a : List Token) (xs : List (List Token)) (b : List Token) (bs : List (List Token)) (t : List ℕ) → end_apart a xs b bs ≡ true → LineSpells names a xs t → LineSpells others b bs t → ⊥
  ends-differ a [] b [] t e p q = false≢true e
  ends-differ a [] b (b2 ∷ bs) t e (p, closed) (v, y, f, q, r, rest) = begins-differ names others a b t v (32 ∷ y) e f p q
  ends-differ a (a2 ∷ xs) b [] t e (u, x, f, p, s, rest) (q, closed) = begins-differ others names b a t u (32 ∷ x) e f q p
  ends-differ a (a2 ∷ xs) b (b2 ∷ bs) t e (u, x, f, p, s, more) (v, y, g, q, r, rest) =
      let cut = one-cut u v x y s r (sym f ∙ g) in
      ends-differ a2 xs b2 bs x e more (subst (LineSpells others b2 bs) (sym cut.1) rest)

-- ---- what two words tell of names
abbrev pub same_literal : Option (List ℕ) → Option (List ℕ) → Bool
same_literal (Some x) (Some y) = bytes_eq x y
same_literal (Some x) None = false
same_literal None y = false

-- the roles whose names stand at one place of both words, behind and in front of the same bytes
abbrev pub links : List Token → List Token → Option (ℕ × ℕ)
links (letter b ∷ a) (letter c ∷ d) = if b == c then links a d else None
links (called i ∷ a) (called j ∷ d) = if same_literal (literal a) (literal d) then Some (i, j) else None
links a d = None

abbrev pub some_more : Option (ℕ × ℕ) → List (ℕ × ℕ) → List (ℕ × ℕ)
some_more None ps = ps
some_more (Some p) ps = p ∷ ps

abbrev pub linked : List (List Token × List Token) → List (ℕ × ℕ)
linked [] = []
linked (p ∷ ps) = some_more (links p.0 p.1) (linked ps)

module _ (names others : List (List ℕ)) where
  -- the names are plain and the same
  pub record Linked (p : ℕ × ℕ) : Type 0 where
    pub plain : is_plain_name (name_at names p.0) ≡ true
    pub same : name_at names p.0 ≡ name_at others p.1

  abbrev pub AllLinked : List (ℕ × ℕ) → Type 0
  AllLinked [] = Unit {0}
  AllLinked (p ∷ ps) = Linked p × AllLinked ps

  IsLinked : Option (ℕ × ℕ) → Type 0
  IsLinked None = Unit {0}
  IsLinked (Some p) = Linked p

  same-bytes : (a d : List Token) (u v : List ℕ) → same_literal (literal a) (literal d) ≡ true → Spells names a u → Spells others d v → u ≡ v
  same-bytes a d u v e l r = inside (literal a) (literal d) e (λ x h. spelled names a u l x h) (λ x h. spelled others d v r x h)
    where
      inside : (o p : Option (List ℕ)) → same_literal o p ≡ true → ((x : List ℕ) → o ≡ Some x → u ≡ x) → ((x : List ℕ) → p ≡ Some x → v ≡ x) → u ≡ v
      inside (Some x) (Some y) h f g = f x refl ∙ (bytes_eq-Decides x y).0 h ∙ sym (g y refl)
      inside (Some x) None h f g = absurd (false≢true h)
      inside None p h f g = absurd (false≢true h)

  links-tell : (a d : List Token) (u : List ℕ) → Spells names a u → Spells others d u → IsLinked (links a d)
  unfolding IsLinked
  links-tell [] d u l r = tt
  links-tell (letter b ∷ a) [] u l r = tt
  links-tell (letter b ∷ a) (letter c ∷ d) u (v, f, l) (w, g, r) = by (b == c) (links-tell a d v l (subst (Spells others d) (tails c b w v (sym g ∙ f)) r))
    where
      by : (t : Bool) → IsLinked (links a d) → IsLinked (if t then links a d else None)
      by true behind = behind
      by false behind = tt
  links-tell (letter b ∷ a) (called j ∷ d) u l r = tt
  links-tell (letter b ∷ a) (numeral ∷ d) u l r = tt
  links-tell (letter b ∷ a) (plus_or_minus ∷ d) u l r = tt
  links-tell (letter b ∷ a) (anything ∷ d) u l r = tt
  links-tell (called i ∷ a) [] u l r = tt
  links-tell (called i ∷ a) (letter c ∷ d) u l r = tt
  links-tell (called i ∷ a) (called j ∷ d) u (v, plain, f, l) (w, other, g, r) = by (same_literal (literal a) (literal d)) refl
    where
      by : (t : Bool) → same_literal (literal a) (literal d) ≡ t → IsLinked (if t then Some (i, j) else None)
      by true h = record {
        plain = plain;
        same = append_cancel_right (name_at names i) (name_at others j) v (sym f ∙ g ∙ ap (λ x. name_at others j ++ x) (sym (same-bytes a d v w h l r)));
      }
      by false h = tt
  links-tell (called i ∷ a) (numeral ∷ d) u l r = tt
  links-tell (called i ∷ a) (plus_or_minus ∷ d) u l r = tt
  links-tell (called i ∷ a) (anything ∷ d) u l r = tt
  links-tell (numeral ∷ a) d u l r = tt
  links-tell (plus_or_minus ∷ a) d u l r = tt
  links-tell (anything ∷ a) d u l r = tt

  some-linked : (o : Option (ℕ × ℕ)) (ps : List (ℕ × ℕ)) → IsLinked o → AllLinked ps → AllLinked (some_more o ps)
  unfolding IsLinked
  some-linked None ps l all = all
  some-linked (Some p) ps l all = (l, all)

  pub all-linked : (ps : List (List Token × List Token)) → AllShared names others ps → AllLinked (linked ps)
  all-linked [] all = tt
  all-linked (p ∷ ps) (s, all) = some-linked (links p.0 p.1) (linked ps) (links-tell p.0 p.1 s.text s.left s.right) (all-linked ps all)
