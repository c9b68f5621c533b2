-- Words of tokens, which are parted by blanks.
use Rattle.std.specs.Prelude.{◌≡◌, ◌==◌, ◌&&◌, ◌++◌, ℕ, Bool, true, false, not, List, [], ◌∷◌, if◌then◌else◌, refl}
use Rattle.std.proofs.Common.{inl, inr, sym, ◌∙◌, ap, subst, append_assoc}
use Rattle.std.proofs.lemmas.Bool.{and_from, and_parts, eq-eqb, eqb-true, false≢true, not-true, or_cases}
use Rattle.std.proofs.lemmas.List.Folds.{list_all-append}
use Rattle.dk_print.specs.Names.{is_plain_name, is_solid}
use Rattle.dk_print.specs.Parts.{name_at}
use Rattle.dk_print.proofs.Tokens.{Token, letter, called, numeral, plus_or_minus, anything, Spells, is_sign}

-- whether the word may have blanks: it ends with anything
abbrev pub is_open : List Token → Bool
is_open [] = false
is_open (anything ∷ ts) = true
is_open (t ∷ ts) = is_open ts

-- a first word and further words
abbrev pub Words : Type 0
Words = List Token × List (List Token)

abbrev pub put : Token → Words → Words
put t l = (t ∷ l.0, l.1)

abbrev pub put_letter : ℕ → Words → Words
put_letter b l = if b == 32 then ([], l.0 ∷ l.1) else put (letter b) l

abbrev pub words : List Token → Words
words [] = ([], [])
words (letter b ∷ ts) = put_letter b (words ts)
words (called role ∷ ts) = put (called role) (words ts)
words (numeral ∷ ts) = put numeral (words ts)
words (plus_or_minus ∷ ts) = put plus_or_minus (words ts)
words (anything ∷ ts) = (anything ∷ [], [])

-- ---- texts without blanks
pub solid-append : (u v : List ℕ) → is_solid u ≡ true → is_solid v ≡ true → is_solid (u ++ v) ≡ true
solid-append u v p q = list_all-append (λ b. not (b == 32)) u v ∙ and_from (is_solid u) (is_solid v) p q

pub blank-solid : (u v : List ℕ) → is_solid (u ++ 32 ∷ v) ≡ true → ⊥
blank-solid [] v e = false≢true e
blank-solid (b ∷ u) v e = blank-solid u v (and_parts (not (b == 32)) (is_solid (u ++ 32 ∷ v)) e).1

head : List ℕ → ℕ
head [] = 0
head (b ∷ bs) = b

tail : List ℕ → List ℕ
tail [] = []
tail (b ∷ bs) = bs

pub heads : (a b : ℕ) (u v : List ℕ) → a ∷ u ≡ b ∷ v → a ≡ b
unfolding head
heads a b u v e = ap head e

pub tails : (a b : ℕ) (u v : List ℕ) → a ∷ u ≡ b ∷ v → u ≡ v
unfolding tail
tails a b u v e = ap tail e

not-blank : (b : ℕ) → b ≡ 32 → not (b == 32) ≡ true → ⊥
not-blank b is e = false≢true (sym (ap not (eq-eqb b 32 is)) ∙ e)

-- the first blank parts a text in one way
pub one-cut : (u v x y : List ℕ) → is_solid u ≡ true → is_solid v ≡ true → u ++ 32 ∷ x ≡ v ++ 32 ∷ y → (u ≡ v) × (x ≡ y)
one-cut [] [] x y p q e = (refl, tails 32 32 x y e)
one-cut [] (c ∷ v) x y p q e = absurd (not-blank c (sym (heads 32 c x (v ++ 32 ∷ y) e)) (and_parts (not (c == 32)) (is_solid v) q).0)
one-cut (b ∷ u) [] x y p q e = absurd (not-blank b (heads b 32 (u ++ 32 ∷ x) y e) (and_parts (not (b == 32)) (is_solid u) p).0)
one-cut (b ∷ u) (c ∷ v) x y p q e =
    let same = heads b c (u ++ 32 ∷ x) (v ++ 32 ∷ y) e in
    let rest = one-cut u v x y (and_parts (not (b == 32)) (is_solid u) p).1 (and_parts (not (c == 32)) (is_solid v) q).1 (tails b c (u ++ 32 ∷ x) (v ++ 32 ∷ y) e) in
    (λ i. same i ∷ rest.0 i, rest.1)

-- ---- words that spell a text
module _ (names : List (List ℕ)) where
  -- the words spell the words of the text; an open one is the last one, and spells what is left
  abbrev pub LineSpells : List Token → List (List Token) → List ℕ → Type 0
  LineSpells w [] t = Spells names w t × (is_open w ≡ false → is_solid t ≡ true)
  LineSpells w (w2 ∷ ws) t = (u : List ℕ) × (v : List ℕ) × (t ≡ u ++ 32 ∷ v) × Spells names w u × (is_solid u ≡ true) × LineSpells w2 ws v

  -- a token more in front of the first word
  module _ (tok : Token) (front : List ℕ) (solid : is_solid front ≡ true) (grows : (w : List Token) (v : List ℕ) → Spells names w v → Spells names (tok ∷ w) (front ++ v)) (same : (w : List Token) → is_open (tok ∷ w) ≡ is_open w) where
    pub in-front : (w : List Token) (ws : List (List Token)) (v : List ℕ) → LineSpells w ws v → LineSpells (tok ∷ w) ws (front ++ v)
    in-front w [] v (p, closed) = (grows w v p, λ c. solid-append front v solid (closed (sym (same w) ∙ c)))
    in-front w (w2 ∷ ws) v (u, x, e, p, s, rest) = (front ++ u, x, ap (λ l. front ++ l) e ∙ sym (append_assoc front u (32 ∷ x)), grows w u p, solid-append front u solid s, rest)

  plain-solid : (n : List ℕ) → is_plain_name n ≡ true → is_solid n ≡ true
  plain-solid [] e = refl
  plain-solid (b ∷ bs) e = (and_parts (is_solid (b ∷ bs)) _ (and_parts _ _ e).1).0

  sign-solid : (b : ℕ) → is_sign b ≡ true → is_solid (b ∷ []) ≡ true
  sign-solid b e = elim (or_cases (b == 43) (b == 45) e) as (λ _. is_solid (b ∷ []) ≡ true) [
    | inl h ↦ ap (λ c. is_solid (c ∷ [])) (eqb-true b 43 h)
    | inr h ↦ ap (λ c. is_solid (c ∷ [])) (eqb-true b 45 h)
  ]

  letter-line : (b : ℕ) (l : Words) (v : List ℕ) → LineSpells l.0 l.1 v → LineSpells (put_letter b l).0 (put_letter b l).1 (b ∷ v)
  letter-line b l v p = by (b == 32) refl
    where
      by : (c : Bool) → (b == 32) ≡ c → LineSpells (if c then ([], l.0 ∷ l.1) else put (letter b) l).0 (if c then ([], l.0 ∷ l.1) else put (letter b) l).1 (b ∷ v)
      by true e = ([], v, ap (λ k. k ∷ v) (eqb-true b 32 e), refl, refl, p)
      by false e = in-front (letter b) (b ∷ []) (ap (λ c. not c && true) e) (λ w x q. (x, refl, q)) (λ w. refl) l.0 l.1 v p

  at : List ℕ → Words → Type 0
  at t l = LineSpells l.0 l.1 t

  pub line-of : (ts : List Token) (t : List ℕ) → Spells names ts t → LineSpells (words ts).0 (words ts).1 t
  line-of [] t e = (e, λ c. ap is_solid e)
  line-of (letter b ∷ ts) t (v, e, p) = subst (LineSpells (words (letter b ∷ ts)).0 (words (letter b ∷ ts)).1) (sym e) (letter-line b (words ts) v (line-of ts v p))
  line-of (called role ∷ ts) t (v, plain, e, p) =
      subst (LineSpells (words (called role ∷ ts)).0 (words (called role ∷ ts)).1) (sym e)
      (in-front (called role) (name_at names role) (plain-solid (name_at names role) plain) (λ w x q. (x, plain, refl, q)) (λ w. refl) (words ts).0 (words ts).1 v (line-of ts v p))
  line-of (numeral ∷ ts) t (u, v, is, e, p) =
      subst (LineSpells (words (numeral ∷ ts)).0 (words (numeral ∷ ts)).1) (sym e)
      (in-front numeral u is.solid (λ w x q. (u, x, is, refl, q)) (λ w. refl) (words ts).0 (words ts).1 v (line-of ts v p))
  line-of (plus_or_minus ∷ ts) t (b, v, is, e, p) =
      subst (LineSpells (words (plus_or_minus ∷ ts)).0 (words (plus_or_minus ∷ ts)).1) (sym e)
      (in-front plus_or_minus (b ∷ []) (sign-solid b is) (λ w x q. (b, x, is, refl, q)) (λ w. refl) (words ts).0 (words ts).1 v (line-of ts v p))
  line-of (anything ∷ ts) t p = (tt, λ c. absurd (false≢true (sym c)))

-- ---- two lines of words that spell one text
-- each word beside the other line's, where both lines have as many words
abbrev pub pairs : List Token → List (List Token) → List Token → List (List Token) → List (List Token × List Token)
pairs a [] b [] = (a, b) ∷ []
pairs a [] b (b2 ∷ bs) = []
pairs a (a2 ∷ xs) b [] = []
pairs a (a2 ∷ xs) b (b2 ∷ bs) = (a, b) ∷ pairs a2 xs b2 bs

-- one line ends where the other one goes on
abbrev pub is_uneven : List Token → List (List Token) → List Token → List (List Token) → Bool
is_uneven a [] b [] = false
is_uneven a [] b (b2 ∷ bs) = not (is_open a)
is_uneven a (a2 ∷ xs) b [] = not (is_open b)
is_uneven a (a2 ∷ xs) b (b2 ∷ bs) = is_uneven a2 xs b2 bs

module _ (names others : List (List ℕ)) where
  -- the two words spell one text
  pub record Shared (a b : List Token) : Type 0 where
    pub text : List ℕ
    pub left : Spells names a text
    pub right : Spells others b text

  abbrev pub AllShared : List (List Token × List Token) → Type 0
  AllShared [] = Unit {0}
  AllShared (p ∷ ps) = Shared p.0 p.1 × AllShared ps

  pub all-shared : (a : List Token) (xs : List (List Token)) (b : List Token) (bs : List (List Token)) (t : List ℕ) → LineSpells names a xs t → LineSpells others b bs t → AllShared (pairs a xs b bs)
  all-shared a [] b [] t (p, c) (q, d) = (record { text = t; left = p; right = q }, tt)
  all-shared a [] b (b2 ∷ bs) t p q = tt
  all-shared a (a2 ∷ xs) b [] t p q = tt
  all-shared a (a2 ∷ xs) b (b2 ∷ bs) t (u, x, e, p, s, more) (v, y, f, q, r, rest) =
      let cut = one-cut u v x y s r (sym e ∙ f) in
      (record { text = u; left = p; right = subst (Spells others b) (sym cut.0) q }, all-shared a2 xs b2 bs x more (subst (LineSpells others b2 bs) (sym cut.1) rest))

  pub uneven-differ : (a : List Token) (xs : List (List Token)) (b : List Token) (bs : List (List Token)) (t : List ℕ) → is_uneven a xs b bs ≡ true → LineSpells names a xs t → LineSpells others b bs t → ⊥
  uneven-differ a [] b [] t e p q = false≢true e
  uneven-differ a [] b (b2 ∷ bs) t e (p, closed) (v, y, f, q, r, rest) = blank-solid v y (sym (ap is_solid f) ∙ closed (not-true (is_open a) e))
  uneven-differ a (a2 ∷ xs) b [] t e (u, x, f, p, s, rest) (q, closed) = blank-solid u x (sym (ap is_solid f) ∙ closed (not-true (is_open b) e))
  uneven-differ a (a2 ∷ xs) b (b2 ∷ bs) t e (u, x, f, p, s, more) (v, y, g, q, r, rest) =
      let cut = one-cut u v x y s r (sym f ∙ g) in
      uneven-differ a2 xs b2 bs x e more (subst (LineSpells others b2 bs) (sym cut.1) rest)
