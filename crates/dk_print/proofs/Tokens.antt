-- A text as tokens: what is known of its bytes, whatever the names and the numbers are.
use Rattle.std.specs.Prelude.{◌≡◌, ◌==◌, ◌||◌, ◌++◌, ℕ, Bool, true, List, [], ◌∷◌}
use Rattle.std.proofs.Common.{sym, ◌∙◌, ap, subst, append_assoc}
use Rattle.dk_print.specs.Parts.{name_at}
use Rattle.dk_print.specs.Names.{is_number_start, is_plain_name, is_solid}

-- a byte, the name at a role, a number, a `+` or a `-`, or anything up to the end of the text
pub data Token : Type 0 where
  letter : (b : ℕ) → Token
  called : (role : ℕ) → Token
  numeral : Token
  plus_or_minus : Token
  anything : Token

abbrev pub is_sign : ℕ → Bool
is_sign b = b == 43 || b == 45

-- what looks like a number: it begins so, and has no blank
pub record IsNumber (text : List ℕ) : Type 0 where
  pub first : ℕ
  pub rest : List ℕ
  pub is : text ≡ first ∷ rest
  pub begins : is_number_start first ≡ true
  pub solid : is_solid text ≡ true

module _ (names : List (List ℕ)) where
  -- the tokens spell the text
  abbrev pub Spells : List Token → List ℕ → Type 0
  Spells [] t = t ≡ []
  Spells (letter b ∷ ts) t = (v : List ℕ) × (t ≡ b ∷ v) × Spells ts v
  Spells (called role ∷ ts) t = (v : List ℕ) × (is_plain_name (name_at names role) ≡ true) × (t ≡ name_at names role ++ v) × Spells ts v
  Spells (numeral ∷ ts) t = (u : List ℕ) × (v : List ℕ) × IsNumber u × (t ≡ u ++ v) × Spells ts v
  Spells (plus_or_minus ∷ ts) t = (b : ℕ) × (v : List ℕ) × (is_sign b ≡ true) × (t ≡ b ∷ v) × Spells ts v
  Spells (anything ∷ ts) t = Unit {0}

  pub Spells-append : (ts us : List Token) (a b : List ℕ) → Spells ts a → Spells us b → Spells (ts ++ us) (a ++ b)
  Spells-append [] us a b p q = subst (λ l. Spells us (l ++ b)) (sym p) q
  Spells-append (letter c ∷ ts) us a b (v, e, p) q = (v ++ b, ap (λ l. l ++ b) e, Spells-append ts us v b p q)
  Spells-append (called role ∷ ts) us a b (v, plain, e, p) q = (v ++ b, plain, ap (λ l. l ++ b) e ∙ append_assoc (name_at names role) v b, Spells-append ts us v b p q)
  Spells-append (numeral ∷ ts) us a b (u, v, is, e, p) q = (u, v ++ b, is, ap (λ l. l ++ b) e ∙ append_assoc u v b, Spells-append ts us v b p q)
  Spells-append (plus_or_minus ∷ ts) us a b (c, v, is, e, p) q = (c, v ++ b, is, ap (λ l. l ++ b) e, Spells-append ts us v b p q)
  Spells-append (anything ∷ ts) us a b p q = tt
