-- Each text is spelled by one of the lines of its row.
use Rattle.std.specs.Prelude.{◌≡◌, ◌⊎◌, ◌==◌, ◌++◌, ℕ, ℤ, pos, int_lt, unsigned_abs, Bool, IsTrue, true, false, List, [], ◌∷◌, codes, flat_map, map, if◌then◌else◌, refl}
use Rattle.std.specs.Fmt.{decimal, signed_decimal}
use Rattle.std.specs.Ordering.{int_eq}
use Rattle.std.specs.Str.{bytes_eq}
use Rattle.std.proofs.Common.{inl, inr, sym, ap, subst}
use Rattle.std.proofs.lemmas.Bool.{and_parts, eqb-true, false≢true, or_cases}
use Rattle.std.proofs.lemmas.List.{append-nil}
use Rattle.std.proofs.lemmas.List.Elements.{All-head}
use Rattle.std.proofs.lemmas.Slice.Eq.{bytes_eq-Decides}
use Rattle.dk_base.specs.Values.Items.{closes_quote, is_quoted, is_text}
use Rattle.dk_print.specs.Laws.{TellsStrings}
use Rattle.dk_print.specs.Names.{is_plain_name}
use Rattle.dk_print.specs.Parts.{Part, word, named, bound, values, null_or, remainder, modulus, lead, term, constant, step, bound_in, code_in, constant_term_in, factor_at, known_text, modulus_in, name_at, offset_in, part_text, remainder_in, sign_text, step_text, text_by, times_text}
use Rattle.dk_forms.specs.declared.states.State.{State}
use Rattle.dk_forms.specs.declared.states.State.TheVariants as state
use Rattle.dk_print.proofs.Decimals.{number-decimal, number-signed}
use Rattle.dk_print.proofs.Forms.{factored, forms_of, letters, lines_of, saying, signed, times}
use Rattle.dk_print.proofs.Tokens.{Token, called, numeral, anything, IsNumber, Spells, Spells-append}

-- ---- being in a list
abbrev pub In : {A : Type 0} → List A → A → Type 0
In [] x = ⊥
In (y ∷ ys) x = (y ≡ x) ⊎ In ys x

pub in-front : {A : Type 0} (xs ys : List A) (x : A) → In xs x → In (xs ++ ys) x
in-front [] ys x i = elim i [ ]
in-front (y ∷ xs) ys x (inl e) = inl e
in-front (y ∷ xs) ys x (inr i) = inr (in-front xs ys x i)

pub in-behind : {A : Type 0} (xs ys : List A) (x : A) → In ys x → In (xs ++ ys) x
in-behind [] ys x i = i
in-behind (y ∷ xs) ys x i = inr (in-behind xs ys x i)

pub in-map : {A B : Type 0} (f : A → B) (xs : List A) (x : A) → In xs x → In (map f xs) (f x)
in-map f [] x i = elim i [ ]
in-map f (y ∷ xs) x (inl e) = inl (ap f e)
in-map f (y ∷ xs) x (inr i) = inr (in-map f xs x i)

pub in-flat_map : {A B : Type 0} (f : A → List B) (xs : List A) (x : A) (y : B) → In xs x → In (f x) y → In (flat_map f xs) y
in-flat_map f [] x y k i = elim k [ ]
in-flat_map f (z ∷ xs) x y (inl e) i = in-front (f z) (flat_map f xs) y (subst (λ w. In (f w) y) (sym e) i)
in-flat_map f (z ∷ xs) x y (inr k) i = in-behind (f z) (flat_map f xs) y (in-flat_map f xs x y k i)

-- ---- texts that are spelled
-- a string's text is `null`, or it begins with a quote (34)
IsString : List ℕ → Type 0
IsString t = (t ≡ codes "null") ⊎ ((rest : List ℕ) × (t ≡ 34 ∷ rest))

a-string : (t : List ℕ) → IsTrue (is_text t) → IsString t
unfolding IsString is_text is_quoted
a-string t h = elim (or_cases (bytes_eq t (codes "null")) (is_quoted t) h) as (λ _. (t ≡ codes "null") ⊎ ((rest : List ℕ) × (t ≡ 34 ∷ rest))) [
  | inl e ↦ inl ((bytes_eq-Decides t (codes "null")).0 e)
  | inr q ↦ inr (quoted t q)
]
  where
    quoted : (t : List ℕ) → is_quoted t ≡ true → (rest : List ℕ) × (t ≡ 34 ∷ rest)
    quoted [] q = absurd (false≢true q)
    quoted (b ∷ bs) q = (bs, ap (λ c. c ∷ bs) (eqb-true b 34 (and_parts (b == 34) (closes_quote false bs) q).0))

module _ (names : List (List ℕ)) where
  -- one of these forms spells the text
  pub record Formed (forms : List (List Token)) (text : List ℕ) : Type 0 where
    pub tokens : List Token
    pub among : In forms tokens
    pub spells : Spells names tokens text

  first-form : (form : List Token) (forms : List (List Token)) (text : List ℕ) → Spells names form text → Formed (form ∷ forms) text
  first-form form forms text p = record { tokens = form; among = inl refl; spells = p }

  later-form : (form : List Token) (forms : List (List Token)) (text : List ℕ) → Formed forms text → Formed (form ∷ forms) text
  later-form form forms text f = record { tokens = f.tokens; among = inr f.among; spells = f.spells }

  by-letters : (bytes : List ℕ) → Spells names (letters bytes) bytes
  by-letters [] = refl
  by-letters (b ∷ bytes) = (bytes, refl, by-letters bytes)

  by-number : (text : List ℕ) → IsNumber text → Spells names (numeral ∷ []) text
  by-number text is = (text, [], is, sym (append-nil text), refl)

  by-name : (role : ℕ) → is_plain_name (name_at names role) ≡ true → Spells names (called role ∷ []) (name_at names role)
  by-name role plain = ([], plain, sym (append-nil (name_at names role)), refl)

  -- a word, and a number or anything behind it
  behind-number : (bytes text : List ℕ) → IsNumber text → Spells names (letters bytes ++ numeral ∷ []) (bytes ++ text)
  behind-number bytes text is = Spells-append names (letters bytes) (numeral ∷ []) bytes text (by-letters bytes) (by-number text is)

  behind-any : (bytes text : List ℕ) → Spells names (letters bytes ++ anything ∷ []) (bytes ++ text)
  behind-any bytes text = Spells-append names (letters bytes) (anything ∷ []) bytes text (by-letters bytes) tt

  -- ---- terms
  by-sign : (k : ℤ) → Spells names signed (sign_text k)
  by-sign k = by (int_lt k (pos 0))
    where
      by : (b : Bool) → Spells names signed (if b then codes " - " else codes " + ")
      by true = (_, refl, (45, _, refl, refl, (_, refl, refl)))
      by false = (_, refl, (43, _, refl, refl, (_, refl, refl)))

  by-step : (k : ℤ) → Spells names (signed ++ numeral ∷ []) (step_text k)
  by-step k = Spells-append names signed (numeral ∷ []) (sign_text k) (decimal (unsigned_abs k)) (by-sign k) (by-number (decimal (unsigned_abs k)) (number-decimal (unsigned_abs k)))

  by-product : (n role : ℕ) → is_plain_name (name_at names role) ≡ true → Spells names (times role) (decimal n ++ codes " * " ++ name_at names role)
  by-product n role plain =
      Spells-append names (numeral ∷ saying " * ") (called role ∷ []) (decimal n ++ codes " * ") (name_at names role)
      (Spells-append names (numeral ∷ []) (saying " * ") (decimal n) (codes " * ") (by-number (decimal n) (number-decimal n)) (by-letters (codes " * ")))
      (by-name role plain)

  by-factor : (n role : ℕ) → is_plain_name (name_at names role) ≡ true → Formed (factored role) (times_text n (name_at names role))
  by-factor n role plain = by (n == 1)
    where
      by : (b : Bool) → Formed (factored role) (if b then name_at names role else decimal n ++ codes " * " ++ name_at names role)
      by true = record { tokens = called role ∷ []; among = inl refl; spells = by-name role plain }
      by false = record { tokens = times role; among = inr (inl refl); spells = by-product n role plain }

  -- ---- parts
  -- the variables that a part names have plain names
  abbrev pub NamesPlain : Part → Type 0
  NamesPlain (named role) = is_plain_name (name_at names role) ≡ true
  NamesPlain (lead role) = is_plain_name (name_at names role) ≡ true
  NamesPlain (term role) = is_plain_name (name_at names role) ≡ true
  NamesPlain p = Unit {0}

  string-formed : (t : List ℕ) → IsString t → Formed (forms_of values) (codes " == " ++ t)
  unfolding IsString
  string-formed t (inl is) = record { tokens = _; among = inr (inr (inr (inr (inl refl)))); spells = subst (λ x. Spells names (saying " == null") (codes " == " ++ x)) (sym is) (by-letters (codes " == null")) }
  string-formed t (inr (rest, is)) =
      record { tokens = _; among = inr (inr (inr (inr (inr (inl refl))))); spells = subst (λ x. Spells names (saying " == \"" ++ anything ∷ []) (codes " == " ++ x)) (sym is) (behind-any (codes " == \"") rest) }

  known-formed : (s : State) → TellsStrings s → Formed (forms_of values) (known_text s)
  known-formed (state.Ints []) strings = record { tokens = []; among = inl refl; spells = refl }
  known-formed (state.Ints (k ∷ [])) strings = record { tokens = _; among = inr (inl refl); spells = behind-number (codes " == ") (signed_decimal k) (number-signed k) }
  known-formed (state.Ints (k ∷ l ∷ ks)) strings = record { tokens = _; among = inr (inr (inr (inr (inr (inr (inl refl)))))); spells = behind-any (codes " one of { ") _ }
  known-formed (state.Truth true) strings = record { tokens = _; among = inr (inr (inl refl)); spells = by-letters (codes " == true") }
  known-formed (state.Truth false) strings = record { tokens = _; among = inr (inr (inr (inl refl))); spells = by-letters (codes " == false") }
  known-formed (state.Texts []) strings = record { tokens = []; among = inl refl; spells = refl }
  known-formed (state.Texts (t ∷ [])) strings = string-formed t (a-string t (All-head (λ x. IsTrue (is_text x)) t [] strings))
  known-formed (state.Texts (t ∷ u ∷ ts)) strings = record { tokens = _; among = inr (inr (inr (inr (inr (inr (inl refl)))))); spells = behind-any (codes " one of { ") _ }
  known-formed _ strings = record { tokens = []; among = inl refl; spells = refl }

  pub part-formed : (s : State) (p : Part) → TellsStrings s → NamesPlain p → Formed (forms_of p) (part_text names s p)
  part-formed s (word bytes) strings plain = first-form (letters bytes) [] _ (by-letters bytes)
  part-formed s (named role) strings plain = first-form (called role ∷ []) [] _ (by-name role plain)
  part-formed s bound strings plain = first-form (numeral ∷ []) [] _ (by-number _ (number-signed (bound_in s)))
  part-formed s values strings plain = known-formed s strings
  part-formed s (null_or bytes) strings plain = by (code_in s == 0)
    where
      by : (b : Bool) → Formed (forms_of (null_or bytes)) (if b then codes " == null" else bytes)
      by true = first-form (saying " == null") _ _ (by-letters (codes " == null"))
      by false = later-form (saying " == null") _ _ (first-form (letters bytes) [] _ (by-letters bytes))
  part-formed s remainder strings plain = first-form (numeral ∷ []) [] _ (by-number _ (number-decimal (remainder_in s)))
  part-formed s modulus strings plain = first-form (numeral ∷ []) [] _ (by-number _ (number-decimal (modulus_in s)))
  part-formed s (lead role) strings plain = by-factor (unsigned_abs (factor_at s role)) role plain
  part-formed s (term role) strings plain =
      let f = by-factor (unsigned_abs (factor_at s role)) role plain in
      record {
        tokens = signed ++ f.tokens;
        among = in-map (λ ts. signed ++ ts) (factored role) f.tokens f.among;
        spells = Spells-append names signed f.tokens (sign_text (factor_at s role)) _ (by-sign (factor_at s role)) f.spells;
      }
  part-formed s constant strings plain = by (int_eq (constant_term_in s) (pos 0))
    where
      by : (b : Bool) → Formed (forms_of constant) (if b then [] else step_text (constant_term_in s))
      by true = first-form [] _ _ refl
      by false = later-form [] _ _ (first-form (signed ++ numeral ∷ []) [] _ (by-step (constant_term_in s)))
  part-formed s step strings plain = first-form (signed ++ numeral ∷ []) [] _ (by-step (offset_in s))

  abbrev pub AllNamesPlain : List Part → Type 0
  AllNamesPlain [] = Unit {0}
  AllNamesPlain (p ∷ ps) = NamesPlain p × AllNamesPlain ps

  -- a text of parts is spelled by one of their lines
  pub text-formed : (s : State) (ps : List Part) → TellsStrings s → AllNamesPlain ps → Formed (lines_of ps) (text_by ps names s)
  text-formed s [] strings plain = record { tokens = []; among = inl refl; spells = refl }
  text-formed s (p ∷ ps) strings (here, rest) =
      let f = part-formed s p strings here in
      let g = text-formed s ps strings rest in
      record {
        tokens = f.tokens ++ g.tokens;
        among = in-flat_map (λ a. map (λ b. a ++ b) (lines_of ps)) (forms_of p) f.tokens (f.tokens ++ g.tokens) f.among (in-map (λ b. f.tokens ++ b) (lines_of ps) g.tokens g.among);
        spells = Spells-append names f.tokens g.tokens (part_text names s p) (text_by ps names s) f.spells g.spells;
      }
