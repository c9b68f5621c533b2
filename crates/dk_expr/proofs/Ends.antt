-- Where the text of a part ends.
use Rattle.std.specs.Prelude.{◌≡◌, ◌==◌, ◌++◌, ℕ, ℤ, pos, int_lt, nat_eq, Bool, true, false, List, [], ◌∷◌, codes, unsigned_abs, if◌then◌else◌, refl}
use Rattle.std.specs.List.{starts_with}
use Rattle.std.specs.Fmt.{decimal}
use Rattle.std.specs.Ordering.{int_eq}
use Rattle.std.proofs.Common.{arith}
use Rattle.std.proofs.lemmas.Bool.{false≢true}
use Rattle.dk_forms.specs.declared.states.State.{State}
use Rattle.dk_forms.specs.declared.states.State.TheVariants as state
use Rattle.dk_print.specs.Parts.{Part, word, named, bound, values, null_or, remainder, modulus, lead, term, constant, step, code_in, constant_term_in, factor_at, known_text, name_at, offset_in, sign_text, step_text, term_text, text_by, times_text}
use Rattle.dk_expr.specs.Readable.{begin_blank, begins_behind_number, begins_blank, begins_by, ends_name, may_be}

-- a list begins with itself
pub starts_itself : (bytes more : List ℕ) → starts_with nat_eq (bytes ++ more) bytes ≡ true
starts_itself [] more = refl
starts_itself (b ∷ bytes) more = rw (same b) (starts_itself bytes more)
  where
    same : (n : ℕ) → (n == n) ≡ true
    same n = grind arith

module _ (names : List (List ℕ)) (s : State) where
  -- what follows a number ends it
  pub number_ended : (ps : List Part) → begins_by begins_behind_number ps ≡ true → begins_behind_number (text_by ps names s) ≡ true
  number_ended [] h = refl
  number_ended (word [] ∷ ps) h = absurd (false≢true h)
  number_ended (word (b ∷ bytes) ∷ ps) h = h
  number_ended (p ∷ ps) h = absurd (false≢true h)

  -- ---- what begins with a blank
  sign_blank : (k : ℤ) (more : List ℕ) → begins_blank (sign_text k ++ more) ≡ true
  sign_blank k more = by (int_lt k (pos 0))
    where
      by : (b : Bool) → begins_blank ((if b then codes " - " else codes " + ") ++ more) ≡ true
      by true = refl
      by false = refl

  step_blank : (k : ℤ) (more : List ℕ) → begins_blank (step_text k ++ more) ≡ true
  step_blank k more = by (int_lt k (pos 0))
    where
      by : (b : Bool) → begins_blank (((if b then codes " - " else codes " + ") ++ decimal (unsigned_abs k)) ++ more) ≡ true
      by true = refl
      by false = refl

  term_blank : (k : ℤ) (name more : List ℕ) → begins_blank (term_text k name ++ more) ≡ true
  term_blank k name more = by (int_lt k (pos 0))
    where
      by : (b : Bool) → begins_blank (((if b then codes " - " else codes " + ") ++ times_text (unsigned_abs k) name) ++ more) ≡ true
      by true = refl
      by false = refl

  values_blank : (t : State) → begins_blank (known_text t ++ []) ≡ true
  values_blank (state.Ints []) = refl
  values_blank (state.Ints (k ∷ [])) = refl
  values_blank (state.Ints (k ∷ l ∷ ks)) = refl
  values_blank (state.Truth true) = refl
  values_blank (state.Truth false) = refl
  values_blank (state.Texts []) = refl
  values_blank (state.Texts (t ∷ [])) = refl
  values_blank (state.Texts (t ∷ u ∷ ts)) = refl
  values_blank _ = refl

  blank_by : (ps : List Part) → begins_by begins_blank ps ≡ true → begins_blank (text_by ps names s) ≡ true
  blank_by [] h = refl
  blank_by (word [] ∷ ps) h = absurd (false≢true h)
  blank_by (word (b ∷ bytes) ∷ ps) h = h
  blank_by (p ∷ ps) h = absurd (false≢true h)

  pub blank_begun : (ps : List Part) → begin_blank ps ≡ true → begins_blank (text_by ps names s) ≡ true
  blank_begun (values ∷ []) h = values_blank s
  blank_begun (null_or [] ∷ ps) h = absurd (false≢true h)
  blank_begun (null_or (b ∷ bytes) ∷ ps) h = by (code_in s == 0)
    where
      by : (c : Bool) → begins_blank ((if c then codes " == null" else b ∷ bytes) ++ text_by ps names s) ≡ true
      by true = refl
      by false = h
  blank_begun (term role ∷ ps) h = term_blank (factor_at s role) (name_at names role) (text_by ps names s)
  blank_begun (step ∷ ps) h = step_blank (offset_in s) (text_by ps names s)
  blank_begun (constant ∷ ps) h = by (int_eq (constant_term_in s) (pos 0))
    where
      by : (c : Bool) → begins_blank ((if c then [] else step_text (constant_term_in s)) ++ text_by ps names s) ≡ true
      by true = blank_by ps h
      by false = step_blank (constant_term_in s) (text_by ps names s)
  blank_begun ps h = absurd (false≢true h)

  -- what follows a name may be what these parts say
  pub name_ended : (ps : List Part) → ends_name ps ≡ true → may_be ps (text_by ps names s) ≡ true
  name_ended [] h = refl
  name_ended (word bytes ∷ ps) h = starts_itself bytes (text_by ps names s)
  name_ended (named role ∷ ps) h = blank_begun (named role ∷ ps) h
  name_ended (bound ∷ ps) h = blank_begun (bound ∷ ps) h
  name_ended (values ∷ ps) h = blank_begun (values ∷ ps) h
  name_ended (null_or bytes ∷ ps) h = blank_begun (null_or bytes ∷ ps) h
  name_ended (remainder ∷ ps) h = blank_begun (remainder ∷ ps) h
  name_ended (modulus ∷ ps) h = blank_begun (modulus ∷ ps) h
  name_ended (lead role ∷ ps) h = blank_begun (lead role ∷ ps) h
  name_ended (term role ∷ ps) h = blank_begun (term role ∷ ps) h
  name_ended (constant ∷ ps) h = blank_begun (constant ∷ ps) h
  name_ended (step ∷ ps) h = blank_begun (step ∷ ps) h
