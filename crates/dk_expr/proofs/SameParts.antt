-- Two states that print the same over the same names tell the same, part by part.
use Rattle.std.specs.Prelude.{◌≡◌, ◌==◌, ◌&&◌, ◌||◌, ◌<◌, ◌^◌, ℕ, ℤ, pos, int_lt, Bool, true, false, not, List, [], ◌∷◌, ◌++◌, codes, unsigned_abs, if◌then◌else◌, refl}
use Rattle.std.specs.Fmt.{decimal}
use Rattle.std.specs.List.{list_all, list_any}
use Rattle.std.specs.Ordering.{int_eq}
use Rattle.std.proofs.Common.{◌∙◌, ap, sym}
use Rattle.std.proofs.lemmas.Bool.{and_parts, eqb-true, false≢true}
use Rattle.std.proofs.lemmas.Bool.Decides.{Decides-int_eq}
use Rattle.std.proofs.lemmas.List.{append_cancel_left, append-nil}
use Rattle.dk_forms.specs.declared.states.State.{State}
use Rattle.dk_print.proofs.Alike.{numbers, passes, row}
use Rattle.dk_print.specs.Parts.{Part, word, named, bound, values, null_or, remainder, modulus, lead, term, constant, step, bound_in, code_in, constant_term_in, constant_term_text, factor_at, known_text, modulus_in, name_at, offset_in, remainder_in, step_text, text_by, times_text}
use Rattle.dk_print.specs.Texts.{parts_of_row, row_texts}
use Rattle.dk_template.specs.Templates.{IsRow, rows}
use Rattle.dk_template.specs.declared.grammar.RowId.{RowId}
use Rattle.dk_expr.specs.Following.{IsSmall}
use Rattle.dk_expr.specs.Readable.{are_ended, begins_behind_number, is_ended, says_null}
use Rattle.dk_expr.proofs.Ends.{number_ended}
use Rattle.dk_expr.proofs.SameNumbers.{begins_joint, is_joint, same_numbers, same_steps, same_terms, same_times}

-- ---- what stands behind terms and constants
begins_word : (List ℕ → Bool) → List Part → Bool
begins_word test (word bytes ∷ ps) = test bytes
begins_word test ps = false

-- a blank and a `=`
begins_equal : List ℕ → Bool
begins_equal (a ∷ b ∷ bytes) = a == 32 && b == 61
begins_equal _ = false

joins_next : List Part → Bool
joins_next (term role ∷ ps) = true
joins_next (constant ∷ ps) = begins_word begins_equal ps
joins_next ps = false

is_joined : Part → List Part → Bool
is_joined (lead role) ps = joins_next ps
is_joined (term role) ps = joins_next ps
is_joined constant ps = begins_word begins_equal ps
is_joined p ps = true

pub are_joined : List Part → Bool
are_joined [] = true
are_joined (p ∷ ps) = is_joined p ps && are_joined ps

all_joined : list_all (λ n. are_joined (parts_of_row (row n))) numbers ≡ true
unfolding are_joined is_joined joins_next begins_word begins_equal numbers row_texts rows
all_joined = refl

pub joined_at : (r : RowId) → IsRow r → are_joined (parts_of_row r) ≡ true
joined_at r is = passes (λ n. are_joined (parts_of_row (row n))) all_joined r.0 is.0 is.1

module _ (names : List (List ℕ)) where
  equal_text : (s : State) (ps : List Part) → begins_word begins_equal ps ≡ true → begins_equal (text_by ps names s) ≡ true
  unfolding begins_word begins_equal
  equal_text s (word [] ∷ ps) h = absurd (false≢true h)
  equal_text s (word (a ∷ []) ∷ ps) h = absurd (false≢true h)
  equal_text s (word (a ∷ b ∷ bytes) ∷ ps) h = h
  equal_text s [] h = absurd (false≢true h)
  equal_text s (p ∷ ps) h = absurd (false≢true h)

  joint_by : (text : List ℕ) → begins_equal text ≡ true → begins_joint text ≡ true
  unfolding begins_equal
  joint_by [] h = absurd (false≢true h)
  joint_by (a ∷ []) h = absurd (false≢true h)
  joint_by (a ∷ b ∷ text) h =
      let both = and_parts (a == 32) (b == 61) h in
      rw both.0 (ap is_joint (eqb-true b 61 both.1))

  step_joint : (k : ℤ) (more : List ℕ) → begins_joint (step_text k ++ more) ≡ true
  step_joint k more = by (int_lt k (pos 0))
    where
      by : (b : Bool) → begins_joint (((if b then codes " - " else codes " + ") ++ decimal (unsigned_abs k)) ++ more) ≡ true
      by true = refl
      by false = refl

  joint_text : (s : State) (ps : List Part) → joins_next ps ≡ true → begins_joint (text_by ps names s) ≡ true
  unfolding joins_next
  joint_text s (term role ∷ ps) h = by (int_lt (factor_at s role) (pos 0))
    where
      by : (b : Bool) → begins_joint (((if b then codes " - " else codes " + ") ++ times_text (unsigned_abs (factor_at s role)) (name_at names role)) ++ text_by ps names s) ≡ true
      by true = refl
      by false = refl
  joint_text s (constant ∷ ps) h = by (int_eq (constant_term_in s) (pos 0))
    where
      by : (b : Bool) → begins_joint ((if b then [] else step_text (constant_term_in s)) ++ text_by ps names s) ≡ true
      by true = joint_by (text_by ps names s) (equal_text s ps h)
      by false = step_joint (constant_term_in s) (text_by ps names s)
  joint_text s [] h = absurd (false≢true h)
  joint_text s (p ∷ ps) h = absurd (false≢true h)

  -- ---- constants
  no_step : (k : ℤ) (more text : List ℕ) → begins_equal text ≡ true → step_text k ++ more ≡ text → ⊥
  unfolding begins_equal
  no_step k more text h e = by (int_lt k (pos 0)) (ap begins_equal e ∙ h)
    where
      by : (b : Bool) → begins_equal (((if b then codes " - " else codes " + ") ++ decimal (unsigned_abs k)) ++ more) ≡ true → ⊥
      by true h = false≢true h
      by false h = false≢true h

  zero_by : (k : ℤ) → int_eq k (pos 0) ≡ true → k ≡ pos 0
  zero_by k h = (Decides-int_eq k (pos 0)).0 h

  same_constants : (k l : ℤ) (a b : List ℕ) → unsigned_abs k < 2 ^ 127 → unsigned_abs l < 2 ^ 127 → begins_equal a ≡ true → begins_equal b ≡ true
      → begins_behind_number a ≡ true → begins_behind_number b ≡ true → constant_term_text k ++ a ≡ constant_term_text l ++ b → (k ≡ l) × (a ≡ b)
  same_constants k l a b p q c d x y e = by (int_eq k (pos 0)) (int_eq l (pos 0)) refl refl e
    where
      by : (u v : Bool) → int_eq k (pos 0) ≡ u → int_eq l (pos 0) ≡ v → (if u then [] else step_text k) ++ a ≡ (if v then [] else step_text l) ++ b → (k ≡ l) × (a ≡ b)
      by true true f g e = (zero_by k f ∙ sym (zero_by l g), e)
      by true false f g e = absurd (no_step l b a c (sym e))
      by false true f g e = absurd (no_step k a b d e)
      by false false f g e = same_steps k l a b p q x y e

  module _ (s t : State) (small : IsSmall s) (other : IsSmall t) (arity : ℕ) where
    -- both states tell the same by this part
    abbrev pub TellsSame : Part → Type 0
    TellsSame bound = bound_in s ≡ bound_in t
    TellsSame values = known_text s ≡ known_text t
    TellsSame (null_or bytes) = (code_in s == 0) ≡ (code_in t == 0)
    TellsSame remainder = remainder_in s ≡ remainder_in t
    TellsSame modulus = modulus_in s ≡ modulus_in t
    TellsSame (lead role) = unsigned_abs (factor_at s role) ≡ unsigned_abs (factor_at t role)
    TellsSame (term role) = factor_at s role ≡ factor_at t role
    TellsSame constant = constant_term_in s ≡ constant_term_in t
    TellsSame step = offset_in s ≡ offset_in t
    TellsSame p = Unit {0}

    same_null : (bytes : List ℕ) (b c : Bool) → not (says_null bytes) ≡ true → (if b then codes " == null" else bytes) ≡ (if c then codes " == null" else bytes) → b ≡ c
    same_null bytes true true h e = refl
    same_null bytes false false h e = refl
    same_null bytes true false h e = absurd (false≢true (ap (λ x. not (says_null x)) e ∙ h))
    same_null bytes false true h e = absurd (false≢true (ap (λ x. not (says_null x)) (sym e) ∙ h))

    same_part : (p : Part) (ps : List Part) → is_ended arity p ps ≡ true → is_joined p ps ≡ true → text_by (p ∷ ps) names s ≡ text_by (p ∷ ps) names t → TellsSame p × (text_by ps names s ≡ text_by ps names t)
    unfolding is_joined
    same_part (word bytes) ps h j e = (tt, append_cancel_left bytes (text_by ps names s) (text_by ps names t) e)
    same_part (named role) ps h j e = (tt, append_cancel_left (name_at names role) (text_by ps names s) (text_by ps names t) e)
    same_part bound ps h j e = same_numbers (bound_in s) (bound_in t) (text_by ps names s) (text_by ps names t) small.bound other.bound (number_ended names s ps h) (number_ended names t ps h) e
    same_part values [] h j e = (sym (append-nil (known_text s)) ∙ e ∙ append-nil (known_text t), refl)
    same_part values (q ∷ ps) h j e = absurd (false≢true h)
    same_part (null_or bytes) [] h j e =
        let x : List ℕ = if code_in s == 0 then codes " == null" else bytes in
        let y : List ℕ = if code_in t == 0 then codes " == null" else bytes in
        (same_null bytes (code_in s == 0) (code_in t == 0) (and_parts (not (says_null bytes)) true h).0 (sym (append-nil x) ∙ e ∙ append-nil y), refl)
    same_part (null_or bytes) (q ∷ ps) h j e = absurd (false≢true (and_parts (not (says_null bytes)) false h).1)
    same_part remainder ps h j e =
        let both = same_numbers (pos (remainder_in s)) (pos (remainder_in t)) (text_by ps names s) (text_by ps names t) small.remainder other.remainder (number_ended names s ps h) (number_ended names t ps h) e in
        (ap unsigned_abs both.0, both.1)
    same_part modulus ps h j e =
        let both = same_numbers (pos (modulus_in s)) (pos (modulus_in t)) (text_by ps names s) (text_by ps names t) small.modulus other.modulus (number_ended names s ps h) (number_ended names t ps h) e in
        (ap unsigned_abs both.0, both.1)
    same_part (lead role) ps h j e =
        same_times (unsigned_abs (factor_at s role)) (unsigned_abs (factor_at t role)) (name_at names role) (text_by ps names s) (text_by ps names t) (small.factor role) (other.factor role) (joint_text s ps j) (joint_text t ps j) e
    same_part (term role) ps h j e =
        same_terms (factor_at s role) (factor_at t role) (name_at names role) (text_by ps names s) (text_by ps names t) (small.factor role) (other.factor role) (joint_text s ps j) (joint_text t ps j) e
    same_part constant ps h j e =
        same_constants (constant_term_in s) (constant_term_in t) (text_by ps names s) (text_by ps names t) small.constant other.constant (equal_text s ps j) (equal_text t ps j) (number_ended names s ps h) (number_ended names t ps h) e
    same_part step ps h j e =
        same_steps (offset_in s) (offset_in t) (text_by ps names s) (text_by ps names t) small.offset other.offset (number_ended names s ps h) (number_ended names t ps h) e

    -- so by each part of one kind
    pub same_by : (sets : Part → Bool) (q : Type 0) → ((p : Part) → sets p ≡ true → TellsSame p → q) → (ps : List Part) → are_ended arity ps ≡ true → are_joined ps ≡ true
        → text_by ps names s ≡ text_by ps names t → list_any sets ps ≡ true → q
    unfolding are_joined
    same_by sets q tells [] ended joined e any = absurd (false≢true any)
    same_by sets q tells (p ∷ ps) ended joined e any =
        by (sets p) refl (and_parts (is_ended arity p ps) (are_ended arity ps) ended) (and_parts (is_joined p ps) (are_joined ps) joined) any
        (λ (x : are_ended arity ps ≡ true) (y : are_joined ps ≡ true) (f : text_by ps names s ≡ text_by ps names t) (a : list_any sets ps ≡ true). same_by sets q tells ps x y f a)
      where
        by : (b : Bool) → sets p ≡ b → (is_ended arity p ps ≡ true) × (are_ended arity ps ≡ true) → (is_joined p ps ≡ true) × (are_joined ps ≡ true) → (sets p || list_any sets ps) ≡ true
            → (are_ended arity ps ≡ true → are_joined ps ≡ true → text_by ps names s ≡ text_by ps names t → list_any sets ps ≡ true → q) → q
        by true f x y any rest = tells p f (same_part p ps x.0 y.0 e).0
        by false f x y any rest = rest x.1 y.1 (same_part p ps x.0 y.0 e).1 (ap (λ b. b || list_any sets ps) (sym f) ∙ any)
