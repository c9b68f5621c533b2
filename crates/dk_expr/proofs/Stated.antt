-- What is found in a text is the state that it tells.
use Rattle.std.specs.Prelude.{◌≡◌, ◌<◌, ◌≤◌, ◌^◌, ℕ, ℤ, pos, All, Bool, IsTrue, List, [], ◌∷◌, Option, Some, drop, if◌then◌else◌, length, map}
use Rattle.std.specs.Fmt.{signed_decimal}
use Rattle.std.specs.List.{list_all}
use Rattle.std.proofs.Common.{◌∙◌, ap, arith, subst, sym}
use Rattle.std.proofs.lemmas.Bool.{and_parts, ltb-true}
use Rattle.std.proofs.lemmas.List.{length-map}
use Rattle.std.proofs.lemmas.List.Elements.{All-cons, All-nil, All-weaker}
use Rattle.dk_base.specs.Values.Items.{is_text}
use Rattle.dk_base.specs.Numbers.{fits_i64}
use Rattle.dk_forms.specs.declared.states.State.{State}
use Rattle.dk_forms.specs.declared.states.State.TheVariants as state
use Rattle.dk_print.specs.Parts.{known_text, values_text}
use Rattle.dk_template.specs.Fitting.{fits}
use Rattle.dk_template.specs.Proper.{IsProper}
use Rattle.dk_template.specs.declared.templates.StateForm.{StateForm}
use Rattle.dk_template.specs.declared.templates.StateForm.TheVariants as form
use Rattle.dk_expr.specs.Held.{is_held}
use Rattle.dk_expr.specs.Readable.{says_null}
use Rattle.dk_expr.specs.Telling.{Tells, printed_state}
use Rattle.dk_expr.specs.Valued.{IsValueText}
use Rattle.dk_expr.specs.declared.found.Parsed.{Parsed}
use Rattle.dk_expr.proofs.Shapes.{Shape, shape_of}
use Rattle.dk_expr.proofs.Small.{small_whole}
use Rattle.dk_expr.proofs.ValueTexts.{number_texts, number_value, string_value}

-- ---- values
-- the texts that are the values that were found
abbrev pub ReadsTexts : List ℕ → List (List ℕ) → Type 0
ReadsTexts bytes found = (texts : List (List ℕ)) → All IsValueText texts → 1 ≤ length texts → length texts ≤ 3 → bytes ≡ values_text (λ t. t) texts → found ≡ texts

number_values : (ks : List ℤ) → IsTrue (list_all fits_i64 ks) → All IsValueText (map signed_decimal ks)
number_values [] h = All-nil IsValueText
number_values (k ∷ ks) h =
    let both = and_parts (fits_i64 k) (list_all fits_i64 ks) h in
    All-cons IsValueText (signed_decimal k) (map signed_decimal ks) (number_value k (small_whole k both.0)) (number_values ks both.1)

-- the texts of whole numbers are found
pub numbers_found : (bytes : List ℕ) (found : List (List ℕ)) (ks : List ℤ) → ReadsTexts bytes found → IsTrue (list_all fits_i64 ks) → 1 ≤ length ks → length ks ≤ 3
    → bytes ≡ values_text signed_decimal ks → found ≡ map signed_decimal ks
numbers_found bytes found ks reads fit some few is =
    let long : length (map signed_decimal ks) ≡ length ks = length-map ks signed_decimal in
    reads (map signed_decimal ks) (number_values ks fit) (omega (arith, long, some)) (omega (arith, long, few)) (is ∙ number_texts ks)

string_values : (ts : List (List ℕ)) → All (λ t. IsTrue (is_text t)) ts → All IsValueText ts
string_values ts strings = All-weaker (λ t. IsTrue (is_text t)) IsValueText string_value ts strings

-- ---- states
module _ (text : List ℕ) (f : Parsed) where
  -- what is made of it, by the form of the state
  abbrev pub Makes : StateForm → Option State → Type 0
  Makes form.Plain r = r ≡ Some state.Holds
  Makes form.Least r = IsTrue (fits_i64 f.bound) → r ≡ Some (state.Least f.bound)
  Makes form.Greatest r = IsTrue (fits_i64 f.bound) → r ≡ Some (state.Greatest f.bound)
  Makes form.Ints r = (ks : List ℤ) → IsTrue (list_all fits_i64 ks) → 1 ≤ length ks → length ks ≤ 3 → drop f.values text ≡ known_text (state.Ints ks) → r ≡ Some (state.Ints ks)
  Makes form.Truth r = (b : Bool) → drop f.values text ≡ known_text (state.Truth b) → r ≡ Some (state.Truth b)
  Makes form.Code r = r ≡ Some (state.Code (if says_null (drop f.code text) then 0 else 1))
  Makes form.Texts r = (ts : List (List ℕ)) → All IsValueText ts → 1 ≤ length ts → length ts ≤ 3 → drop f.values text ≡ known_text (state.Texts ts) → r ≡ Some (state.Texts ts)
  Makes form.Modulus r = (m k : ℕ) → m < 2 ^ 64 → k < 2 ^ 64 → f.modulus ≡ pos m → f.remainder ≡ pos k → r ≡ Some (state.Modulus m k)
  Makes form.Line r = r ≡ Some (state.Straight f.first_factor f.second_factor f.constant)
  Makes form.Plane r = r ≡ Some (state.Plane f.first_factor f.second_factor f.third_factor f.constant)
  Makes form.Offset r = r ≡ Some (state.Offset f.offset)

  module _ (r : Option State) where
    -- the state is the one that it tells
    IsTold : State → Type 0
    IsTold s = r ≡ Some (printed_state s)

    by_shape : (form : StateForm) (s : State) → Makes form r → IsProper form s → IsTrue (is_held s) → Tells text f s → Shape form s → r ≡ Some (printed_state s)
    by_shape form.Plain s makes p h tells is = makes ∙ ap (λ t. Some (printed_state t)) (sym is)
    by_shape form.Least s makes p h tells (k, is) =
        let own : f.bound ≡ k = subst (Tells text f) is tells in
        let held : IsTrue (fits_i64 k) = subst (λ t. IsTrue (is_held t)) is h in
        makes (ap fits_i64 own ∙ held) ∙ ap (λ z. Some (state.Least z)) own ∙ ap (λ t. Some (printed_state t)) (sym is)
    by_shape form.Greatest s makes p h tells (k, is) =
        let own : f.bound ≡ k = subst (Tells text f) is tells in
        let held : IsTrue (fits_i64 k) = subst (λ t. IsTrue (is_held t)) is h in
        makes (ap fits_i64 own ∙ held) ∙ ap (λ z. Some (state.Greatest z)) own ∙ ap (λ t. Some (printed_state t)) (sym is)
    by_shape form.Ints s makes p h tells (ks, is, fit, some, few) =
        makes ks fit some few (subst (Tells text f) is tells) ∙ ap (λ t. Some (printed_state t)) (sym is)
    by_shape form.Truth s makes p h tells (b, is) = makes b (subst (Tells text f) is tells) ∙ ap (λ t. Some (printed_state t)) (sym is)
    by_shape form.Code s makes p h tells (c, is) =
        makes ∙ ap (λ b. Some (state.Code (if b then 0 else 1))) (subst (Tells text f) is tells) ∙ ap (λ t. Some (printed_state t)) (sym is)
    by_shape form.Texts s makes p h tells (ts, is, strings, some, few) =
        makes ts (string_values ts strings) some few (subst (Tells text f) is tells) ∙ ap (λ t. Some (printed_state t)) (sym is)
    by_shape form.Modulus s makes p h tells (m, k, is) =
        let own = subst (Tells text f) is tells in
        let small = ltb-true m (2 ^ 64) (subst (λ t. IsTrue (is_held t)) is h) in
        let proper = subst (IsProper form.Modulus) is p in
        makes m k small (omega (arith, small, proper.1)) own.0 own.1 ∙ ap (λ t. Some (printed_state t)) (sym is)
    by_shape form.Line s makes p h tells (a, b, c, is) =
        let own = subst (Tells text f) is tells in
        makes ∙ (λ i. Some (state.Straight (own.0 i) (own.1 i) (own.2 i))) ∙ ap (λ t. Some (printed_state t)) (sym is)
    by_shape form.Plane s makes p h tells (a, b, c, d, is) =
        let own = subst (Tells text f) is tells in
        makes ∙ (λ i. Some (state.Plane (own.0 i) (own.1 i) (own.2 i) (own.3 i))) ∙ ap (λ t. Some (printed_state t)) (sym is)
    by_shape form.Offset s makes p h tells (k, is) = makes ∙ ap (λ z. Some (state.Offset z)) (subst (Tells text f) is tells) ∙ ap (λ t. Some (printed_state t)) (sym is)

    -- what is made of it is the state that it tells, as far as it is printed
    pub made_told : (form own : StateForm) (s : State) → form ≡ own → Makes own r → IsProper form s → IsTrue (fits s) → IsTrue (is_held s) → Tells text f s → r ≡ Some (printed_state s)
    made_told form own s is makes proper fit held tells =
        let here = subst (λ o. IsProper o s) is proper in
        by_shape own s makes here held tells (shape_of own s here fit held)
