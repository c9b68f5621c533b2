-- Which rows want memory, and the one that compares sequences of strings without any.
use Rattle.std.specs.Prelude.{◌≡◌, ◌≢◌, ◌<◌, ◌&&◌, ◌||◌, ◌==◌, ℕ, zero, suc, Bool, true, false, not, List, [], ◌∷◌, Some, OnErr, Result, Ok, Err, if◌then◌else◌, length, refl, slice_get}
use Rattle.std.specs.Bool.{Decides}
use Rattle.std.specs.List.{list_all, list_any, range_with_len}
use Rattle.std.specs.Str.{bytes_eq}
use Rattle.std.proofs.Common.{ap, ◌∙◌, arith, sym, inl, inr, subst}
use Rattle.std.proofs.lemmas.Bool.{and_parts, cases_Bool, eqb-true, false≢true, or_cases}
use Rattle.std.proofs.lemmas.Slice.Eq.{bytes_eq-Decides}
use Rattle.dk_base.specs.Values.Tuples.{texts_of, value_at}
use Rattle.dk_base.specs.Values.{kind_of}
use Rattle.dk_base.specs.declared.kinds.Kind.{Kind}
use Rattle.dk_base.specs.declared.kinds.Kind.TheVariants as kind
use Rattle.dk_base.specs.declared.values.Value.{Value}
use Rattle.dk_base.specs.declared.values.Value.TheVariants as value
use Rattle.dk_instances.proofs.Members.{in_range}
use Rattle.dk_instances.proofs.Alike.{pairwise_tells}
use Rattle.dk_forms.specs.Laws.{IsIn}
use Rattle.dk_forms.specs.Plain.{plain_of}
use Rattle.dk_forms.specs.declared.states.State.TheVariants as state
use Rattle.dk_meanings.proofs.RowLaws.{plain_rows}
use Rattle.dk_meanings.specs.Meanings.{meanings, relation_of, state_of}
use Rattle.dk_meanings.specs.Relations.{are_pairwise}
use Rattle.dk_template.specs.Admitted.{same_kind}
use Rattle.dk_template.specs.Rows.{IsTuple}
use Rattle.dk_template.specs.Templates.{IsRow, form_of, role_kinds, rows}
use Rattle.dk_template.specs.declared.grammar.RowId.{RowId}
use Rattle.dk_template.specs.declared.templates.StateForm.{StateForm}
use Rattle.dk_template.specs.declared.templates.StateForm.TheVariants as form
use Rattle.dk_engine.specs.Reading.Memory.{same_texts_row, wants_memory}

-- ---- the table
abbrev is_texts : StateForm → Bool
is_texts form.Texts = true
is_texts _ = false

abbrev has_strings : RowId → Bool
has_strings row = list_any (same_kind kind.StrSeq) (role_kinds row)

abbrev is_told : RowId → Bool
is_told row = (wants_memory row || not (is_texts (form_of row))) && (wants_memory row || (row.0 == 60 || not (has_strings row)))

all_told : list_all (λ n. is_told (record { 0 = n })) (range_with_len 1 68) ≡ true
unfolding rows
all_told = refl

in_all : {A : Type 0} (test : A → Bool) (xs : List A) → list_all test xs ≡ true → (x : A) → IsIn x xs → test x ≡ true
in_all test [] h x i = absurd i
in_all test (y ∷ xs) h x i =
    let hs = and_parts (test y) (list_all test xs) h in
    elim i as (λ _. test x ≡ true) [ inl e ↦ subst (λ z. test z ≡ true) (sym e) hs.0 | inr r ↦ in_all test xs hs.1 x r ]

told : (row : RowId) → IsRow row → is_told row ≡ true
told row is = in_all (λ n. is_told (record { 0 = n })) (range_with_len 1 68) all_told row.0 (in_range row.0 1 68 is.0 (let high = is.1 in omega (arith, high)))

not_true : (b : Bool) → not b ≡ true → b ≡ true → ⊥
not_true true h e = false≢true h
not_true false h e = false≢true e

-- a row whose states are texts wants memory
pub texts_want : (row : RowId) → IsRow row → form_of row ≡ form.Texts → wants_memory row ≡ true
texts_want row is e =
    let h = (and_parts (wants_memory row || not (is_texts (form_of row))) _ (told row is)).0 in
    elim (or_cases (wants_memory row) (not (is_texts (form_of row))) h) [
      | inl w ↦ w
      | inr n ↦ absurd (not_true (is_texts (form_of row)) n (ap is_texts e))
    ]

some_is : (test : Kind → Bool) (kinds : List Kind) (role : ℕ) (k : Kind) → slice_get kinds role ≡ Some k → test k ≡ true → list_any test kinds ≡ true
some_is test [] role k h t = absurd (cc)
some_is test (l ∷ kinds) zero k h t =
    let same : l ≡ k = cc in
    ap (λ b. b || list_any test kinds) (ap test same ∙ t)
some_is test (l ∷ kinds) (suc role) k h t = ap (λ b. test l || b) (some_is test kinds role k h t) ∙ or_true (test l)
  where
    or_true : (b : Bool) → (b || true) ≡ true
    or_true true = refl
    or_true false = refl

-- and so does one over sequences of strings, but for the one that asks whether two are the same
pub strings_want : (row : RowId) → IsRow row → row ≢ same_texts_row → (role : ℕ) → slice_get (role_kinds row) role ≡ Some kind.StrSeq → wants_memory row ≡ true
strings_want row is other role e =
    let h = (and_parts (wants_memory row || not (is_texts (form_of row))) (wants_memory row || (row.0 == 60 || not (has_strings row))) (told row is)).1 in
    elim (or_cases (wants_memory row) (row.0 == 60 || not (has_strings row)) h) [
      | inl w ↦ w
      | inr n ↦ elim (or_cases (row.0 == 60) (not (has_strings row)) n) [
        | inl same ↦ absurd (other (ap (λ (m : ℕ). record { 0 = m }) (eqb-true row.0 60 same)))
        | inr no_strings ↦ absurd (not_true (has_strings row) no_strings (some_is (same_kind kind.StrSeq) (role_kinds row) role kind.StrSeq e refl))
      ]
    ]

-- ---- two sequences of strings
texts_value : (x : Value) → kind_of x ≡ Some kind.StrSeq → x ≡ value.StrSeq (texts_of x)
texts_value value.Missing e = absurd (cc)
texts_value (value.Bool b) e = absurd (cc)
texts_value (value.Int z) e = absurd (cc)
texts_value (value.Hash n) e = absurd (cc)
texts_value (value.Str s) e = absurd (cc)
texts_value (value.BoolSeq s) e = absurd (cc)
texts_value (value.IntSeq s) e = absurd (cc)
texts_value (value.HashSeq s) e = absurd (cc)
texts_value (value.StrSeq s) e = refl

same_texts_plain : form_of same_texts_row ≡ form.Plain
unfolding rows
same_texts_plain = refl

relation_said : (a b : Value) → relation_of same_texts_row (a ∷ b ∷ []) ≡ are_pairwise bytes_eq (texts_of a) (texts_of b)
unfolding relation_of meanings
relation_said a b = refl

said : (a b : Value) → state_of same_texts_row ((a ∷ b ∷ []) ∷ []) ≡ (if are_pairwise bytes_eq (texts_of a) (texts_of b) then state.Holds else state.Broken)
said a b =
    plain_rows same_texts_row (omega arith, omega arith) same_texts_plain ((a ∷ b ∷ []) ∷ [])
    ∙ (ap (λ h. plain_of (h ∷ [])) (relation_said a b)
    ∙ elim (are_pairwise bytes_eq (texts_of a) (texts_of b)) as (λ h. plain_of (h ∷ []) ≡ (if h then state.Holds else state.Broken)) [ true ↦ refl | false ↦ refl ])

module _ (a b : Value) (ka : kind_of a ≡ Some kind.StrSeq) (kb : kind_of b ≡ Some kind.StrSeq) where
  tells : Decides (are_pairwise bytes_eq (texts_of a) (texts_of b)) (texts_of a ≡ texts_of b)
  tells = pairwise_tells bytes_eq bytes_eq-Decides (texts_of a) (texts_of b)

  -- the two are one value
  pub same_texts : a ≡ b → state.Holds ≡ state_of same_texts_row ((a ∷ b ∷ []) ∷ [])
  same_texts e = sym (said a b ∙ ap (λ h. if h then state.Holds else state.Broken) (tells.1 (ap texts_of e)))

  -- or they differ
  pub other_texts : (a ≡ b → ⊥) → state.Broken ≡ state_of same_texts_row ((a ∷ b ∷ []) ∷ [])
  other_texts n = sym (said a b ∙ elim (cases_Bool (are_pairwise bytes_eq (texts_of a) (texts_of b))) [
    | inl e ↦ absurd (n (texts_value a ka ∙ (ap value.StrSeq (tells.0 e) ∙ sym (texts_value b kb))))
    | inr e ↦ ap (λ h. if h then state.Holds else state.Broken) e
  ])

-- ---- where memory is wanted
pub on_err : {T E P : Type 0} (r : Result T E) → P → OnErr r P
on_err (Ok x) p = tt
on_err (Err e) p = p

two_kinds : length (role_kinds same_texts_row) ≡ 2
unfolding rows
two_kinds = refl

-- a row of one value, or of three, isn't the row of the same sequences
pub other_row : (row : RowId) (tuple : List Value) → IsTuple (role_kinds row) tuple → (length tuple ≡ 2 → ⊥) → row ≢ same_texts_row
other_row row tuple is n e = n (is.arity ∙ (ap (λ (r : RowId). length (role_kinds r)) e ∙ two_kinds))

-- a sequence of strings in a tuple of another row
pub strings_in_tuple : (row : RowId) → IsRow row → (tuple : List Value) → IsTuple (role_kinds row) tuple → row ≢ same_texts_row → (role : ℕ) → kind_of (value_at tuple role) ≡ Some kind.StrSeq → wants_memory row ≡ true
strings_in_tuple row is tuple tuple_is other role e = strings_want row is other role (sym (tuple_is.each role) ∙ e)

-- ---- the row of the same sequences, of its tuple
kinds_there : (role : ℕ) → role < 2 → slice_get (role_kinds same_texts_row) role ≡ Some kind.StrSeq
unfolding rows
kinds_there zero l = refl
kinds_there (suc zero) l = refl
kinds_there (suc (suc n)) l = absurd (omega (arith, l))

module _ (row : RowId) (same : row.0 ≡ 60) (a b : Value) (is : IsTuple (role_kinds row) (a ∷ b ∷ [])) where
  row_same : same_texts_row ≡ row
  row_same = ap (λ (n : ℕ). record { 0 = n }) (sym same)

  kinds_same : (role : ℕ) → role < 2 → kind_of (value_at (a ∷ b ∷ []) role) ≡ Some kind.StrSeq
  kinds_same role l = is.each role ∙ (ap (λ (r : RowId). slice_get (role_kinds r) role) (sym row_same) ∙ kinds_there role l)

  pub same_told : a ≡ b → state.Holds ≡ state_of row ((a ∷ b ∷ []) ∷ [])
  same_told e = same_texts a b (kinds_same 0 (omega arith)) (kinds_same 1 (omega arith)) e ∙ ap (λ r. state_of r ((a ∷ b ∷ []) ∷ [])) row_same

  pub other_told : (a ≡ b → ⊥) → state.Broken ≡ state_of row ((a ∷ b ∷ []) ∷ [])
  other_told n = other_texts a b (kinds_same 0 (omega arith)) (kinds_same 1 (omega arith)) n ∙ ap (λ r. state_of r ((a ∷ b ∷ []) ∷ [])) row_same
