-- What the rules ask of a row.
use Rattle.std.specs.Prelude.{◌≡◌, ◌<◌, ◌≤◌, ◌&&◌, ◌||◌, ◌==◌, ◌++◌, ◌∷◌, Bool, true, false, List, [], filter, flat_map, fold, length, map, nat_lt, refl, slice_index_or}
use Rattle.std.specs.List.{list_all, list_any}
use Rattle.std.proofs.Common.{ap, ◌∙◌, arith, Bor, cond, inl, inr, subst, sym}
use Rattle.std.proofs.lemmas.Bool.{cases_Bool, false≢true, or_left, or_right}
use Rattle.std.proofs.lemmas.List.{get_or-map, length-map}
use Rattle.std.proofs.lemmas.List.Concat.{flat_map-cons}
use Rattle.std.proofs.lemmas.List.Folds.{list_any-append}
use Rattle.std.proofs.lemmas.List.FromFn.{get_or-map-range_with_len}
use Rattle.dk_suppress.proofs.Numbered.{any_filter, filter_past}
use Rattle.dk_suppress.specs.Rules.{Rule, ask_alike, asked_by_number, asked_of, rules, with_premise}
use Rattle.dk_template.specs.Premises.{row_of}
use Rattle.dk_template.specs.declared.answers.Premise.{Premise}
use Rattle.dk_template.specs.declared.grammar.RowId.{RowId}

or_false : (x : Bool) → (x || false) ≡ x
or_false true = refl
or_false false = refl

or_of_three : (x y z : Bool) → ((x || y) || z) ≡ (x || (y || z))
or_of_three true y z = refl
or_of_three false y z = refl

absorbed : (x y : Bool) → (y ≡ true → x ≡ true) → x ≡ (x || y)
absorbed true y h = refl
absorbed false true h = h refl
absorbed false false h = refl

-- ---- a test that doesn't tell these apart
module _ (f : Premise → Bool) (alike : (p q : Premise) → ask_alike p q ≡ true → f p ≡ f q) where
  found : (p : Premise) (asked : List Premise) → list_any (ask_alike p) asked ≡ true → f p ≡ true → list_any f asked ≡ true
  found p [] h t = absurd (false≢true h)
  found p (q ∷ qs) h t = elim (cases_Bool (ask_alike p q)) as (λ _. (f q || list_any f qs) ≡ true) [
    | inl same ↦ or_left (f q) (list_any f qs) (sym (alike p q same) ∙ t)
    | inr other ↦ or_right (f q) (list_any f qs) (found p qs (sym (ap (λ b. b || list_any (ask_alike p) qs) other) ∙ h) t)
  ]

  with_one : (asked : List Premise) (p : Premise) → list_any f (with_premise asked p) ≡ (list_any f asked || f p)
  with_one asked p = elim (cases_Bool (list_any (ask_alike p) asked)) as (λ _. list_any f (with_premise asked p) ≡ (list_any f asked || f p)) [
    | inl there ↦ ap (λ b. list_any f (cond b asked (asked ++ p ∷ []))) there ∙ absorbed (list_any f asked) (f p) (found p asked there)
    | inr new ↦
        ap (λ b. list_any f (cond b asked (asked ++ p ∷ []))) new
        ∙ (list_any-append f asked (p ∷ []) ∙ ap (λ b. list_any f asked || b) (or_false (f p)))
  ]

  with_all : (ps asked : List Premise) → list_any f (fold with_premise asked ps) ≡ (list_any f asked || list_any f ps)
  with_all [] asked = sym (or_false (list_any f asked))
  with_all (p ∷ ps) asked =
      with_all ps (with_premise asked p) ∙ (ap (λ b. b || list_any f ps) (with_one asked p) ∙ or_of_three (list_any f asked) (f p) (list_any f ps))

any_of_rules : (f : Premise → Bool) (rs : List Rule) → list_any f (flat_map (λ (r : Rule). r.1) rs) ≡ list_any (λ (r : Rule). list_any f r.1) rs
any_of_rules f [] = refl
any_of_rules f (r ∷ rs) =
    ap (list_any f) (flat_map-cons (λ (r : Rule). r.1) r rs)
    ∙ (list_any-append f r.1 (flat_map (λ (r : Rule). r.1) rs) ∙ ap (λ b. list_any f r.1 || b) (any_of_rules f rs))

-- a test that doesn't tell premises apart that ask the same finds one of the rules' premises about a row where it finds one of these
pub asked_any : (f : Premise → Bool) → ((p q : Premise) → ask_alike p q ≡ true → f p ≡ f q) → (row : RowId)
    → list_any f (asked_of row) ≡ list_any (λ (r : Rule). list_any (λ p. (row_of p).0 == row.0 && f p) r.1) rules
unfolding asked_of
asked_any f alike row =
    let about : Premise → Bool = λ p. (row_of p).0 == row.0 in
    with_all f alike (filter about (flat_map (λ (r : Rule). r.1) rules)) []
    ∙ (any_filter f about (flat_map (λ (r : Rule). r.1) rules) ∙ any_of_rules (λ p. about p && f p) rules)

-- ---- no premise is about a row past the last
all_early : list_all (λ p. nat_lt (row_of p).0 67) (flat_map (λ (r : Rule). r.1) rules) ≡ true
unfolding rules
all_early = refl

none_asked : (row : RowId) → 66 < row.0 → asked_of row ≡ []
unfolding asked_of
none_asked row late = ap (fold with_premise []) (filter_past (λ p. (row_of p).0) 67 row.0 (omega arith) (flat_map (λ (r : Rule). r.1) rules) all_early)

-- ---- the code's table
length-by_number : length asked_by_number ≡ 67
unfolding asked_by_number
length-by_number = refl

asked_early : (row : RowId) (d : List Premise) → row.0 < 67 → slice_index_or asked_by_number row.0 d ≡ asked_of row
unfolding asked_by_number
asked_early row d early = get_or-map-range_with_len (λ n. asked_of (record { 0 = n })) 0 67 row.0 row.0 d early (omega arith)

module _ (items : List (Bor (List Premise))) (known : map (λ r. r.now) items ≡ asked_by_number) (row : RowId) where
  long : length items ≡ 67
  long = sym (length-map items (λ (r : Bor (List Premise)). r.now)) ∙ ap length known ∙ length-by_number

  pub asked_found : (found : Bor (List Premise)) → row.0 < length items → found ≡ slice_index_or items row.0 found → found.now ≡ asked_of row
  asked_found found within is =
      ap (λ (r : Bor (List Premise)). r.now) is
      ∙ sym (get_or-map (λ (r : Bor (List Premise)). r.now) items row.0 found [] within)
      ∙ ap (λ l. slice_index_or l row.0 []) known
      ∙ asked_early row [] (subst (λ n. row.0 < n) long within)

  pub asked_past : length items ≤ row.0 → [] ≡ asked_of row
  asked_past past = let n : length items ≡ 67 = long in sym (none_asked row (omega (arith, n, past)))
