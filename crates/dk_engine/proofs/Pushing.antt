-- What one sample more makes of a fit.
use Rattle.std.specs.Prelude.{◌≡◌, ◌&&◌, Bool, true, false, All, Contains, List, [], ◌∷◌, ◌++◌, cond, filter, map, not, refl}
use Rattle.std.proofs.Common.{ap, inl, inr, subst, sym, ◌∙◌}
use Rattle.std.proofs.lemmas.Bool.{false≢true, not-false, or_parts}
use Rattle.std.proofs.lemmas.List.{append-nil, map-append}
use Rattle.std.proofs.lemmas.List.Elements.{All-cons, All-head, All-nil, All-tail, filter-append}
use Rattle.std.proofs.lemmas.List.Folds.{list_all-map}
use Rattle.std.proofs.lemmas.List.Sums.{AllPass-from_list_all, list_all-from_AllPass}
use Rattle.dk_base.specs.declared.kinds.VarId.{VarId}
use Rattle.dk_base.specs.declared.values.Value.{Value}
use Rattle.dk_instances.proofs.Pushing.{fit_push}
use Rattle.dk_instances.proofs.Members.{append_cases, in_filter, in_map, is_in}
use Rattle.dk_instances.specs.Fits.{fit, is_whole, tuple_in, tuples_of}
use Rattle.dk_forms.proofs.Summaries.{IsIn-append_left}
use Rattle.dk_forms.specs.Laws.{IsIn}
use Rattle.dk_forms.specs.declared.states.State.{State}
use Rattle.dk_forms.specs.declared.states.State.TheVariants.{Broken, Empty, Holds}
use Rattle.dk_meanings.proofs.RowLaws.{laws_of, plain_rows}
use Rattle.dk_meanings.specs.Meanings.{relation_of, state_of}
use Rattle.dk_samples.specs.Samples.{is_present, value_in}
use Rattle.dk_template.specs.Joins.{joined}
use Rattle.dk_template.specs.Templates.{IsRow, form_of}
use Rattle.dk_template.specs.declared.grammar.RowId.{RowId}
use Rattle.dk_template.specs.declared.templates.StateForm.TheVariants.{Plain}
use Rattle.dk_forms.specs.Known.{Known, both, broken, fact, nothing}
use Rattle.dk_forms.specs.Plain.{plain_known, plain_state}
use Rattle.dk_engine.specs.StepLaws.{UnsatisfiedRowsBreak}

-- ---- tuples
pub tuples_push : (vars : List VarId) (samples : List (List Value)) (sample : List Value)
    → tuples_of vars (samples ++ sample ∷ []) ≡ tuples_of vars samples ++ cond (is_whole (tuple_in vars sample)) (tuple_in vars sample ∷ []) []
tuples_push vars samples sample = ap (filter is_whole) (map-append (tuple_in vars) samples (sample ∷ [])) ∙ filter-append is_whole (map (tuple_in vars) samples) (map (tuple_in vars) (sample ∷ []))

-- the variables are present together in none of the samples
abbrev pub AreApart : List VarId → List (List Value) → Type 0
AreApart vars samples = All (λ s. is_whole (tuple_in vars s) ≡ false) samples

pub no_tuples : (vars : List VarId) (samples : List (List Value)) → AreApart vars samples → tuples_of vars samples ≡ []
no_tuples vars [] h = refl
no_tuples vars (s ∷ samples) h =
    let P : List Value → Type 0 = λ u. is_whole (tuple_in vars u) ≡ false in
    ap (λ b. cond b (tuple_in vars s ∷ tuples_of vars samples) (tuples_of vars samples)) (All-head P s samples h) ∙ no_tuples vars samples (All-tail P s samples h)

pub apart_by_tuples : (vars : List VarId) (samples : List (List Value)) → tuples_of vars samples ≡ [] → AreApart vars samples
apart_by_tuples vars [] h = All-nil (λ u. is_whole (tuple_in vars u) ≡ false)
apart_by_tuples vars (s ∷ samples) h =
    let P : List Value → Type 0 = λ u. is_whole (tuple_in vars u) ≡ false in
    let ts = tuples_of vars samples in
    let both = elim (is_whole (tuple_in vars s)) as (λ b. cond b (tuple_in vars s ∷ ts) ts ≡ [] → (b ≡ false) × (ts ≡ [])) [
      | true ↦ λ e. absurd (false≢true (ap some e))
      | false ↦ λ e. (refl, e)
    ] h in
    All-cons P s samples both.0 (apart_by_tuples vars samples both.1)
  where
    some : List (List Value) → Bool
    some [] = true
    some (t ∷ ts) = false

-- the variables are all present in the sample
abbrev pub ArePresent : List Value → List VarId → Type 0
ArePresent sample vars = All (λ v. is_present (value_in sample v) ≡ true) vars

pub present_by_whole : (vars : List VarId) (sample : List Value) → is_whole (tuple_in vars sample) ≡ true → ArePresent sample vars
present_by_whole vars sample h = AllPass-from_list_all (λ v. is_present (value_in sample v)) vars (sym (list_all-map is_present (value_in sample) vars) ∙ h)

pub whole_by_present : (vars : List VarId) (sample : List Value) → ArePresent sample vars → is_whole (tuple_in vars sample) ≡ true
whole_by_present vars sample h = list_all-map is_present (value_in sample) vars ∙ list_all-from_AllPass (λ v. is_present (value_in sample v)) vars h

-- ---- fits
-- variables that are present together in no sample say nothing
pub apart_is_empty : (row : RowId) → IsRow row → (vars : List VarId) (samples : List (List Value)) → AreApart vars samples → fit row vars samples ≡ Empty
unfolding fit
apart_is_empty row is vars samples h = ap (state_of row) (no_tuples vars samples h) ∙ (laws_of row is).none

-- a sample in which a value is missing changes nothing
pub missing_changes_nothing : (row : RowId) → IsRow row → (vars : List VarId) (samples : List (List Value)) (sample : List Value) → is_whole (tuple_in vars sample) ≡ false
    → fit row vars (samples ++ sample ∷ []) ≡ fit row vars samples
missing_changes_nothing row is vars samples sample h =
    fit_push row is vars samples sample ∙ ap (λ b. cond b (joined (form_of row) (fit row vars samples) (state_of row (tuple_in vars sample ∷ []))) (fit row vars samples)) h

-- neither does a tuple that has been there before
pub seen_changes_nothing : (row : RowId) → IsRow row → (vars : List VarId) (samples : List (List Value)) (sample old : List Value) → Contains samples old → tuple_in vars old ≡ tuple_in vars sample
    → fit row vars (samples ++ sample ∷ []) ≡ fit row vars samples
unfolding fit
seen_changes_nothing row is vars samples sample old has same =
    let t = tuple_in vars sample in
    let ts = tuples_of vars samples in
    let there : is_whole t ≡ true → IsIn t ts = λ w.
    in_filter is_whole t (map (tuple_in vars) samples) (subst (λ u. IsIn u (map (tuple_in vars) samples)) same (in_map (tuple_in vars) old samples (is_in old samples has.0 has.1 has.2))) w in
    ap (state_of row) (tuples_push vars samples sample)
    ∙ elim (is_whole t) as (λ b. (b ≡ true → IsIn t ts) → state_of row (ts ++ cond b (t ∷ []) []) ≡ state_of row ts) [
      | true ↦ λ i. (laws_of row is).same (ts ++ t ∷ []) ts (record {
        to = λ x h. elim (append_cases x ts (t ∷ []) h) as (λ _. IsIn x ts) [
          | inl a ↦ a
          | inr b ↦ elim b as (λ _. IsIn x ts) [ inl e ↦ subst (λ u. IsIn u ts) (sym e) (i refl) | inr n ↦ absurd n ]
        ];
        from = λ x h. IsIn-append_left x ts (t ∷ []) h;
      })
      | false ↦ λ i. ap (state_of row) (append-nil ts)
    ] there

-- where the sample's tuple doesn't satisfy a relation, the row is broken
broken_join : (s : State) → joined Plain s Broken ≡ Broken
broken_join s = by (plain_known s)
  where
    by : (k : Known (Unit {0})) → plain_state (both (λ _ _. fact tt) k broken) ≡ Broken
    by nothing = refl
    by broken = refl
    by (fact u) = refl

pub unsatisfied_rows_break : UnsatisfiedRowsBreak
unsatisfied_rows_break row is plain vars samples sample h =
    let t = tuple_in vars sample in
    let parts = or_parts (not (is_whole t)) (relation_of row t) h in
    let whole : is_whole t ≡ true = not-false (is_whole t) parts.0 in
    let point : state_of row (t ∷ []) ≡ Broken = plain_rows row is plain (t ∷ []) ∙ ap (λ b. cond (b && true) Holds Broken) parts.1 in
    fit_push row is vars samples sample
    ∙ (ap (λ b. cond b (joined (form_of row) (fit row vars samples) (state_of row (t ∷ []))) (fit row vars samples)) whole
    ∙ (ap (λ f. joined f (fit row vars samples) (state_of row (t ∷ []))) plain ∙ (ap (joined Plain (fit row vars samples)) point ∙ broken_join (fit row vars samples))))
