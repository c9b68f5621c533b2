-- Fits with one sample more, and fits of variables that have one tuple in all samples.
use Rattle.std.specs.Prelude.{◌≡◌, ◌<◌, ℕ, zero, suc, Bool, true, false, if◌then◌else◌, All, List, [], ◌∷◌, ◌++◌, cond, length, refl}
use Rattle.std.proofs.Common.{sym, ap, ◌∙◌, arith, inl, inr, subst}
use Rattle.std.proofs.lemmas.List.{append-nil}
use Rattle.std.proofs.lemmas.List.Elements.{All-head, All-tail}
use Rattle.dk_base.specs.declared.kinds.VarId.{VarId}
use Rattle.dk_base.specs.declared.values.Value.{Value}
use Rattle.dk_forms.specs.Laws.{IsIn, SameSet}
use Rattle.dk_forms.specs.declared.states.State.TheVariants.{Broken, Empty}
use Rattle.dk_instances.proofs.Fitting.{tuples_both}
use Rattle.dk_instances.specs.Fits.{fit, is_whole, tuple_in, tuples_of}
use Rattle.dk_meanings.proofs.RowLaws.{laws_of}
use Rattle.dk_meanings.specs.Meanings.{state_of}
use Rattle.dk_template.proofs.Absorbing.{broken_absorbs}
use Rattle.dk_template.specs.Joins.{joined}
use Rattle.dk_template.specs.Templates.{IsRow, form_of}
use Rattle.dk_template.specs.declared.grammar.RowId.{RowId}

-- ---- one sample more
-- a sample in which a variable is missing changes nothing, and any other one joins with its tuple
pub fit_push : (row : RowId) → IsRow row → (vars : List VarId) (samples : List (List Value)) (sample : List Value)
    → fit row vars (samples ++ sample ∷ [])
    ≡ (if is_whole (tuple_in vars sample) then joined (form_of row) (fit row vars samples) (state_of row (tuple_in vars sample ∷ [])) else fit row vars samples)
unfolding fit
fit_push row is vars samples sample =
    let t = tuple_in vars sample in
    let ts = tuples_of vars samples in
    ap (state_of row) (tuples_both vars samples (sample ∷ []))
    ∙ elim (is_whole t) as (λ b. state_of row (ts ++ cond b (t ∷ []) []) ≡ (if b then joined (form_of row) (state_of row ts) (state_of row (t ∷ [])) else state_of row ts)) [
      | true ↦ (laws_of row is).both ts (t ∷ [])
      | false ↦ ap (state_of row) (append-nil ts)
    ]

-- what is Broken stays so
pub fit_stays_broken : (row : RowId) → IsRow row → (vars : List VarId) (samples : List (List Value)) (sample : List Value) → fit row vars samples ≡ Broken → fit row vars (samples ++ sample ∷ []) ≡ Broken
fit_stays_broken row is vars samples sample h =
    fit_push row is vars samples sample
    ∙ (ap (λ s. if is_whole (tuple_in vars sample) then joined (form_of row) s (state_of row (tuple_in vars sample ∷ [])) else s) h
    ∙ elim (is_whole (tuple_in vars sample)) as (λ b. (if b then joined (form_of row) Broken (state_of row (tuple_in vars sample ∷ [])) else Broken) ≡ Broken) [
      | true ↦ broken_absorbs (form_of row) (state_of row (tuple_in vars sample ∷ []))
      | false ↦ refl
    ])

-- ---- one tuple in all samples
module _ (vars : List VarId) (tuple : List Value) where
  -- no tuple of the samples is another one
  only : (samples : List (List Value)) → All (λ s. tuple_in vars s ≡ tuple) samples → (x : List Value) → IsIn x (tuples_of vars samples) → x ≡ tuple
  only [] all x h = absurd h
  only (s ∷ samples) all x h =
      let here = All-head (λ t. tuple_in vars t ≡ tuple) s samples all in
      let rest = only samples (All-tail (λ t. tuple_in vars t ≡ tuple) s samples all) x in
      elim (is_whole (tuple_in vars s)) as (λ b. IsIn x (cond b (tuple_in vars s ∷ tuples_of vars samples) (tuples_of vars samples)) → x ≡ tuple) [
        | true ↦ λ k. elim k as (λ _. x ≡ tuple) [ inl e ↦ e ∙ here | inr l ↦ rest l ]
        | false ↦ rest
      ] h

  -- there are none where it isn't whole
  none : is_whole tuple ≡ false → (samples : List (List Value)) → All (λ s. tuple_in vars s ≡ tuple) samples → tuples_of vars samples ≡ []
  none part [] all = refl
  none part (s ∷ samples) all =
      let here = ap is_whole (All-head (λ t. tuple_in vars t ≡ tuple) s samples all) ∙ part in
      ap (λ b. cond b (tuple_in vars s ∷ tuples_of vars samples) (tuples_of vars samples)) here ∙ none part samples (All-tail (λ t. tuple_in vars t ≡ tuple) s samples all)

  -- and else it is the first
  first : is_whole tuple ≡ true → (s : List Value) (samples : List (List Value)) → All (λ s. tuple_in vars s ≡ tuple) (s ∷ samples) → tuples_of vars (s ∷ samples) ≡ tuple ∷ tuples_of vars samples
  first whole s samples all =
      let here = All-head (λ t. tuple_in vars t ≡ tuple) s samples all in
      ap (λ b. cond b (tuple_in vars s ∷ tuples_of vars samples) (tuples_of vars samples)) (ap is_whole here ∙ whole) ∙ ap (λ t. t ∷ tuples_of vars samples) here

  one_tuple : is_whole tuple ≡ true → (samples : List (List Value)) → 0 < length samples → All (λ s. tuple_in vars s ≡ tuple) samples → SameSet (tuples_of vars samples) (tuple ∷ [])
  one_tuple whole [] some all = absurd (omega (arith, some))
  one_tuple whole (s ∷ samples) some all = record {
    to = λ x h. inl (only (s ∷ samples) all x h);
    from = λ x h. elim h as (λ _. IsIn x (tuples_of vars (s ∷ samples))) [ inl e ↦ subst (IsIn x) (sym (first whole s samples all)) (inl e) | inr l ↦ absurd l ];
  }

-- so the fit is the state of that one tuple
pub fit_of_one : (row : RowId) → IsRow row → (vars : List VarId) (tuple : List Value) (samples : List (List Value)) → 0 < length samples → All (λ s. tuple_in vars s ≡ tuple) samples
    → fit row vars samples ≡ (if is_whole tuple then state_of row (tuple ∷ []) else Empty)
unfolding fit
fit_of_one row is vars tuple samples some all =
    elim (is_whole tuple) as (λ b. is_whole tuple ≡ b → state_of row (tuples_of vars samples) ≡ (if b then state_of row (tuple ∷ []) else Empty)) [
      | true ↦ λ e. (laws_of row is).same (tuples_of vars samples) (tuple ∷ []) (one_tuple vars tuple e samples some all)
      | false ↦ λ e. ap (state_of row) (none vars tuple e samples all) ∙ (laws_of row is).none
    ] refl
