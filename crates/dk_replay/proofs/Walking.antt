-- Going over samples, one after another.
use Rattle.std.specs.Prelude.{◌≡◌, ◌<◌, ◌+◌, ◌-◌, ◌&&◌, ℕ, Bool, true, false, All, List, [], ◌∷◌, ◌++◌, OnErr, Result, Ok, Err, cond, if◌then◌else◌, length, refl, take}
use Rattle.std.specs.List.{list_all}
use Rattle.std.proofs.Common.{ap, arith, get_or, subst, sym, ◌∙◌}
use Rattle.std.proofs.lemmas.List.{get_or-map, length-map, map-append, take_all, take_more}
use Rattle.std.proofs.lemmas.List.Elements.{All-get_or}
use Rattle.std.proofs.lemmas.List.Folds.{list_all-append, list_all_at}
use Rattle.std.proofs.lemmas.List.Sums.{sum_by-cons}
use Rattle.dk_base.specs.Values.{values_of}
use Rattle.dk_base.specs.declared.kinds.VarId.{VarId}
use Rattle.dk_base.specs.declared.values.Value.{Value}
use Rattle.dk_base.specs.declared.values.View.{View}
use Rattle.dk_forms.specs.declared.states.State.{State}
use Rattle.dk_grammar.specs.Runs.{with_sample}
use Rattle.dk_instances.proofs.Fitting.{count_of_both}
use Rattle.dk_instances.proofs.Pushing.{fit_push}
use Rattle.dk_instances.specs.Fits.{fit}
use Rattle.dk_presence.specs.Patterns.{capped, count_of}
use Rattle.dk_replay.specs.Samples.{samples_of}
use Rattle.dk_samples.specs.Samples.{is_present, value_in}
use Rattle.dk_template.specs.Templates.{IsRow}
use Rattle.dk_template.specs.declared.grammar.RowId.{RowId}

pub on_err : {A E : Type 0} (r : Result A E) (P : Type 0) → P → OnErr r P
on_err (Ok x) P p = tt
on_err (Err e) P p = p

-- in one sample
count_one : (vars : List VarId) (s : List Value) (b : Bool) → b ≡ list_all (λ v. is_present (value_in s v)) vars → count_of vars (s ∷ []) ≡ (if b then 1 else 0)
count_one vars s b is =
    ap capped (sum_by-cons (λ t. cond (list_all (λ v. is_present (value_in t v)) vars) 1 0) s [] ∙ ap (λ t. cond t 1 0 + 0) (sym is)) ∙ ends b
  where
    ends : (b : Bool) → capped (cond b 1 0 + 0) ≡ (if b then 1 else 0)
    ends true = refl
    ends false = refl

module _ (all : List (List View)) (i : ℕ) (d : List View) (within : i < length all) where
  -- a sample more
  pub one_more : samples_of (take (i + 1) all) ≡ samples_of (take i all) ++ values_of (get_or all i d) ∷ []
  one_more = ap samples_of (take_more all i d within) ∙ map-append values_of (take i all) (get_or all i d ∷ [])

  -- the state of a row
  pub state_more : (row : RowId) → IsRow row → (vars : List VarId) (before after : State) → before ≡ fit row vars (samples_of (take i all))
      → after ≡ with_sample row vars (values_of (get_or all i d)) before → after ≡ fit row vars (samples_of (take (i + 1) all))
  state_more row is vars before after b a =
      a
      ∙ (ap (with_sample row vars (values_of (get_or all i d))) b
      ∙ sym (ap (fit row vars) one_more ∙ fit_push row is vars (samples_of (take i all)) (values_of (get_or all i d))))

  -- the count of variables
  pub count_more : (vars : List VarId) (b : Bool) → b ≡ list_all (λ v. is_present (value_in (values_of (get_or all i d)) v)) vars
      → count_of vars (samples_of (take (i + 1) all)) ≡ capped (count_of vars (samples_of (take i all)) + (if b then 1 else 0))
  count_more vars b is =
      let s = values_of (get_or all i d) in
      ap (count_of vars) one_more
      ∙ (count_of_both vars (samples_of (take i all)) (s ∷ []) ∙ ap (λ n. capped (count_of vars (samples_of (take i all)) + n)) (count_one vars s b is))

  -- whether something is so of each
  pub each_more : (p : List Value → Bool) → list_all p (samples_of (take i all)) ≡ true → p (values_of (get_or all i d)) ≡ true → list_all p (samples_of (take (i + 1) all)) ≡ true
  each_more p before here =
      ap (list_all p) one_more
      ∙ (list_all-append p (samples_of (take i all)) (values_of (get_or all i d) ∷ []) ∙ (ap (λ t. t && (p (values_of (get_or all i d)) && true)) before ∙ ap (λ t. t && true) here))

-- what is so of each sample is so of one of them
pub one_of_all : (P : List Value → Type 0) (all : List (List View)) (i : ℕ) (d : List View) → i < length all → All P (samples_of all) → P (values_of (get_or all i d))
one_of_all P all i d within each =
    let long = length-map all values_of in
    subst P (get_or-map values_of all i d (values_of d) within) (All-get_or P (samples_of all) i (values_of d) (omega (arith, long, within)) each)

-- and of none is all so, if it isn't of one of them
pub one_apart : (p : List Value → Bool) (all : List (List View)) (i : ℕ) (d : List View) → i < length all → p (values_of (get_or all i d)) ≡ false → list_all p (samples_of all) ≡ false
one_apart p all i d within here =
    let long = length-map all values_of in
    list_all_at p (samples_of all) i (values_of d) (omega (arith, long, within)) (ap p (get_or-map values_of all i d (values_of d) within) ∙ here)

-- all of them
pub past : (all : List (List View)) (i : ℕ) → length all - i ≡ 0 → samples_of (take i all) ≡ samples_of all
past all i done = ap samples_of (take_all i all (omega (arith, done)))
