-- The laws of fits and counts.
use Rattle.std.specs.Prelude.{◌≡◌, ◌↔◌, ◌<◌, ◌+◌, ◌==◌, ◌||◌, ◌&&◌, ℕ, zero, suc, Bool, true, false, not, All, IsTrue, List, [], ◌∷◌, ◌++◌, cond, count_by, filter, flat_map, length, map, refl, sum_by}
use Rattle.std.specs.List.{list_all}
use Rattle.std.proofs.Common.{sym, subst, ap, ◌∙◌, arith, get_or}
use Rattle.std.proofs.lemmas.Bool.{false≢true, ne_eqb}
use Rattle.std.proofs.lemmas.List.{map-append}
use Rattle.std.proofs.lemmas.List.Elements.{All-head, All-tail, filter-append}
use Rattle.std.proofs.lemmas.List.Folds.{list_all-map}
use Rattle.std.proofs.lemmas.List.Sums.{AllPass-from_list_all, list_all-from_AllPass, sum_by-append, sum_by-cons}
use Rattle.dk_base.specs.declared.kinds.VarId.{VarId}
use Rattle.dk_base.specs.declared.values.Value.{Value}
use Rattle.dk_forms.proofs.Summaries.{along}
use Rattle.dk_forms.specs.Laws.{SummaryLaws}
use Rattle.dk_forms.specs.Plain.{plain_of}
use Rattle.dk_forms.specs.declared.states.State.TheVariants.{Empty, Broken, Holds}
use Rattle.dk_instances.specs.Fits.{fit, is_whole, tuple_in, tuples_of}
use Rattle.dk_instances.specs.Laws.{AgreeingVariablesCountAlike, AgreeingVariablesFitAlike, AreAlike, CountsAdd, CountsAreOfTuples, CountsOfNoVariables, FitsAreOfSets, FitsJoin, FitsOfNoSamples, PlainFitsTellTheirRelation, PlainRowsHold, satisfies}
use Rattle.dk_meanings.proofs.RowLaws.{laws_of, plain_rows}
use Rattle.dk_meanings.specs.Meanings.{relation_of, state_of}
use Rattle.dk_presence.specs.Patterns.{capped, count_of}
use Rattle.dk_samples.specs.Samples.{is_present, value_in}
use Rattle.dk_template.specs.Fitting.{fits}
use Rattle.dk_template.specs.Joins.{joined}
use Rattle.dk_template.specs.Templates.{IsRow, form_of}
use Rattle.dk_template.specs.declared.grammar.RowId.{RowId}

-- ---- tuples
-- the tuple that a sample gives, if no value is missing
abbrev given : List VarId → List Value → List (List Value)
given vars sample = cond (is_whole (tuple_in vars sample)) (tuple_in vars sample ∷ []) []

tuples_given : (vars : List VarId) (samples : List (List Value)) → flat_map (given vars) samples ≡ tuples_of vars samples
tuples_given vars [] = refl
tuples_given vars (s ∷ samples) =
    elim (is_whole (tuple_in vars s)) as (λ b. cond b (tuple_in vars s ∷ []) [] ++ flat_map (given vars) samples ≡ cond b (tuple_in vars s ∷ tuples_of vars samples) (tuples_of vars samples)) [
      | true ↦ ap (λ ts. tuple_in vars s ∷ ts) (tuples_given vars samples)
      | false ↦ tuples_given vars samples
    ]

pub tuples_both : (vars : List VarId) (first second : List (List Value)) → tuples_of vars (first ++ second) ≡ tuples_of vars first ++ tuples_of vars second
tuples_both vars first second = ap (filter is_whole) (map-append (tuple_in vars) first second) ∙ filter-append is_whole (map (tuple_in vars) first) (map (tuple_in vars) second)

-- ---- fits
pub fit_of_none : FitsOfNoSamples
unfolding fit
fit_of_none row is vars = (laws_of row is).none

pub fit_of_both : FitsJoin
unfolding fit
fit_of_both row is vars first second = ap (state_of row) (tuples_both vars first second) ∙ (laws_of row is).both (tuples_of vars first) (tuples_of vars second)

-- over samples, each of which gives its tuple or none
by_samples : (row : RowId) → IsRow row → (vars : List VarId) → SummaryLaws (λ _. Unit {0}) Empty (joined (form_of row)) (λ samples. state_of row (flat_map (given vars) samples))
by_samples row is vars =
    let l = laws_of row is in
    let s : SummaryLaws (λ _. Unit {0}) Empty (joined (form_of row)) (state_of row) = record { none = l.none; proper = λ tuples. tt; both = l.both; same = l.same } in
    along (given vars) s

pub fit_of_set : FitsAreOfSets
unfolding fit
fit_of_set row is vars first second same =
    ap (state_of row) (sym (tuples_given vars first))
    ∙ ((by_samples row is vars).same first second same ∙ ap (state_of row) (tuples_given vars second))

-- ---- counts
counted : (vars : List VarId) (samples : List (List Value)) → count_by (λ s. list_all (λ v. is_present (value_in s v)) vars) samples ≡ length (tuples_of vars samples)
counted vars [] = refl
counted vars (s ∷ samples) =
    let one = sum_by-cons (λ t. cond (list_all (λ v. is_present (value_in t v)) vars) 1 0) s samples in
    let here = ap {B = ℕ} (λ b. cond b 1 0) (sym (list_all-map is_present (value_in s) vars)) in
    let rest = counted vars samples in
    let long = put (is_whole (tuple_in vars s)) (tuple_in vars s) (tuples_of vars samples) in
    omega (arith, one, here, rest, long)
  where
    put : (b : Bool) (t : List Value) (ts : List (List Value)) → length (cond b (t ∷ ts) ts) ≡ cond b 1 0 + length ts
    put true t ts = omega arith
    put false t ts = omega arith

pub count_of_tuples : CountsAreOfTuples
count_of_tuples vars samples = ap capped (counted vars samples)

pub count_of_both : CountsAdd
count_of_both vars first second =
    let f : List Value → ℕ = λ s. cond (list_all (λ v. is_present (value_in s v)) vars) 1 0 in
    ap capped (sum_by-append f first second) ∙ ends (sum_by f first) (sum_by f second)
  where
    ends : (a b : ℕ) → capped (a + b) ≡ capped (capped a + capped b)
    ends a b = omega arith

pub count_of_none : CountsOfNoVariables
count_of_none samples = ap capped (all samples)
  where
    all : (samples : List (List Value)) → sum_by (λ s. 1) samples ≡ length samples
    all [] = refl
    all (s ∷ samples) = let one = sum_by-cons (λ t. 1) s samples in let rest = all samples in omega (arith, one, rest)

-- ---- a relation
told : (r : List Value → Bool) (tuples : List (List Value)) → plain_of (map r tuples) ≡ cond (capped (length tuples) == 0) Empty (cond (list_all r tuples) Holds Broken)
told r [] = refl
told r (t ∷ ts) =
    let some : (capped (suc (length ts)) == 0) ≡ false = ne_eqb (capped (suc (length ts))) 0 (λ e. omega (arith, e)) in
    ap (λ b. cond b Holds Broken) (list_all-map (λ h. h) r (t ∷ ts)) ∙ sym (ap (λ b. cond b Empty (cond (list_all r (t ∷ ts)) Holds Broken)) some)

satisfied : (row : RowId) (vars : List VarId) (samples : List (List Value)) → list_all (relation_of row) (tuples_of vars samples) ≡ list_all (satisfies row vars) samples
satisfied row vars [] = refl
satisfied row vars (s ∷ samples) =
    let t = tuple_in vars s in
    let ts = tuples_of vars samples in
    elim (is_whole t) as (λ b. list_all (relation_of row) (cond b (t ∷ ts) ts) ≡ ((not b || relation_of row t) && list_all (satisfies row vars) samples)) [
      | true ↦ ap (λ b. relation_of row t && b) (satisfied row vars samples)
      | false ↦ satisfied row vars samples
    ]

pub fit_of_plain : PlainFitsTellTheirRelation
unfolding fit
fit_of_plain row is plain vars samples =
    let ts = tuples_of vars samples in
    plain_rows row is plain ts
    ∙ (told (relation_of row) ts
    ∙ (ap (λ n. cond (n == 0) Empty (cond (list_all (relation_of row) ts) Holds Broken)) (sym (count_of_tuples vars samples))
    ∙ ap (λ b. cond (count_of vars samples == 0) Empty (cond b Holds Broken)) (satisfied row vars samples)))

-- a number that isn't 0, and a test that passes
passes : (n : ℕ) (b : Bool) → IsTrue (fits (cond (n == 0) Empty (cond b Holds Broken))) ↔ ((0 < n) × IsTrue b)
passes zero b = (λ h. absurd (false≢true h), λ h. let l = h.0 in absurd (omega (arith, l)))
passes (suc n) b = subst (λ z. IsTrue (fits (cond z Empty (cond b Holds Broken))) ↔ ((0 < suc n) × IsTrue b)) (sym (ne_eqb (suc n) 0 (λ e. omega (arith, e)))) (some b)
  where
    some : (b : Bool) → IsTrue (fits (cond b Holds Broken)) ↔ ((0 < suc n) × IsTrue b)
    some true = (λ h. (omega arith, refl), λ h. refl)
    some false = (λ h. absurd (false≢true h), λ h. absurd (false≢true h.1))

pub plain_holds : PlainRowsHold
plain_holds row is plain vars samples =
    let n = count_of vars samples in
    let test = satisfies row vars in
    let e = ap fits (fit_of_plain row is plain vars samples) in
    let p = passes n (list_all test samples) in (
      λ h. let q = p.0 (sym e ∙ h) in (q.0, AllPass-from_list_all test samples q.1),
      λ h. e ∙ p.1 (h.0, list_all-from_AllPass test samples h.1),
    )

-- ---- variables that agree
alike_in : (samples : List (List Value)) (vars others : List VarId) → AreAlike samples vars others → All (λ s. tuple_in vars s ≡ tuple_in others s) samples
alike_in samples [] [] h k d l = refl
alike_in samples [] (w ∷ others) h k d l = absurd h
alike_in samples (v ∷ vars) [] h k d l = absurd h
alike_in samples (v ∷ vars) (w ∷ others) h k d l =
    let s = get_or samples k d in
    ap (λ x. x ∷ tuple_in vars s) (h.0 k d l) ∙ ap (λ t. value_in s w ∷ t) (alike_in samples vars others h.1 k d l)

same_map : (f g : List Value → List Value) (samples : List (List Value)) → All (λ s. f s ≡ g s) samples → map f samples ≡ map g samples
same_map f g [] h = refl
same_map f g (s ∷ samples) h =
    ap (λ t. t ∷ map f samples) (All-head (λ t. f t ≡ g t) s samples h) ∙ ap (λ ts. g s ∷ ts) (same_map f g samples (All-tail (λ t. f t ≡ g t) s samples h))

tuples_alike : (samples : List (List Value)) (vars others : List VarId) → AreAlike samples vars others → tuples_of vars samples ≡ tuples_of others samples
tuples_alike samples vars others h = ap (filter is_whole) (same_map (tuple_in vars) (tuple_in others) samples (alike_in samples vars others h))

pub fit_alike : AgreeingVariablesFitAlike
unfolding fit
fit_alike samples vars others h row = ap (state_of row) (tuples_alike samples vars others h)

pub count_alike : AgreeingVariablesCountAlike
count_alike samples vars others h =
    count_of_tuples vars samples ∙ (ap (λ ts. capped (length ts)) (tuples_alike samples vars others h) ∙ sym (count_of_tuples others samples))
