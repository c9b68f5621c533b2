-- What samples tell of a point doesn't depend on their order.
use Rattle.std.proofs.Common.{◌≡◌, ◌<◌, ◌-◌, ◌&&◌, ◌||◌, inl, inr, ℕ, Bool, true, false, not, cond, List, [], ◌∷◌, IsPermutation, length, map, refl, sym, ap, ◌∙◌, subst, arith}
use Rattle.std.proofs.Math.Path.{fun_ext}
use Rattle.std.proofs.lemmas.Bool.{cases_lt}
use Rattle.std.proofs.lemmas.List.{get_or_past}
use Rattle.std.proofs.lemmas.List.Sorted.{Contains-permutation, IsPermutation-sym, list_any-IsPermutation, sum_by-IsPermutation}
use Rattle.std.specs.List.{list_all, list_any}
use Rattle.dk_base.specs.Values.SameValues.{same_value}
use Rattle.dk_base.specs.declared.kinds.VarId.{VarId}
use Rattle.dk_base.specs.declared.kinds.VarInfo.{VarInfo}
use Rattle.dk_base.specs.declared.values.Value.{Value}
use Rattle.dk_filters.specs.Answers.{Answers}
use Rattle.dk_filters.specs.Facts.{info_at}
use Rattle.dk_filters.specs.OfSamples.{agrees, answers_of}
use Rattle.dk_forms.proofs.PlainLaws.{plain_summary}
use Rattle.dk_forms.specs.Laws.{IsIn, SameSet}
use Rattle.dk_forms.specs.Plain.{plain_of}
use Rattle.dk_forms.specs.declared.states.State.{State}
use Rattle.dk_instances.proofs.Fitting.{fit_of_set}
use Rattle.dk_instances.proofs.Members.{contained, in_filter, in_map, is_in, of_filter, of_map}
use Rattle.dk_instances.specs.Fits.{fit, is_whole, tuple_in, tuples_of}
use Rattle.dk_meanings.specs.Meaning.{Meaning, relation, state_by}
use Rattle.dk_meanings.specs.Meanings.{meanings, state_of}
use Rattle.dk_presence.specs.Patterns.{capped, count_of}
use Rattle.dk_samples.specs.Samples.{is_present, value_in}
use Rattle.dk_template.specs.Admitted.{same_kind}
use Rattle.dk_template.specs.declared.grammar.RowId.{RowId}

-- ---- the same values
same_set : {X : Type 0} (xs ys : List X) → IsPermutation xs ys → SameSet xs ys
same_set xs ys moved = record {
  to = λ x h. let c = Contains-permutation xs ys x moved (contained x xs h) in is_in x ys c.0 c.1 c.2;
  from = λ x h. let c = Contains-permutation ys xs x (IsPermutation-sym xs ys moved) (contained x ys h) in is_in x xs c.0 c.1 c.2;
}

module _ (vars : List VarId) where
  tuple_there : (samples others : List (List Value)) → ((s : List Value) → IsIn s samples → IsIn s others) → (t : List Value) → IsIn t (tuples_of vars samples) → IsIn t (tuples_of vars others)
  tuple_there samples others to t there =
      let whole = of_filter is_whole t (map (tuple_in vars) samples) there in
      let from = of_map (tuple_in vars) t samples whole.0 in
      in_filter is_whole t (map (tuple_in vars) others)
      (subst (λ (u : List Value). IsIn u (map (tuple_in vars) others)) (sym from.2) (in_map (tuple_in vars) from.0 others (to from.0 from.1))) whole.1

  tuples_same : (samples others : List (List Value)) → SameSet samples others → SameSet (tuples_of vars samples) (tuples_of vars others)
  tuples_same samples others same = record { to = tuple_there samples others same.to; from = tuple_there others samples same.from }

-- ---- fits
table_long : length meanings ≡ 68
unfolding meanings
table_long = refl

past_table : (r : RowId) → 68 < r.0 → (tuples : List (List Value)) → state_of r tuples ≡ plain_of (map (λ _. false) tuples)
unfolding state_of
past_table r past tuples =
    ap (λ (m : Meaning). state_by m tuples) (get_or_past meanings (r.0 - 1) (relation (λ tuple. false)) (omega (arith, past, table_long)))

in_front : (tuples : List (List Value)) → state_of (record { 0 = 0 }) tuples ≡ state_of (record { 0 = 1 }) tuples
unfolding state_of
in_front tuples = refl

fit_past : (r : RowId) → 68 < r.0 → (vars : List VarId) (samples others : List (List Value)) → SameSet samples others → fit r vars samples ≡ fit r vars others
unfolding fit
fit_past r past vars samples others same =
    past_table r past (tuples_of vars samples)
    ∙ plain_summary.same (map (λ _. false) (tuples_of vars samples)) (map (λ _. false) (tuples_of vars others)) falses
    ∙ sym (past_table r past (tuples_of vars others))
  where
    there : (ts us : List (List Value)) → ((t : List Value) → IsIn t ts → IsIn t us) → (b : Bool) → IsIn b (map (λ _. false) ts) → IsIn b (map (λ _. false) us)
    there ts us to b h =
        let from = of_map (λ (_ : List Value). false) b ts h in
        subst (λ (c : Bool). IsIn c (map (λ _. false) us)) (sym from.2) (in_map (λ (_ : List Value). false) from.0 us (to from.0 from.1))

    falses : SameSet (map (λ _. false) (tuples_of vars samples)) (map (λ _. false) (tuples_of vars others))
    falses = let both = tuples_same vars samples others same in record { to = there (tuples_of vars samples) (tuples_of vars others) both.to; from = there (tuples_of vars others) (tuples_of vars samples) both.from }

fit_first : (vars : List VarId) (samples : List (List Value)) → fit (record { 0 = 0 }) vars samples ≡ fit (record { 0 = 1 }) vars samples
unfolding fit
fit_first vars samples = in_front (tuples_of vars samples)

fit_same : (r : RowId) (vars : List VarId) (samples others : List (List Value)) → IsPermutation samples others → fit r vars samples ≡ fit r vars others
fit_same r vars samples others moved =
    let same = same_set samples others moved in
    elim (cases_lt 68 r.0) [
      | inl past ↦ fit_past r past vars samples others same
      | inr within ↦ elim (cases_lt 0 r.0) [
        | inl some ↦ fit_of_set r (omega arith, within) vars samples others same
        | inr none ↦
            let zeroth : r ≡ record { 0 = 0 } = let e : r.0 ≡ 0 = omega arith in ap (λ (n : ℕ). let q : RowId = record { 0 = n } in q) e in
            ap (λ (q : RowId). fit q vars samples) zeroth ∙ fit_first vars samples
            ∙ fit_of_set (record { 0 = 1 }) (omega arith, omega arith) vars samples others same
            ∙ sym (fit_first vars others) ∙ sym (ap (λ (q : RowId). fit q vars others) zeroth)
      ]
    ]

-- ---- counts and agreement
count_same : (vars : List VarId) (samples others : List (List Value)) → IsPermutation samples others → count_of vars samples ≡ count_of vars others
count_same vars samples others moved =
    ap capped (sym (sum_by-IsPermutation (λ (s : List Value). cond (list_all (λ v. is_present (value_in s v)) vars) 1 0) samples others moved))

all_by_any : {X : Type 0} (test : X → Bool) (xs : List X) → list_all test xs ≡ not (list_any (λ x. not (test x)) xs)
all_by_any test [] = refl
all_by_any test (x ∷ xs) = by (test x) (all_by_any test xs)
  where
    by : (b : Bool) → list_all test xs ≡ not (list_any (λ y. not (test y)) xs) → (b && list_all test xs) ≡ not (not b || list_any (λ y. not (test y)) xs)
    by true more = more
    by false more = refl

all_same : {X : Type 0} (test : X → Bool) (xs ys : List X) → IsPermutation xs ys → list_all test xs ≡ list_all test ys
all_same test xs ys moved =
    all_by_any test xs ∙ ap not (list_any-IsPermutation (λ x. not (test x)) xs ys moved) ∙ sym (all_by_any test ys)

agrees_same : (infos : List VarInfo) (samples others : List (List Value)) (v w : VarId) → IsPermutation samples others → agrees infos samples v w ≡ agrees infos others v w
agrees_same infos samples others v w moved =
    ap (λ (b : Bool). same_kind (info_at infos v).kind (info_at infos w).kind && b)
    (all_same (λ (s : List Value). same_value (value_in s v) (value_in s w)) samples others moved)

-- ---- answers
pub answers_same : (infos : List VarInfo) (samples others : List (List Value)) → IsPermutation samples others → answers_of infos samples ≡ answers_of infos others
answers_same infos samples others moved =
    ap (λ (f : RowId → List VarId → State). with_all f (λ vars. count_of vars samples) (agrees infos samples))
    (fun_ext (λ r. fun_ext (λ vars. fit_same r vars samples others moved)))
    ∙ ap (λ (f : List VarId → ℕ). with_all (λ row vars. fit row vars others) f (agrees infos samples))
    (fun_ext (λ vars. count_same vars samples others moved))
    ∙ ap (λ (f : VarId → VarId → Bool). with_all (λ row vars. fit row vars others) (λ vars. count_of vars others) f)
    (fun_ext (λ v. fun_ext (λ w. agrees_same infos samples others v w moved)))
  where
    with_all : (RowId → List VarId → State) → (List VarId → ℕ) → (VarId → VarId → Bool) → Answers
    with_all answered counted agreeing = record { infos = infos; answered = answered; counted = counted; agreeing = agreeing }
