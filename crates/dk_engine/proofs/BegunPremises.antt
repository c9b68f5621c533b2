-- Which premises can begin to fit.
use Rattle.std.specs.Prelude.{◌≡◌, ◌||◌, ◌==◌, ℤ, int_le, Bool, true, false, List, [], ◌∷◌, ◌++◌, cond, flat_map, length, map, nat_le, refl}
use Rattle.std.specs.Int.{int_max, int_min}
use Rattle.std.specs.Cmp.{int_cmp_is}
use Rattle.std.specs.List.{AllByRecursion, list_all}
use Rattle.std.specs.Ordering.{int_cmp}
use Rattle.std.specs.declared.cmp.Ordering.TheVariants.{Equal}
use Rattle.std.proofs.Common.{ap, arith, inl, inr, subst, sym, ◌∙◌}
use Rattle.std.proofs.lemmas.Bool.{eqb-true, false≢true, or_cases, or_parts, true≢false}
use Rattle.std.proofs.lemmas.Int.{clamps, ints as int_rules}
use Rattle.dk_base.specs.Values.Tuples.{int_of, ints_of, value_at}
use Rattle.dk_base.specs.declared.kinds.VarId.{VarId}
use Rattle.dk_base.specs.declared.values.Value.{Value}
use Rattle.dk_forms.specs.Greatest.{greatest_of, greatest_join, greatest_known, greatest_state}
use Rattle.dk_forms.specs.Ints.{ints_of as ints_state_of, ints_state}
use Rattle.dk_forms.specs.Known.{Known, both, broken, fact, nothing}
use Rattle.dk_forms.specs.Known.Distinct.{by_order, distinct, put}
use Rattle.dk_forms.specs.Least.{least_of, least_join, least_known, least_state}
use Rattle.dk_forms.specs.Plain.{plain_join}
use Rattle.dk_forms.specs.declared.states.State.{State}
use Rattle.dk_forms.specs.declared.states.State.TheVariants as state
use Rattle.dk_instances.specs.Fits.{fit, is_whole, tuple_in, tuples_of}
use Rattle.dk_meanings.proofs.RowLaws.{laws_of, plain_rows}
use Rattle.dk_meanings.specs.Meanings.{elements, itself, meanings, of_one, relation_of, state_of}
use Rattle.dk_suppress.proofs.Saying.{Says, plain_form, premise_says}
use Rattle.dk_template.specs.Fitting.{fits}
use Rattle.dk_template.specs.Joins.{joined}
use Rattle.dk_template.specs.Premises.{is_formed, is_greatest_to, is_least_from, is_only, one_of_int, row_of, suffices}
use Rattle.dk_template.specs.Templates.{IsRow, form_of, is_plain, rows}
use Rattle.dk_template.specs.declared.answers.Premise.{Premise}
use Rattle.dk_template.specs.declared.answers.Premise.TheVariants.{Holds, LeastAtLeast, GreatestAtMost, Only}
use Rattle.dk_template.specs.declared.grammar.RowId.{RowId}
use Rattle.std.proofs.lemmas.Bool.{and_parts}
use Rattle.dk_engine.proofs.Pushing.{AreApart, apart_by_tuples, tuples_push}
use Rattle.dk_engine.specs.Feeding.Step.{is_of_elements}

-- ---- what a join tells of its first state
plain_before : (b : Bool) (s : State) → fits (plain_join (cond b state.Holds state.Broken) s) ≡ true → fits (cond b state.Holds state.Broken) ≡ true
plain_before true s h = refl
plain_before false s h = absurd (false≢true h)

least_before : (k v : ℤ) (s : State) → is_least_from k (least_join (state.Least v) s) ≡ true → int_le k v ≡ true
least_before k v s h = by (least_known s) h
  where
    by : (b : Known ℤ) → is_least_from k (least_state (both (λ x y. fact (int_min x y)) (fact v) b)) ≡ true → int_le k v ≡ true
    by nothing h = h
    by broken h = absurd (false≢true h)
    by (fact w) h = grind (arith, int_rules, clamps)

greatest_before : (k v : ℤ) (s : State) → is_greatest_to k (greatest_join (state.Greatest v) s) ≡ true → int_le v k ≡ true
greatest_before k v s h = by (greatest_known s) h
  where
    by : (b : Known ℤ) → is_greatest_to k (greatest_state (both (λ x y. fact (int_max x y)) (fact v) b)) ≡ true → int_le v k ≡ true
    by nothing h = h
    by broken h = absurd (false≢true h)
    by (fact w) h = grind (arith, int_rules, clamps)

-- ---- one distinct number
equal_order : (k : ℤ) → int_cmp k k ≡ Equal
equal_order k = sym (int_cmp_is k k Equal refl)

put_again : (k : ℤ) → put int_cmp k (k ∷ []) ≡ k ∷ []
unfolding put
put_again k = ap (λ o. by_order o (k ∷ k ∷ []) (k ∷ []) (k ∷ k ∷ [])) (equal_order k)

distinct_alike : (k x : ℤ) (xs : List ℤ) → AllByRecursion (λ v. v ≡ k) (x ∷ xs) → distinct int_cmp (x ∷ xs) ≡ k ∷ []
unfolding put
distinct_alike k x [] h = ap (λ y. y ∷ []) h.0
distinct_alike k x (y ∷ xs) h = ap (λ z. put int_cmp z (distinct int_cmp (y ∷ xs))) h.0 ∙ (ap (put int_cmp k) (distinct_alike k y xs h.1) ∙ put_again k)

only_of_alike : (k x : ℤ) (xs : List ℤ) → AllByRecursion (λ v. v ≡ k) (x ∷ xs) → is_only k (ints_state_of (x ∷ xs)) ≡ true
only_of_alike k x xs h =
    ap (λ s. is_only k (ints_state (cond (nat_le (length s) 3) (fact s) broken))) (distinct_alike k x xs h) ∙ grind (arith, int_rules)

first_numbers : (k : ℤ) (ts us : List (List Value)) → AllByRecursion (Says (Only 0 k)) (ts ++ us) → AllByRecursion (λ v. v ≡ k) (flat_map (of_one int_of itself) ts)
unfolding meanings
first_numbers k [] us h = tt
first_numbers k (t ∷ ts) us h = (h.0.0, first_numbers k ts us h.1)

-- ---- a premise over some tuples and more
least_on_first : (k : ℤ) (t : List Value) (ts us : List (List Value)) → is_least_from k (state_of (record { 0 = 2 }) (t ∷ ts ++ us)) ≡ true → is_least_from k (state_of (record { 0 = 2 }) (t ∷ ts)) ≡ true
unfolding state_of meanings rows
least_on_first k t ts us h = least_before k _ (state_of (record { 0 = 2 }) us) (ap (is_least_from k) (sym ((laws_of (record { 0 = 2 }) (omega arith, omega arith)).both (t ∷ ts) us)) ∙ h)

greatest_on_first : (k : ℤ) (t : List Value) (ts us : List (List Value)) → is_greatest_to k (state_of (record { 0 = 3 }) (t ∷ ts ++ us)) ≡ true → is_greatest_to k (state_of (record { 0 = 3 }) (t ∷ ts)) ≡ true
unfolding state_of meanings rows
greatest_on_first k t ts us h = greatest_before k _ (state_of (record { 0 = 3 }) us) (ap (is_greatest_to k) (sym ((laws_of (record { 0 = 3 }) (omega arith, omega arith)).both (t ∷ ts) us)) ∙ h)

only_on_first : (k : ℤ) (t : List Value) (ts us : List (List Value)) → is_only k (state_of one_of_int (t ∷ ts ++ us)) ≡ true → is_only k (state_of one_of_int (t ∷ ts)) ≡ true
unfolding state_of meanings
only_on_first k t ts us h = only_of_alike k (int_of (value_at t 0)) (flat_map (of_one int_of itself) ts) (first_numbers k (t ∷ ts) us (premise_says (Only 0 k) (t ∷ ts ++ us) refl h))

-- not about elements, it fits on the first ones, if there are any and it fits on all
fits_on_first : (p : Premise) → is_formed p ≡ true → IsRow (row_of p) → is_of_elements (row_of p) ≡ false → (t : List Value) (ts us : List (List Value))
    → suffices p (state_of (row_of p) (t ∷ ts ++ us)) ≡ true → suffices p (state_of (row_of p) (t ∷ ts)) ≡ true
fits_on_first (Holds row roles) formed is other t ts us h =
    let plain = plain_form (form_of row) (and_parts (is_plain (form_of row)) _ formed).0 in
    let told = plain_rows row is plain (t ∷ ts) in
    let all = list_all (λ b. b) (map (relation_of row) (t ∷ ts)) in
    ap fits told
    ∙ plain_before all (state_of row us)
    (ap (λ s. fits (plain_join s (state_of row us))) (sym told) ∙ (ap (λ f. fits (joined f (state_of row (t ∷ ts)) (state_of row us))) (sym plain) ∙ (ap fits (sym ((laws_of row is).both (t ∷ ts) us)) ∙ h)))
fits_on_first (LeastAtLeast row role k) formed is other t ts us h = elim (or_cases (row.0 == 2) (row.0 == 36) formed) [
  | inl e ↦
      let same : row ≡ record { 0 = 2 } = ap (λ n. record { 0 = n }) (eqb-true row.0 2 e) in
      subst (λ r. is_least_from k (state_of r (t ∷ ts)) ≡ true) (sym same) (least_on_first k t ts us (subst (λ r. is_least_from k (state_of r (t ∷ ts ++ us)) ≡ true) same h))
  | inr e ↦ absurd (true≢false (sym e ∙ (or_parts (row.0 == 36) (row.0 == 37) other).0))
]
fits_on_first (GreatestAtMost row role k) formed is other t ts us h = elim (or_cases (row.0 == 3) (row.0 == 37) formed) [
  | inl e ↦
      let same : row ≡ record { 0 = 3 } = ap (λ n. record { 0 = n }) (eqb-true row.0 3 e) in
      subst (λ r. is_greatest_to k (state_of r (t ∷ ts)) ≡ true) (sym same) (greatest_on_first k t ts us (subst (λ r. is_greatest_to k (state_of r (t ∷ ts ++ us)) ≡ true) same h))
  | inr e ↦ absurd (true≢false (sym e ∙ (or_parts (row.0 == 36) (row.0 == 37) other).1))
]
fits_on_first (Only role k) formed is other t ts us h = only_on_first k t ts us h

-- So a premise that isn't about elements begins to fit only where its variables were present together in no sample.
pub begins_apart : (p : Premise) → is_formed p ≡ true → IsRow (row_of p) → is_of_elements (row_of p) ≡ false → (vars : List VarId) (samples : List (List Value)) (sample : List Value)
    → suffices p (fit (row_of p) vars samples) ≡ false → suffices p (fit (row_of p) vars (samples ++ sample ∷ [])) ≡ true → AreApart vars samples
unfolding fit
begins_apart p formed is other vars samples sample before after =
    let t = tuple_in vars sample in
    apart_by_tuples vars samples (none (tuples_of vars samples) (cond (is_whole t) (t ∷ []) []) before (ap (λ us. suffices p (state_of (row_of p) us)) (sym (tuples_push vars samples sample)) ∙ after))
  where
    none : (ts us : List (List Value)) → suffices p (state_of (row_of p) ts) ≡ false → suffices p (state_of (row_of p) (ts ++ us)) ≡ true → ts ≡ []
    none [] us b a = refl
    none (t ∷ ts) us b a = absurd (true≢false (sym (fits_on_first p formed is other t ts us a) ∙ b))

-- ---- a premise about elements
least_began : (k : ℤ) (xs : List ℤ) (s : State) → is_least_from k (least_of xs) ≡ false → is_least_from k (least_join (least_of xs) s) ≡ true → least_of xs ≡ state.Empty
least_began k [] s b a = refl
least_began k (x ∷ xs) s b a = absurd (true≢false (sym (least_before k _ s a) ∙ b))

greatest_began : (k : ℤ) (xs : List ℤ) (s : State) → is_greatest_to k (greatest_of xs) ≡ false → is_greatest_to k (greatest_join (greatest_of xs) s) ≡ true → greatest_of xs ≡ state.Empty
greatest_began k [] s b a = refl
greatest_began k (x ∷ xs) s b a = absurd (true≢false (sym (greatest_before k _ s a) ∙ b))

least_element_began : (k : ℤ) (ts us : List (List Value)) → is_least_from k (state_of (record { 0 = 36 }) ts) ≡ false → is_least_from k (state_of (record { 0 = 36 }) (ts ++ us)) ≡ true
    → state_of (record { 0 = 36 }) ts ≡ state.Empty
unfolding state_of meanings rows
least_element_began k ts us b a =
    least_began k (flat_map (of_one ints_of elements) ts) (state_of (record { 0 = 36 }) us) b (ap (is_least_from k) (sym ((laws_of (record { 0 = 36 }) (omega arith, omega arith)).both ts us)) ∙ a)

greatest_element_began : (k : ℤ) (ts us : List (List Value)) → is_greatest_to k (state_of (record { 0 = 37 }) ts) ≡ false → is_greatest_to k (state_of (record { 0 = 37 }) (ts ++ us)) ≡ true
    → state_of (record { 0 = 37 }) ts ≡ state.Empty
unfolding state_of meanings rows
greatest_element_began k ts us b a =
    greatest_began k (flat_map (of_one ints_of elements) ts) (state_of (record { 0 = 37 }) us) b (ap (is_greatest_to k) (sym ((laws_of (record { 0 = 37 }) (omega arith, omega arith)).both ts us)) ∙ a)

-- the rows of elements are of no other form
least_or_not : (row : RowId) → is_of_elements row ≡ true → ((row.0 == 2) || (row.0 == 36)) ≡ true → row ≡ record { 0 = 36 }
least_or_not row e f = elim (or_cases (row.0 == 36) (row.0 == 37) e) [
  | inl so ↦ ap (λ n. record { 0 = n }) (eqb-true row.0 36 so)
  | inr other ↦ absurd (false≢true (subst (λ n. ((n == 2) || (n == 36)) ≡ true) (eqb-true row.0 37 other) f))
]

greatest_or_not : (row : RowId) → is_of_elements row ≡ true → ((row.0 == 3) || (row.0 == 37)) ≡ true → row ≡ record { 0 = 37 }
greatest_or_not row e f = elim (or_cases (row.0 == 36) (row.0 == 37) e) [
  | inl other ↦ absurd (false≢true (subst (λ n. ((n == 3) || (n == 37)) ≡ true) (eqb-true row.0 36 other) f))
  | inr so ↦ ap (λ n. record { 0 = n }) (eqb-true row.0 37 so)
]

pub elements_are_not_plain : (row : RowId) → is_of_elements row ≡ true → is_plain (form_of row) ≡ false
unfolding rows
elements_are_not_plain row e = elim (or_cases (row.0 == 36) (row.0 == 37) e) [
  | inl so ↦ ap (λ n. is_plain (form_of (record { 0 = n }))) (eqb-true row.0 36 so)
  | inr so ↦ ap (λ n. is_plain (form_of (record { 0 = n }))) (eqb-true row.0 37 so)
]

-- A premise about elements begins to fit only where its state was Empty.
pub elements_begin_empty : (p : Premise) → is_formed p ≡ true → is_of_elements (row_of p) ≡ true → (vars : List VarId) (samples : List (List Value)) (sample : List Value)
    → suffices p (fit (row_of p) vars samples) ≡ false → suffices p (fit (row_of p) vars (samples ++ sample ∷ [])) ≡ true → fit (row_of p) vars samples ≡ state.Empty
unfolding fit
elements_begin_empty (Holds row roles) formed e vars samples sample b a = absurd (true≢false (sym (and_parts (is_plain (form_of row)) _ formed).0 ∙ elements_are_not_plain row e))
elements_begin_empty (LeastAtLeast row role k) formed e vars samples sample b a =
    let own = least_or_not row e formed in
    let us = cond (is_whole (tuple_in vars sample)) (tuple_in vars sample ∷ []) [] in
    let ts = tuples_of vars samples in
    ap (λ r. state_of r ts) own
    ∙ least_element_began k ts us (ap (λ r. is_least_from k (state_of r ts)) (sym own) ∙ b)
    (ap (λ r. is_least_from k (state_of r (ts ++ us))) (sym own) ∙ (ap (λ vs. is_least_from k (state_of row vs)) (sym (tuples_push vars samples sample)) ∙ a))
elements_begin_empty (GreatestAtMost row role k) formed e vars samples sample b a =
    let own = greatest_or_not row e formed in
    let us = cond (is_whole (tuple_in vars sample)) (tuple_in vars sample ∷ []) [] in
    let ts = tuples_of vars samples in
    ap (λ r. state_of r ts) own
    ∙ greatest_element_began k ts us (ap (λ r. is_greatest_to k (state_of r ts)) (sym own) ∙ b)
    (ap (λ r. is_greatest_to k (state_of r (ts ++ us))) (sym own) ∙ (ap (λ vs. is_greatest_to k (state_of row vs)) (sym (tuples_push vars samples sample)) ∙ a))
elements_begin_empty (Only role k) formed e vars samples sample b a = absurd (false≢true e)
