-- The rules are sound over samples.
use Rattle.std.specs.Prelude.{◌≡◌, ◌<◌, ◌&&◌, ◌==◌, ℕ, zero, suc, Bool, true, false, List, [], ◌∷◌, All, IsTrue, cond, length, map, nat_lt, refl}
use Rattle.std.specs.List.{list_all, list_any, AllByRecursion}
use Rattle.std.proofs.Common.{arith, ap, inl, inr, subst, sym, ◌∙◌}
use Rattle.std.proofs.lemmas.Bool.{and_from, and_parts, eqb-true, false≢true, ltb-true, or_cases}
use Rattle.std.proofs.lemmas.List.{get_or-map, length-map}
use Rattle.std.proofs.lemmas.List.Elements.{All-from_recursion, recursion_from_All, All-head, All-tail}
use Rattle.dk_base.specs.Values.Spelling.{IsWritten}
use Rattle.dk_base.specs.Values.Tuples.{value_at}
use Rattle.dk_base.specs.declared.kinds.VarId.{VarId}
use Rattle.dk_base.specs.declared.values.Value.{Value}
use Rattle.dk_base.specs.declared.values.Value.TheVariants as value
use Rattle.dk_forms.specs.Plain.{plain_of}
use Rattle.dk_forms.specs.declared.states.State.TheVariants as state
use Rattle.dk_meanings.proofs.RowLaws.{is_row_by, plain_rows}
use Rattle.dk_meanings.specs.Laws.{is_row}
use Rattle.dk_meanings.specs.Meanings.{meanings, relation_of, state_of}
use Rattle.dk_samples.specs.Samples.{is_present, value_in}
use Rattle.dk_suppress.proofs.Saying.{Says, can_say, plain_form, premise_says}
use Rattle.dk_suppress.proofs.TupleRules.{AreWritten, Follows, IsSound, part, rules_sound}
use Rattle.dk_suppress.specs.Rules.{Rule, rules}
use Rattle.dk_instances.specs.Fits.{fit, is_whole, tuple_in, tuples_of}
use Rattle.dk_suppress.specs.Soundness.{RulesAreSound, SuppressedInstancesHold, fit_of, holds_of}
use Rattle.dk_template.specs.Premises.{at_role, premise_fits, roles_read, row_of, suffices, vars_of}
use Rattle.dk_template.specs.Templates.{arity_of, form_of, is_plain, rows}
use Rattle.dk_template.specs.declared.answers.Premise.{Premise}
use Rattle.dk_template.specs.declared.answers.Premise.TheVariants.{Holds, LeastAtLeast, GreatestAtMost, Only}
use Rattle.dk_template.specs.declared.grammar.RowId.{RowId}

-- ---- lists
each_both : {A : Type 0} (P Q R : A → Type 0) → ((x : A) → P x → Q x → R x) → (xs : List A) → AllByRecursion P xs → AllByRecursion Q xs → AllByRecursion R xs
each_both P Q R f [] p q = tt
each_both P Q R f (x ∷ xs) p q = (f x p.0 q.0, each_both P Q R f xs p.1 q.1)

each_one : {A : Type 0} (P Q : A → Type 0) → ((x : A) → P x → Q x) → (xs : List A) → AllByRecursion P xs → AllByRecursion Q xs
each_one P Q f [] p = tt
each_one P Q f (x ∷ xs) p = (f x p.0, each_one P Q f xs p.1)

each_tested : {A : Type 0} (test : A → Bool) (xs : List A) → list_all test xs ≡ true → AllByRecursion (λ x. test x ≡ true) xs
each_tested test [] h = tt
each_tested test (x ∷ xs) h = let hs = and_parts (test x) (list_all test xs) h in (hs.0, each_tested test xs hs.1)

-- ---- from tuples to samples, and back
module _ (P : List Value → Type 0) (vars : List VarId) where
  abbrev OfSample : List Value → Type 0
  OfSample sample = is_whole (tuple_in vars sample) ≡ true → P (tuple_in vars sample)

  each_sample : (samples : List (List Value)) → AllByRecursion P (tuples_of vars samples) → AllByRecursion OfSample samples
  each_sample [] h = tt
  each_sample (sample ∷ samples) h =
      let t = tuple_in vars sample in
      let ts = tuples_of vars samples in (
        λ e. (subst (λ b. AllByRecursion P (cond b (t ∷ ts) ts)) e h).0,
        each_sample samples (elim (is_whole t) as (λ b. AllByRecursion P (cond b (t ∷ ts) ts) → AllByRecursion P ts) [ true ↦ λ k. k.1 | false ↦ λ k. k ] h),
      )

  each_of_tuples : (samples : List (List Value)) → AllByRecursion OfSample samples → AllByRecursion P (tuples_of vars samples)
  each_of_tuples [] h = tt
  each_of_tuples (sample ∷ samples) h =
      let t = tuple_in vars sample in
      let ts = tuples_of vars samples in
      elim (is_whole t) as (λ b. (b ≡ true → P t) → AllByRecursion P ts → AllByRecursion P (cond b (t ∷ ts) ts)) [
        | true ↦ λ f k. (f refl, k)
        | false ↦ λ f k. k
      ] h.0 (each_of_tuples samples h.1)

-- ---- the values that a premise reads
present_at : (tuple : List Value) → is_whole tuple ≡ true → (role : ℕ) → role < length tuple → is_present (value_at tuple role) ≡ true
present_at [] h role l = absurd (omega (arith, l))
present_at (v ∷ vs) h zero l = (and_parts (is_present v) (is_whole vs) h).0
present_at (v ∷ vs) h (suc role) l = present_at vs (and_parts (is_present v) (is_whole vs) h).1 role (omega (arith, l))

part_whole : (tuple : List Value) → is_whole tuple ≡ true → (roles : List ℕ) → AllByRecursion (λ role. role < length tuple) roles → is_whole (part roles tuple) ≡ true
part_whole tuple h [] l = refl
part_whole tuple h (role ∷ roles) l = and_from (is_present (value_at tuple role)) (is_whole (part roles tuple)) (present_at tuple h role l.0) (part_whole tuple h roles l.1)

-- a premise that can be asked of tuples with so many roles
abbrev is_ready : ℕ → Premise → Bool
is_ready arity p = can_say p && list_all (λ role. nat_lt role arity) (roles_read p)

module _ (vars : List VarId) where
  abbrev AreThere : List ℕ → Type 0
  AreThere roles = AllByRecursion (λ role. role < length vars) roles

  read_alike : (sample : List Value) (roles : List ℕ) → AreThere roles → tuple_in (map (λ role. at_role role vars) roles) sample ≡ part roles (tuple_in vars sample)
  read_alike sample [] l = refl
  read_alike sample (role ∷ roles) l =
      ap (λ v. v ∷ tuple_in (map (λ r. at_role r vars) roles) sample) (sym (get_or-map (value_in sample) vars role (record { 0 = 0 }) value.Missing l.0))
      ∙ ap (λ vs. value_at (tuple_in vars sample) role ∷ vs) (read_alike sample roles l.1)

  asked : (p : Premise) → vars_of p vars ≡ map (λ role. at_role role vars) (roles_read p)
  asked (Holds row roles) = refl
  asked (LeastAtLeast row role k) = refl
  asked (GreatestAtMost row role k) = refl
  asked (Only role k) = refl

  -- what a premise that fits says of each sample in which none of the conclusion's variables is missing
  abbrev SaysOf : Premise → List Value → Type 0
  SaysOf p sample = is_whole (tuple_in vars sample) ≡ true → Says p (part (roles_read p) (tuple_in vars sample))

  premise_of_samples : (samples : List (List Value)) (p : Premise) → can_say p ≡ true → AreThere (roles_read p) → premise_fits (fit_of samples) p vars ≡ true → AllByRecursion (SaysOf p) samples
  unfolding fit
  premise_of_samples samples p can l h =
      let own = map (λ role. at_role role vars) (roles_read p) in
      let sufficing : suffices p (state_of (row_of p) (tuples_of own samples)) ≡ true = subst (λ vs. suffices p (state_of (row_of p) (tuples_of vs samples)) ≡ true) (asked p) h in
      each_one (OfSample (Says p) own) (SaysOf p) (λ sample f whole.
      let same = read_alike sample (roles_read p) l in
      let long : length (tuple_in vars sample) ≡ length vars = length-map vars (value_in sample) in
      let there = subst (λ n. AllByRecursion (λ role. role < n) (roles_read p)) (sym long) l in
      subst (Says p) same (f (ap is_whole same ∙ part_whole (tuple_in vars sample) whole (roles_read p) there)))
      samples (each_sample (Says p) own samples (premise_says p (tuples_of own samples) can sufficing))

  roles_there : (roles : List ℕ) → list_all (λ role. nat_lt role (length vars)) roles ≡ true → AreThere roles
  roles_there roles h = each_one (λ role. nat_lt role (length vars) ≡ true) (λ role. role < length vars) (λ role e. ltb-true role (length vars) e) roles (each_tested (λ role. nat_lt role (length vars)) roles h)

  -- what follows from all premises
  conclude : (samples : List (List Value)) (G : List Value → Type 0) (premises : List Premise) → list_all (is_ready (length vars)) premises ≡ true
      → list_all (λ p. premise_fits (fit_of samples) p vars) premises ≡ true
      → AllByRecursion (λ sample. is_whole (tuple_in vars sample) ≡ true → Follows premises (tuple_in vars sample) (G (tuple_in vars sample))) samples
      → AllByRecursion (OfSample G vars) samples
  conclude samples G [] ready fitting h = h
  conclude samples G (p ∷ ps) ready fitting h =
      let readies = and_parts (is_ready (length vars) p) (list_all (is_ready (length vars)) ps) ready in
      let one = and_parts (can_say p) (list_all (λ role. nat_lt role (length vars)) (roles_read p)) readies.0 in
      let fits = and_parts (premise_fits (fit_of samples) p vars) (list_all (λ q. premise_fits (fit_of samples) q vars) ps) fitting in
      conclude samples G ps readies.1 fits.1 (each_both (SaysOf p) (λ sample. is_whole (tuple_in vars sample) ≡ true → Follows (p ∷ ps) (tuple_in vars sample) (G (tuple_in vars sample)))
      (λ sample. is_whole (tuple_in vars sample) ≡ true → Follows ps (tuple_in vars sample) (G (tuple_in vars sample))) (λ sample says follows whole. follows whole (says whole))
      samples (premise_of_samples samples p one.0 (roles_there (roles_read p) one.1) fits.0) h)

-- ---- written values
written_at : (tuple : List Value) → All IsWritten tuple → AreWritten tuple
written_at [] h role = tt
written_at (v ∷ vs) h zero = All-head IsWritten v vs h
written_at (v ∷ vs) h (suc role) = written_at vs (All-tail IsWritten v vs h) role

written_tuple : (vars : List VarId) (sample : List Value) → AreWritten sample → AreWritten (tuple_in vars sample)
written_tuple [] sample w role = tt
written_tuple (v ∷ vs) sample w zero = w v.0
written_tuple (v ∷ vs) sample w (suc role) = written_tuple vs sample w role

-- ---- a rule
all_relate : (row : RowId) (tuples : List (List Value)) → AllByRecursion (λ t. relation_of row t ≡ true) tuples → list_all (λ h. h) (map (relation_of row) tuples) ≡ true
all_relate row [] h = refl
all_relate row (t ∷ ts) h = and_from (relation_of row t) (list_all (λ b. b) (map (relation_of row) ts)) h.0 (all_relate row ts h.1)

plain_holds : (row : RowId) (tuples : List (List Value)) → AllByRecursion (λ t. relation_of row t ≡ true) tuples → plain_of (map (relation_of row) tuples) ≡ holds_of (length tuples)
plain_holds row [] h = refl
plain_holds row (t ∷ ts) h = ap (λ b. cond b state.Holds state.Broken) (all_relate row (t ∷ ts) h)

-- the conclusion is a row with a relation, and the premises can be asked of its tuples
abbrev is_ruled : Rule → Bool
is_ruled r = is_row r.0 && (is_plain (form_of r.0) && list_all (is_ready (arity_of r.0)) r.1)

module _ (samples : List (List Value)) (written : AllByRecursion (λ sample. All IsWritten sample) samples) where
  abbrev Concludes : Rule → Type 0
  Concludes r = (vars : List VarId) → length vars ≡ arity_of r.0 → IsTrue (list_all (λ p. premise_fits (fit_of samples) p vars) r.1) → fit_of samples r.0 vars ≡ holds_of (length (tuples_of vars samples))

  rule_concludes : (r : Rule) → IsSound r → is_ruled r ≡ true → Concludes r
  unfolding fit
  rule_concludes r sound ruled vars long fits =
      let rs = and_parts (is_row r.0) (is_plain (form_of r.0) && list_all (is_ready (arity_of r.0)) r.1) ruled in
      let ps = and_parts (is_plain (form_of r.0)) (list_all (is_ready (arity_of r.0)) r.1) rs.1 in
      let ready : list_all (is_ready (length vars)) r.1 ≡ true = subst (λ m. list_all (is_ready m) r.1 ≡ true) (sym long) ps.1 in
      let R : List Value → Type 0 = λ t. relation_of r.0 t ≡ true in
      let each = conclude vars samples R r.1 ready fits
      (each_one (λ sample. All IsWritten sample) (λ sample. is_whole (tuple_in vars sample) ≡ true → Follows r.1 (tuple_in vars sample) (R (tuple_in vars sample)))
      (λ sample w whole. sound (tuple_in vars sample) (written_tuple vars sample (written_at sample w))) samples written) in
      plain_rows r.0 (is_row_by r.0 rs.0) (plain_form (form_of r.0) ps.0) (tuples_of vars samples) ∙ plain_holds r.0 (tuples_of vars samples) (each_of_tuples R vars samples each)

  all_conclude : (rs : List Rule) → AllByRecursion IsSound rs → AllByRecursion (λ r. is_ruled r ≡ true) rs → AllByRecursion Concludes rs
  all_conclude rs sound ruled = each_both IsSound (λ r. is_ruled r ≡ true) Concludes rule_concludes rs sound ruled

  -- one of the rules fits
  some_concludes : (row : RowId) (vars : List VarId) → length vars ≡ arity_of row → (rs : List Rule) → AllByRecursion Concludes rs
      → list_any (λ (r : Rule). r.0.0 == row.0 && list_all (λ p. premise_fits (fit_of samples) p vars) r.1) rs ≡ true → fit_of samples row vars ≡ holds_of (length (tuples_of vars samples))
  some_concludes row vars long [] all h = absurd (false≢true h)
  some_concludes row vars long (r ∷ rs) all h =
      elim (or_cases (r.0.0 == row.0 && list_all (λ p. premise_fits (fit_of samples) p vars) r.1) (list_any (λ (q : Rule). q.0.0 == row.0 && list_all (λ p. premise_fits (fit_of samples) p vars) q.1) rs) h) [
        | inl one ↦
            let hs = and_parts (r.0.0 == row.0) (list_all (λ p. premise_fits (fit_of samples) p vars) r.1) one in
            let is : r.0 ≡ row = ap (λ (n : ℕ). record { 0 = n }) (eqb-true r.0.0 row.0 hs.0) in
            subst (λ (q : RowId). fit_of samples q vars ≡ holds_of (length (tuples_of vars samples))) is (all.0 vars (long ∙ ap arity_of (sym is)) hs.1)
        | inr more ↦ some_concludes row vars long rs all.1 more
      ]

-- ---- the table
all_ruled : list_all is_ruled rules ≡ true
unfolding rules rows meanings
all_ruled = refl

table_concludes : (samples : List (List Value)) → (written : All (λ s. All IsWritten s) samples) → AllByRecursion (Concludes samples (recursion_from_All (λ s. All IsWritten s) samples written)) rules
table_concludes samples written = all_conclude samples (recursion_from_All (λ s. All IsWritten s) samples written) rules rules_sound (each_tested is_ruled rules all_ruled)

pub rules_are_sound : RulesAreSound
rules_are_sound samples written =
    All-from_recursion (Concludes samples (recursion_from_All (λ s. All IsWritten s) samples written)) rules (table_concludes samples written)

pub suppressed_hold : SuppressedInstancesHold
suppressed_hold samples written row vars long h =
    some_concludes samples (recursion_from_All (λ s. All IsWritten s) samples written) row vars long rules (table_concludes samples written) h
