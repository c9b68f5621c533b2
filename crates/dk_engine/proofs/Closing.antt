-- Which slots a rule begins to suppress.
use Rattle.std.specs.Prelude.{◌≡◌, ◌≢◌, ◌<◌, ◌&&◌, ◌||◌, ◌==◌, ◌+◌, ℕ, zero, suc, cond, true, false, Contains, IsTrue, List, [], ◌∷◌, ◌++◌, is_some, length, map, not, refl}
use Rattle.std.specs.List.{list_all}
use Rattle.std.proofs.Common.{ap, arith, get_or, inl, inr, subst, sym, ◌∙◌}
use Rattle.std.proofs.lemmas.Bool.{true_from_ne_false, and_parts, cases_Bool, cases_eq, eqb-true, false_from_ne_true, false≢true, not-true, true≢false}
use Rattle.std.proofs.lemmas.List.Elements.{All-head, All-contains}
use Rattle.std.proofs.lemmas.List.Folds.{Any-from_list_any}
use Rattle.std.proofs.lemmas.List.Sums.{AllPass-from_list_all}
use Rattle.dk_base.specs.declared.kinds.VarId.{VarId}
use Rattle.dk_base.specs.declared.kinds.VarInfo.{VarInfo}
use Rattle.dk_base.specs.declared.values.Value.{Value}
use Rattle.dk_classes.specs.Leaders.{own_leaders}
use Rattle.dk_instances.proofs.Members.{contained, in_filter, is_in, of_filter, of_map}
use Rattle.dk_instances.specs.Fits.{fit, is_whole, premise_holds, tuple_in}
use Rattle.dk_instances.proofs.Pushing.{fit_push}
use Rattle.dk_forms.specs.Laws.{IsIn}
use Rattle.dk_forms.specs.declared.states.State.{State}
use Rattle.dk_forms.specs.declared.states.State.TheVariants.{Broken, Empty}
use Rattle.dk_presence.specs.Patterns.{AreCounted, capped, pattern_count, patterns_of, present_in, same_vars, times}
use Rattle.dk_presence.specs.declared.held.Held.{Held}
use Rattle.dk_presence.proofs.Adding.{times-cons}
use Rattle.dk_presence.proofs.Sameness.{same_vars-true}
use Rattle.dk_samples.specs.Samples.{is_present, value_in}
use Rattle.dk_suppress.specs.Rules.{Rule, is_suppressed, rules}
use Rattle.dk_suppress.specs.Soundness.{fit_of}
use Rattle.dk_template.specs.Admitted.{admits}
use Rattle.dk_template.specs.Premises.{IsUsable, at_role, premise_fits, row_of, suffices, vars_of}
use Rattle.dk_template.specs.Exchange.{arrange_tuple}
use Rattle.dk_template.specs.Templates.{IsRow, arity_of, form_of, is_plain, rows, template_of}
use Rattle.dk_template.specs.declared.answers.Premise.{Premise}
use Rattle.dk_template.specs.declared.answers.Premise.TheVariants.{Holds, LeastAtLeast, GreatestAtMost, Only}
use Rattle.dk_template.specs.declared.templates.Symmetry.{Symmetry}
use Rattle.dk_suppress.specs.Laws.{AllPremises}
use Rattle.dk_template.specs.declared.grammar.Grammar.{Grammar}
use Rattle.dk_template.specs.declared.grammar.RowId.{RowId}
use Rattle.dk_engine.proofs.Telling.{suppressed_told}
use Rattle.dk_engine.proofs.PremiseSlots.{arranged_one, asked_all, long, passes, asks_placed, row_of_grammar, slot_tells, usable}
use Rattle.dk_engine.proofs.BegunPremises.{begins_apart, elements_are_not_plain, elements_begin_empty}
use Rattle.dk_engine.proofs.LostPremises.{begun_premise_suppresses, empty_alone_begins}
use Rattle.dk_engine.proofs.Pushing.{ArePresent, missing_changes_nothing, present_by_whole, whole_by_present}
use Rattle.dk_engine.proofs.SlotLookups.{slot_cases}
use Rattle.dk_engine.proofs.Standing.{leads_on}
use Rattle.dk_engine.proofs.Stepping.{had_slot}
use Rattle.dk_engine.specs.Exact.{ArePatterns, Lead}
use Rattle.dk_engine.specs.Feeding.{with_sample}
use Rattle.dk_engine.specs.Reading.Parts.{all_known, slot_at}
use Rattle.dk_engine.specs.declared.kept.Kept.{Kept}
use Rattle.dk_engine.specs.Feeding.Step.{IsPlaced, IsPremiseOf, IsStep, is_begun, is_empty_state, is_of_elements, slot_vars}
use Rattle.dk_engine.specs.declared.feed.now.Now.{Now}
use Rattle.dk_engine.specs.StepLaws.{FewSlotsClose}

-- ---- no rule concludes the least or the greatest element
none_concludes_elements : list_all (λ (r : Rule). not (is_of_elements r.0)) rules ≡ true
unfolding rules
none_concludes_elements = refl

elements_are_unsuppressed : (row : RowId) → is_of_elements row ≡ true → (answered : RowId → List VarId → State) (vars : List VarId) → is_suppressed answered row vars ≡ false
elements_are_unsuppressed row e answered vars =
    false_from_ne_true (is_suppressed answered row vars) (λ h.
    let found = Any-from_list_any (λ (r : Rule). r.0.0 == row.0 && list_all (λ p. premise_fits answered p vars) r.1) rules h in
    let r = found.1 in
    let same : r.0 ≡ row = ap (λ n. record { 0 = n }) (eqb-true r.0.0 row.0 (and_parts (r.0.0 == row.0) _ found.4).0) in
    let none = All-contains (λ (s : Rule). not (is_of_elements s.0) ≡ true) rules r (AllPass-from_list_all (λ (s : Rule). not (is_of_elements s.0)) rules none_concludes_elements) (found.0, found.2, found.3) in
    true≢false (sym e ∙ (ap is_of_elements (sym same) ∙ not-true (is_of_elements r.0) none)))

-- ---- leaders that were present together before
-- where the present leaders of two samples are the same, leaders that are present in the one are present in the other
present_too : (leaders : List VarId) (one other : List Value) → present_in leaders one ≡ present_in leaders other → (v : VarId) → Contains leaders v
    → is_present (value_in one v) ≡ true → is_present (value_in other v) ≡ true
present_too leaders one other same v has here =
    (of_filter (λ w. is_present (value_in other w)) v leaders (subst (IsIn v) same (in_filter (λ w. is_present (value_in one w)) v leaders (is_in v leaders has.0 has.1 has.2) here))).1

-- a pattern that is held is that of a sample
times_there : (pattern : List VarId) (patterns : List (List VarId)) → 0 < times pattern patterns → Contains patterns pattern
times_there pattern [] h = absurd (omega (arith, h))
times_there pattern (p ∷ patterns) h = elim (cases_Bool (same_vars pattern p)) [
  | inl e ↦ (0, omega arith, sym (same_vars-true pattern p e))
  | inr n ↦
      let count : times pattern (p ∷ patterns) ≡ times pattern patterns = times-cons pattern p patterns ∙ (ap (λ b. cond b 1 0 + times pattern patterns) n ∙ omega arith) in
      let rest = times_there pattern patterns (subst (λ m. 0 < m) count h) in
      let l = rest.1 in
      (suc rest.0, omega (arith, l), rest.2)
]

held_there : (patterns : List (List VarId)) (held : List Held) (pattern : List VarId) → AreCounted patterns held → 0 < pattern_count held pattern → Contains patterns pattern
held_there patterns held pattern counted h = times_there pattern patterns (some (times pattern patterns) (subst (λ n. 0 < n) (counted pattern) h))
  where
    some : (n : ℕ) → 0 < capped n → 0 < n
    some n l = omega (arith, l)

-- leaders that are present together in the sample were so in another one before
pub record SeenTogether (leaders : List VarId) (samples : List (List Value)) (sample : List Value) : Type 0 where
  pub each : (vars : List VarId) → Lead leaders vars → ArePresent sample vars → (old : List Value) × Contains samples old × (is_whole (tuple_in vars old) ≡ true)

-- where the pattern of the sample is held
pub seen_by_held : (leaders : List VarId) (samples : List (List Value)) (sample : List Value) (held : List Held) → ArePatterns (own_leaders leaders) samples held
    → 0 < pattern_count held (present_in (own_leaders leaders) sample) → SeenTogether leaders samples sample
seen_by_held leaders samples sample held are h =
    let own = own_leaders leaders in
    let c = held_there (patterns_of own samples) held (present_in own sample) are.counted h in
    let found = of_map (present_in own) (present_in own sample) samples (is_in (present_in own sample) (map (present_in own) samples) c.0 c.1 c.2) in
    record {
      each = λ vars lead here. (found.0, contained found.0 samples found.1, whole_by_present vars found.0 (λ k d l. present_too own sample found.0 found.2 (get_or vars k d) (lead k d l) (here k d l)));
    }

module _ {grammar : Grammar} {infos : List VarInfo} {samples : List (List Value)} {sample : List Value} {kept : Kept} {now : Now} (step : IsStep grammar infos samples sample kept now) where
  abbrev more : List (List Value)
  more = samples ++ sample ∷ []

  -- where these were together before, only premises about elements begin to fit
  pub only_elements_begin : {leaders : List VarId} → SeenTogether leaders samples sample → (vars : List VarId) → Lead leaders vars → (p : Premise) → IsUsable grammar infos p vars
      → is_begun (fit_of samples) (fit_of more) p vars ≡ true → is_of_elements (row_of p) ≡ true
  only_elements_begin {leaders} seen vars lead p can begun =
      let is = row_of_grammar grammar (row_of p) can.row in
      let parts = and_parts (premise_holds more p vars) (not (premise_holds samples p vars)) begun in
      let before = not-true (premise_holds samples p vars) parts.1 in
      let own = vars_of p vars in
      true_from_ne_false (is_of_elements (row_of p)) (λ other. elim (cases_Bool (is_whole (tuple_in own sample))) [
        | inl whole ↦
            let old = seen.each own (asked_all (Contains (own_leaders leaders)) p vars can.roles lead) (present_by_whole own sample whole) in
            let apart = begins_apart p can.formed is other own samples sample before parts.0 in
            true≢false (sym old.2 ∙ All-contains (λ s. is_whole (tuple_in own s) ≡ false) samples old.0 apart old.1)
        | inr missing ↦ true≢false (sym parts.0 ∙ (ap (suffices p) (missing_changes_nothing (row_of p) is own samples sample missing) ∙ before))
      ])

  -- a premise that begins to fit changes what is said of its slot
  pub begun_changes : (row : RowId) (vars : List VarId) → IsTrue (admits row infos vars) → (p : Premise) → IsPremiseOf row p → is_begun (fit_of samples) (fit_of more) p vars ≡ true
      → (suffices p (fit (row_of p) (slot_vars p vars) samples) ≡ false) × (suffices p (fit (row_of p) (slot_vars p vars) more) ≡ true)
  begun_changes row vars admitted p of begun =
      let can = usable grammar infos vars row admitted p of in
      let parts = and_parts (premise_holds more p vars) (not (premise_holds samples p vars)) begun in
      (sym (slot_tells grammar infos vars p can samples) ∙ not-true (premise_holds samples p vars) parts.1, sym (slot_tells grammar infos vars p can more) ∙ parts.0)

  -- about elements and over variables that aren't all constant, it has a slot, which was Empty
  pub begun_bound : (row : RowId) (vars : List VarId) → IsPlaced grammar infos kept.leaders row vars → (p : Premise) → IsPremiseOf row p → is_of_elements (row_of p) ≡ true
      → all_known kept.known (slot_vars p vars) ≡ false → is_begun (fit_of samples) (fit_of more) p vars ≡ true
      → (is_some (slot_at kept.slots (row_of p) (slot_vars p vars)) ≡ true) × (fit (row_of p) (slot_vars p vars) samples ≡ Empty)
  begun_bound row vars placed p of elements varies begun =
      let can = usable grammar infos vars row placed.over.admitted p of in
      let own = slot_vars p vars in
      let changes = begun_changes row vars placed.over.admitted p of begun in
      let empty = elements_begin_empty p can.formed elements own samples sample changes.0 changes.1 in
      let unbroken : fit (row_of p) own samples ≢ Broken = λ e. empty_is_not_broken (sym empty ∙ e) in
      (had_slot step (row_of p) own (asks_placed grammar infos kept.leaders vars p can placed.over.lead) varies unbroken (elements_are_unsuppressed (row_of p) elements (fit_of samples) own), empty)
    where
      empty_is_not_broken : Empty ≢ Broken
      empty_is_not_broken e = true≢false (ap is_empty_state e)

-- ---- the variables of a rule that asks for a bound of elements
one_role : AllPremises (λ r p. not (is_of_elements (row_of p)) || (arity_of r.0 == 1))
unfolding rules rows
one_role = refl

one_variable : (row : RowId) (p : Premise) → IsPremiseOf row p → is_of_elements (row_of p) ≡ true → arity_of row ≡ 1
one_variable row p of elements =
    ap arity_of (sym of.concludes)
    ∙ eqb-true (arity_of of.rule.0) 1 (ap (λ b. not b || (arity_of of.rule.0 == 1)) (sym elements) ∙ passes (λ r q. not (is_of_elements (row_of q)) || (arity_of r.0 == 1)) one_role row p of)

first_role : (y : Symmetry) (v : VarId) (role : ℕ) → role < 1 → arrange_tuple y (at_role role (v ∷ []) ∷ []) ≡ v ∷ []
first_role y v zero l = arranged_one y v
first_role y v (suc role) l = absurd (omega (arith, l))

same_variables : {grammar : Grammar} {infos : List VarInfo} (vars : List VarId) (p : Premise) → IsUsable grammar infos p vars → is_of_elements (row_of p) ≡ true → length vars ≡ 1 → slot_vars p vars ≡ vars
same_variables [] p can elements l = absurd (omega (arith, l))
same_variables (v ∷ []) (Holds row roles) can elements l = absurd (true≢false (sym (and_parts (is_plain (form_of row)) _ can.formed).0 ∙ elements_are_not_plain row elements))
same_variables (v ∷ []) (LeastAtLeast row role k) can elements l = first_role (template_of row).symmetry v role (All-head (λ r. r < 1) role [] can.roles)
same_variables (v ∷ []) (GreatestAtMost row role k) can elements l = first_role (template_of row).symmetry v role (All-head (λ r. r < 1) role [] can.roles)
same_variables (v ∷ []) (Only role k) can elements l = absurd (false≢true elements)
same_variables (v ∷ w ∷ vars) p can elements l = absurd (omega (arith, l))

-- ---- the slots that close
empty_suffices_not : (p : Premise) → suffices p Empty ≡ false
empty_suffices_not (Holds row roles) = refl
empty_suffices_not (LeastAtLeast row role k) = refl
empty_suffices_not (GreatestAtMost row role k) = refl
empty_suffices_not (Only role k) = refl

pub few_slots_close : FewSlotsClose
few_slots_close grammar infos samples sample kept now step after tells held are slot has suppressed =
    let more : List (List Value) = samples ++ sample ∷ [] in
    let row = slot.row in
    let vars = slot.leaders in
    let had = (step.before.slots.each slot).0 has in
    let is = row_of_grammar grammar row had.over.of_grammar in
    let begun = begun_premise_suppresses samples sample row vars had.unsuppressed (sym (suppressed_told tells row vars had.over.admitted) ∙ suppressed) in
    let p = begun.0 in
    let can = usable grammar infos vars row had.over.admitted p begun.1 in
    let is_own = row_of_grammar grammar (row_of p) can.row in
    elim (cases_Bool (is_of_elements (row_of p))) [
      | inl elements ↦
          let own = same_variables vars p can elements (long row infos vars had.over.admitted ∙ one_variable row p begun.1 elements) in
          let bound = begun_bound step row vars (record { over = had.over; written = had.written }) p begun.1 elements (ap (all_known kept.known) own ∙ had.varies) begun.2 in
          let changes = begun_changes step row vars had.over.admitted p begun.1 begun.2 in
          elim (slot_cases kept.slots (row_of p) (slot_vars p vars)) [
            | inl none ↦ absurd (true≢false (sym bound.0 ∙ ap is_some none))
            | inr found ↦
                let b = found.0 in
                let told = ((step.before.slots.each b).0 found.1).state in
                let said : b.state ≡ fit (row_of p) (slot_vars p vars) samples = told ∙ (ap (λ r. fit r b.leaders samples) found.2 ∙ ap (λ vs. fit (row_of p) vs samples) found.3) in
                let says : with_sample b.row b.leaders sample b.state ≡ fit (row_of p) (slot_vars p vars) more =
                ap (with_sample b.row b.leaders sample) told
                ∙ (sym (fit_push b.row (subst IsRow (sym found.2) is_own) b.leaders samples sample) ∙ (ap (λ r. fit r b.leaders more) found.2 ∙ ap (λ vs. fit (row_of p) vs more) found.3)) in
                inr (
                  b,
                  record {
                    kept = found.1;
                    elements = ap is_of_elements found.2 ∙ elements;
                    vars = found.3 ∙ own;
                    was = said ∙ bound.1;
                    isnt = λ e. true≢false (sym changes.1 ∙ (ap (suffices p) (sym says ∙ e) ∙ empty_suffices_not p));
                  },
                )
          ]
      | inr other ↦
          let empty = empty_alone_begins row is vars p can.formed is_own can.roles other samples sample begun.2 in
          inl (
            had.state ∙ empty.1,
            elim (cases_eq (pattern_count held (present_in (own_leaders now.leaders) sample)) 0) [
              | inl none ↦ none
              | inr some ↦
                  let seen = seen_by_held now.leaders samples sample held are (omega (arith, some)) in
                  let elements = only_elements_begin step seen vars (λ k d l. leads_on step (get_or vars k d) (had.over.lead k d l)) p can begun.2 in
                  absurd (true≢false (sym elements ∙ other))
            ],
          )
    ]
