-- A sample that changes nothing, and the first sample.
use Rattle.std.specs.Prelude.{◌≡◌, ◌≢◌, ◌<◌, true, false, All, Contains, List, [], ◌∷◌, ◌++◌, is_some, not, refl}
use Rattle.std.proofs.Common.{ap, arith, get_or, inl, inr, subst, sym, ◌∙◌}
use Rattle.std.proofs.lemmas.Bool.{and_parts, false_from_ne_true, not-true, true≢false}
use Rattle.std.proofs.lemmas.List.Elements.{All-cons, All-contains, All-nil}
use Rattle.std.proofs.lemmas.List.Sums.{list_all-from_AllPass}
use Rattle.dk_base.specs.declared.kinds.VarId.{VarId}
use Rattle.dk_base.specs.declared.kinds.VarInfo.{VarInfo}
use Rattle.dk_base.specs.declared.values.Value.{Value}
use Rattle.dk_classes.specs.Leaders.{own_leaders}
use Rattle.dk_constants.specs.Known.{known_at}
use Rattle.dk_instances.specs.Fits.{fit, premise_holds}
use Rattle.dk_instances.proofs.Pushing.{fit_push}
use Rattle.dk_forms.specs.declared.states.State.{State}
use Rattle.dk_samples.specs.Samples.{value_in}
use Rattle.dk_presence.specs.Patterns.{pattern_count, present_in}
use Rattle.dk_suppress.specs.Rules.{is_suppressed}
use Rattle.dk_suppress.specs.Soundness.{fit_of}
use Rattle.dk_template.specs.Premises.{row_of, suffices}
use Rattle.dk_template.specs.declared.answers.Premise.{Premise}
use Rattle.dk_template.specs.declared.grammar.Grammar.{Grammar}
use Rattle.dk_template.specs.declared.grammar.RowId.{RowId}
use Rattle.dk_engine.proofs.Telling.{fits_tell}
use Rattle.dk_engine.proofs.PremiseSlots.{row_of_grammar, slot_tells, usable}
use Rattle.dk_engine.proofs.Closing.{SeenTogether, begun_bound, begun_changes, only_elements_begin, seen_by_held}
use Rattle.dk_engine.proofs.LostPremises.{begun_premise_suppresses}
use Rattle.dk_engine.proofs.SlotLookups.{slot_cases}
use Rattle.dk_engine.proofs.Standing.{all_known_still, constants_say_the_same}
use Rattle.dk_engine.proofs.Stepping.{stepped_slots_are_exact}
use Rattle.dk_engine.proofs.Unsplit.{unsplit_leaders_stay}
use Rattle.dk_engine.specs.Exact.{IsSlot, Lead}
use Rattle.dk_engine.specs.Feeding.{with_sample}
use Rattle.dk_engine.specs.Reading.Parts.{all_known, slot_at}
use Rattle.dk_engine.specs.declared.kept.Kept.{Kept}
use Rattle.dk_engine.specs.Feeding.Step.{AreCandidates, ChangesNothing, IsPlaced, IsPremiseOf, IsStep, is_begun, is_touched, slot_vars}
use Rattle.dk_engine.specs.declared.feed.now.Now.{Now}
use Rattle.dk_engine.specs.StepLaws.{FirstSampleHasNoSlots, UnchangedSlotsAreExact}
use Rattle.dk_engine.specs.declared.slots.slot.Slot.{Slot}

module _ {grammar : Grammar} {infos : List VarInfo} {samples : List (List Value)} {sample : List Value} {kept : Kept} {now : Now} (step : IsStep grammar infos samples sample kept now)
    (quiet : ChangesNothing sample kept now) where
  abbrev more : List (List Value)
  more = samples ++ sample ∷ []

  -- ---- what isn't touched
  untouched : (vars : List VarId) → is_touched now vars ≡ false
  untouched vars =
      subst (λ new. is_touched (record { leaders = now.leaders; known = now.known; new = new; ended = now.ended }) vars ≡ false) (sym quiet.unsplit)
      (subst (λ ended. is_touched (record { leaders = now.leaders; known = now.known; new = []; ended = ended }) vars ≡ false) (sym quiet.unended) (none vars))
    where
      none : (vs : List VarId) → is_touched (record { leaders = now.leaders; known = now.known; new = []; ended = [] }) vs ≡ false
      none [] = refl
      none (v ∷ vs) = none vs

  -- a premise with a slot finds the same as before
  slot_stays : (row : RowId) (vars : List VarId) → is_some (slot_at kept.slots row vars) ≡ true → fit row vars more ≡ fit row vars samples
  slot_stays row vars found = elim (slot_cases kept.slots row vars) [
    | inl none ↦ absurd (true≢false (sym found ∙ ap is_some none))
    | inr f ↦
        let slot = f.0 in
        let has = (step.before.slots.each slot).0 f.1 in
        let same : fit slot.row slot.leaders more ≡ fit slot.row slot.leaders samples =
        fit_push slot.row (row_of_grammar grammar slot.row has.over.of_grammar) slot.leaders samples sample
        ∙ (ap (with_sample slot.row slot.leaders sample) (sym has.state) ∙ (All-contains (λ (s : Slot). with_sample s.row s.leaders sample s.state ≡ s.state) kept.slots slot quiet.stays f.1 ∙ has.state)) in
        subst (λ r. fit r vars more ≡ fit r vars samples) f.2 (subst (λ vs. fit slot.row vs more ≡ fit slot.row vs samples) f.3 same)
  ]

  -- ---- nothing closes
  seen : SeenTogether kept.leaders samples sample
  seen =
      seen_by_held kept.leaders samples sample kept.held step.before.held
      (subst (λ own. 0 < pattern_count kept.held (present_in own sample)) (unsplit_leaders_stay grammar infos samples sample kept now step quiet.unsplit) quiet.seen)

  nothing_begins : (row : RowId) (vars : List VarId) → IsPlaced grammar infos kept.leaders row vars → (p : Premise) → IsPremiseOf row p → is_begun (fit_of samples) (fit_of more) p vars ≡ false
  nothing_begins row vars placed p of =
      false_from_ne_true (is_begun (fit_of samples) (fit_of more) p vars) (λ begun.
      let can = usable grammar infos vars row placed.over.admitted p of in
      let elements = only_elements_begin step seen vars placed.over.lead p can begun in
      let own = slot_vars p vars in
      let changes = begun_changes step row vars placed.over.admitted p of begun in
      let moves : fit (row_of p) own more ≢ fit (row_of p) own samples = λ same. true≢false (sym changes.1 ∙ (ap (suffices p) same ∙ changes.0)) in
      let lasts : All (λ v. is_some (known_at now.ended v) ≡ false) own = λ k d l. ap (λ ended. is_some (known_at ended (get_or own k d))) quiet.unended in
      let varies = false_from_ne_true (all_known kept.known own) (λ e. moves (constants_say_the_same step (row_of p) (row_of_grammar grammar (row_of p) can.row) own (all_known_still step own lasts e))) in
      moves (slot_stays (row_of p) own (begun_bound step row vars placed p of elements varies begun).0))

  stays_unsuppressed : (slot : Slot) → IsSlot grammar infos samples kept.leaders kept.known slot → is_suppressed (fit_of more) slot.row slot.leaders ≡ false
  stays_unsuppressed slot has =
      false_from_ne_true (is_suppressed (fit_of more) slot.row slot.leaders) (λ closed.
      let begun = begun_premise_suppresses samples sample slot.row slot.leaders has.unsuppressed closed in
      true≢false (sym begun.2 ∙ nothing_begins slot.row slot.leaders (record { over = has.over; written = has.written }) begun.0 begun.1))

  -- ---- no candidates are needed
  no_candidates : AreCandidates grammar infos (fit_of samples) (fit_of more) kept.slots now []
  no_candidates = record {
    placed = All-nil (λ (c : RowId × List VarId). IsPlaced grammar infos now.leaders c.0 c.1);
    touched = λ row vars placed touched unbroken. absurd (true≢false (sym touched ∙ untouched vars));
    freed = λ row vars freed. elim freed.reached [
      | inl found ↦
          let p = freed.premise in
          let can = usable grammar infos vars row freed.placed.over.admitted p freed.of_row in
          let parts = and_parts (premise_holds samples p vars) (not (premise_holds more p vars)) freed.lost in
          let same = slot_tells grammar infos vars p can more ∙ (ap (suffices p) (slot_stays (row_of p) (slot_vars p vars) found) ∙ sym (slot_tells grammar infos vars p can samples)) in
          absurd (true≢false (sym parts.0 ∙ (sym same ∙ not-true (premise_holds more p vars) parts.1)))
      | inr c ↦ let l = c.1 in absurd (omega (arith, l))
    ];
  }

pub same_slot : (a b : Slot) → a.row ≡ b.row → a.leaders ≡ b.leaders → a.state ≡ b.state → a ≡ b
same_slot a b r v s =
    let slot : RowId → List VarId → State → Slot = λ row vars state. record { row = row; leaders = vars; state = state } in
    ap (λ row. slot row a.leaders a.state) r ∙ (ap (λ vars. slot b.row vars a.state) v ∙ ap (slot b.row b.leaders) s)

pub unchanged_slots_are_exact : UnchangedSlotsAreExact
unchanged_slots_are_exact grammar infos samples sample kept now step quiet =
    (stepped_slots_are_exact grammar infos samples sample kept now step (fit_of samples) (fit_of (samples ++ sample ∷ [])) (fits_tell grammar infos samples) (fits_tell grammar infos (samples ++ sample ∷ [])) [] (no_candidates step quiet) kept.slots).0 (record {
      ascend = step.before.slots.ascend;
      each = λ slot. (
        λ c.
            let has = (step.before.slots.each slot).0 c in
            inl (
              slot,
              c,
              record {
                row = refl;
                vars = refl;
                state = sym (All-contains (λ (s : Slot). with_sample s.row s.leaders sample s.state ≡ s.state) kept.slots slot quiet.stays c);
                unbroken = has.unbroken;
                unsuppressed = λ closes. stays_unsuppressed step quiet slot has;
              },
            ),
        λ from. elim from [
          | inl left ↦
              let old = left.0 in
              let stays = All-contains (λ (s : Slot). with_sample s.row s.leaders sample s.state ≡ s.state) kept.slots old quiet.stays left.1 in
              subst (Contains kept.slots) (same_slot old slot (sym left.2.row) (sym left.2.vars) (sym (left.2.state ∙ stays))) left.1
          | inr opened ↦ let l = opened.candidate.1 in absurd (omega (arith, l))
        ],
      );
    })

-- ---- the first sample
pub first_sample_has_no_slots : FirstSampleHasNoSlots
first_sample_has_no_slots grammar infos sample leaders are known constants = record {
  ascend = λ i j d l m. absurd (omega (arith, m));
  each = λ slot. (
    λ c. let l = c.1 in absurd (omega (arith, l)),
    λ is. absurd (true≢false (sym (all slot.leaders is.over.lead) ∙ is.varies)),
  );
}
  where
    one : (v : VarId) → Contains (own_leaders leaders) v → is_some (known_at known v) ≡ true
    one v leads = ap is_some ((constants.each v (value_in sample v)).1 (leads, record { some = omega arith; each = All-cons (λ s. value_in s v ≡ value_in sample v) sample [] refl (All-nil (λ s. value_in s v ≡ value_in sample v)) }))

    all : (vars : List VarId) → Lead leaders vars → all_known known vars ≡ true
    all vars lead = list_all-from_AllPass (λ v. is_some (known_at known v)) vars (λ k d l. one (get_or vars k d) (lead k d l))
