-- The stepped slots are exactly those of the samples with one more.
use Rattle.std.specs.Prelude.{◌≡◌, ◌≢◌, ◌<◌, ◌&&◌, ◌==◌, ℕ, zero, suc, Bool, true, false, All, Contains, IsTrue, List, [], ◌∷◌, ◌++◌, None, is_some, length, not, refl}
use Rattle.std.specs.List.{list_any}
use Rattle.std.proofs.Common.{ap, arith, get_or, inl, inr, subst, sym, ◌∙◌}
use Rattle.std.proofs.lemmas.Bool.{and_from, and_parts, cases_Bool, false_from_ne_true, not-true, or_parts, true≢false}
use Rattle.std.proofs.lemmas.List.{length-append}
use Rattle.std.proofs.lemmas.List.Elements.{All-contains}
use Rattle.dk_base.specs.Values.Spelling.{IsWritten}
use Rattle.dk_base.specs.declared.kinds.VarId.{VarId}
use Rattle.dk_base.specs.declared.kinds.VarInfo.{VarInfo}
use Rattle.dk_base.specs.declared.values.Value.{Value}
use Rattle.dk_instances.specs.Fits.{fit, premise_holds}
use Rattle.dk_instances.proofs.Pushing.{fit_push, fit_stays_broken}
use Rattle.dk_forms.specs.declared.states.State.TheVariants.{Broken}
use Rattle.dk_suppress.specs.Rules.{Rule, asks, has_rule, is_suppressed, rules}
use Rattle.dk_suppress.specs.Soundness.{fit_of}
use Rattle.dk_template.specs.Admitted.{is_written}
use Rattle.dk_template.specs.Premises.{premise_fits, row_of, suffices}
use Rattle.dk_template.specs.declared.answers.Premise.{Premise}
use Rattle.dk_template.specs.Templates.{IsRow, rank_of}
use Rattle.dk_template.specs.declared.grammar.Grammar.{Grammar}
use Rattle.dk_template.specs.declared.grammar.RowId.{RowId}
use Rattle.dk_engine.proofs.Closers.{unconcluded}
use Rattle.dk_engine.proofs.Telling.{premise_told, suppressed_told}
use Rattle.dk_engine.proofs.PremiseSlots.{asks_placed, long, premise_is_asked, rank_below, row_of_grammar, slot_all, slot_tells, usable}
use Rattle.dk_engine.proofs.LostPremises.{about_no_elements, begun_premise_suppresses, broken_suffices_not, empty_alone_begins, lost_is_unsuppressed, lost_premise_frees}
use Rattle.dk_engine.proofs.SlotLookups.{slot_cases, slot_there}
use Rattle.dk_engine.proofs.Standing.{IsOld, all_front, all_known_before, all_known_still, constants_say_the_same, lead_before, leads_on, old_each, untouched_by_old}
use Rattle.dk_engine.specs.Exact.{IsOverLeaders, IsSlot}
use Rattle.dk_engine.specs.Feeding.{with_sample}
use Rattle.dk_engine.specs.Reading.Parts.{all_known, slot_at}
use Rattle.dk_engine.specs.declared.kept.Kept.{Kept}
use Rattle.dk_engine.specs.Feeding.Step.{Answer, AreCandidates, IsLeftOf, IsStep, IsOpened, IsPlaced, IsSteppedSlot, Tells, asks_elements, can_close, is_empty_conclusion, is_empty_state, is_touched, slot_vars}
use Rattle.dk_engine.specs.declared.feed.now.Now.{Now}
use Rattle.dk_engine.specs.StepLaws.{SteppedSlotsAreExact}
use Rattle.dk_engine.specs.declared.slots.slot.Slot.{Slot}

module _ {grammar : Grammar} {infos : List VarInfo} {samples : List (List Value)} {sample : List Value} {kept : Kept} {now : Now} (step : IsStep grammar infos samples sample kept now) where
  abbrev pub more : List (List Value)
  more = samples ++ sample ∷ []

  pub written_now : All (λ s. All IsWritten s) more
  written_now k d l = (step.all k d l).written

  -- ---- an untouched tuple is over old leaders, and as constant as before
  pub placed_before : (row : RowId) (vars : List VarId) → IsPlaced grammar infos now.leaders row vars → All (IsOld now) vars → IsPlaced grammar infos kept.leaders row vars
  placed_before row vars placed old = record {
    over = record { of_grammar = placed.over.of_grammar; admitted = placed.over.admitted; lead = lead_before step vars placed.over.lead old };
    written = placed.written;
  }

  pub varies_before : (vars : List VarId) → All (IsOld now) vars → all_known now.known vars ≡ false → all_known kept.known vars ≡ false
  varies_before vars old varies = false_from_ne_true (all_known kept.known vars) (λ e.
      true≢false (sym (all_known_still step vars (λ k d l. (old k d l).1) e) ∙ varies))

  varies_now : (row : RowId) (vars : List VarId) → IsOverLeaders grammar infos kept.leaders row vars → all_known kept.known vars ≡ false → all_known now.known vars ≡ false
  varies_now row vars over varies = false_from_ne_true (all_known now.known vars) (λ e.
      true≢false (sym (all_known_before step vars over.lead e) ∙ varies))

  -- one that a premise was content with before, and isn't now, varies
  pub loses_so_varies : (row : RowId) → IsRow row → (vars : List VarId) → All (IsOld now) vars → (p : Premise) → suffices p (fit row vars samples) ≡ true → suffices p (fit row vars more) ≡ false
      → all_known kept.known vars ≡ false
  loses_so_varies row is vars old p sufficed fails = false_from_ne_true (all_known kept.known vars) (λ e.
      let same = constants_say_the_same step row is vars (all_known_still step vars (λ k d l. (old k d l).1) e) in
      true≢false (sym sufficed ∙ (ap (suffices p) (sym same) ∙ fails)))

  -- a tuple of leaders goes on being one
  pub over_now : (row : RowId) (vars : List VarId) → IsOverLeaders grammar infos kept.leaders row vars → IsOverLeaders grammar infos now.leaders row vars
  over_now row vars over = record { of_grammar = over.of_grammar; admitted = over.admitted; lead = λ k d l. leads_on step (get_or vars k d) (over.lead k d l) }

  pub long_more : 0 < length more
  long_more = let n = length-append samples (sample ∷ []) in omega (arith, n)

  -- ---- an old slot
  -- no rule begins to suppress a slot that can't close
  pub stays_open : (slot : Slot) → IsSlot grammar infos samples kept.leaders kept.known slot → can_close slot ≡ false → is_suppressed (fit_of more) slot.row slot.leaders ≡ false
  stays_open slot had shut =
      let parts = or_parts (is_empty_conclusion slot) (list_any (λ (r : Rule). r.0.0 == slot.row.0 && asks_elements r) rules) shut in
      elim (cases_Bool (has_rule slot.row)) [
        | inl has ↦ still_open parts.1 (full (is_empty_state slot.state) (has_rule slot.row) has parts.0)
        | inr none ↦ unconcluded (fit_of more) slot.row slot.leaders none
      ]
    where
      full : (a b : Bool) → b ≡ true → (a && b) ≡ false → a ≡ false
      full false b is shut_too = refl
      full true b is shut_too = absurd (true≢false (sym is ∙ shut_too))

      still_open : list_any (λ (r : Rule). r.0.0 == slot.row.0 && asks_elements r) rules ≡ false → is_empty_state slot.state ≡ false → is_suppressed (fit_of more) slot.row slot.leaders ≡ false
      still_open none filled = false_from_ne_true (is_suppressed (fit_of more) slot.row slot.leaders) (λ closed.
          let begun = begun_premise_suppresses samples sample slot.row slot.leaders had.unsuppressed closed in
          let p = begun.0 in
          let can = usable grammar infos slot.leaders slot.row had.over.admitted p begun.1 in
          let empty = empty_alone_begins slot.row (row_of_grammar grammar slot.row had.over.of_grammar) slot.leaders p can.formed (row_of_grammar grammar (row_of p) can.row) can.roles
          (about_no_elements slot.row p begun.1 none) samples sample begun.2 in
          true≢false (sym (ap is_empty_state (had.state ∙ empty.1)) ∙ filled))

  -- ---- a tuple without a slot before
  -- that isn't constant, broken or suppressed has a slot
  pub had_slot : (row : RowId) (vars : List VarId) → IsPlaced grammar infos kept.leaders row vars → all_known kept.known vars ≡ false → fit row vars samples ≢ Broken
      → is_suppressed (fit_of samples) row vars ≡ false → is_some (slot_at kept.slots row vars) ≡ true
  had_slot row vars placed varies unbroken unsuppressed =
      let slot : Slot = record { row = row; leaders = vars; state = fit row vars samples } in
      slot_there kept.slots slot ((step.before.slots.each slot).1 (record {
        some = step.some;
        over = placed.over;
        written = placed.written;
        varies = varies;
        state = refl;
        unbroken = unbroken;
        unsuppressed = unsuppressed;
      }))

  -- ---- by what answers before and after the sample
  module _ {after : Answer} (tells_after : Tells grammar infos more after) where
    -- what is left of an old slot is a slot of now
    pub left_is_slot : (old slot : Slot) → IsSlot grammar infos samples kept.leaders kept.known old → IsLeftOf after sample old slot → IsSlot grammar infos more now.leaders now.known slot
    left_is_slot old slot had left =
        let is = row_of_grammar grammar old.row had.over.of_grammar in
        let there = over_now old.row old.leaders had.over in
        let over = subst (λ r. IsOverLeaders grammar infos now.leaders r slot.leaders) (sym left.row) (subst (IsOverLeaders grammar infos now.leaders old.row) (sym left.vars) there) in
        record {
          some = long_more;
          over = over;
          written = subst (λ r. IsTrue (is_written r slot.leaders)) (sym left.row) (subst (λ vs. IsTrue (is_written old.row vs)) (sym left.vars) had.written);
          varies = ap (all_known now.known) left.vars ∙ varies_now old.row old.leaders had.over had.varies;
          state = left.state
              ∙ (ap (with_sample old.row old.leaders sample) had.state
              ∙ (sym (fit_push old.row is old.leaders samples sample) ∙ (ap (λ vs. fit old.row vs more) (sym left.vars) ∙ ap (λ r. fit r slot.leaders more) (sym left.row))));
          unbroken = left.unbroken;
          unsuppressed = elim (cases_Bool (can_close old)) [
            | inl closes ↦ sym (suppressed_told tells_after slot.row slot.leaders over.admitted) ∙ left.unsuppressed closes
            | inr shut ↦ ap (λ r. is_suppressed (fit_of more) r slot.leaders) left.row ∙ (ap (is_suppressed (fit_of more) old.row) left.vars ∙ stays_open old had shut)
          ];
        }

    -- a slot of now that had a slot is left of it
    pub slot_is_left : (slot : Slot) → IsSlot grammar infos more now.leaders now.known slot → (old : Slot) → Contains kept.slots old → old.row ≡ slot.row → old.leaders ≡ slot.leaders → IsLeftOf after sample old slot
    slot_is_left slot has old there row vars =
        let had = (step.before.slots.each old).0 there in
        record {
          row = sym row;
          vars = sym vars;
          state = has.state
              ∙ (ap (λ r. fit r slot.leaders more) (sym row)
              ∙ (ap (λ vs. fit old.row vs more) (sym vars)
              ∙ (fit_push old.row (row_of_grammar grammar old.row had.over.of_grammar) old.leaders samples sample ∙ ap (with_sample old.row old.leaders sample) (sym had.state))));
          unbroken = has.unbroken;
          unsuppressed = λ closes. suppressed_told tells_after slot.row slot.leaders has.over.admitted ∙ has.unsuppressed;
        }

  module _ {before after : Answer} (tells_before : Tells grammar infos samples before) (tells_after : Tells grammar infos more after) (candidates : List (RowId × List VarId))
      (are : AreCandidates grammar infos before after kept.slots now candidates) where
    -- an untouched tuple that a rule suppressed, and none does now, is a candidate: by induction on its rank
    freed_is_candidate : (n : ℕ) (row : RowId) (vars : List VarId) → rank_of row < n → IsPlaced grammar infos now.leaders row vars → All (IsOld now) vars → is_touched now vars ≡ false
        → is_suppressed (fit_of samples) row vars ≡ true → is_suppressed (fit_of more) row vars ≡ false → (after row vars ≡ Broken → IsTrue (list_any (asks row) rules)) → Contains candidates (row, vars)
    freed_is_candidate zero row vars low placed old untouched was isnt counts = absurd (omega (arith, low))
    freed_is_candidate (suc n) row vars low placed old untouched was isnt counts =
        let lost = lost_premise_frees samples sample row vars was isnt in
        let p = lost.0 in
        let own = slot_vars p vars in
        let can = usable grammar infos vars row placed.over.admitted p lost.1 in
        let fitted = and_parts (premise_holds samples p vars) (not (premise_holds more p vars)) lost.2 in
        let sufficed : suffices p (fit (row_of p) own samples) ≡ true = sym (slot_tells grammar infos vars p can samples) ∙ fitted.0 in
        let fails : suffices p (fit (row_of p) own more) ≡ false = sym (slot_tells grammar infos vars p can more) ∙ not-true (premise_holds more p vars) fitted.1 in
        let own_old = slot_all (IsOld now) p vars can.roles old in
        let here = asks_placed grammar infos now.leaders vars p can placed.over.lead in
        are.freed row vars (record {
          placed = placed;
          untouched = untouched;
          was = suppressed_told tells_before row vars placed.over.admitted ∙ was;
          isnt = suppressed_told tells_after row vars placed.over.admitted ∙ isnt;
          counts = counts;
          premise = p;
          of_row = lost.1;
          lost = and_from (premise_fits before p vars) (not (premise_fits after p vars)) (premise_told tells_before row vars placed.over.admitted p lost.1 ∙ fitted.0)
              (ap not (premise_told tells_after row vars placed.over.admitted p lost.1) ∙ fitted.1);
          reached = elim (cases_Bool (is_some (slot_at kept.slots (row_of p) own))) [
            | inl found ↦ inl found
            | inr none ↦ inr (elim (cases_Bool (is_suppressed (fit_of samples) (row_of p) own)) [
              | inl suppressed ↦
                  let less = rank_below row p lost.1 in
                  freed_is_candidate n (row_of p) own (omega (arith, less, low)) here own_old (untouched_by_old now own own_old) suppressed
                  (lost_is_unsuppressed samples sample written_now (all_front (λ s. All IsWritten s) samples sample written_now) (row_of p) own (long (row_of p) infos own here.over.admitted) p sufficed fails suppressed)
                  (λ e. premise_is_asked row p lost.1)
              | inr not_so ↦
                  let varies = loses_so_varies (row_of p) (row_of_grammar grammar (row_of p) here.over.of_grammar) own own_old p sufficed fails in
                  let unbroken : fit (row_of p) own samples ≢ Broken = λ e. true≢false (sym sufficed ∙ (ap (suffices p) e ∙ broken_suffices_not p)) in
                  absurd (true≢false (sym (had_slot (row_of p) own (placed_before (row_of p) own here own_old) varies unbroken not_so) ∙ none))
            ])
          ];
        })

    -- a slot of now that had no slot is a candidate
    new_is_candidate : (slot : Slot) → IsSlot grammar infos more now.leaders now.known slot → slot_at kept.slots slot.row slot.leaders ≡ None → Contains candidates (slot.row, slot.leaders)
    new_is_candidate slot has none =
        let row = slot.row in
        let vars = slot.leaders in
        let placed : IsPlaced grammar infos now.leaders row vars = record { over = has.over; written = has.written } in
        let unbroken_after : after row vars ≢ Broken = λ e. has.unbroken (has.state ∙ (sym (tells_after.each row has.over.of_grammar vars has.over.admitted) ∙ e)) in
        elim (cases_Bool (is_touched now vars)) [
          | inl touched ↦ are.touched row vars placed touched unbroken_after
          | inr untouched ↦
              let old = old_each now vars untouched in
              elim (cases_Bool (is_suppressed (fit_of samples) row vars)) [
                | inl was ↦ freed_is_candidate (suc (rank_of row)) row vars (omega arith) placed old untouched was has.unsuppressed (λ e. absurd (unbroken_after e))
                | inr not_so ↦
                    let unbroken : fit row vars samples ≢ Broken = λ e. has.unbroken (has.state ∙ fit_stays_broken row (row_of_grammar grammar row has.over.of_grammar) vars samples sample e) in
                    absurd (true≢false (sym (had_slot row vars (placed_before row vars placed old) (varies_before vars old has.varies) unbroken not_so) ∙ ap is_some none))
              ]
        ]

    -- a slot of now is left of an old one, or a candidate's
    slot_of_now : (slot : Slot) → IsSlot grammar infos more now.leaders now.known slot
        → IsSteppedSlot after sample kept.slots now.known candidates slot
    slot_of_now slot has = elim (slot_cases kept.slots slot.row slot.leaders) as (λ _. IsSteppedSlot after sample kept.slots now.known candidates slot) [
      | inl none ↦ inr (record {
        candidate = new_is_candidate slot has none;
        unkept = none;
        varies = has.varies;
        state = has.state ∙ sym (tells_after.each slot.row has.over.of_grammar slot.leaders has.over.admitted);
        unbroken = has.unbroken;
        unsuppressed = suppressed_told tells_after slot.row slot.leaders has.over.admitted ∙ has.unsuppressed;
      })
      | inr found ↦ inl (found.0, found.1, slot_is_left tells_after slot has found.0 found.1 found.2 found.3)
    ]

    -- what a candidate gets is a slot of now
    opened_is_slot : (slot : Slot) → IsOpened after kept.slots now.known candidates slot → IsSlot grammar infos more now.leaders now.known slot
    opened_is_slot slot opened =
        let placed = All-contains (λ (c : RowId × List VarId). IsPlaced grammar infos now.leaders c.0 c.1) candidates (slot.row, slot.leaders) are.placed opened.candidate in
        record {
          some = long_more;
          over = placed.over;
          written = placed.written;
          varies = opened.varies;
          state = opened.state ∙ tells_after.each slot.row placed.over.of_grammar slot.leaders placed.over.admitted;
          unbroken = opened.unbroken;
          unsuppressed = sym (suppressed_told tells_after slot.row slot.leaders placed.over.admitted) ∙ opened.unsuppressed;
        }

    stepped_is_slot : (slot : Slot) → IsSteppedSlot after sample kept.slots now.known candidates slot → IsSlot grammar infos more now.leaders now.known slot
    stepped_is_slot slot from = elim from as (λ _. IsSlot grammar infos more now.leaders now.known slot) [
      | inl left ↦ left_is_slot tells_after left.0 slot ((step.before.slots.each left.0).0 left.1) left.2
      | inr opened ↦ opened_is_slot slot opened
    ]

-- ---- all slots
pub stepped_slots_are_exact : SteppedSlotsAreExact
stepped_slots_are_exact grammar infos samples sample kept now step before after tells_before tells_after candidates are stepped =
    let to = slot_of_now step tells_before tells_after candidates are in
    let from = stepped_is_slot step tells_before tells_after candidates are in (
      λ is. record { ascend = is.ascend; each = λ slot. (λ has. from slot ((is.each slot).0 has), λ has. (is.each slot).1 (to slot has)) },
      λ is. record { ascend = is.ascend; each = λ slot. (λ has. to slot ((is.each slot).0 has), λ has. (is.each slot).1 (from slot has)) },
    )
