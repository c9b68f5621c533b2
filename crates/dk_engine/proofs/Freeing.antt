-- What a sample opens beside the tuples that it touches has the leaders of a slot by which a premise is lost.
use Rattle.std.specs.Prelude.{◌≡◌, ◌≢◌, ◌<◌, ℕ, zero, suc, true, false, not, All, Contains, IsTrue, List, [], ◌∷◌, ◌++◌, None, is_some}
use Rattle.std.proofs.Common.{ap, arith, inl, inr, subst, sym, ◌∙◌}
use Rattle.std.proofs.lemmas.Bool.{and_parts, cases_Bool, not-true, true≢false}
use Rattle.std.proofs.lemmas.List.Elements.{All-contains, All-weaker, Contains-get_or}
use Rattle.dk_base.specs.Values.Spelling.{IsWritten}
use Rattle.dk_base.specs.declared.kinds.VarId.{VarId}
use Rattle.dk_base.specs.declared.kinds.VarInfo.{VarInfo}
use Rattle.dk_base.specs.declared.values.Value.{Value}
use Rattle.dk_instances.specs.Fits.{fit, premise_holds}
use Rattle.dk_instances.proofs.Pushing.{fit_push, fit_stays_broken}
use Rattle.dk_forms.specs.declared.states.State.TheVariants.{Broken}
use Rattle.dk_suppress.specs.Rules.{is_suppressed}
use Rattle.dk_suppress.specs.Soundness.{fit_of}
use Rattle.dk_template.specs.Premises.{row_of, suffices}
use Rattle.dk_template.specs.Templates.{rank_of}
use Rattle.dk_template.specs.declared.answers.Premise.{Premise}
use Rattle.dk_template.specs.declared.grammar.Grammar.{Grammar}
use Rattle.dk_template.specs.declared.grammar.RowId.{RowId}
use Rattle.dk_engine.proofs.LostPremises.{broken_suffices_not, lost_is_unsuppressed, lost_premise_frees}
use Rattle.dk_engine.proofs.PremiseSlots.{asks_placed, long, rank_below, row_of_grammar, slot_all, slot_tells, usable}
use Rattle.dk_engine.proofs.ReachedRows.{reached_directly, reached_further}
use Rattle.dk_engine.proofs.SlotLookups.{slot_cases}
use Rattle.dk_engine.proofs.Standing.{IsOld, all_front, old_each}
use Rattle.dk_engine.proofs.Stepping.{had_slot, loses_so_varies, placed_before, varies_before, written_now}
use Rattle.dk_engine.specs.Exact.{IsSlot}
use Rattle.dk_engine.specs.Feeding.{with_sample}
use Rattle.dk_engine.specs.Reading.Parts.{slot_at}
use Rattle.dk_engine.specs.Sweeps.Reached.{has_row, rows_reached}
use Rattle.dk_engine.specs.Feeding.Step.{IsFreedBy, IsPlaced, IsPremiseOf, IsStep, is_touched, slot_vars}
use Rattle.dk_engine.specs.StepLaws.{OpenedTuplesAreFreed}
use Rattle.dk_engine.specs.declared.kept.Kept.{Kept}
use Rattle.dk_engine.specs.declared.feed.now.Now.{Now}
use Rattle.dk_engine.specs.declared.slots.slot.Slot.{Slot}

module _ {grammar : Grammar} {infos : List VarInfo} {samples : List (List Value)} {sample : List Value} {kept : Kept} {now : Now} (step : IsStep grammar infos samples sample kept now) where
  abbrev after : List (List Value)
  after = samples ++ sample ∷ []

  abbrev Freed : RowId → List VarId → Type 0
  Freed row vars = (old : Slot) × IsFreedBy sample kept.slots row vars old

  -- a slot is its premise's, and the premise is lost
  by_slot : (row : RowId) (vars : List VarId) (p : Premise) → IsPremiseOf row p → All (Contains vars) (slot_vars p vars)
      → suffices p (fit (row_of p) (slot_vars p vars) samples) ≡ true → suffices p (fit (row_of p) (slot_vars p vars) after) ≡ false
      → (old : Slot) → Contains kept.slots old → old.row ≡ row_of p → old.leaders ≡ slot_vars p vars → Freed row vars
  by_slot row vars p of own sufficed fails old there same leaders =
      let had = (step.before.slots.each old).0 there in
      let before : fit (row_of p) (slot_vars p vars) samples ≡ old.state = ap (λ r. fit r (slot_vars p vars) samples) (sym same) ∙ (ap (λ vs. fit old.row vs samples) (sym leaders) ∙ sym had.state) in
      let more : fit (row_of p) (slot_vars p vars) after ≡ with_sample old.row old.leaders sample old.state =
      ap (λ r. fit r (slot_vars p vars) after) (sym same)
      ∙ (ap (λ vs. fit old.row vs after) (sym leaders)
      ∙ (fit_push old.row (row_of_grammar grammar old.row had.over.of_grammar) old.leaders samples sample ∙ ap (with_sample old.row old.leaders sample) (sym had.state))) in (
        old,
        record {
          kept = there;
          conclusion = row;
          premise = p;
          of_row = of;
          same = same;
          was = ap (suffices p) (sym before) ∙ sufficed;
          isnt = ap (suffices p) (sym more) ∙ fails;
          reaches = subst (λ (r : RowId). IsTrue (has_row (rows_reached r) row)) (sym same) (reached_directly row p of);
          among = subst (All (Contains vars)) (sym leaders) own;
        },
      )

  -- what frees a premise's tuple frees the conclusion's
  through : (row : RowId) (vars : List VarId) (p : Premise) → IsPremiseOf row p → All (Contains vars) (slot_vars p vars) → Freed (row_of p) (slot_vars p vars) → Freed row vars
  through row vars p of own freed =
      let by = freed.1 in (
        freed.0,
        record {
          kept = by.kept;
          conclusion = by.conclusion;
          premise = by.premise;
          of_row = by.of_row;
          same = by.same;
          was = by.was;
          isnt = by.isnt;
          reaches = reached_further freed.0.row (row_of p) row by.reaches (reached_directly row p of);
          among = All-weaker (Contains (slot_vars p vars)) (Contains vars) (λ v c. All-contains (Contains vars) (slot_vars p vars) v own c) freed.0.leaders by.among;
        },
      )

  -- a tuple that was suppressed and isn't any more, by induction on its rank
  freed_from : (n : ℕ) (row : RowId) (vars : List VarId) → rank_of row < n → IsPlaced grammar infos now.leaders row vars → All (IsOld now) vars
      → is_suppressed (fit_of samples) row vars ≡ true → is_suppressed (fit_of after) row vars ≡ false → Freed row vars
  freed_from zero row vars low placed old was isnt = absurd (omega (arith, low))
  freed_from (suc n) row vars low placed old was isnt =
      let lost = lost_premise_frees samples sample row vars was isnt in
      let p = lost.0 in
      let own = slot_vars p vars in
      let can = usable grammar infos vars row placed.over.admitted p lost.1 in
      let fitted = and_parts (premise_holds samples p vars) (not (premise_holds after p vars)) lost.2 in
      let sufficed : suffices p (fit (row_of p) own samples) ≡ true = sym (slot_tells grammar infos vars p can samples) ∙ fitted.0 in
      let fails : suffices p (fit (row_of p) own after) ≡ false = sym (slot_tells grammar infos vars p can after) ∙ not-true (premise_holds after p vars) fitted.1 in
      let own_old = slot_all (IsOld now) p vars can.roles old in
      let own_in : All (Contains vars) own = slot_all (Contains vars) p vars can.roles (λ k d l. Contains-get_or vars k d l) in
      let here = asks_placed grammar infos now.leaders vars p can placed.over.lead in
      elim (slot_cases kept.slots (row_of p) own) [
        | inr found ↦ by_slot row vars p lost.1 own_in sufficed fails found.0 found.1 found.2 found.3
        | inl none ↦ elim (cases_Bool (is_suppressed (fit_of samples) (row_of p) own)) [
          | inl suppressed ↦
              let less = rank_below row p lost.1 in
              through row vars p lost.1 own_in
              (freed_from n (row_of p) own (omega (arith, less, low)) here own_old suppressed
              (lost_is_unsuppressed samples sample (written_now step) (all_front (λ s. All IsWritten s) samples sample (written_now step)) (row_of p) own (long (row_of p) infos own here.over.admitted) p sufficed fails suppressed))
          | inr not_so ↦
              let varies = loses_so_varies step (row_of p) (row_of_grammar grammar (row_of p) here.over.of_grammar) own own_old p sufficed fails in
              let unbroken : fit (row_of p) own samples ≢ Broken = λ e. true≢false (sym sufficed ∙ (ap (suffices p) e ∙ broken_suffices_not p)) in
              absurd (true≢false (sym (had_slot step (row_of p) own (placed_before step (row_of p) own here own_old) varies unbroken not_so) ∙ ap is_some none))
        ]
      ]

  pub opened_is_freed : (slot : Slot) → IsSlot grammar infos after now.leaders now.known slot → slot_at kept.slots slot.row slot.leaders ≡ None → is_touched now slot.leaders ≡ false → Freed slot.row slot.leaders
  opened_is_freed slot has none untouched =
      let row = slot.row in
      let vars = slot.leaders in
      let placed : IsPlaced grammar infos now.leaders row vars = record { over = has.over; written = has.written } in
      let old = old_each now vars untouched in
      elim (cases_Bool (is_suppressed (fit_of samples) row vars)) [
        | inl was ↦ freed_from (suc (rank_of row)) row vars (omega arith) placed old was has.unsuppressed
        | inr not_so ↦
            let unbroken : fit row vars samples ≢ Broken = λ e. has.unbroken (has.state ∙ fit_stays_broken row (row_of_grammar grammar row has.over.of_grammar) vars samples sample e) in
            absurd (true≢false (sym (had_slot step row vars (placed_before step row vars placed old) (varies_before step vars old has.varies) unbroken not_so) ∙ ap is_some none))
      ]

pub opened_tuples_are_freed : OpenedTuplesAreFreed
opened_tuples_are_freed grammar infos samples sample kept now step slot has none untouched = opened_is_freed step slot has none untouched
