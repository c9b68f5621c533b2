-- The narrow step is exact.
use Rattle.std.specs.Prelude.{◌≡◌, ◌⊎◌, ◌<◌, ◌+◌, ℕ, Contains, List, [], ◌∷◌, ◌++◌}
use Rattle.std.proofs.Common.{arith, inl, inr, subst}
use Rattle.std.proofs.lemmas.Bool.{cases_lt}
use Rattle.std.proofs.lemmas.List.Elements.{All-nil, All-push, Contains-append_left, Contains-push}
use Rattle.dk_base.specs.declared.kinds.VarId.{VarId}
use Rattle.dk_base.specs.declared.kinds.VarInfo.{VarInfo}
use Rattle.dk_base.specs.declared.values.Value.{Value}
use Rattle.dk_constants.specs.Known.{Entries}
use Rattle.dk_forms.specs.declared.states.State.{State}
use Rattle.dk_instances.specs.Laws.{IsSample}
use Rattle.dk_template.specs.declared.grammar.Grammar.{Grammar}
use Rattle.dk_template.specs.declared.grammar.RowId.{RowId}
use Rattle.dk_engine.proofs.AllParts.{reading_tells}
use Rattle.dk_engine.proofs.Fed.{is_step, kept_now}
use Rattle.dk_engine.proofs.Stepping.{stepped_slots_are_exact}
use Rattle.dk_engine.specs.Exact.{AreOfPoint, AreSamples, IsKeptOf}
use Rattle.dk_engine.specs.Feeding.{IsTurned, parts_after, read_after}
use Rattle.dk_engine.specs.Feeding.Narrow.{AreChangesBelow, AreLeft, AreMerged, AreOpened, IsChange, StateStays, StayBetween}
use Rattle.dk_engine.specs.Feeding.Step.{Answer, AreCandidates, IsStepped, IsSteppedSlot}
use Rattle.dk_engine.specs.Reading.{state_read}
use Rattle.dk_engine.specs.Reading.Parts.{slot_in}
use Rattle.dk_engine.specs.declared.feed.changes.Change.{Change}
use Rattle.dk_engine.specs.declared.feed.now.Now.{Now}
use Rattle.dk_engine.specs.declared.kept.Kept.{Kept}
use Rattle.dk_engine.specs.declared.slots.slot.Slot.{Slot}

-- ---- slots
pub merged_are_stepped : (after : Answer) (sample : List Value) (slots : List Slot) (known : Entries) (candidates : List (RowId × List VarId)) (left opened merged : List Slot)
    → AreLeft after sample slots left → AreOpened after slots known candidates opened → AreMerged left opened merged → IsStepped after sample slots known candidates merged
merged_are_stepped after sample slots known candidates left opened merged are_left are_opened are = record {
  ascend = are.ascend;
  each = λ slot. (
    λ c. elim ((are.each slot).0 c) as (λ _. IsSteppedSlot after sample slots known candidates slot) [ inl l ↦ inl ((are_left.each slot).0 l) | inr o ↦ inr ((are_opened.each slot).0 o) ],
    λ s. (are.each slot).1 (elim s as (λ _. Contains left slot ⊎ Contains opened slot) [ inl l ↦ inl ((are_left.each slot).1 l) | inr o ↦ inr ((are_opened.each slot).1 o) ]),
  );
}

-- ---- all parts
pub stepped_parts_exact : (g : Grammar) (infos : List VarInfo) → AreOfPoint infos → (samples : List (List Value)) → AreSamples infos samples → (kept : Kept) → IsKeptOf g infos samples kept
    → (sample : List Value) → IsSample infos sample → 0 < kept.samples → (now : Now) → IsTurned kept sample now
    → (candidates : List (RowId × List VarId)) → AreCandidates g infos (state_read kept) (read_after kept sample) kept.slots now candidates
    → (stepped : List Slot) → IsStepped (read_after kept sample) sample kept.slots now.known candidates stepped
    → IsKeptOf g infos (samples ++ sample ∷ []) (parts_after kept.samples kept.held sample now stepped)
stepped_parts_exact g infos point samples sampled kept is sample of some now turned candidates are stepped stands =
    let step = is_step g infos point samples sampled kept is sample now turned of (let number = is.number in omega (arith, number, some)) in
    let tell = reading_tells g infos samples sample kept now step point in
    kept_now g infos point samples sampled kept is sample now turned stepped
    ((stepped_slots_are_exact g infos samples sample kept now step (state_read kept) (read_after kept sample) tell.0 tell.1 candidates are stepped).0 stands)

-- ---- changes
module _ (made : Slot → State) (slots : List Slot) where
  pub no_changes : AreChangesBelow 0 made slots []
  no_changes = record {
    each = All-nil (IsChange made slots);
    all = λ k l. absurd (omega (arith, l));
  }

  module _ (n : ℕ) (changes : List Change) (are : AreChangesBelow n made slots changes) where
    pub stays_more : StateStays made (slot_in slots n) → AreChangesBelow (n + 1) made slots changes
    stays_more stays = record {
      each = are.each;
      all = λ k l. elim (cases_lt k n) [
        | inl lt ↦ are.all k lt
        | inr ge ↦ let same : n ≡ k = omega (arith, l, ge) in inl (subst (λ m. StateStays made (slot_in slots m)) same stays)
      ];
    }

    pub stay_more : (m : ℕ) → StayBetween n m made slots → AreChangesBelow m made slots changes
    stay_more m stay = record {
      each = are.each;
      all = λ k l. elim (cases_lt k n) [ inl lt ↦ are.all k lt | inr ge ↦ inl (stay k ge l) ];
    }

    pub change_more : (change : Change) → change.place ≡ n → IsChange made slots change → AreChangesBelow (n + 1) made slots (changes ++ change ∷ [])
    change_more change at is = record {
      each = All-push (IsChange made slots) changes change are.each is;
      all = λ k l. elim (cases_lt k n) as (λ _. StateStays made (slot_in slots k) ⊎ ((c : Change) × Contains (changes ++ change ∷ []) c × (c.place ≡ k))) [
        | inl lt ↦ elim (are.all k lt) as (λ _. StateStays made (slot_in slots k) ⊎ ((c : Change) × Contains (changes ++ change ∷ []) c × (c.place ≡ k))) [
          | inl s ↦ inl s
          | inr f ↦ inr (f.0, Contains-append_left changes (change ∷ []) f.0 f.1, f.2)
        ]
        | inr ge ↦ inr (change, Contains-push changes change, omega (arith, l, ge, at))
      ];
    }
