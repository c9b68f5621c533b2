-- A sample that splits no class, ends no constant and loses no premise changes kept slots alone.
use Rattle.std.specs.Prelude.{◌≡◌, ◌≢◌, ◌⊎◌, ◌==◌, ◌&&◌, ◌<◌, Bool, true, false, not, Contains, List, [], ◌∷◌, ◌++◌, cond, is_some, refl}
use Rattle.std.specs.List.{list_any}
use Rattle.std.proofs.Common.{ap, ◌∙◌, arith, inl, inr, subst, sym}
use Rattle.std.proofs.lemmas.Bool.{and_parts, cases_Bool, eq-eqb, not-true, true≢false}
use Rattle.std.proofs.lemmas.List.{get_or_default}
use Rattle.std.proofs.lemmas.List.Elements.{All-contains, All-nil}
use Rattle.dk_base.specs.declared.kinds.VarId.{VarId}
use Rattle.dk_base.specs.declared.kinds.VarInfo.{VarInfo}
use Rattle.dk_base.specs.declared.values.Value.{Value}
use Rattle.dk_forms.specs.declared.states.State.{State}
use Rattle.dk_forms.specs.declared.states.State.TheVariants.{Broken, Empty}
use Rattle.dk_instances.proofs.Pushing.{fit_push}
use Rattle.dk_instances.specs.Laws.{IsSample}
use Rattle.dk_suppress.specs.Rules.{Rule, is_suppressed, rules}
use Rattle.dk_template.specs.Premises.{premise_fits, row_of, suffices}
use Rattle.dk_template.specs.declared.answers.Premise.{Premise}
use Rattle.dk_template.specs.declared.grammar.Grammar.{Grammar}
use Rattle.dk_template.specs.declared.grammar.RowId.{RowId}
use Rattle.dk_engine.proofs.AllParts.{premises_ask_their_slots, reading_tells}
use Rattle.dk_engine.proofs.Closing.{few_slots_close}
use Rattle.dk_engine.proofs.Fed.{is_step}
use Rattle.dk_engine.proofs.Leaving.{left_are_left, outcome_is}
use Rattle.dk_engine.proofs.LostPremises.{broken_suffices_not}
use Rattle.dk_engine.proofs.Narrowing.{merged_are_stepped, stepped_parts_exact}
use Rattle.dk_engine.proofs.PremiseSlots.{row_of_grammar}
use Rattle.dk_engine.proofs.SlotLookups.{slot_cases}
use Rattle.dk_engine.proofs.Standing.{none_passes}
use Rattle.dk_engine.specs.Exact.{AreOfPoint, AreSamples, IsKeptOf}
use Rattle.dk_engine.specs.Feeding.{IsTurned, parts_after, read_after, unchanged_now, with_sample}
use Rattle.dk_engine.specs.Feeding.Narrow.{AreChanges, AreLeft, AreMerged, AreOpened, IsChange, closes, IsShut, slots_left, loses_by, may_begin, outcome}
use Rattle.dk_engine.specs.Feeding.Step.{Answer, AreCandidates, IsBegunBound, IsPlaced, IsPremiseOf, IsStep, Tells, can_close, is_empty_state, is_of_elements, is_touched, slot_vars}
use Rattle.dk_engine.specs.Reading.{state_read}
use Rattle.dk_engine.specs.Reading.Parts.{no_slot, slot_in}
use Rattle.dk_engine.specs.declared.feed.changes.Change.{Change}
use Rattle.dk_engine.specs.declared.kept.Kept.{Kept}
use Rattle.dk_engine.specs.declared.slots.slot.Slot.{Slot}

-- ---- slots and their changes
module _ (made : Slot → State) (slots : List Slot) (changes : List Change) (are : AreChanges made slots changes) where
  -- what is made of a slot is what it was, or stands in a change
  pub slot_changes : (slot : Slot) → Contains slots slot
      → (made slot ≡ slot.state) ⊎ ((c : Change) × Contains changes c × (slot_in slots c.place ≡ slot) × (c.state ≡ made slot))
  slot_changes slot has =
      let k = has.0 in
      let at : slot_in slots k ≡ slot = get_or_default slots k no_slot slot has.1 ∙ has.2 in
      elim (are.all k has.1) as (λ _. (made slot ≡ slot.state) ⊎ ((c : Change) × Contains changes c × (slot_in slots c.place ≡ slot) × (c.state ≡ made slot))) [
        | inl stays ↦ inl (subst (λ s. made s ≡ s.state) at stays.0)
        | inr f ↦
            let c = f.0 in
            let there : slot_in slots c.place ≡ slot = ap (slot_in slots) f.2 ∙ at in
            inr (c, f.1, there, (All-contains (IsChange made slots) changes c are.each f.1).state ∙ ap made there)
      ]

  -- where no change loses a premise, what a slot says is enough goes on being enough
  pub premises_stand : list_any (loses_by slots) changes ≡ false → (row : RowId) (p : Premise) → IsPremiseOf row p → (slot : Slot) → Contains slots slot → slot.row ≡ row_of p
      → suffices p slot.state ≡ true → suffices p (made slot) ≡ true
  premises_stand none row p of slot has same was = elim (slot_changes slot has) [
    | inl e ↦ ap (suffices p) e ∙ was
    | inr f ↦
        let c = f.0 in
        let in_rule : Rule → Bool = λ r. list_any (λ q. (row_of q).0 == slot.row.0 && (suffices q slot.state && not (suffices q c.state))) r.1 in
        let kept_all : list_any in_rule rules ≡ false =
        subst (λ s. list_any (λ (r : Rule). list_any (λ q. (row_of q).0 == s.row.0 && (suffices q s.state && not (suffices q c.state))) r.1) rules ≡ false) f.2
        (All-contains (λ (d : Change). loses_by slots d ≡ false) changes c (none_passes (loses_by slots) changes none) f.1) in
        let kept_rule = All-contains (λ (r : Rule). in_rule r ≡ false) rules of.rule (none_passes in_rule rules kept_all) of.listed in
        let test : Premise → Bool = λ q. (row_of q).0 == slot.row.0 && (suffices q slot.state && not (suffices q c.state)) in
        let kept_one : test p ≡ false = All-contains (λ q. test q ≡ false) of.rule.1 p (none_passes test of.rule.1 kept_rule) of.asks in
        let rows : ((row_of p).0 == slot.row.0) ≡ true = eq-eqb (row_of p).0 slot.row.0 (ap (λ (r : RowId). r.0) (sym same)) in
        elim (cases_Bool (suffices p (made slot))) [
          | inl e ↦ e
          | inr e ↦
              let lost : test p ≡ true = ap (λ b. b && (suffices p slot.state && not (suffices p c.state))) rows ∙ (ap (λ b. b && not (suffices p c.state)) was ∙ ap not (ap (suffices p) f.3 ∙ e)) in
              absurd (true≢false (sym lost ∙ kept_one))
        ]
  ]

  -- where no change may begin a bound of elements, none begins
  pub bounds_stand : list_any (may_begin slots) changes ≡ false → (bound : Slot) → Contains slots bound → is_of_elements bound.row ≡ true → bound.state ≡ Empty → made bound ≡ Empty
  bounds_stand none bound has elements was = elim (slot_changes bound has) [
    | inl e ↦ e ∙ was
    | inr f ↦
        let begins : (is_empty_state bound.state && is_of_elements bound.row) ≡ false =
        subst (λ s. (is_empty_state s.state && is_of_elements s.row) ≡ false) f.2 (All-contains (λ d. may_begin slots d ≡ false) changes f.0 (none_passes (may_begin slots) changes none) f.1) in
        absurd (true≢false (sym elements ∙ (ap (λ s. is_empty_state s && is_of_elements bound.row) (sym was) ∙ begins)))
  ]

-- ---- no tuple is touched, and none is freed
none_touched : (kept : Kept) (vars : List VarId) → is_touched (unchanged_now kept) vars ≡ false
none_touched kept [] = refl
none_touched kept (v ∷ vars) = none_touched kept vars

module _ (g : Grammar) (infos : List VarInfo) (point : AreOfPoint infos) (samples : List (List Value)) (sample : List Value) (kept : Kept) (step : IsStep g infos samples sample kept (unchanged_now kept)) where
  abbrev more : List (List Value)
  more = samples ++ sample ∷ []

  abbrev before : Answer
  before = state_read kept

  abbrev after : Answer
  after = read_after kept sample

  abbrev state_with : Slot → State
  state_with slot = with_sample slot.row slot.leaders sample slot.state

  tells_before : Tells g infos samples before
  tells_before = (reading_tells g infos samples sample kept (unchanged_now kept) step point).0

  tells_after : Tells g infos more after
  tells_after = (reading_tells g infos samples sample kept (unchanged_now kept) step point).1

  -- what answers before and after say of a kept slot
  pub slot_says : (slot : Slot) → Contains kept.slots slot → (before slot.row slot.leaders ≡ slot.state) × (after slot.row slot.leaders ≡ state_with slot)
  slot_says slot has =
      let is = (step.before.slots.each slot).0 has in
      let row = row_of_grammar g slot.row is.over.of_grammar in (
        tells_before.each slot.row is.over.of_grammar slot.leaders is.over.admitted ∙ sym is.state,
        tells_after.each slot.row is.over.of_grammar slot.leaders is.over.admitted ∙ (fit_push slot.row row slot.leaders samples sample ∙ ap (state_with_state slot) (sym is.state)),
      )
    where
      state_with_state : Slot → State → State
      state_with_state slot s = with_sample slot.row slot.leaders sample s

  module _ (asked : Bool) (changes : List Change) (are : AreChanges (outcome asked after sample) kept.slots changes) (none : list_any (loses_by kept.slots) changes ≡ false) where
    nothing_freed : AreCandidates g infos before after kept.slots (unchanged_now kept) []
    nothing_freed = record {
      placed = All-nil (λ (c : RowId × List VarId). IsPlaced g infos kept.leaders c.0 c.1);
      touched = λ row vars placed touched unbroken. absurd (true≢false (sym touched ∙ none_touched kept vars));
      freed = λ row vars freed. elim freed.reached [
        | inr c ↦ let l = c.1 in absurd (omega (arith, l))
        | inl found ↦
            let p = freed.premise in
            let own = slot_vars p vars in
            let lost = and_parts (premise_fits before p vars) (not (premise_fits after p vars)) freed.lost in
            let asks_before = premises_ask_their_slots g infos samples before tells_before row vars freed.placed.over.admitted p freed.of_row in
            let asks_after = premises_ask_their_slots g infos more after tells_after row vars freed.placed.over.admitted p freed.of_row in
            elim (slot_cases kept.slots (row_of p) own) [
              | inl missing ↦ absurd (true≢false (sym found ∙ ap is_some missing))
              | inr f ↦
                  let slot = f.0 in
                  let says = slot_says slot f.1 in
                  let at_before : before (row_of p) own ≡ slot.state = ap (λ r. before r own) (sym f.2) ∙ (ap (before slot.row) (sym f.3) ∙ says.0) in
                  let at_after : after (row_of p) own ≡ state_with slot = ap (λ r. after r own) (sym f.2) ∙ (ap (after slot.row) (sym f.3) ∙ says.1) in
                  let was : suffices p slot.state ≡ true = ap (suffices p) (sym at_before) ∙ (sym asks_before ∙ lost.0) in
                  let stands = premises_stand (outcome asked after sample) kept.slots changes are none row p freed.of_row slot f.1 f.2 was in
                  let whole : outcome asked after sample slot ≢ Broken = λ e. true≢false (sym stands ∙ (ap (suffices p) e ∙ broken_suffices_not p)) in
                  let is : suffices p (state_with slot) ≡ true = ap (suffices p) (sym (outcome_is asked after sample slot whole)) ∙ stands in
                  let fits : premise_fits after p vars ≡ true = asks_after ∙ (ap (suffices p) at_after ∙ is) in
                  absurd (true≢false (sym fits ∙ not-true (premise_fits after p vars) lost.1))
            ]
      ];
    }

    -- ---- what closes
    nothing_closes : asked ≡ false → IsShut sample kept changes → (old : Slot) → Contains kept.slots old → can_close old ≡ true → is_suppressed after old.row old.leaders ≡ false
    nothing_closes not_asked shut old has can = elim (cases_Bool (is_suppressed after old.row old.leaders)) [
      | inr e ↦ e
      | inl e ↦ elim (few_slots_close g infos samples sample kept (unchanged_now kept) step after tells_after kept.held step.before.held old has e) [
        | inl empty ↦ let seen = shut.seen in let new = empty.1 in absurd (omega (arith, seen, new))
        | inr begun ↦
            let bound = begun.0 in
            let is : IsBegunBound kept.slots sample old bound = begun.1 in
            let stands = bounds_stand (outcome asked after sample) kept.slots changes are shut.bounds bound is.kept is.elements is.was in
            absurd (is.isnt (plain bound ∙ stands))
      ]
    ]
      where
        plain : (slot : Slot) → state_with slot ≡ outcome asked after sample slot
        plain slot = ap (λ b. cond (b && closes after slot) Broken (state_with slot)) (sym not_asked)

    no_opened : AreOpened after kept.slots kept.known [] []
    no_opened = record {
      ascend = λ i j d l m. absurd (omega (arith, m));
      each = λ slot. (λ c. let l = c.1 in absurd (omega (arith, l)), λ o. let l = o.candidate.1 in absurd (omega (arith, l)));
    }

    merged_alone : (left : List Slot) → AreLeft after sample kept.slots left → AreMerged left [] left
    merged_alone left is = record {
      ascend = is.ascend;
      each = λ slot. (λ c. inl c, λ from. elim from [ inl c ↦ c | inr c ↦ let l = c.1 in absurd (omega (arith, l)) ]);
    }

pub settled_parts_exact : (g : Grammar) (infos : List VarInfo) → AreOfPoint infos → (samples : List (List Value)) → AreSamples infos samples → (kept : Kept) → IsKeptOf g infos samples kept
    → (sample : List Value) → IsSample infos sample → 0 < kept.samples → IsTurned kept sample (unchanged_now kept)
    → (asked : Bool) (changes : List Change) → AreChanges (outcome asked (read_after kept sample) sample) kept.slots changes → (asked ≡ false → IsShut sample kept changes)
    → list_any (loses_by kept.slots) changes ≡ false
    → IsKeptOf g infos (samples ++ sample ∷ []) (parts_after kept.samples kept.held sample (unchanged_now kept) (slots_left (outcome asked (read_after kept sample) sample) kept.slots))
settled_parts_exact g infos point samples sampled kept is sample of some turned asked changes are shut none =
    let now = unchanged_now kept in
    let step = is_step g infos point samples sampled kept is sample now turned of (let number = is.number in omega (arith, number, some)) in
    let left = slots_left (outcome asked (read_after kept sample) sample) kept.slots in
    let are_left = left_are_left asked (read_after kept sample) sample kept.slots is.slots.ascend (λ e. nothing_closes g infos point samples sample kept step asked changes are none e (shut e)) in
    stepped_parts_exact g infos point samples sampled kept is sample of some now turned [] (nothing_freed g infos point samples sample kept step asked changes are none) left
    (merged_are_stepped (read_after kept sample) sample kept.slots kept.known [] left [] left are_left
    (no_opened g infos point samples sample kept step asked changes are none) (merged_alone g infos point samples sample kept step asked changes are none left are_left))
