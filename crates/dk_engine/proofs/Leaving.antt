-- What a sample leaves of the slots.
use Rattle.std.specs.Prelude.{◌≡◌, ◌≢◌, ◌<◌, ◌&&◌, ℕ, Bool, true, false, not, Contains, List, cond, length, map, refl}
use Rattle.std.specs.List.{AllPairs}
use Rattle.std.proofs.Common.{ap, ◌∙◌, get_or, inl, inr, subst, sym}
use Rattle.std.proofs.lemmas.Bool.{cases_Bool, not-true}
use Rattle.std.proofs.lemmas.List.Elements.{All-contains, Contains-get_or}
use Rattle.dk_base.specs.declared.kinds.VarInfo.{VarInfo}
use Rattle.dk_base.specs.declared.values.Value.{Value}
use Rattle.dk_forms.specs.declared.states.State.{State}
use Rattle.dk_forms.specs.declared.states.State.TheVariants.{Broken}
use Rattle.dk_instances.proofs.Ascending.{along, ascend_from_pairs, kept, pairs}
use Rattle.dk_instances.proofs.Members.{contained, in_filter, in_map, is_in, of_filter, of_map}
use Rattle.dk_instances.specs.Laws.{IsSample}
use Rattle.dk_suppress.specs.Rules.{is_suppressed}
use Rattle.dk_template.specs.Proper.{IsProper}
use Rattle.dk_template.specs.Templates.{form_of}
use Rattle.dk_template.specs.declared.grammar.Grammar.{Grammar}
use Rattle.dk_engine.proofs.ReadProper.{with_sample_proper}
use Rattle.dk_engine.proofs.Readings.{broken_is, not_broken, row_is}
use Rattle.dk_engine.proofs.Unchanging.{same_slot}
use Rattle.dk_engine.specs.Exact.{SlotBefore}
use Rattle.dk_engine.specs.Feeding.{is_broken, with_sample}
use Rattle.dk_engine.specs.Feeding.Narrow.{AreLeft, closes, outcome, slots_left, with_state}
use Rattle.dk_engine.specs.Feeding.Step.{Answer, IsLeftOf, IsPlaced, can_close}
use Rattle.dk_engine.specs.Saved.Conditions.{AreFormed, CanBeFed}
use Rattle.dk_engine.specs.declared.kept.Kept.{Kept}
use Rattle.dk_engine.specs.declared.slots.slot.Slot.{Slot}

-- ---- the slots that are left, whatever is made of them
module _ (made : Slot → State) (slots : List Slot) where
  abbrev moved : Slot → Slot
  moved slot = with_state slot (made slot)

  abbrev whole : Slot → Bool
  whole slot = not (is_broken slot.state)

  pub left_ascend : AllPairs SlotBefore slots → AllPairs SlotBefore (slots_left made slots)
  left_ascend up = pairs SlotBefore (slots_left made slots) (kept SlotBefore whole (map moved slots) (along SlotBefore moved slots (ascend_from_pairs SlotBefore slots up)))

  -- each was made of one of the slots
  pub left_from : (slot : Slot) → Contains (slots_left made slots) slot → (old : Slot) × Contains slots old × (slot ≡ moved old) × (made old ≢ Broken)
  left_from slot c =
      let f = of_filter whole slot (map moved slots) (is_in slot (slots_left made slots) c.0 c.1 c.2) in
      let m = of_map {X = Slot} {Y = Slot} moved slot slots f.0 in
      let there = not_broken slot.state (not-true (is_broken slot.state) f.1) in
      (m.0, contained m.0 slots m.1, m.2, λ e. there (ap (λ (s : Slot). s.state) m.2 ∙ e))

  pub left_has : (old : Slot) → Contains slots old → (made old ≢ Broken) → Contains (slots_left made slots) (moved old)
  left_has old c n =
      let unbroken : whole (moved old) ≡ true = elim (cases_Bool (is_broken (made old))) as (λ _. not (is_broken (made old)) ≡ true) [ inl e ↦ absurd (n (broken_is (made old) e)) | inr e ↦ ap not e ] in
      contained (moved old) (slots_left made slots) (in_filter whole (moved old) (map moved slots) (in_map {X = Slot} {Y = Slot} moved old slots (is_in old slots c.0 c.1 c.2)) unbroken)

-- ---- by a sample
module _ (asked : Bool) (after : Answer) (sample : List Value) where
  abbrev made_with : Slot → State
  made_with = outcome asked after sample

  abbrev state_with : Slot → State
  state_with old = with_sample old.row old.leaders sample old.state

  -- a slot that isn't broken has its state with the sample
  pub outcome_is : (old : Slot) → made_with old ≢ Broken → made_with old ≡ state_with old
  outcome_is old n = elim (cases_Bool (asked && closes after old)) [
    | inl e ↦ absurd (n (ap (λ b. cond b Broken (state_with old)) e))
    | inr e ↦ ap (λ b. cond b Broken (state_with old)) e
  ]

  open_outcome : (old : Slot) → (can_close old ≡ true → is_suppressed after old.row old.leaders ≡ false) → made_with old ≡ state_with old
  open_outcome old stays =
      let shut : closes after old ≡ false = elim (cases_Bool (can_close old)) [
        | inl e ↦ ap (λ b. b && is_suppressed after old.row old.leaders) e ∙ stays e
        | inr e ↦ ap (λ b. b && is_suppressed after old.row old.leaders) e
      ] in
      ap (λ b. cond b Broken (state_with old)) (ap (λ b. asked && b) shut ∙ never asked)
    where
      never : (b : Bool) → (b && false) ≡ false
      never true = refl
      never false = refl

  pub left_are_left : (slots : List Slot) → AllPairs SlotBefore slots
      → (asked ≡ false → (old : Slot) → Contains slots old → can_close old ≡ true → is_suppressed after old.row old.leaders ≡ false) → AreLeft after sample slots (slots_left made_with slots)
  left_are_left slots up shut = record {
    ascend = left_ascend made_with slots up;
    each = λ slot. (
      λ c.
          let from = left_from made_with slots slot c in
          let old = from.0 in
          let state = outcome_is old from.3 in (
            old,
            from.1,
            subst (IsLeftOf after sample old) (sym from.2) (record {
              row = refl;
              vars = refl;
              state = state;
              unbroken = from.3;
              unsuppressed = stays_open old from.1 from.3;
            }),
          ),
      λ from.
          let old = from.0 in
          let left = from.2 in
          let state = open_outcome old (λ can. ap (λ r. is_suppressed after r old.leaders) (sym left.row) ∙ (ap (is_suppressed after slot.row) (sym left.vars) ∙ left.unsuppressed can)) in
          let same : with_state old (made_with old) ≡ slot = same_slot (with_state old (made_with old)) slot (sym left.row) (sym left.vars) (state ∙ sym left.state) in
          subst (Contains (slots_left made_with slots)) same (left_has made_with slots old from.1 (λ e. left.unbroken (left.state ∙ (sym state ∙ e)))),
    );
  }
    where
      stays_open : (old : Slot) → Contains slots old → made_with old ≢ Broken → can_close old ≡ true → is_suppressed after old.row old.leaders ≡ false
      stays_open old c n can = elim (cases_Bool asked) [
        | inr e ↦ shut e old c can
        | inl e ↦ elim (cases_Bool (is_suppressed after old.row old.leaders)) [
          | inr no_rule ↦ no_rule
          | inl some_rule ↦
              let shuts : closes after old ≡ true = ap (λ b. b && is_suppressed after old.row old.leaders) can ∙ some_rule in
              absurd (n (ap (λ b. cond b Broken (state_with old)) (ap (λ b. b && closes after old) e ∙ shuts)))
        ]
      ]

-- ---- they can be fed
pub left_formed : (g : Grammar) (infos : List VarInfo) (kept : Kept) → CanBeFed g infos kept → (sample : List Value) → IsSample infos sample → (asked : Bool) (after : Answer)
    → AreFormed g infos kept.leaders (slots_left (outcome asked after sample) kept.slots)
left_formed g infos kept can sample sampled asked after =
    let made = outcome asked after sample in
    let left = slots_left made kept.slots in
    let from : (k : ℕ) (d : Slot) → k < length left → (old : Slot) × Contains kept.slots old × (get_or left k d ≡ with_state old (made old)) × (made old ≢ Broken) = λ k d l. left_from made kept.slots (get_or left k d) (Contains-get_or left k d l) in
    let Placed : Slot → Type 0 = λ s. IsPlaced g infos kept.leaders s.row s.leaders in
    let Proper : Slot → Type 0 = λ s. IsProper (form_of s.row) s.state in
    let placed : (old : Slot) → Contains kept.slots old → Placed old = λ old c. All-contains Placed kept.slots old can.placed c in
    record {
      states = λ k d l.
          let f = from k d l in
          let old = f.0 in
          let is = placed old f.1 in
          let proper : IsProper (form_of old.row) (with_sample old.row old.leaders sample old.state) =
          with_sample_proper infos sample sampled old.row (row_is g old.row is.over.of_grammar) old.leaders is.over.admitted old.state (All-contains Proper kept.slots old can.readable.states f.1) in
          subst Proper (sym f.2) (subst (IsProper (form_of old.row)) (sym (outcome_is asked after sample old f.3)) proper);
      placed = λ k d l. let f = from k d l in subst Placed (sym f.2) (placed f.0 f.1);
      in_order = left_ascend made kept.slots can.in_order;
      unbroken = λ k d l e. let f = from k d l in f.3 (ap (λ (s : Slot). s.state) (sym f.2) ∙ e);
    }
