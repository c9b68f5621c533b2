-- What a sample opens, and that it makes the slots whole with what the sample leaves.
use Rattle.std.specs.Prelude.{◌≡◌, ◌≢◌, ◌<◌, ◌⊎◌, ◌&&◌, ◌==◌, ◌||◌, ◌++◌, ℕ, zero, suc, Bool, true, false, not, All, Contains, IsTrue, List, [], ◌∷◌, None, filter, length, refl}
use Rattle.std.specs.List.{list_any}
use Rattle.std.proofs.Common.{ap, ◌∙◌, arith, get_or, inl, inr, subst, sym}
use Rattle.std.proofs.lemmas.Bool.{and_from, and_parts, cases_Bool, eq-eqb, false≢true, true≢false}
use Rattle.std.proofs.lemmas.List.Elements.{All-contains, All-head, All-tail, All-weaker, Contains-append_cases, Contains-append_left, Contains-append_right, Contains-get_or}
use Rattle.std.proofs.lemmas.List.Folds.{list_any_at}
use Rattle.dk_base.specs.declared.kinds.VarId.{VarId}
use Rattle.dk_base.specs.declared.kinds.VarInfo.{VarInfo}
use Rattle.dk_base.specs.declared.values.Value.{Value}
use Rattle.dk_classes.proofs.OwnLeaders.{leads_from_own, own_ascend}
use Rattle.dk_classes.specs.Leaders.{own_leaders}
use Rattle.dk_instances.proofs.Listing.{row_in, row_of_grammar}
use Rattle.dk_instances.proofs.Members.{append_cases, contained, in_filter, in_flat, in_map, is_in, of_filter, of_flat, of_map}
use Rattle.dk_instances.specs.Fits.{fit}
use Rattle.dk_instances.specs.Instances.{rows_of}
use Rattle.dk_instances.specs.Laws.{IsSample}
use Rattle.dk_forms.proofs.Summaries.{IsIn-append_left, IsIn-append_right}
use Rattle.dk_forms.specs.Laws.{IsIn}
use Rattle.dk_forms.specs.declared.states.State.TheVariants.{Broken}
use Rattle.dk_suppress.specs.Rules.{Rule, rules}
use Rattle.dk_template.proofs.WrittenTuples.{admitted_arity, admitted_few}
use Rattle.dk_template.specs.Admitted.{admits, is_written}
use Rattle.dk_template.specs.Premises.{row_of, suffices}
use Rattle.dk_template.specs.Proper.{IsProper}
use Rattle.dk_template.specs.Templates.{IsRowOf, arity_of, form_of, roles_of, template_of}
use Rattle.dk_template.specs.declared.answers.Premise.{Premise}
use Rattle.dk_template.specs.declared.grammar.Grammar.{Grammar}
use Rattle.dk_template.specs.declared.grammar.RowId.{RowId}
use Rattle.dk_template.specs.declared.templates.Takes.{Takes}
use Rattle.dk_template.specs.declared.templates.Takes.TheVariants.{One, Two, Three}
use Rattle.dk_engine.proofs.AllParts.{reading_tells}
use Rattle.dk_engine.proofs.Fed.{is_step, kept_now}
use Rattle.dk_engine.proofs.Freeing.{opened_is_freed}
use Rattle.dk_engine.proofs.Leaving.{left_are_left, outcome_is}
use Rattle.dk_engine.proofs.LostPremises.{broken_suffices_not}
use Rattle.dk_engine.proofs.ReadProper.{read_after_proper}
use Rattle.dk_engine.proofs.ReachedRows.{reached_listed, reached_rows}
use Rattle.dk_engine.proofs.Settling.{slot_changes}
use Rattle.dk_engine.proofs.SlotLists.{has_is_slot, has_unbroken, slot_answered, slot_has}
use Rattle.dk_engine.proofs.SlotLookups.{slot_cases}
use Rattle.dk_engine.proofs.Standing.{leads_on}
use Rattle.dk_engine.proofs.Stepping.{left_is_slot, long_more, slot_is_left}
use Rattle.dk_engine.proofs.Swept.{IsAtRole, IsGiven, in_with_both, in_with_one, of_with_both, of_with_one}
use Rattle.dk_engine.proofs.Turned.{leaders_now, still}
use Rattle.dk_engine.proofs.Unchanging.{same_slot}
use Rattle.dk_engine.specs.Sweeps.Choices.{other_leaders, touching_leaders}
use Rattle.dk_engine.specs.Saved.Conditions.{AreFormed, CanBeFed}
use Rattle.dk_engine.specs.Exact.{AreOfPoint, AreSamples, AreSlots, IsKeptOf, IsSlot, Lead}
use Rattle.dk_engine.specs.Feeding.{IsTurned, has_slot, read_after}
use Rattle.dk_engine.specs.Feeding.Merged.{AreTogether, HasNumber}
use Rattle.dk_engine.specs.Feeding.Narrow.{AreChanges, AreLeft, IsChange, IsMergedStep, freed_by_all, slots_left, loses_by, lost_places, opened_slots, outcome}
use Rattle.dk_engine.specs.Reading.Parts.{no_slot, slot_at, slot_in}
use Rattle.dk_engine.specs.Sweeps.Reached.{rows_reached}
use Rattle.dk_engine.specs.Feeding.Step.{Answer, IsFreedBy, IsPlaced, IsStep, Tells, is_touched, touches}
use Rattle.dk_engine.specs.Sweeps.{freed_slots, touched_slots, with_both, with_one}
use Rattle.dk_engine.specs.declared.feed.changes.Change.{Change}
use Rattle.dk_engine.specs.declared.kept.Kept.{Kept}
use Rattle.dk_engine.specs.declared.feed.now.Now.{Now}
use Rattle.dk_engine.specs.declared.slots.slot.Slot.{Slot}

-- ---- what is opened is a slot by the answers
module _ (g : Grammar) (infos : List VarInfo) (after : Answer) (now : Now) where
  abbrev own : List VarId
  own = own_leaders now.leaders

  -- a row of the grammar over leaders, with the state that is answered, of which they have a slot
  pub record IsOpen (slot : Slot) : Type 0 where
    pub of_grammar : IsRowOf g slot.row
    pub lead : Lead now.leaders slot.leaders
    pub there : has_slot infos now.known after slot.row slot.leaders ≡ true
    pub state : slot.state ≡ after slot.row slot.leaders

  open_given : (row : RowId) → IsRowOf g row → (s : Slot) → IsGiven infos now.known after own row s → IsOpen s
  open_given row of s given = record {
    of_grammar = subst (IsRowOf g) (sym given.of_row) of;
    lead = All-weaker (λ v. IsIn v own) (Contains own) (λ v i. contained v own i) s.leaders given.led;
    there = subst (λ r. has_slot infos now.known after r s.leaders ≡ true) (sym given.of_row) given.there;
    state = subst (λ r. s.state ≡ after r s.leaders) (sym given.of_row) given.state;
  }

  touched_open : (s : Slot) → IsIn s (touched_slots g infos now.known after (touching_leaders now) (other_leaders now) own) → IsOpen s
  unfolding touched_slots
  touched_open s i =
      let r = of_flat (λ row. with_one infos now.known after row (touching_leaders now) (other_leaders now) own) s (rows_of g) i in
      open_given r.0 (row_of_grammar g r.0 r.1) s
      (of_with_one infos now.known after r.0 own (touching_leaders now) (other_leaders now) (λ v j. (of_filter (touches now) v own j).0) (λ v j. (of_filter (λ w. not (touches now w)) v own j).0) s r.2)

  module _ (slots : List Slot) (some : All (λ (s : Slot). 0 < length s.leaders) slots) (led : All (λ (s : Slot). All (λ v. IsIn v own) s.leaders) slots) where
    freed_open : (lost : List ℕ) → All (λ k. k < length slots) lost → (s : Slot) → IsIn s (freed_by_all infos now.known after own slots lost) → IsOpen s
    unfolding freed_slots
    freed_open lost within s i =
        let f = of_flat (λ k. freed_slots infos now.known after own (slot_in slots k).row (slot_in slots k).leaders) s lost i in
        let at = All-contains (λ k. k < length slots) lost f.0 within (contained f.0 lost f.1) in
        let old = slot_in slots f.0 in
        let r = of_flat (λ row. with_both infos now.known after row old.leaders own) s (rows_reached old.row) f.2 in
        let is = All-contains (IsRowOf g) (rows_reached old.row) r.0 (reached_rows g old.row) (contained r.0 (rows_reached old.row) r.1) in
        open_given r.0 is s (of_with_both infos now.known after r.0 old.leaders own (some f.0 no_slot at) (led f.0 no_slot at) s r.2)

    pub opened_open : (lost : List ℕ) → All (λ k. k < length slots) lost → (s : Slot) → IsIn s (opened_slots g infos after slots now lost) → IsOpen s
    unfolding opened_slots
    opened_open lost within s i =
        elim (append_cases s (touched_slots g infos now.known after (touching_leaders now) (other_leaders now) own) (freed_by_all infos now.known after own slots lost) i) [
          | inl a ↦ touched_open s a
          | inr b ↦ freed_open lost within s b
        ]

  -- ---- what has a slot is opened, where it is touched or freed
  made : Slot → Slot
  made s = record { row = s.row; leaders = s.leaders; state = after s.row s.leaders }

  touched_role : (vars : List VarId) → All (λ v. IsIn v own) vars → is_touched now vars ≡ true → (k : ℕ) × IsAtRole (touching_leaders now) (other_leaders now) own k vars
  touched_role [] led h = absurd (false≢true h)
  touched_role (v ∷ vars) led h =
      let here = All-head (λ u. IsIn u own) v vars led in
      let rest = All-tail (λ u. IsIn u own) v vars led in
      elim (cases_Bool (touches now v)) [
        | inl e ↦ (zero, (in_filter (touches now) v own here e, rest))
        | inr e ↦
            let later = touched_role vars rest (ap (λ b. b || is_touched now vars) (sym e) ∙ h) in
            (suc later.0, (in_filter (λ w. not (touches now w)) v own here (ap not e), later.1))
      ]

  touched_in : (row : RowId) (vars : List VarId) → IsRowOf g row → length vars ≡ arity_of row → length vars < 4 → All (λ v. IsIn v own) vars → is_touched now vars ≡ true → has_slot infos now.known after row vars ≡ true
      → IsIn (record { row = row; leaders = vars; state = after row vars }) (touched_slots g infos now.known after (touching_leaders now) (other_leaders now) own)
  unfolding touched_slots
  touched_in row vars of long few led touched has =
      let at = touched_role vars led touched in
      in_flat (λ r. with_one infos now.known after r (touching_leaders now) (other_leaders now) own) (record { row = row; leaders = vars; state = after row vars }) row (rows_of g)
      (in_with_one infos now.known after row (touching_leaders now) (other_leaders now) own at.0 vars long (omega (arith, few)) at.1 has) (row_in g row of)

  -- the place of the slot that frees a tuple
  freed_in : (slots : List Slot) (lost : List ℕ) (k : ℕ) → IsIn k lost → 0 < length (slot_in slots k).leaders → (row : RowId) (vars : List VarId) → Contains (rows_reached (slot_in slots k).row) row → All (Contains vars) (slot_in slots k).leaders
      → length vars ≡ arity_of row → length vars < 4 → All (λ v. IsIn v own) vars → has_slot infos now.known after row vars ≡ true
      → IsIn (record { row = row; leaders = vars; state = after row vars }) (freed_by_all infos now.known after own slots lost)
  unfolding freed_slots
  freed_in slots lost k i some row vars reaches among long few led has =
      let s : Slot = record { row = row; leaders = vars; state = after row vars } in
      let old = slot_in slots k in
      in_flat (λ n. freed_slots infos now.known after own (slot_in slots n).row (slot_in slots n).leaders) s k lost
      (in_flat (λ r. with_both infos now.known after r old.leaders own) s row (rows_reached old.row) (in_with_both infos now.known after row old.leaders own vars some among long (omega (arith, few)) led has)
      (is_in row (rows_reached old.row) reaches.0 reaches.1 reaches.2)) i

  opened_in : (slots : List Slot) (lost : List ℕ) (s : Slot)
      → IsIn s (touched_slots g infos now.known after (touching_leaders now) (other_leaders now) own) ⊎ IsIn s (freed_by_all infos now.known after own slots lost) → IsIn s (opened_slots g infos after slots now lost)
  unfolding opened_slots
  opened_in slots lost s from =
      let t = touched_slots g infos now.known after (touching_leaders now) (other_leaders now) own in
      let f = freed_by_all infos now.known after own slots lost in
      elim from as (λ _. IsIn s (t ++ f)) [ inl a ↦ IsIn-append_left s t f a | inr b ↦ IsIn-append_right s t f b ]

-- ---- parts that can be fed
arity_some : (row : RowId) → 0 < arity_of row
arity_some row = go (template_of row).takes
  where
    go : (t : Takes) → 0 < length (roles_of t)
    go (One a) = omega arith
    go (Two a b) = omega arith
    go (Three a b c) = omega arith

pub has_vars : (row : RowId) (infos : List VarInfo) (vars : List VarId) → IsTrue (admits row infos vars) → 0 < length vars
has_vars row infos vars a = let long = admitted_arity row infos vars a in let some = arity_some row in omega (arith, long, some)

pub slots_have_leaders : (g : Grammar) (infos : List VarInfo) (kept : Kept) → CanBeFed g infos kept → All (λ (s : Slot). 0 < length s.leaders) kept.slots
slots_have_leaders g infos kept can k d l = let s : Slot = get_or kept.slots k d in has_vars s.row infos s.leaders (can.placed k d l).over.admitted

module _ (g : Grammar) (infos : List VarInfo) (point : AreOfPoint infos) (kept : Kept) (can : CanBeFed g infos kept) (sample : List Value) (sampled : IsSample infos sample) (now : Now) (turned : IsTurned kept sample now) where
  abbrev after_it : Answer
  after_it = read_after kept sample

  abbrev led_now : List VarId
  led_now = own_leaders now.leaders

  some_leaders : All (λ (s : Slot). 0 < length s.leaders) kept.slots
  some_leaders = slots_have_leaders g infos kept can

  still_led : All (λ (s : Slot). All (λ v. IsIn v led_now) s.leaders) kept.slots
  still_led k d l j e m =
      let s : Slot = get_or kept.slots k d in
      let c = still g infos kept can sample now turned (get_or s.leaders j e) ((can.placed k d l).over.lead j e m) in
      is_in (get_or s.leaders j e) led_now c.0 c.1 c.2

  placed_now : (s : Slot) → IsPlaced g infos kept.leaders s.row s.leaders → IsPlaced g infos now.leaders s.row s.leaders
  placed_now s placed = record {
    over = record { of_grammar = placed.over.of_grammar; admitted = placed.over.admitted; lead = λ j e m. still g infos kept can sample now turned (get_or s.leaders j e) (placed.over.lead j e m) };
    written = placed.written;
  }

  pub numbered : (s : Slot) → IsPlaced g infos now.leaders s.row s.leaders → HasNumber s
  numbered s placed = record {
    long = admitted_arity s.row infos s.leaders placed.over.admitted;
    few = admitted_few s.row infos s.leaders placed.over.admitted;
    below = λ j e m.
        let leads = leads_from_own now.leaders (get_or s.leaders j e) (placed.over.lead j e m) in
        let low = leads.0 in
        let long = (leaders_now g infos kept can sample now turned).long in
        let few = point.few in
        omega (arith, low, long, few);
  }

  -- what the sample leaves
  module _ (left : List Slot) (formed : AreFormed g infos kept.leaders left) where
    pub left_numbered : All HasNumber left
    left_numbered k d l = let s : Slot = get_or left k d in numbered s (placed_now s (formed.placed k d l))

  -- what it opens
  module _ (lost : List ℕ) (within : All (λ k. k < length kept.slots) lost) where
    abbrev opened : List Slot
    opened = opened_slots g infos after_it kept.slots now lost

    open_at : (k : ℕ) (d : Slot) → k < length opened → IsOpen g infos after_it now (get_or opened k d)
    open_at k d l =
        let c = Contains-get_or opened k d l in
        opened_open g infos after_it now kept.slots some_leaders still_led lost within (get_or opened k d) (is_in (get_or opened k d) opened c.0 c.1 c.2)

    open_placed : (s : Slot) → IsOpen g infos after_it now s → IsPlaced g infos now.leaders s.row s.leaders
    open_placed s open_slot =
        let h1 = and_parts (admits s.row infos s.leaders) _ open_slot.there in
        let h2 = and_parts (is_written s.row s.leaders) _ h1.1 in
        record { over = record { of_grammar = open_slot.of_grammar; admitted = h1.0; lead = open_slot.lead }; written = h2.0 }

    pub opened_numbered : All HasNumber opened
    opened_numbered k d l = numbered (get_or opened k d) (open_placed (get_or opened k d) (open_at k d l))

    -- all together
    pub merged_formed : (left merged : List Slot) → AreFormed g infos kept.leaders left → AreTogether (left ++ opened) merged → AreFormed g infos now.leaders merged
    merged_formed left merged formed together =
        let from : (k : ℕ) (d : Slot) → k < length merged → Contains left (get_or merged k d) ⊎ Contains opened (get_or merged k d) = λ k d l.
        Contains-append_cases left opened (get_or merged k d) (together.from (get_or merged k d) (Contains-get_or merged k d l)) in
        let Placed : Slot → Type 0 = λ s. IsPlaced g infos kept.leaders s.row s.leaders in
        let Proper : Slot → Type 0 = λ s. IsProper (form_of s.row) s.state in
        let open_in : (s : Slot) → Contains opened s → IsOpen g infos after_it now s = λ s c. opened_open g infos after_it now kept.slots some_leaders still_led lost within s (is_in s opened c.0 c.1 c.2) in
        record {
          states = λ k d l. elim (from k d l) as (λ _. Proper (get_or merged k d)) [
            | inl a ↦ All-contains Proper left (get_or merged k d) formed.states a
            | inr b ↦
                let s : Slot = get_or merged k d in
                let is = open_in s b in
                let at = open_placed s is in
                subst (IsProper (form_of s.row)) (sym is.state) (read_after_proper g infos point kept can.readable sample sampled s.row at.over.of_grammar s.leaders at.over.admitted)
          ];
          placed = λ k d l. elim (from k d l) as (λ _. IsPlaced g infos now.leaders (get_or merged k d).row (get_or merged k d).leaders) [
            | inl a ↦ placed_now (get_or merged k d) (All-contains Placed left (get_or merged k d) formed.placed a)
            | inr b ↦ open_placed (get_or merged k d) (open_in (get_or merged k d) b)
          ];
          in_order = together.ascend;
          unbroken = λ k d l. elim (from k d l) as (λ _. (get_or merged k d).state ≢ Broken) [
            | inl a ↦ All-contains (λ s. s.state ≢ Broken) left (get_or merged k d) formed.unbroken a
            | inr b ↦
                let s : Slot = get_or merged k d in
                let is = open_in s b in
                λ e. has_unbroken infos now.known after_it s.row s.leaders is.there (sym is.state ∙ e)
          ];
        }

-- ---- by samples
module _ (g : Grammar) (infos : List VarInfo) (point : AreOfPoint infos) (samples : List (List Value)) (sample : List Value) (kept : Kept) (now : Now) (step : IsStep g infos samples sample kept now) where
  abbrev more : List (List Value)
  more = samples ++ sample ∷ []

  abbrev after_sample : Answer
  after_sample = read_after kept sample

  tells_after : Tells g infos more after_sample
  tells_after = (reading_tells g infos samples sample kept now step point).1

  module _ (changes : List Change) (are : AreChanges (outcome true after_sample sample) kept.slots changes) where
    abbrev lost : List ℕ
    lost = lost_places kept.slots changes

    abbrev left : List Slot
    left = slots_left (outcome true after_sample sample) kept.slots

    abbrev opened_now : List Slot
    opened_now = opened_slots g infos after_sample kept.slots now lost

    -- a slot that frees a tuple is one by which a premise is lost
    freeing_is_lost : (row : RowId) (vars : List VarId) (old : Slot) → IsFreedBy sample kept.slots row vars old → (k : ℕ) × IsIn k lost × (slot_in kept.slots k ≡ old)
    freeing_is_lost row vars old by =
        let p = by.premise in
        let made_of = outcome true after_sample sample in
        let fails : suffices p (made_of old) ≡ false = elim (cases_Bool (suffices p (made_of old))) [
          | inr e ↦ e
          | inl e ↦
              let whole : made_of old ≢ Broken = λ b. true≢false (sym e ∙ (ap (suffices p) b ∙ broken_suffices_not p)) in
              absurd (true≢false (sym e ∙ (ap (suffices p) (outcome_is true after_sample sample old whole) ∙ by.isnt)))
        ] in
        elim (slot_changes made_of kept.slots changes are old by.kept) [
          | inl stays ↦ absurd (true≢false (sym by.was ∙ (ap (suffices p) (sym stays) ∙ fails)))
          | inr f ↦
              let c = f.0 in
              let test : Premise → Bool = λ q. (row_of q).0 == old.row.0 && (suffices q old.state && not (suffices q c.state)) in
              let one : test p ≡ true =
              and_from ((row_of p).0 == old.row.0) _ (eq-eqb (row_of p).0 old.row.0 (ap (λ (r : RowId). r.0) (sym by.same))) (and_from (suffices p old.state) (not (suffices p c.state)) by.was (ap not (ap (suffices p) f.3 ∙ fails))) in
              let in_rule : Rule → Bool = λ r. list_any test r.1 in
              let of = by.of_row in
              let rule : in_rule of.rule ≡ true = list_any_at test of.rule.1 of.asks.0 p of.asks.1 (ap test of.asks.2 ∙ one) in
              let all : list_any in_rule rules ≡ true = list_any_at in_rule rules of.listed.0 of.rule of.listed.1 (ap in_rule of.listed.2 ∙ rule) in
              let loses_it : loses_by kept.slots c ≡ true =
              subst (λ s. list_any (λ (r : Rule). list_any (λ q. (row_of q).0 == s.row.0 && (suffices q s.state && not (suffices q c.state))) r.1) rules ≡ true) (sym f.2) all in
              (c.place, in_map (λ (d : Change). d.place) c (filter (loses_by kept.slots) changes) (in_filter (loses_by kept.slots) c changes (is_in c changes f.1.0 f.1.1 f.1.2) loses_it), f.2)
        ]

    -- a slot of now that had none is opened
    new_is_opened : (slot : Slot) → IsSlot g infos more now.leaders now.known slot → slot_at kept.slots slot.row slot.leaders ≡ None → Contains opened_now slot
    new_is_opened slot has none =
        let vars = slot.leaders in
        let long = admitted_arity slot.row infos vars has.over.admitted in
        let few : length vars < 4 = let three = admitted_few slot.row infos vars has.over.admitted in omega (arith, three) in
        let led : All (λ v. IsIn v (own_leaders now.leaders)) vars = All-weaker (Contains (own_leaders now.leaders)) (λ v. IsIn v (own_leaders now.leaders)) (λ v c. is_in v (own_leaders now.leaders) c.0 c.1 c.2) vars has.over.lead in
        let there = slot_has g infos more has.some now.leaders (own_ascend now.leaders) now.known after_sample tells_after.each slot has in
        let same : record { row = slot.row; leaders = vars; state = after_sample slot.row vars } ≡ slot =
        same_slot (record { row = slot.row; leaders = vars; state = after_sample slot.row vars }) slot refl refl (sym (slot_answered g infos more has.some now.leaders (own_ascend now.leaders) now.known after_sample tells_after.each slot has)) in
        let here : IsIn (record { row = slot.row; leaders = vars; state = after_sample slot.row vars }) opened_now = opened_in g infos after_sample now kept.slots lost (record { row = slot.row; leaders = vars; state = after_sample slot.row vars }) (elim (cases_Bool (is_touched now vars)) [
          | inl touched ↦ inl (touched_in g infos after_sample now slot.row vars has.over.of_grammar long few led touched there)
          | inr untouched ↦
              let freed = opened_is_freed step slot has none untouched in
              let by = freed.1 in
              let at = freeing_is_lost slot.row vars freed.0 by in
              let some : 0 < length freed.0.leaders = has_vars freed.0.row infos freed.0.leaders ((step.before.slots.each freed.0).0 by.kept).over.admitted in
              inr (freed_in g infos after_sample now kept.slots lost at.0 at.1 (subst (λ (s : Slot). 0 < length s.leaders) (sym at.2) some) slot.row vars
              (subst (λ (s : Slot). Contains (rows_reached s.row) slot.row) (sym at.2) (reached_listed freed.0.row slot.row by.reaches)) (subst (λ (s : Slot). All (Contains vars) s.leaders) (sym at.2) by.among) long few led there)
        ]) in
        contained slot opened_now (subst (λ s. IsIn s opened_now) same here)

    some_old : All (λ (s : Slot). 0 < length s.leaders) kept.slots
    some_old k d l = let s : Slot = get_or kept.slots k d in has_vars s.row infos s.leaders ((step.before.slots.each s).0 (Contains-get_or kept.slots k d l)).over.admitted

    led_old : All (λ (s : Slot). All (λ v. IsIn v (own_leaders now.leaders)) s.leaders) kept.slots
    led_old k d l j e m =
        let s : Slot = get_or kept.slots k d in
        let v = get_or s.leaders j e in
        let c = leads_on step v (((step.before.slots.each s).0 (Contains-get_or kept.slots k d l)).over.lead j e m) in
        is_in v (own_leaders now.leaders) c.0 c.1 c.2

    within_lost : All (λ k. k < length kept.slots) lost
    within_lost k d l =
        let c = Contains-get_or lost k d l in
        let m = of_map {X = Change} {Y = ℕ} (λ (e : Change). e.place) (get_or lost k d) (filter (loses_by kept.slots) changes) (is_in (get_or lost k d) lost c.0 c.1 c.2) in
        let f = of_filter (loses_by kept.slots) m.0 changes m.1 in
        subst (λ n. n < length kept.slots) (sym m.2) (All-contains (IsChange (outcome true after_sample sample) kept.slots) changes m.0 are.each (contained m.0 changes f.0)).within

    are_left : AreLeft after_sample sample kept.slots left
    are_left = left_are_left true after_sample sample kept.slots step.before.slots.ascend (λ e. absurd (true≢false e))

    -- what is left or opened is a slot of now
    whole_is_slot : (slot : Slot) → Contains (left ++ opened_now) slot → IsSlot g infos more now.leaders now.known slot
    whole_is_slot slot c = elim (Contains-append_cases left opened_now slot c) as (λ _. IsSlot g infos more now.leaders now.known slot) [
      | inl a ↦ let of = (are_left.each slot).0 a in left_is_slot step tells_after of.0 slot ((step.before.slots.each of.0).0 of.1) of.2
      | inr b ↦
          let is = opened_open g infos after_sample now kept.slots some_old led_old lost within_lost slot (is_in slot opened_now b.0 b.1 b.2) in
          let has = has_is_slot g infos more (long_more step) now.leaders (own_ascend now.leaders) now.known after_sample tells_after.each slot.row slot.leaders is.of_grammar is.lead is.there in
          subst (IsSlot g infos more now.leaders now.known) (same_slot (record { row = slot.row; leaders = slot.leaders; state = after_sample slot.row slot.leaders }) slot refl refl (sym is.state)) has
    ]

    -- a slot of now is left or opened
    slot_is_whole : (slot : Slot) → IsSlot g infos more now.leaders now.known slot → Contains (left ++ opened_now) slot
    slot_is_whole slot has = elim (slot_cases kept.slots slot.row slot.leaders) [
      | inl none ↦ Contains-append_right left opened_now slot (new_is_opened slot has none)
      | inr found ↦ Contains-append_left left opened_now slot ((are_left.each slot).1 (found.0, found.1, slot_is_left step tells_after slot has found.0 found.1 found.2 found.3))
    ]

    pub merged_exact : (merged : List Slot) → AreTogether (left ++ opened_now) merged → AreSlots g infos more now.leaders now.known merged
    merged_exact merged together = record {
      ascend = together.ascend;
      each = λ slot. (
        λ c. whole_is_slot slot (together.from slot c),
        λ has.
            let found = together.has slot (slot_is_whole slot has) in
            let other = whole_is_slot found.0 (together.from found.0 found.1) in
            let state : found.0.state ≡ slot.state = other.state ∙ (ap (λ r. fit r found.0.leaders more) found.2 ∙ (ap (λ vs. fit slot.row vs more) found.3 ∙ sym has.state)) in
            subst (Contains merged) (same_slot found.0 slot found.2 found.3 state) found.1,
      );
    }

-- ---- all parts
pub merged_parts_exact : (g : Grammar) (infos : List VarInfo) → AreOfPoint infos → (samples : List (List Value)) → AreSamples infos samples → (kept : Kept) → IsKeptOf g infos samples kept
    → (sample : List Value) → IsSample infos sample → 0 < kept.samples → (now : Now) → IsTurned kept sample now
    → (changes : List Change) → AreChanges (outcome true (read_after kept sample) sample) kept.slots changes
    → (after : Kept) → IsMergedStep g infos kept sample now (lost_places kept.slots changes) after → IsKeptOf g infos (samples ++ sample ∷ []) after
merged_parts_exact g infos point samples sampled kept is sample of some now turned changes are after by =
    let step = is_step g infos point samples sampled kept is sample now turned of (let number = is.number in omega (arith, number, some)) in
    subst (IsKeptOf g infos (samples ++ sample ∷ [])) (sym by.parts) (kept_now g infos point samples sampled kept is sample now turned by.slots (merged_exact g infos point samples sample kept now step changes are by.slots by.together))
