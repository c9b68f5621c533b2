-- The slots that states give, as a list.
use Rattle.std.specs.Prelude.{◌≡◌, ◌≢◌, ◌<◌, Bool, true, false, not, All, Contains, IsTrue, List, filter, flat_map, length, refl}
use Rattle.std.specs.List.{AllPairs, range_with_len}
use Rattle.std.proofs.Common.{ap, ◌∙◌, sym, inl, inr, subst}
use Rattle.std.proofs.lemmas.Bool.{and_from, and_parts, cases_Bool, false≢true, not-true}
use Rattle.std.proofs.lemmas.List.Elements.{All-weaker}
use Rattle.dk_base.specs.declared.kinds.VarId.{VarId}
use Rattle.dk_base.specs.declared.kinds.VarInfo.{VarInfo}
use Rattle.dk_base.specs.declared.values.Value.{Value}
use Rattle.dk_classes.specs.Leaders.{own_leaders}
use Rattle.dk_constants.specs.Known.{Entries}
use Rattle.dk_forms.specs.Laws.{IsIn}
use Rattle.dk_forms.specs.declared.states.State.{State}
use Rattle.dk_forms.specs.declared.states.State.TheVariants.{Broken}
use Rattle.dk_instances.proofs.Ascending.{Ascend, along, ascend_from_pairs, joined, kept, numbers, pairs, tuples, weaker}
use Rattle.dk_instances.proofs.Listing.{in_tuples, of_tuples, row_in, row_of_grammar}
use Rattle.dk_instances.proofs.Members.{contained, in_filter, in_flat, in_map, is_in, of_filter, of_flat, of_map}
use Rattle.dk_instances.specs.Fits.{fit}
use Rattle.dk_instances.specs.Instances.{Precedes, rows_of, tuples_over}
use Rattle.dk_samples.specs.Leaders.{VarsAscend as LeadersAscend}
use Rattle.dk_suppress.proofs.Asking.{suppressed_alike}
use Rattle.dk_suppress.specs.Rules.{is_suppressed}
use Rattle.dk_suppress.specs.Soundness.{fit_of}
use Rattle.dk_template.proofs.WrittenTuples.{admitted_arity}
use Rattle.dk_template.specs.Admitted.{admits, is_written}
use Rattle.dk_template.specs.Templates.{IsRowOf, arity_of, rows_in}
use Rattle.dk_template.specs.declared.grammar.Grammar.{Grammar}
use Rattle.dk_template.specs.declared.grammar.RowId.{RowId}
use Rattle.dk_engine.proofs.Readings.{broken_is, not_broken}
use Rattle.dk_engine.specs.Exact.{AreSlots, IsSlot, SlotBefore}
use Rattle.dk_engine.specs.Feeding.{has_slot, is_broken, slots_of, slots_of_row}
use Rattle.dk_engine.specs.Feeding.Step.{IsPlaced}
use Rattle.dk_engine.specs.Laws.{SlotsOfFitsAreExact}
use Rattle.dk_engine.specs.Reading.Parts.{all_known}
use Rattle.dk_engine.specs.declared.slots.slot.Slot.{Slot}

-- leaders that have a slot don't have Broken
pub has_unbroken : (infos : List VarInfo) (known : Entries) (answered : RowId → List VarId → State) (row : RowId) (vars : List VarId)
    → has_slot infos known answered row vars ≡ true → answered row vars ≢ Broken
has_unbroken infos known answered row vars h =
    let h1 = and_parts (admits row infos vars) _ h in
    let h2 = and_parts (is_written row vars) _ h1.1 in
    let h3 = and_parts (not (all_known known vars)) _ h2.1 in
    let h4 = and_parts (not (is_broken (answered row vars))) _ h3.1 in
    not_broken (answered row vars) (not-true (is_broken (answered row vars)) h4.0)

-- ---- the slots that any answers give
module _ (g : Grammar) (infos : List VarInfo) (leaders : List VarId) (up : LeadersAscend (own_leaders leaders)) (known : Entries) (answered : RowId → List VarId → State) where
  abbrev own_now : List VarId
  own_now = own_leaders leaders

  abbrev given : RowId → List VarId → Slot
  given row vars = record { row = row; leaders = vars; state = answered row vars }

  abbrev all_given : List Slot
  all_given = flat_map (slots_of_row infos own_now known answered) (rows_of g)

  -- each is placed, with the state that is answered, which isn't Broken
  pub slot_given : (slot : Slot) → Contains (slots_of g infos own_now known answered) slot → IsPlaced g infos leaders slot.row slot.leaders × (slot.state ≡ answered slot.row slot.leaders) × (slot.state ≢ Broken)
  unfolding slots_of
  slot_given slot c =
      let r = of_flat (slots_of_row infos own_now known answered) slot (rows_of g) (is_in slot all_given c.0 c.1 c.2) in
      let v = of_map {X = List VarId} {Y = Slot} (given r.0) slot (filter (has_slot infos known answered r.0) (tuples_over (arity_of r.0) own_now)) r.2 in
      let f = of_filter (has_slot infos known answered r.0) v.0 (tuples_over (arity_of r.0) own_now) v.1 in
      let h1 = and_parts (admits r.0 infos v.0) _ f.1 in
      let h2 = and_parts (is_written r.0 v.0) _ h1.1 in
      let lead : All (Contains own_now) v.0 = All-weaker (λ w. IsIn w own_now) (Contains own_now) (λ w j. contained w own_now j) v.0 (of_tuples own_now (arity_of r.0) v.0 f.0).0 in
      let P : Slot → Type 0 = λ s. IsPlaced g infos leaders s.row s.leaders × (s.state ≡ answered s.row s.leaders) × (s.state ≢ Broken) in
      subst P (sym v.2) (record { over = record { of_grammar = row_of_grammar g r.0 r.1; admitted = h1.0; lead = lead }; written = h2.0 }, refl, has_unbroken infos known answered r.0 v.0 f.1)

  -- ---- their order
  of_one_row : (row : RowId) → Ascend SlotBefore (slots_of_row infos own_now known answered row)
  of_one_row row =
      let asked = kept Precedes (has_slot infos known answered row) (tuples_over (arity_of row) own_now) (tuples own_now (ascend_from_pairs (λ (v w : VarId). v.0 < w.0) own_now up) (arity_of row)) in
      let vs = filter (has_slot infos known answered row) (tuples_over (arity_of row) own_now) in
      along SlotBefore (given row) vs (weaker Precedes (λ v w. SlotBefore (given row v) (given row w)) (λ v w p. inr (refl, p)) vs asked)

  all_rows : Ascend SlotBefore all_given
  all_rows =
      let rows = along (λ (r s : RowId). r.0 < s.0) (λ n. record { 0 = n }) (range_with_len 1 (rows_in g)) (numbers 1 (rows_in g)) in
      joined SlotBefore (λ (r s : RowId). r.0 < s.0) (slots_of_row infos own_now known answered) of_one_row
      (λ r s x y lt i j.
      let p = of_map {X = List VarId} {Y = Slot} (given r) x (filter (has_slot infos known answered r) (tuples_over (arity_of r) own_now)) i in
      let q = of_map {X = List VarId} {Y = Slot} (given s) y (filter (has_slot infos known answered s) (tuples_over (arity_of s) own_now)) j in
      subst (λ t. SlotBefore t y) (sym p.2) (subst (SlotBefore (given r p.0)) (sym q.2) (inl lt)))
      (rows_of g) rows

  pub slots_ascend : AllPairs SlotBefore (slots_of g infos own_now known answered)
  unfolding slots_of
  slots_ascend = pairs SlotBefore all_given all_rows

module _ (g : Grammar) (infos : List VarInfo) (samples : List (List Value)) (some : 0 < length samples) (leaders : List VarId) (up : LeadersAscend (own_leaders leaders)) (known : Entries)
    (answered : RowId → List VarId → State) (tells : (row : RowId) → IsRowOf g row → (vars : List VarId) → IsTrue (admits row infos vars) → answered row vars ≡ fit row vars samples) where
  abbrev own : List VarId
  own = own_leaders leaders

  abbrev made : RowId → List VarId → Slot
  made row vars = record { row = row; leaders = vars; state = answered row vars }

  abbrev all : List Slot
  all = flat_map (slots_of_row infos own known answered) (rows_of g)

  suppressed_same : (row : RowId) (vars : List VarId) → admits row infos vars ≡ true → All (Contains own) vars → is_suppressed answered row vars ≡ is_suppressed (fit_of samples) row vars
  suppressed_same row vars a lead = suppressed_alike g infos (Contains own) answered (fit_of samples) row (λ r of below vs b c. tells r of vs b) vars a lead

  abbrev slot_with : RowId → List VarId → State → Slot
  slot_with row vars s = record { row = row; leaders = vars; state = s }

  -- ---- members
  not_true : (b : Bool) → not b ≡ true → b ≡ false
  not_true true h = absurd (false≢true h)
  not_true false h = refl

  not_false : (b : Bool) → b ≡ false → not b ≡ true
  not_false true h = absurd (false≢true (sym h))
  not_false false h = refl

  -- leaders that have a slot by these answers have this slot
  pub has_is_slot : (row : RowId) (vars : List VarId) → IsRowOf g row → All (Contains own) vars → has_slot infos known answered row vars ≡ true → IsSlot g infos samples leaders known (made row vars)
  has_is_slot row vars of lead h =
      let h1 = and_parts (admits row infos vars) _ h in
      let h2 = and_parts (is_written row vars) _ h1.1 in
      let h3 = and_parts (not (all_known known vars)) _ h2.1 in
      let h4 = and_parts (not (is_broken (answered row vars))) (not (is_suppressed answered row vars)) h3.1 in
      record {
        some = some;
        over = record { of_grammar = of; admitted = h1.0; lead = lead };
        written = h2.0;
        varies = not_true (all_known known vars) h3.0;
        state = tells row of vars h1.0;
        unbroken = not_broken (answered row vars) (not_true (is_broken (answered row vars)) h4.0);
        unsuppressed = sym (suppressed_same row vars h1.0 lead) ∙ not_true (is_suppressed answered row vars) h4.1;
      }

  made_is_slot : (row : RowId) (vars : List VarId) → IsRowOf g row → IsIn vars (tuples_over (arity_of row) own) → has_slot infos known answered row vars ≡ true → IsSlot g infos samples leaders known (made row vars)
  made_is_slot row vars of i h = has_is_slot row vars of (All-weaker (λ v. IsIn v own) (Contains own) (λ v j. contained v own j) vars (of_tuples own (arity_of row) vars i).0) h

  slot_of_member : (slot : Slot) → IsIn slot all → IsSlot g infos samples leaders known slot
  slot_of_member slot h =
      let r = of_flat (slots_of_row infos own known answered) slot (rows_of g) h in
      let v = of_map {X = List VarId} {Y = Slot} (made r.0) slot (filter (has_slot infos known answered r.0) (tuples_over (arity_of r.0) own)) r.2 in
      let f = of_filter (has_slot infos known answered r.0) v.0 (tuples_over (arity_of r.0) own) v.1 in
      subst (IsSlot g infos samples leaders known) (sym v.2) (made_is_slot r.0 v.0 (row_of_grammar g r.0 r.1) f.0 f.1)

  broken_not : (s : State) → (s ≢ Broken) → is_broken s ≡ false
  broken_not s n = elim (cases_Bool (is_broken s)) [ inl e ↦ absurd (n (broken_is s e)) | inr e ↦ e ]

  -- a slot's state is what is answered, and its leaders have a slot
  pub slot_answered : (slot : Slot) → IsSlot g infos samples leaders known slot → slot.state ≡ answered slot.row slot.leaders
  slot_answered slot is = is.state ∙ sym (tells slot.row is.over.of_grammar slot.leaders is.over.admitted)

  pub slot_has : (slot : Slot) → IsSlot g infos samples leaders known slot → has_slot infos known answered slot.row slot.leaders ≡ true
  slot_has slot is =
      let row = slot.row in
      let vars = slot.leaders in
      let same = slot_answered slot is in
      let unbroken = not_false (is_broken (answered row vars)) (broken_not (answered row vars) (λ e. is.unbroken (same ∙ e))) in
      let unsuppressed = not_false (is_suppressed answered row vars) (suppressed_same row vars is.over.admitted is.over.lead ∙ is.unsuppressed) in
      and_from (admits row infos vars) _ is.over.admitted (and_from (is_written row vars) _ is.written (and_from (not (all_known known vars)) _ (not_false (all_known known vars) is.varies)
      (and_from (not (is_broken (answered row vars))) (not (is_suppressed answered row vars)) unbroken unsuppressed)))

  member_of_slot : (slot : Slot) → IsSlot g infos samples leaders known slot → IsIn slot all
  member_of_slot slot is =
      let row = slot.row in
      let vars = slot.leaders in
      let lead : All (λ v. IsIn v own) vars = All-weaker (Contains own) (λ v. IsIn v own) (λ v c. is_in v own c.0 c.1 c.2) vars is.over.lead in
      let tuple = in_tuples own (arity_of row) vars (admitted_arity row infos vars is.over.admitted) lead in
      let kept_one = in_filter (has_slot infos known answered row) vars (tuples_over (arity_of row) own) tuple (slot_has slot is) in
      let one = in_map {X = List VarId} {Y = Slot} (made row) vars (filter (has_slot infos known answered row) (tuples_over (arity_of row) own)) kept_one in
      in_flat (slots_of_row infos own known answered) slot row (rows_of g) (subst (λ s. IsIn s (slots_of_row infos own known answered row)) (sym (ap (λ s. slot_with row vars s) (slot_answered slot is))) one) (row_in g row is.over.of_grammar)

  pub slots_exact : AreSlots g infos samples leaders known (slots_of g infos own known answered)
  unfolding slots_of
  slots_exact = record {
    ascend = slots_ascend g infos leaders up known answered;
    each = λ slot. (λ c. slot_of_member slot (is_in slot all c.0 c.1 c.2), λ is. contained slot all (member_of_slot slot is));
  }

pub slots_of_fits_exact : SlotsOfFitsAreExact
slots_of_fits_exact g infos samples some leaders up known = slots_exact g infos samples some leaders up known (fit_of samples) (λ row of vars a. refl)
