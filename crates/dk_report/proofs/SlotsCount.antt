-- The kept slots are those of the samples.
use Rattle.std.specs.Prelude.{◌≡◌, ◌≢◌, ◌<◌, ◌&&◌, true, not, All, Contains, List, [], ◌∷◌, flat_map, is_some, length, map, refl}
use Rattle.std.specs.List.{AllPairs, list_all, range_with_len}
use Rattle.std.proofs.Common.{◌∙◌, ap, arith, get_or, inl, inr, subst, sym}
use Rattle.std.proofs.lemmas.Bool.{and_from, and_parts, cases_Bool, false≢true, not-true, true≢false}
use Rattle.std.proofs.lemmas.List.Elements.{All-head, All-tail}
use Rattle.dk_base.specs.declared.kinds.VarId.{VarId}
use Rattle.dk_base.specs.declared.kinds.VarInfo.{VarInfo}
use Rattle.dk_base.specs.declared.values.Value.{Value}
use Rattle.dk_classes.proofs.OwnLeaders.{own_ascend}
use Rattle.dk_classes.specs.Leaders.{own_leaders}
use Rattle.dk_constants.specs.Known.{Entries, known_at}
use Rattle.dk_engine.specs.Exact.{IsKeptOf, IsSlot, SlotBefore}
use Rattle.dk_engine.specs.Feeding.{is_broken}
use Rattle.dk_engine.specs.Reading.Parts.{all_known}
use Rattle.dk_engine.specs.declared.kept.Kept.{Kept}
use Rattle.dk_engine.specs.declared.slots.slot.Slot.{Slot}
use Rattle.dk_forms.specs.Laws.{IsIn}
use Rattle.dk_forms.specs.declared.states.State.{State}
use Rattle.dk_forms.specs.declared.states.State.TheVariants.{Broken}
use Rattle.dk_instances.proofs.Ascending.{Ascend, along, ascend_from_pairs, joined, kept as kept_ascend, numbers, pairs, tuples, weaker}
use Rattle.dk_instances.proofs.Listing.{in_tuples, of_tuples, row_in, row_of_grammar}
use Rattle.dk_instances.proofs.Members.{contained, in_filter, in_flat, in_map, is_in, of_filter, of_flat, of_map}
use Rattle.dk_instances.specs.Fits.{fit}
use Rattle.dk_instances.specs.Instances.{ComesBefore, Precedes, rows_of, tuples_over}
use Rattle.dk_samples.proofs.Members.{same_members}
use Rattle.dk_suppress.specs.Rules.{is_suppressed}
use Rattle.dk_template.proofs.WrittenTuples.{admitted_arity}
use Rattle.dk_template.specs.Admitted.{admits, is_written}
use Rattle.dk_template.specs.Templates.{IsRowOf, arity_of, rows_in}
use Rattle.dk_template.specs.declared.grammar.Grammar.{Grammar}
use Rattle.dk_template.specs.declared.grammar.RowId.{RowId}
use Rattle.dk_report.proofs.Constants.{known_is}
use Rattle.dk_report.proofs.Leaders.{Before}
use Rattle.dk_report.specs.Sizes.{is_constant_in, is_slot, slots_over}

abbrev pub Place : Type 0
Place = RowId × List VarId

abbrev pub place_of : Slot → Place
place_of slot = (slot.row, slot.leaders)

-- ---- what comes before doesn't come behind
precedes-one-way : (vars others : List VarId) → Precedes vars others → Precedes others vars → ⊥
precedes-one-way [] others h k = h
precedes-one-way (v ∷ vars) [] h k = h
precedes-one-way (v ∷ vars) (w ∷ others) (inl l) (inl m) = omega (arith, l, m)
precedes-one-way (v ∷ vars) (w ∷ others) (inl l) (inr m) = let e = m.0 in omega (arith, l, e)
precedes-one-way (v ∷ vars) (w ∷ others) (inr l) (inl m) = let e = l.0 in omega (arith, m, e)
precedes-one-way (v ∷ vars) (w ∷ others) (inr l) (inr m) = precedes-one-way vars others l.1 m.1

pub before-one-way : (a b : Place) → ComesBefore a b → ComesBefore b a → ⊥
before-one-way a b (inl l) (inl m) = omega (arith, l, m)
before-one-way a b (inl l) (inr m) = let e = ap (λ (r : RowId). r.0) m.0 in omega (arith, l, e)
before-one-way a b (inr l) (inl m) = let e = ap (λ (r : RowId). r.0) l.0 in omega (arith, m, e)
before-one-way a b (inr l) (inr m) = precedes-one-way a.1 b.1 l.1 m.1

-- ---- states
broken-is : (s : State) → is_broken s ≡ true → s ≡ Broken
broken-is Broken h = refl
broken-is _ h = absurd (false≢true h)

unbroken-is : (s : State) → s ≢ Broken → not (is_broken s) ≡ true
unbroken-is s h = elim (cases_Bool (is_broken s)) as (λ _. not (is_broken s) ≡ true) [
  | inl broken ↦ absurd (h (broken-is s broken))
  | inr whole ↦ ap not whole
]

-- ---- constants
all-same : (known : Entries) (samples : List (List Value)) (leaders : List VarId) → ((v : VarId) → Contains leaders v → is_some (known_at known v) ≡ is_constant_in samples v)
    → (vars : List VarId) → All (Contains leaders) vars → all_known known vars ≡ list_all (is_constant_in samples) vars
all-same known samples leaders same [] all = refl
all-same known samples leaders same (v ∷ vars) all =
    ap (λ b. b && all_known known vars) (same v (All-head (Contains leaders) v vars all))
    ∙ ap (λ b. is_constant_in samples v && b) (all-same known samples leaders same vars (All-tail (Contains leaders) v vars all))

-- ---- the list of the places ascends
module _ (infos : List VarInfo) (samples : List (List Value)) (leaders : List VarId) where
  abbrev pub of_row : RowId → List Place
  of_row row = map (λ vars. (row, vars)) (slots_over infos samples leaders row)

  of-one-row : AllPairs Before leaders → (row : RowId) → Ascend ComesBefore (of_row row)
  of-one-row up row =
      let some = kept_ascend Precedes (is_slot infos samples row) (tuples_over (arity_of row) leaders) (tuples leaders (ascend_from_pairs Before leaders up) (arity_of row)) in
      along ComesBefore (λ w. (row, w)) (slots_over infos samples leaders row)
      (weaker Precedes (λ v w. ComesBefore (row, v) (row, w)) (λ v w p. inr (refl, p)) (slots_over infos samples leaders row) some)

  pub places-ascend : AllPairs Before leaders → (grammar : Grammar) → AllPairs ComesBefore (flat_map of_row (rows_of grammar))
  places-ascend up grammar =
      let rows = along (λ (r s : RowId). r.0 < s.0) (λ n. record { 0 = n }) (range_with_len 1 (rows_in grammar)) (numbers 1 (rows_in grammar)) in
      pairs ComesBefore (flat_map of_row (rows_of grammar))
      (joined ComesBefore (λ (r s : RowId). r.0 < s.0) of_row (of-one-row up)
      (λ r s x y lt i j.
      let p = of_map {X = List VarId} {Y = Place} (λ w. (r, w)) x (slots_over infos samples leaders r) i in
      let q = of_map {X = List VarId} {Y = Place} (λ w. (s, w)) y (slots_over infos samples leaders s) j in
      subst (λ t. ComesBefore t y) (sym p.2) (subst (ComesBefore (r, p.0)) (sym q.2) (inl lt)))
      (rows_of grammar) rows)

module _ (g : Grammar) (infos : List VarInfo) (samples : List (List Value)) (kept : Kept) (is : IsKeptOf g infos samples kept) where
  abbrev pub own : List VarId
  own = own_leaders kept.leaders

  abbrev pub places : List Place
  places = flat_map (of_row infos samples own) (rows_of g)

  known-same : (vars : List VarId) → All (Contains own) vars → all_known kept.known vars ≡ list_all (is_constant_in samples) vars
  known-same vars lead = all-same kept.known samples own (known_is own (own_ascend kept.leaders) samples kept.known is.known) vars lead

  -- a slot of the samples is one by the test
  passes : (slot : Slot) → IsSlot g infos samples kept.leaders kept.known slot → is_slot infos samples slot.row slot.leaders ≡ true
  passes slot s =
      let admitted = admits slot.row infos slot.leaders in
      let written = is_written slot.row slot.leaders in
      let varies = not (list_all (is_constant_in samples) slot.leaders) in
      let whole = not (is_broken (fit slot.row slot.leaders samples)) in
      let free = not (is_suppressed (λ row vars. fit row vars samples) slot.row slot.leaders) in
      and_from (((admitted && written) && varies) && whole) free
      (and_from ((admitted && written) && varies) whole
      (and_from (admitted && written) varies (and_from admitted written s.over.admitted s.written)
      (ap not (sym (known-same slot.leaders s.over.lead) ∙ s.varies)))
      (unbroken-is (fit slot.row slot.leaders samples) (λ e. s.unbroken (s.state ∙ e))))
      (ap not s.unsuppressed)

  in-places : (slot : Slot) → IsSlot g infos samples kept.leaders kept.known slot → IsIn (place_of slot) places
  in-places slot s =
      let long = admitted_arity slot.row infos slot.leaders s.over.admitted in
      let lead : All (λ v. IsIn v own) slot.leaders = λ k d l. let c = s.over.lead k d l in is_in (get_or slot.leaders k d) own c.0 c.1 c.2 in
      let tuple = in_filter (is_slot infos samples slot.row) slot.leaders (tuples_over (arity_of slot.row) own) (in_tuples own (arity_of slot.row) slot.leaders long lead) (passes slot s) in
      in_flat (of_row infos samples own) (place_of slot) slot.row (rows_of g)
      (in_map {X = List VarId} {Y = Place} (λ w. (slot.row, w)) slot.leaders (slots_over infos samples own slot.row) tuple) (row_in g slot.row s.over.of_grammar)

  module _ (some : 0 < length samples) where
    is-one : (row : RowId) → IsRowOf g row → (vars : List VarId) → All (λ v. IsIn v own) vars → is_slot infos samples row vars ≡ true
        → IsSlot g infos samples kept.leaders kept.known (record { row = row; leaders = vars; state = fit row vars samples })
    is-one row of vars lead h =
        let admitted = admits row infos vars in
        let written = is_written row vars in
        let varies = not (list_all (is_constant_in samples) vars) in
        let whole = not (is_broken (fit row vars samples)) in
        let free = not (is_suppressed (λ row vars. fit row vars samples) row vars) in
        let a = and_parts (((admitted && written) && varies) && whole) free h in
        let b = and_parts ((admitted && written) && varies) whole a.0 in
        let c = and_parts (admitted && written) varies b.0 in
        let e = and_parts admitted written c.0 in
        let leads : All (Contains own) vars = λ k d l. contained (get_or vars k d) own (lead k d l) in
        record {
          some = some;
          over = record { of_grammar = of; admitted = e.0; lead = leads };
          written = e.1;
          varies = known-same vars leads ∙ not-true (list_all (is_constant_in samples) vars) c.1;
          state = refl;
          unbroken = λ eq. true≢false (sym b.1 ∙ ap (λ s. not (is_broken s)) eq);
          unsuppressed = not-true (is_suppressed (λ row vars. fit row vars samples) row vars) a.1;
        }

    from-places : (place : Place) → IsIn place places → IsIn place (map place_of kept.slots)
    from-places place i =
        let r = of_flat (of_row infos samples own) place (rows_of g) i in
        let v = of_map {X = List VarId} {Y = Place} (λ w. (r.0, w)) place (slots_over infos samples own r.0) r.2 in
        let f = of_filter (is_slot infos samples r.0) v.0 (tuples_over (arity_of r.0) own) v.1 in
        let t = of_tuples own (arity_of r.0) v.0 f.0 in
        let slot : Slot = record { row = r.0; leaders = v.0; state = fit r.0 v.0 samples } in
        let c = (is.slots.each slot).1 (is-one r.0 (row_of_grammar g r.0 r.1) v.0 t.0 f.1) in
        subst (λ p. IsIn p (map place_of kept.slots)) (sym v.2) (in_map {X = Slot} {Y = Place} place_of slot kept.slots (is_in slot kept.slots c.0 c.1 c.2))

    slots-ascend : AllPairs ComesBefore (map place_of kept.slots)
    slots-ascend = pairs ComesBefore (map place_of kept.slots) (along ComesBefore place_of kept.slots (ascend_from_pairs SlotBefore kept.slots is.slots.ascend))

    pub slots_are : map place_of kept.slots ≡ places
    slots_are =
        same_members ComesBefore before-one-way (map place_of kept.slots) places slots-ascend (places-ascend infos samples own (own_ascend kept.leaders) g)
        (λ p c.
        let m = of_map {X = Slot} {Y = Place} place_of p kept.slots (is_in p (map place_of kept.slots) c.0 c.1 c.2) in
        subst (Contains places) (sym m.2) (contained (place_of m.0) places (in-places m.0 ((is.slots.each m.0).0 (contained m.0 kept.slots m.1)))))
        (λ p c. contained p (map place_of kept.slots) (from-places p (is_in p places c.0 c.1 c.2)))

-- of no samples there is none
pub no_slots : (g : Grammar) (infos : List VarInfo) (kept : Kept) → IsKeptOf g infos [] kept → length kept.slots ≡ 0
no_slots g infos kept is = none kept.slots (λ slot c. let s = (is.slots.each slot).0 c in let some = s.some in omega (arith, some))
  where
    none : (slots : List Slot) → ((slot : Slot) → Contains slots slot → ⊥) → length slots ≡ 0
    none [] h = refl
    none (s ∷ slots) h = absurd (h s (0, omega arith, refl))
