-- Leaders that have no slot, since by what one engine keeps the first may stand beside neither of the others.
use Rattle.std.specs.Prelude.{◌≡◌, ◌<◌, ◌&&◌, ◌||◌, Bool, true, false, not, IfSome, IsTrue, All, List, None, Option, Some, [], ◌∷◌, ◌++◌, cond, filter, flat_map, if◌then◌else◌, is_some, map, refl}
use Rattle.std.proofs.lemmas.List.Elements.{All-head, All-tail}
use Rattle.std.specs.Borrow.{Bor}
use Rattle.std.specs.List.{list_any}
use Rattle.std.proofs.Common.{◌∙◌, ap, arith, inl, inr, sym}
use Rattle.std.proofs.lemmas.Bool.{and_cases, cases_Bool, false_from_ne_true, not-false, or_cases, or_parts, true≢false}
use Rattle.dk_base.specs.declared.kinds.VarId.{VarId}
use Rattle.dk_base.specs.declared.kinds.VarInfo.{VarInfo}
use Rattle.dk_constants.specs.Known.{Entries, known_at}
use Rattle.dk_engine.proofs.LevelFacts.{read_some}
use Rattle.dk_engine.specs.Feeding.{has_slot, is_broken}
use Rattle.dk_engine.specs.Reading.Levels.{Whole}
use Rattle.dk_engine.specs.Reading.Parts.{all_known, leader_of}
use Rattle.dk_engine.specs.Reading.{state_read}
use Rattle.dk_engine.specs.Sweeps.{considered}
use Rattle.dk_engine.specs.declared.kept.Kept.{Kept}
use Rattle.dk_engine.specs.declared.slots.slot.Slot.{Slot}
use Rattle.dk_forms.specs.Code.{code_known, code_state}
use Rattle.dk_forms.specs.Greatest.{greatest_known, greatest_state}
use Rattle.dk_forms.specs.Ints.{ints_known, ints_state}
use Rattle.dk_forms.specs.Known.{Known, both, broken, fact, nothing}
use Rattle.dk_forms.specs.Least.{least_known, least_state}
use Rattle.dk_forms.specs.Plane.Line.{line_known, line_state}
use Rattle.dk_forms.specs.Modulus.{modulus_known, modulus_state}
use Rattle.dk_forms.specs.Offset.{offset_known, offset_state}
use Rattle.dk_forms.specs.Plain.{plain_known, plain_state}
use Rattle.dk_forms.specs.Plane.{plane_known, plane_state}
use Rattle.dk_forms.specs.Texts.{texts_known, texts_state}
use Rattle.dk_forms.specs.Truth.{truth_known, truth_state}
use Rattle.dk_forms.specs.declared.states.State.{State}
use Rattle.dk_forms.specs.declared.states.State.TheVariants.{Broken}
use Rattle.dk_presence.specs.Patterns.{has}
use Rattle.dk_suppress.specs.Rules.{is_suppressed}
use Rattle.dk_template.proofs.Absorbing.{broken_absorbs}
use Rattle.dk_template.specs.Admitted.{admits, is_written}
use Rattle.dk_template.specs.Joins.{joined}
use Rattle.dk_template.specs.Templates.{IsRow, arity_of, form_of}
use Rattle.dk_template.specs.declared.grammar.RowId.{RowId}
use Rattle.dk_template.specs.declared.templates.StateForm.{StateForm}
use Rattle.dk_template.specs.declared.templates.StateForm.TheVariants as form
use Rattle.dk_join.proofs.Apart.{three_broken}
use Rattle.dk_join.proofs.Breaking.{broken_by_numbers}
use Rattle.dk_join.proofs.Lists.{any_lent, filter_lent}
use Rattle.dk_join.specs.Beside.{AreAround, HaveSamples, IsCompanion, LeavesNoneOut, has_room, is_alone, is_beside, is_free, is_near, may_stand, slots_around, slots_at_hand, stands_beside}
use Rattle.dk_join.specs.Joining.{Pair, answer_of, read_joined}
use Rattle.dk_join.specs.Numbers.{are_broken, break_operation, number_of, numbers_of}
use Rattle.dk_join.specs.declared.beside.Around.{Around}
use Rattle.dk_join.specs.declared.beside.Companion.{Companion}
use Rattle.dk_join.specs.declared.numbers.Numbered.{Numbered}
use Rattle.dk_ternary.specs.Rows.{operation_row}
use Rattle.dk_ternary.specs.declared.operation.Operation.{Operation}

-- ---- what is Broken in one engine is Broken in both
right_by : {F : Type 0} (state : Known F → State) (meet : F → F → Known F) (k : Known F) → state broken ≡ Broken → state (both meet k broken) ≡ Broken
right_by state meet nothing h = h
right_by state meet broken h = h
right_by state meet (fact x) h = h

right_absorbs : (form : StateForm) (s : State) → joined form s Broken ≡ Broken
right_absorbs form.Plain s = right_by plain_state _ (plain_known s) refl
right_absorbs form.Least s = right_by least_state _ (least_known s) refl
right_absorbs form.Greatest s = right_by greatest_state _ (greatest_known s) refl
right_absorbs form.Ints s = right_by ints_state _ (ints_known s) refl
right_absorbs form.Truth s = right_by truth_state _ (truth_known s) refl
right_absorbs form.Code s = right_by code_state _ (code_known s) refl
right_absorbs form.Texts s = right_by texts_state _ (texts_known s) refl
right_absorbs form.Modulus s = right_by modulus_state _ (modulus_known s) refl
right_absorbs form.Line s = right_by line_state _ (line_known s) refl
right_absorbs form.Plane s = right_by plane_state _ (plane_known s) refl
right_absorbs form.Offset s = right_by offset_state _ (offset_known s) refl

-- ---- one engine
broken_beside : (kept : Kept) (row : RowId) → arity_of row ≡ 3 → 0 < kept.samples → (v w x : VarId) → (stands_beside kept row v w || stands_beside kept row v x) ≡ false
    → state_read kept row (v ∷ w ∷ x ∷ []) ≡ Broken
broken_beside kept row three some v w x none =
    let a = leader_of kept.leaders v in
    let over : VarId → Bool = λ z. list_any (λ (slot : Slot). has slot.leaders (leader_of kept.leaders z)) (slots_around row kept.slots a) in
    let parts = or_parts (stands_beside kept row v w) (stands_beside kept row v x) none in
    let first = or_parts (is_free kept row a) (over w) parts.0 in
    let second = or_parts (is_free kept row a) (over x) parts.1 in
    let bound = or_parts (is_some (known_at kept.known a)) (list_any is_alone (slots_around row kept.slots a)) first.0 in
    sym (read_some kept row (v ∷ w ∷ x ∷ []) (λ e. omega (arith, some, e)))
    ∙ three_broken kept row a bound.0 bound.1 three (leader_of kept.leaders w) (leader_of kept.leaders x) first.1 second.1

-- ---- both
-- leaders that are Broken have no slot
fourth_false : (a b c d e : Bool) → d ≡ false → (a && (b && (c && (d && e)))) ≡ false
fourth_false true true true d e f = ap (λ x. x && e) f
fourth_false true true false d e f = refl
fourth_false true false c d e f = refl
fourth_false false b c d e f = refl

broken_out : (infos : List VarInfo) (known : Entries) (answered : RowId → List VarId → State) (row : RowId) (vars : List VarId) → answered row vars ≡ Broken → considered infos known answered row vars ≡ []
broken_out infos known answered row vars gone =
    let out : has_slot infos known answered row vars ≡ false =
    fourth_false (admits row infos vars) (is_written row vars) (not (all_known known vars)) (not (is_broken (answered row vars))) (not (is_suppressed answered row vars)) (ap (λ s. not (is_broken s)) gone) in
    ap (λ b. map (λ (vs : List VarId). (let s : Slot = record { row = row; leaders = vs; state = answered row vs } in s)) (cond b (vars ∷ []) [])) out

-- leaders that aren't in written order have none either
second_false : (a b c : Bool) → b ≡ false → (a && (b && c)) ≡ false
second_false true b c e = ap (λ x. x && c) e
second_false false b c e = refl

unwritten_out : (infos : List VarInfo) (known : Entries) (answered : RowId → List VarId → State) (row : RowId) (vars : List VarId) → is_written row vars ≡ false
    → considered infos known answered row vars ≡ []
unwritten_out infos known answered row vars e =
    let out : has_slot infos known answered row vars ≡ false =
    second_false (admits row infos vars) (is_written row vars) (not (all_known known vars) && (not (is_broken (answered row vars)) && not (is_suppressed answered row vars))) e in
    ap (λ b. map (λ (vs : List VarId). (let s : Slot = record { row = row; leaders = vs; state = answered row vs } in s)) (cond b (vars ∷ []) [])) out

-- what isn't told isn't so
untold : (so told : Bool) → (IsTrue so → IsTrue told) → told ≡ false → so ≡ false
untold so told implies e = false_from_ne_true so (λ h. true≢false (sym (implies h) ∙ e))

joint_broken : (pair : Pair) (row : RowId) → arity_of row ≡ 3 → HaveSamples pair → (v : VarId) (w x : Companion) → IsCompanion pair row v w → IsCompanion pair row v x → may_stand w x ≡ false
    → answer_of pair row (v ∷ w.leader ∷ x.leader ∷ []) ≡ Broken
unfolding read_joined
joint_broken pair row three some v w x c d none =
    let vars = v ∷ w.leader ∷ x.leader ∷ [] in
    let one = state_read pair.first.kept row vars in
    let other = state_read pair.second.kept row vars in
    let S : Kept → VarId → Bool = λ kept z. stands_beside kept row v z in
    elim (and_cases (w.by_first || x.by_first) (w.by_second || x.by_second) none) as (λ _. joined (form_of row) one other ≡ Broken) [
      | inl first ↦
          (let parts = or_parts w.by_first x.by_first first in
          let left = untold (S pair.first.kept w.leader) w.by_first c.by_first parts.0 in
          let right = untold (S pair.first.kept x.leader) x.by_first d.by_first parts.1 in
          ap (λ s. joined (form_of row) s other) (broken_beside pair.first.kept row three some.first v w.leader x.leader (λ i. left i || right i)) ∙ broken_absorbs (form_of row) other)
      | inr second ↦
          (let parts = or_parts w.by_second x.by_second second in
          let left = untold (S pair.second.kept w.leader) w.by_second c.by_second parts.0 in
          let right = untold (S pair.second.kept x.leader) x.by_second d.by_second parts.1 in
          ap (λ s. joined (form_of row) one s) (broken_beside pair.second.kept row three some.second v w.leader x.leader (λ i. left i || right i)) ∙ right_absorbs (form_of row) one)
    ]

module _ (pair : Pair) (row : RowId) (is : IsRow row) (three : arity_of row ≡ 3) (some : HaveSamples pair) (v : Numbered) (at : v.numbers ≡ numbers_of pair v.var)
    (w x : Companion) (c : IsCompanion pair row v.var w) (d : IsCompanion pair row v.var x) where
  abbrev vars : List VarId
  vars = v.var ∷ w.leader ∷ x.leader ∷ []

  operation_broken : (operation : Operation) → operation_row operation ≡ row → are_broken (Some operation) v.numbers w.numbers x.numbers ≡ true → answer_of pair row vars ≡ Broken
  unfolding read_joined
  operation_broken operation of h =
      let one = state_read pair.first.kept row vars in
      let other = state_read pair.second.kept row vars in
      let first = c.numbers in
      let second = d.numbers in
      let told : are_broken (Some operation) (numbers_of pair v.var) (numbers_of pair w.leader) (numbers_of pair x.leader) ≡ true =
      (λ i. are_broken (Some operation) (sym at i) (sym first i) (sym second i)) ∙ h in
      elim (or_cases (break_operation operation (number_of pair.first.kept v.var) (number_of pair.first.kept w.leader) (number_of pair.first.kept x.leader))
      (break_operation operation (number_of pair.second.kept v.var) (number_of pair.second.kept w.leader) (number_of pair.second.kept x.leader)) told) as (λ _. joined (form_of row) one other ≡ Broken) [
        | inl one_breaks ↦
            ap (λ s. joined (form_of row) s other) (broken_by_numbers pair.first.kept row is three some.first v.var w.leader x.leader operation of one_breaks) ∙ broken_absorbs (form_of row) other
        | inr other_breaks ↦
            ap (λ s. joined (form_of row) one s) (broken_by_numbers pair.second.kept row is three some.second v.var w.leader x.leader operation of other_breaks) ∙ right_absorbs (form_of row) one
      ]

  numbers_broken : (operation : Option Operation) → IfSome operation (λ o. operation_row o ≡ row) → are_broken operation v.numbers w.numbers x.numbers ≡ true → answer_of pair row vars ≡ Broken
  numbers_broken None of h = absurd (true≢false (sym h))
  numbers_broken (Some operation) of h = operation_broken operation of h

  pub none_considered : (infos : List VarInfo) (known : Entries) (operation : Option Operation) → IfSome operation (λ o. operation_row o ≡ row) → has_room row operation v w x ≡ false
      → considered infos known (answer_of pair) row vars ≡ []
  none_considered infos known operation of none =
      let slots = considered infos known (answer_of pair) row vars in
      elim (and_cases (may_stand w x) (is_written row vars && not (are_broken operation v.numbers w.numbers x.numbers)) none) as (λ _. slots ≡ []) [
        | inl apart ↦ broken_out infos known (answer_of pair) row vars (joint_broken pair row three some v.var w x c d apart)
        | inr rest ↦ elim (and_cases (is_written row vars) (not (are_broken operation v.numbers w.numbers x.numbers)) rest) as (λ _. slots ≡ []) [
          | inl unwritten ↦ unwritten_out infos known (answer_of pair) row vars unwritten
          | inr break ↦ broken_out infos known (answer_of pair) row vars (numbers_broken operation of (not-false (are_broken operation v.numbers w.numbers x.numbers) break))
        ]
      ]

-- ---- companions that are near
far : (a b p q : Bool) → (p || q) ≡ false → (a && b) ≡ false → ((a || p) && (b || q)) ≡ false
far true true p q h e = absurd (true≢false e)
far true false p q h e = (or_parts p q h).1
far false b p q h e = ap (λ k. k && (b || q)) (or_parts p q h).0

module _ (pair : Pair) (row : RowId) (three : arity_of row ≡ 3) (some : HaveSamples pair) (v : VarId) (w : Companion) (c : IsCompanion pair row v w) (apart : (w.by_first && w.by_second) ≡ false)
    (infos : List VarInfo) (known : Entries) where
  abbrev Of : VarId → List Slot
  Of z = considered infos known (answer_of pair) row (v ∷ w.leader ∷ z ∷ [])

  abbrev leaders : List Companion → List VarId
  leaders xs = map (λ x. x.leader) xs

  -- those that aren't give no slot
  pub near_are_all : (xs : List Companion) → All (IsCompanion pair row v) xs → flat_map Of (leaders (filter is_near xs)) ≡ flat_map Of (leaders xs)
  near_are_all [] all = refl
  near_are_all (x ∷ xs) all =
      let d = All-head (IsCompanion pair row v) x xs all in
      let rest = near_are_all xs (All-tail (IsCompanion pair row v) x xs all) in
      let with : Bool → List Slot = λ b. flat_map Of (leaders (if b then x ∷ filter is_near xs else filter is_near xs)) in
      elim (cases_Bool (is_near x)) as (λ _. flat_map Of (leaders (filter is_near (x ∷ xs))) ≡ flat_map Of (leaders (x ∷ xs))) [
        | inl near ↦ ap with near ∙ ap (λ ss. Of x.leader ++ ss) rest
        | inr away ↦
            (let out : Of x.leader ≡ [] =
            broken_out infos known (answer_of pair) row (v ∷ w.leader ∷ x.leader ∷ []) (joint_broken pair row three some v w x c d (far w.by_first w.by_second x.by_first x.by_second away apart)) in
            ap with away ∙ (rest ∙ ap (λ ss. ss ++ flat_map Of (leaders xs)) (sym out)))
      ]

-- ---- as the code tells it
module _ (engine : Whole) (row : RowId) (v : VarId) (hand : List (Bor Slot)) (hand_is : map (λ slot. slot.now) hand ≡ slots_at_hand row engine.kept.slots) (around : Around) (is : AreAround engine hand v around) where
  abbrev a : VarId
  a = leader_of engine.kept.leaders v

  slots_are : map (λ slot. slot.now) around.slots.items ≡ slots_around row engine.kept.slots a
  slots_are = ap (map (λ (slot : Bor Slot). slot.now)) is.slots ∙ (filter_lent (λ (slot : Slot). has slot.leaders a) hand ∙ ap (filter (λ (slot : Slot). has slot.leaders a)) hand_is)

  any_are : (test : Slot → Bool) → list_any (λ slot. test slot.now) around.slots.items ≡ list_any test (slots_around row engine.kept.slots a)
  any_are test = any_lent test around.slots.items ∙ ap (list_any test) slots_are

  told_beside : (w : VarId) → is_beside around w ≡ stands_beside engine.kept row v w
  told_beside w =
      ap (λ b. b || list_any (λ (slot : Bor Slot). has slot.now.leaders (leader_of around.engine.now.kept.leaders w)) around.slots.items)
      (is.free ∙ ap (λ b. is_some (known_at engine.kept.known a) || b) (any_are is_alone))
      ∙ (ap (λ (e : Whole). is_free engine.kept row a || list_any (λ (slot : Bor Slot). has slot.now.leaders (leader_of e.kept.leaders w)) around.slots.items) is.engine_is
      ∙ ap (λ b. is_free engine.kept row a || b) (any_are (λ (slot : Slot). has slot.leaders (leader_of engine.kept.leaders w))))

-- by all slots at hand none is left out
pub none_left_out : (engine : Whole) (hand : List (Bor Slot)) (v : VarId) (around : Around) → AreAround engine hand v around → LeavesNoneOut engine.kept hand v around
none_left_out engine hand v around is row hand_is w stands = told_beside engine row v hand hand_is around is w ∙ stands

-- the leaders of companions
pub leaders_of_all : (f : VarId → Companion) → ((v : VarId) → (f v).leader ≡ v) → (vars : List VarId) → map (λ w. w.leader) (map f vars) ≡ vars
leaders_of_all f same [] = refl
leaders_of_all f same (v ∷ vars) = ap (λ w. w ∷ map (λ (u : Companion). u.leader) (map f vars)) (same v) ∙ ap (λ rest. v ∷ rest) (leaders_of_all f same vars)
