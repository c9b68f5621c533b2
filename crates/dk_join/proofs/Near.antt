-- A slot that stands at a place, and what it says of three leaders.
use Rattle.std.specs.Prelude.{◌≡◌, ◌<◌, ◌-◌, ◌==◌, ◌&&◌, ℕ, zero, suc, true, false, List, [], ◌∷◌, Some, if◌then◌else◌, length, nat_le, nat_lt, refl}
use Rattle.std.specs.List.{AllPairs}
use Rattle.std.proofs.Common.{◌∙◌, ap, arith, get_or, inl, inr, subst, sym}
use Rattle.std.proofs.lemmas.Bool.{and_parts, eqb-true, false_from_ne_true, leb-true, ltb-true}
use Rattle.dk_base.specs.declared.kinds.VarId.{VarId}
use Rattle.dk_engine.proofs.LevelFacts.{level_is, read_some}
use Rattle.dk_engine.specs.Exact.{SlotBefore}
use Rattle.dk_engine.specs.Reading.{read_leaders, read_slot, read_written, state_of_one, state_read}
use Rattle.dk_engine.specs.Reading.Parts.{all_known, is_slot_of, known_tuple, leaders_of, slot_at}
use Rattle.dk_engine.specs.declared.kept.Kept.{Kept}
use Rattle.dk_engine.specs.declared.slots.slot.Slot.{Slot}
use Rattle.dk_forms.specs.declared.states.State.{State}
use Rattle.dk_instances.specs.Instances.{Precedes}
use Rattle.dk_presence.proofs.Sameness.{same_vars-true}
use Rattle.dk_presence.specs.Patterns.{counted_by, same_vars}
use Rattle.dk_suppress.specs.Rules.{is_suppressed}
use Rattle.dk_template.specs.Admitted.{ascend, exchangeable, is_written}
use Rattle.dk_template.specs.Exchange.{arrange_tuple, disarrange_state, exchanged_back, exchanged_state, order_tuple, turned_state}
use Rattle.dk_template.specs.Templates.{template_of}
use Rattle.dk_template.specs.declared.exchange.Exchange.TheVariants.{First, Last}
use Rattle.dk_template.specs.declared.grammar.RowId.{RowId}
use Rattle.dk_template.specs.declared.templates.Symmetry.{Symmetry}
use Rattle.dk_template.specs.declared.templates.Symmetry.TheVariants as symmetry

-- ---- its place
pub not_itself : (vs : List VarId) → Precedes vs vs → ⊥
not_itself [] h = h
not_itself (v ∷ vs) h = elim h as (λ _. ⊥) [ inl l ↦ omega (arith, l) | inr r ↦ not_itself vs r.1 ]

module _ (row : RowId) (vars : List VarId) where
  -- of two slots of a row over the same leaders none comes before the other
  not_twice : (a b : Slot) → is_slot_of row vars a ≡ true → is_slot_of row vars b ≡ true → SlotBefore a b → ⊥
  not_twice a b here there before =
      let one = and_parts (a.row.0 == row.0) (same_vars a.leaders vars) here in
      let other = and_parts (b.row.0 == row.0) (same_vars b.leaders vars) there in
      let first = eqb-true a.row.0 row.0 one.0 in
      let second = eqb-true b.row.0 row.0 other.0 in
      elim before as (λ _. ⊥) [
        | inl l ↦ omega (arith, l, first, second)
        | inr r ↦ not_itself vars (subst (λ vs. Precedes vs vars) (same_vars-true a.leaders vars one.1) (subst (Precedes a.leaders) (same_vars-true b.leaders vars other.1) r.1))
      ]

  pub slot_at_place : (slots : List Slot) (k : ℕ) (d : Slot) → AllPairs SlotBefore slots → k < length slots → is_slot_of row vars (get_or slots k d) ≡ true
      → slot_at slots row vars ≡ Some (get_or slots k d).state
  slot_at_place [] k d up l is = absurd (omega (arith, l))
  slot_at_place (a ∷ slots) zero d up l is = ap (λ b. if b then Some a.state else slot_at slots row vars) is
  slot_at_place (a ∷ slots) (suc k) d up l is =
      let other : is_slot_of row vars a ≡ false = false_from_ne_true (is_slot_of row vars a) (λ h. not_twice a (get_or slots k d) h is (up 0 (suc k) d (omega arith) l)) in
      ap (λ b. if b then Some a.state else slot_at slots row vars) other
      ∙ slot_at_place slots k d (λ i j e lt m. up (suc i) (suc j) e (omega (arith, lt)) (omega (arith, m))) (omega (arith, l)) is

-- ---- three leaders in written order
not_above : (m n : ℕ) → nat_le m n ≡ true → nat_lt n m ≡ false
not_above m n e = false_from_ne_true (nat_lt n m) (λ h. let above = ltb-true n m h in let below = leb-true m n e in omega (arith, above, below))

module _ (a b c : VarId) where
  abbrev three : List VarId
  three = a ∷ b ∷ c ∷ []

  last_ordered : nat_lt c.0 b.0 ≡ false → order_tuple Last three ≡ three
  last_ordered e = ap (λ d. if d then a ∷ c ∷ b ∷ [] else three) e

  first_ordered : nat_lt b.0 a.0 ≡ false → order_tuple First three ≡ three
  first_ordered e = ap (λ d. if d then b ∷ a ∷ c ∷ [] else three) e

  last_back : nat_lt c.0 b.0 ≡ false → (s : State) → exchanged_back Last three s ≡ s
  last_back e s = ap (λ d. if d then exchanged_state Last s else s) e

  first_back : nat_lt b.0 a.0 ≡ false → (s : State) → exchanged_back First three s ≡ s
  first_back e s = ap (λ d. if d then exchanged_state First s else s) e

  -- they stay as they are, and so does a state
  pub arranged : (y : Symmetry) → ascend (exchangeable y three) ≡ true → arrange_tuple y three ≡ three
  arranged symmetry.Fixed h = refl
  arranged symmetry.All h =
      let parts = and_parts (nat_le a.0 b.0) (nat_le b.0 c.0 && true) h in
      let last = last_ordered (not_above b.0 c.0 (and_parts (nat_le b.0 c.0) true parts.1).0) in
      let first = first_ordered (not_above a.0 b.0 parts.0) in
      ap (λ t. order_tuple Last (order_tuple First t)) last ∙ (ap (order_tuple Last) first ∙ last)
  arranged symmetry.Arguments h = last_ordered (not_above b.0 c.0 (and_parts (nat_le b.0 c.0) true h).0)

  pub disarranged : (y : Symmetry) → ascend (exchangeable y three) ≡ true → (s : State) → disarrange_state y three s ≡ s
  disarranged symmetry.Fixed h s = refl
  disarranged symmetry.All h s =
      let parts = and_parts (nat_le a.0 b.0) (nat_le b.0 c.0 && true) h in
      let lt = not_above b.0 c.0 (and_parts (nat_le b.0 c.0) true parts.1).0 in
      let gt = not_above a.0 b.0 parts.0 in
      let last = last_ordered lt in
      let first = first_ordered gt in
      ap (λ t. exchanged_back Last three (exchanged_back First (order_tuple Last three) (exchanged_back Last t s))) (ap (order_tuple First) last ∙ first)
      ∙ (ap (λ t. exchanged_back Last three (exchanged_back First t (exchanged_back Last three s))) last
      ∙ (ap (λ t. exchanged_back Last three (exchanged_back First three t)) (last_back lt s) ∙ (ap (exchanged_back Last three) (first_back gt s) ∙ last_back lt s)))
  disarranged symmetry.Arguments h s = last_back (not_above b.0 c.0 (and_parts (nat_le b.0 c.0) true h).0) s

-- ---- what a slot says
pub slot_read : (kept : Kept) (row : RowId) → 0 < kept.samples → (v w x a b c : VarId) → leaders_of kept.leaders (v ∷ w ∷ x ∷ []) ≡ a ∷ b ∷ c ∷ []
    → all_known kept.known (a ∷ b ∷ c ∷ []) ≡ false → is_written row (a ∷ b ∷ c ∷ []) ≡ true → (s : State) → slot_at kept.slots row (a ∷ b ∷ c ∷ []) ≡ Some s
    → s ≡ state_read kept row (v ∷ w ∷ x ∷ [])
slot_read kept row some v w x a b c led varies written s found =
    let y = (template_of row).symmetry in
    let own = a ∷ b ∷ c ∷ [] in
    let lower = read_leaders (4 - 1) kept in
    let whole : read_written kept lower row own ≡ s =
    ap (λ k. if k then state_of_one row (known_tuple kept.known own) else read_slot (slot_at kept.slots row own) (is_suppressed lower row own) (counted_by kept.held own)) varies
    ∙ ap (λ o. read_slot o (is_suppressed lower row own) (counted_by kept.held own)) found in
    let level : read_leaders 4 kept row own ≡ s =
    sym (level_is 4 (omega arith) kept row own)
    ∙ (ap (λ t. turned_state row own (read_written kept lower row t)) (arranged a b c y written) ∙ (disarranged a b c y written (read_written kept lower row own) ∙ whole)) in
    sym level ∙ (ap (read_leaders 4 kept row) (sym led) ∙ read_some kept row (v ∷ w ∷ x ∷ []) (λ e. omega (arith, some, e)))
