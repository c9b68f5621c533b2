-- A row of three leaders is Broken where it has no slot and none of its rules follows.
use Rattle.std.specs.Prelude.{◌≡◌, ◌<◌, ◌≤◌, ◌+◌, ◌-◌, ◌==◌, ◌||◌, ◌&&◌, ℕ, zero, suc, All, false, true, List, [], ◌∷◌, None, if◌then◌else◌, length, nat_lt, refl, take}
use Rattle.std.specs.List.{AllPairs}
use Rattle.std.proofs.Common.{◌∙◌, ap, arith, get_or, inl, inr, subst, sym}
use Rattle.std.proofs.lemmas.Bool.{and_parts, cases_Bool, cases_lt, eqb-true, false_from_ne_true, ltb-true}
use Rattle.std.proofs.lemmas.List.{take_more}
use Rattle.std.proofs.lemmas.List.Elements.{All-append, All-cons, All-head, All-nil, All-tail}
use Rattle.dk_base.specs.declared.kinds.VarId.{VarId}
use Rattle.dk_base.specs.declared.kinds.VarInfo.{VarInfo}
use Rattle.dk_engine.proofs.LevelFacts.{level_is, read_some}
use Rattle.dk_engine.proofs.Readings.{row_is}
use Rattle.dk_engine.proofs.SlotPlaces.{earlier, place_missing, precedes_both, true_before, true_precedes}
use Rattle.dk_engine.specs.Exact.{SlotBefore}
use Rattle.dk_engine.specs.Reading.{read_leaders, read_slot, read_written, state_of_one, state_read}
use Rattle.dk_engine.specs.Reading.Parts.{all_known, is_slot_of, known_tuple, leader_of, leaders_of, slot_at}
use Rattle.dk_engine.specs.Sweeps.Ordering.{is_slot_before, precedes}
use Rattle.dk_engine.specs.declared.kept.Kept.{Kept}
use Rattle.dk_engine.specs.declared.slots.slot.Slot.{Slot}
use Rattle.dk_forms.specs.declared.states.State.TheVariants.{Broken}
use Rattle.dk_presence.proofs.Sameness.{same_vars-true}
use Rattle.dk_presence.specs.Patterns.{counted_by, same_vars}
use Rattle.dk_suppress.proofs.Asking.{suppressed_alike}
use Rattle.dk_suppress.specs.Rules.{is_suppressed}
use Rattle.dk_template.proofs.WrittenOrder.{written_tuples_are_admitted}
use Rattle.dk_template.proofs.WrittenTuples.{rank_below}
use Rattle.dk_template.specs.Admitted.{admits, is_written}
use Rattle.dk_template.specs.Exchange.{turned_state, written_order}
use Rattle.dk_template.specs.Templates.{IsRowOf, rank_of, template_of}
use Rattle.dk_template.specs.declared.grammar.Grammar.{Grammar}
use Rattle.dk_template.specs.declared.grammar.RowId.{RowId}
use Rattle.dk_join.proofs.Near.{arranged, disarranged, not_itself}
use Rattle.dk_join.specs.Noted.{is_behind}

-- ---- no slot
module _ (row : RowId) (vars : List VarId) where
  later : (c : Slot) → nat_lt row.0 c.row.0 ≡ false → is_behind row vars c ≡ true → ((row.0 == c.row.0) ≡ true) × (precedes vars c.leaders ≡ true)
  later c none behind = and_parts (row.0 == c.row.0) (precedes vars c.leaders) (sym (ap (λ b. b || (row.0 == c.row.0 && precedes vars c.leaders)) none) ∙ behind)

  -- a slot is before the variables or behind them
  never_both : (c : Slot) → is_behind row vars c ≡ true → is_slot_before row vars c ≡ true → ⊥
  never_both c behind before = elim (cases_Bool (nat_lt row.0 c.row.0)) as (λ _. ⊥) [
    | inl more ↦
        (let m = ltb-true row.0 c.row.0 more in
        elim (true_before row vars c before) as (λ _. ⊥) [ inl l ↦ omega (arith, l, m) | inr r ↦ let e = ap (λ (q : RowId). q.0) r.0 in omega (arith, m, e) ])
    | inr none ↦
        (let rest = later c none behind in
        let e = eqb-true row.0 c.row.0 rest.0 in
        elim (true_before row vars c before) as (λ _. ⊥) [ inl l ↦ omega (arith, l, e) | inr r ↦ not_itself vars (precedes_both vars c.leaders vars (true_precedes vars c.leaders rest.1) r.1) ])
  ]

  -- and the slot of the row over them isn't behind
  not_behind : (c : Slot) → is_slot_of row vars c ≡ true → is_behind row vars c ≡ true → ⊥
  not_behind c is behind =
      let same = and_parts (c.row.0 == row.0) (same_vars c.leaders vars) is in
      let own = eqb-true c.row.0 row.0 same.0 in
      elim (cases_Bool (nat_lt row.0 c.row.0)) as (λ _. ⊥) [
        | inl more ↦ (let m = ltb-true row.0 c.row.0 more in omega (arith, m, own))
        | inr none ↦ not_itself vars (true_precedes vars vars (sym (ap (precedes vars) (same_vars-true c.leaders vars same.1)) ∙ (later c none behind).1))
      ]

  -- Where the slot in front of a place is before the variables and that at it is behind, the row has none over them.
  pub gap_missing : (slots : List Slot) → AllPairs SlotBefore slots → (place : ℕ) → ((k : ℕ) (d : Slot) → suc k ≡ place → is_slot_before row vars (get_or slots k d) ≡ true)
      → place ≤ length slots → ((d : Slot) → place < length slots → is_behind row vars (get_or slots place d) ≡ true) → slot_at slots row vars ≡ None
  gap_missing slots up zero front within behind =
      place_missing row vars slots up zero (λ k d z l. absurd (omega (arith, l)), λ k d l m. past k d l m)
      (λ d l. false_from_ne_true (is_slot_of row vars (get_or slots zero d)) (λ is. not_behind (get_or slots zero d) is (behind d l)))
    where
      past : (k : ℕ) (d : Slot) → zero ≤ k → k < length slots → is_slot_before row vars (get_or slots k d) ≡ false
      past zero d l m = false_from_ne_true (is_slot_before row vars (get_or slots zero d)) (λ h. never_both (get_or slots zero d) (behind d m) h)
      past (suc k) d l m =
          false_from_ne_true (is_slot_before row vars (get_or slots (suc k) d))
          (λ h. never_both (get_or slots zero d) (behind d (omega (arith, m))) (earlier row vars (get_or slots zero d) (get_or slots (suc k) d) (up zero (suc k) d (omega arith) m) h))
  gap_missing slots up (suc n) front within behind =
      place_missing row vars slots up (suc n) (λ k d z l. so_far k d l, λ k d l m. past k d l m)
      (λ d l. false_from_ne_true (is_slot_of row vars (get_or slots (suc n) d)) (λ is. not_behind (get_or slots (suc n) d) is (behind d l)))
    where
      so_far : (k : ℕ) (d : Slot) → k < suc n → is_slot_before row vars (get_or slots k d) ≡ true
      so_far k d l = elim (cases_lt k n) as (λ _. is_slot_before row vars (get_or slots k d) ≡ true) [
        | inl lt ↦ earlier row vars (get_or slots k d) (get_or slots n d) (up k n d lt (omega (arith, within))) (front n d refl)
        | inr ge ↦ front k d (omega (arith, l, ge))
      ]

      past : (k : ℕ) (d : Slot) → suc n ≤ k → k < length slots → is_slot_before row vars (get_or slots k d) ≡ false
      past k d l m = elim (cases_lt (suc n) k) as (λ _. is_slot_before row vars (get_or slots k d) ≡ false) [
        | inl lt ↦
            false_from_ne_true (is_slot_before row vars (get_or slots k d))
            (λ h. never_both (get_or slots (suc n) d) (behind d (omega (arith, lt, m))) (earlier row vars (get_or slots (suc n) d) (get_or slots k d) (up (suc n) k d lt m) h))
        | inr ge ↦
            (let same : suc n ≡ k = omega (arith, l, ge) in
            false_from_ne_true (is_slot_before row vars (get_or slots k d)) (λ h. never_both (get_or slots k d) (ap (λ i. is_behind row vars (get_or slots i d)) (sym same) ∙ behind d (omega (arith, same, m))) h))
      ]

-- ---- leaders
-- one more
pub all_more : (P : VarId → Type 0) (vars : List VarId) (i : ℕ) (d : VarId) → i < length vars → All P (take i vars) → P (get_or vars i d) → All P (take (i + 1) vars)
all_more P vars i d l all one =
    subst (All P) (sym (take_more vars i d l)) (All-append P (take i vars) (get_or vars i d ∷ []) all (All-cons P (get_or vars i d) [] one (All-nil P)))

-- ---- no rule
module _ (g : Grammar) (infos : List VarInfo) (kept : Kept) where
  -- what is read of a rank below a level is read so at the next
  stable : (n : ℕ) (row : RowId) → IsRowOf g row → rank_of row < n → (vars : List VarId) → admits row infos vars ≡ true → read_leaders n kept row vars ≡ read_leaders (suc n) kept row vars
  unfolding read_leaders
  stable zero row of below vars admitted = absurd (omega (arith, below))
  stable (suc n) row of below vars admitted =
      let own = written_order row vars in
      let same : is_suppressed (read_leaders n kept) row own ≡ is_suppressed (read_leaders (suc n) kept) row own =
      suppressed_alike g infos (λ _. Unit {0}) (read_leaders n kept) (read_leaders (suc n) kept) row (λ r o lower vs a all. stable n r o (omega (arith, below, lower)) vs a) own
      (written_tuples_are_admitted row (row_is g row of) infos vars admitted) (λ k d l. tt) in
      ap (λ b. turned_state row vars (if all_known kept.known own then state_of_one row (known_tuple kept.known own) else read_slot (slot_at kept.slots row own) b (counted_by kept.held own))) same

  abbrev Leads : VarId → Type 0
  Leads v = leader_of kept.leaders v ≡ v

  -- variables that lead are their own leaders
  led_all : (vars : List VarId) → All Leads vars → leaders_of kept.leaders vars ≡ vars
  led_all [] all = refl
  led_all (v ∷ vars) all =
      let first = All-head Leads v vars all in
      let rest = led_all vars (All-tail Leads v vars all) in
      λ i. first i ∷ rest i

  module _ (some : 0 < kept.samples) where
    lower_read : (r : RowId) → IsRowOf g r → rank_of r < 3 → (vars : List VarId) → admits r infos vars ≡ true → All Leads vars → state_read kept r vars ≡ read_leaders 3 kept r vars
    lower_read r of below vars admitted all =
        sym (read_some kept r vars (λ z. omega (arith, some, z))) ∙ (ap (read_leaders 4 kept r) (led_all vars all) ∙ sym (stable 3 r of below vars admitted))

    pub unruled_broken : (row : RowId) → IsRowOf g row → (a b c : VarId) → admits row infos (a ∷ b ∷ c ∷ []) ≡ true → All Leads (a ∷ b ∷ c ∷ []) → all_known kept.known (a ∷ b ∷ c ∷ []) ≡ false
        → is_written row (a ∷ b ∷ c ∷ []) ≡ true → slot_at kept.slots row (a ∷ b ∷ c ∷ []) ≡ None → is_suppressed (state_read kept) row (a ∷ b ∷ c ∷ []) ≡ false
        → state_read kept row (a ∷ b ∷ c ∷ []) ≡ Broken
    unruled_broken row of a b c admitted led varies written missing free =
        let vars = a ∷ b ∷ c ∷ [] in
        let y = (template_of row).symmetry in
        let lower = read_leaders (4 - 1) kept in
        let low = rank_below row (row_is g row of) in
        let same : is_suppressed (state_read kept) row vars ≡ is_suppressed lower row vars =
        suppressed_alike g infos Leads (state_read kept) lower row (λ r o less vs adm all. lower_read r o (omega (arith, less, low)) vs adm all) vars admitted led in
        let whole : read_written kept lower row vars ≡ Broken =
        ap (λ k. if k then state_of_one row (known_tuple kept.known vars) else read_slot (slot_at kept.slots row vars) (is_suppressed lower row vars) (counted_by kept.held vars)) varies
        ∙ (ap (λ o. read_slot o (is_suppressed lower row vars) (counted_by kept.held vars)) missing ∙ ap (λ d. read_slot None d (counted_by kept.held vars)) (sym same ∙ free)) in
        let level : read_leaders 4 kept row vars ≡ Broken =
        sym (level_is 4 (omega arith) kept row vars)
        ∙ (ap (λ t. turned_state row vars (read_written kept lower row t)) (arranged a b c y written) ∙ (disarranged a b c y written (read_written kept lower row vars) ∙ whole)) in
        sym (read_some kept row vars (λ z. omega (arith, some, z))) ∙ (ap (read_leaders 4 kept row) (led_all vars led) ∙ level)
