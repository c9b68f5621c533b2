-- Where a slot stands among slots in order.
use Rattle.std.specs.Prelude.{◌≡◌, ◌==◌, ◌<◌, ◌≤◌, ◌+◌, ◌&&◌, ◌||◌, ℕ, zero, suc, All, Bool, true, false, List, [], ◌∷◌, None, Some, drop, if◌then◌else◌, length, nat_lt, refl}
use Rattle.std.specs.List.{AllPairs, AllWithin}
use Rattle.std.specs.List.Sorted.{IsPartitionPoint, IsPartitionedBy}
use Rattle.std.proofs.Common.{ap, ◌∙◌, arith, get_or, inl, inr, subst, sym}
use Rattle.std.proofs.lemmas.Bool.{and_parts, cases_Bool, cases_eq, cases_lt, eq-eqb, eqb-true, false_from_ne_true, lt-ltb, ltb-true, true≢false}
use Rattle.std.proofs.lemmas.List.{get_or_default}
use Rattle.std.proofs.lemmas.List.Elements.{All-head, All-tail}
use Rattle.dk_base.specs.declared.kinds.VarId.{VarId}
use Rattle.dk_instances.specs.Instances.{Precedes}
use Rattle.dk_presence.proofs.Sameness.{same_vars-true}
use Rattle.dk_presence.specs.Patterns.{same_vars}
use Rattle.dk_template.specs.declared.grammar.RowId.{RowId}
use Rattle.dk_engine.specs.Exact.{SlotBefore}
use Rattle.dk_engine.specs.Reading.Parts.{is_slot_of, slot_at}
use Rattle.dk_engine.specs.Sweeps.Ordering.{is_slot_before, precedes}
use Rattle.dk_engine.specs.declared.slots.slot.Slot.{Slot}

or_left : (a b : Bool) → a ≡ true → (a || b) ≡ true
or_left a b e = ap (λ c. c || b) e

or_right : (a b : Bool) → b ≡ true → (a || b) ≡ true
or_right true b e = refl
or_right false b e = e

both : (a b : Bool) → a ≡ true → b ≡ true → (a && b) ≡ true
both a b e f = ap (λ c. c && b) e ∙ f

-- ---- tuples
pub precedes_true : (vs ws : List VarId) → Precedes vs ws → precedes vs ws ≡ true
precedes_true [] ws h = absurd h
precedes_true (v ∷ vs) [] h = absurd h
precedes_true (v ∷ vs) (w ∷ ws) h = elim h as (λ _. precedes (v ∷ vs) (w ∷ ws) ≡ true) [
  | inl l ↦ or_left (nat_lt v.0 w.0) (v.0 == w.0 && precedes vs ws) (lt-ltb v.0 w.0 l)
  | inr r ↦ or_right (nat_lt v.0 w.0) (v.0 == w.0 && precedes vs ws) (both (v.0 == w.0) (precedes vs ws) (eq-eqb v.0 w.0 r.0) (precedes_true vs ws r.1))
]

pub true_precedes : (vs ws : List VarId) → precedes vs ws ≡ true → Precedes vs ws
true_precedes [] ws h = absurd (true≢false (sym h))
true_precedes (v ∷ vs) [] h = absurd (true≢false (sym h))
true_precedes (v ∷ vs) (w ∷ ws) h = elim (cases_Bool (nat_lt v.0 w.0)) as (λ _. Precedes (v ∷ vs) (w ∷ ws)) [
  | inl l ↦ inl (ltb-true v.0 w.0 l)
  | inr n ↦
      let rest = and_parts (v.0 == w.0) (precedes vs ws) (sym (ap (λ b. b || (v.0 == w.0 && precedes vs ws)) n) ∙ h) in
      inr (eqb-true v.0 w.0 rest.0, true_precedes vs ws rest.1)
]

pub precedes_both : (us vs ws : List VarId) → Precedes us vs → Precedes vs ws → Precedes us ws
precedes_both [] vs ws h k = absurd h
precedes_both (u ∷ us) [] ws h k = absurd h
precedes_both (u ∷ us) (v ∷ vs) [] h k = absurd k
precedes_both (u ∷ us) (v ∷ vs) (w ∷ ws) h k = elim h as (λ _. Precedes (u ∷ us) (w ∷ ws)) [
  | inl l ↦ elim k as (λ _. Precedes (u ∷ us) (w ∷ ws)) [ inl m ↦ inl (omega (arith, l, m)) | inr r ↦ let e = r.0 in inl (omega (arith, l, e)) ]
  | inr q ↦ let f = q.0 in elim k as (λ _. Precedes (u ∷ us) (w ∷ ws)) [
    | inl m ↦ inl (omega (arith, f, m))
    | inr r ↦ let e = r.0 in inr (omega (arith, f, e), precedes_both us vs ws q.1 r.1)
  ]
]

precedes_not_itself : (vs : List VarId) → Precedes vs vs → ⊥
precedes_not_itself [] h = h
precedes_not_itself (v ∷ vs) h = elim h as (λ _. ⊥) [ inl l ↦ omega (arith, l) | inr r ↦ precedes_not_itself vs r.1 ]

-- ---- slots
module _ (row : RowId) (vars : List VarId) where
  pub before_true : (slot : Slot) → SlotBefore slot (record { row = row; leaders = vars; state = slot.state }) → is_slot_before row vars slot ≡ true
  before_true slot h = elim h as (λ _. is_slot_before row vars slot ≡ true) [
    | inl l ↦ or_left (nat_lt slot.row.0 row.0) (slot.row.0 == row.0 && precedes slot.leaders vars) (lt-ltb slot.row.0 row.0 l)
    | inr r ↦ or_right (nat_lt slot.row.0 row.0) (slot.row.0 == row.0 && precedes slot.leaders vars) (both (slot.row.0 == row.0) (precedes slot.leaders vars) (eq-eqb slot.row.0 row.0 (ap (λ (q : RowId). q.0) r.0)) (precedes_true slot.leaders vars r.1))
  ]

  pub true_before : (slot : Slot) → is_slot_before row vars slot ≡ true → SlotBefore slot (record { row = row; leaders = vars; state = slot.state })
  true_before slot h = elim (cases_Bool (nat_lt slot.row.0 row.0)) as (λ _. SlotBefore slot (record { row = row; leaders = vars; state = slot.state })) [
    | inl l ↦ inl (ltb-true slot.row.0 row.0 l)
    | inr n ↦
        let rest = and_parts (slot.row.0 == row.0) (precedes slot.leaders vars) (sym (ap (λ b. b || (slot.row.0 == row.0 && precedes slot.leaders vars)) n) ∙ h) in
        inr (ap (λ (k : ℕ). record { 0 = k }) (eqb-true slot.row.0 row.0 rest.0), true_precedes slot.leaders vars rest.1)
  ]

  -- what stands in front of a slot that comes before the row and variables comes before them too
  pub earlier : (a b : Slot) → SlotBefore a b → is_slot_before row vars b ≡ true → is_slot_before row vars a ≡ true
  earlier a b ab h = before_true a (elim ab as (λ _. SlotBefore a (record { row = row; leaders = vars; state = a.state })) [
    | inl l ↦ elim (true_before b h) as (λ _. SlotBefore a (record { row = row; leaders = vars; state = a.state })) [
      | inl m ↦ inl (omega (arith, l, m))
      | inr r ↦ let e = ap (λ (q : RowId). q.0) r.0 in inl (omega (arith, l, e))
    ]
    | inr q ↦ elim (true_before b h) as (λ _. SlotBefore a (record { row = row; leaders = vars; state = a.state })) [
      | inl m ↦ let e = ap (λ (s : RowId). s.0) q.0 in inl (omega (arith, m, e))
      | inr r ↦ inr (q.0 ∙ r.0, precedes_both a.leaders b.leaders vars q.1 r.1)
    ]
  ])

  -- the slot itself doesn't
  not_before : (slot : Slot) → is_slot_of row vars slot ≡ true → is_slot_before row vars slot ≡ false
  not_before slot is = false_from_ne_true (is_slot_before row vars slot) (λ h.
      let same = and_parts (slot.row.0 == row.0) (same_vars slot.leaders vars) is in
      let rows = eqb-true slot.row.0 row.0 same.0 in
      elim (true_before slot h) as (λ _. ⊥) [
        | inl l ↦ omega (arith, l, rows)
        | inr r ↦ precedes_not_itself vars (subst (λ vs. Precedes vs vars) (same_vars-true slot.leaders vars same.1) r.1)
      ])

  -- what stands in front of it does
  in_front : (a b : Slot) → SlotBefore a b → is_slot_of row vars b ≡ true → is_slot_before row vars a ≡ true
  in_front a b ab is =
      let same = and_parts (b.row.0 == row.0) (same_vars b.leaders vars) is in
      let rows : b.row ≡ row = ap (λ (k : ℕ). record { 0 = k }) (eqb-true b.row.0 row.0 same.0) in
      let leaders = same_vars-true b.leaders vars same.1 in
      before_true a (elim ab as (λ _. SlotBefore a (record { row = row; leaders = vars; state = a.state })) [
        | inl l ↦ inl (subst (λ (r : RowId). a.row.0 < r.0) rows l)
        | inr r ↦ inr (r.0 ∙ rows, subst (Precedes a.leaders) leaders r.1)
      ])

  pub parted : (slots : List Slot) → AllPairs SlotBefore slots → IsPartitionedBy (is_slot_before row vars) slots
  parted slots up i j d l m h = elim (cases_lt i j) [
    | inl lt ↦ earlier (get_or slots i d) (get_or slots j d) (up i j d lt m) h
    | inr ge ↦ let same : j ≡ i = omega (arith, l, ge) in subst (λ k. is_slot_before row vars (get_or slots k d) ≡ true) same h
  ]

  -- ---- halving: what a slot in the middle tells of those on one of its sides
  pub front_to : (slots : List Slot) → AllPairs SlotBefore slots → (middle : ℕ) (a : Slot) → middle < length slots → a ≡ get_or slots middle a → is_slot_before row vars a ≡ true
      → AllWithin (λ s. is_slot_before row vars s ≡ true) slots 0 (middle + 1)
  front_to slots up middle a within at is = λ k d _ m.
      let there : is_slot_before row vars (get_or slots middle d) ≡ true = ap (is_slot_before row vars) (sym (at ∙ get_or_default slots middle a d within)) ∙ is in
      parted slots up k middle d (omega (arith, m)) within there

  pub behind_from : (slots : List Slot) → AllPairs SlotBefore slots → (middle : ℕ) (a : Slot) → middle < length slots → a ≡ get_or slots middle a → is_slot_before row vars a ≡ false
      → AllWithin (λ s. is_slot_before row vars s ≡ false) slots middle (length slots)
  behind_from slots up middle a within at is = λ k d l m. false_from_ne_true (is_slot_before row vars (get_or slots k d)) (λ h.
      let there : is_slot_before row vars (get_or slots middle d) ≡ false = ap (is_slot_before row vars) (sym (at ∙ get_or_default slots middle a d within)) ∙ is in
      true≢false (sym (parted slots up middle k d l m h) ∙ there))

  -- ---- the place of the slot
  found_at : (slots : List Slot) (place : ℕ) (d : Slot) → ((k : ℕ) → k < place → is_slot_of row vars (get_or slots k d) ≡ false) → place < length slots → is_slot_of row vars (get_or slots place d) ≡ true
      → slot_at slots row vars ≡ Some (get_or slots place d).state
  found_at [] place d none l is = absurd (omega (arith, l))
  found_at (a ∷ slots) zero d none l is = ap (λ b. if b then Some a.state else slot_at slots row vars) is
  found_at (a ∷ slots) (suc place) d none l is =
      ap (λ b. if b then Some a.state else slot_at slots row vars) (none 0 (omega arith)) ∙ found_at slots place d (λ k m. none (suc k) (omega (arith, m))) (omega (arith, l)) is

  missing_all : (slots : List Slot) → All (λ s. is_slot_of row vars s ≡ false) slots → slot_at slots row vars ≡ None
  missing_all [] none = refl
  missing_all (a ∷ slots) none =
      let Other : Slot → Type 0 = λ s. is_slot_of row vars s ≡ false in
      ap (λ b. if b then Some a.state else slot_at slots row vars) (All-head Other a slots none) ∙ missing_all slots (All-tail Other a slots none)

  module _ (slots : List Slot) (up : AllPairs SlotBefore slots) (place : ℕ) (at : IsPartitionPoint (λ s. is_slot_before row vars s ≡ true) (λ s. is_slot_before row vars s ≡ false) slots place) where
    in_front_not : (k : ℕ) (d : Slot) → k < place → is_slot_of row vars (get_or slots k d) ≡ false
    in_front_not k d l = false_from_ne_true (is_slot_of row vars (get_or slots k d)) (λ is. true≢false (sym (at.0 k d (omega arith) l) ∙ not_before (get_or slots k d) is))

    pub place_found : (d : Slot) → place < length slots → is_slot_of row vars (get_or slots place d) ≡ true → slot_at slots row vars ≡ Some (get_or slots place d).state
    place_found d l is = found_at slots place d (λ k m. in_front_not k d m) l is

    pub place_missing : ((d : Slot) → place < length slots → is_slot_of row vars (get_or slots place d) ≡ false) → slot_at slots row vars ≡ None
    place_missing other = missing_all slots (λ k d l. elim (cases_lt k place) [
      | inl lt ↦ in_front_not k d lt
      | inr ge ↦ elim (cases_eq k place) [
        | inl e ↦ subst (λ i. is_slot_of row vars (get_or slots i d) ≡ false) (sym e) (other d (omega (arith, l, e)))
        | inr n ↦
            let lt : place < k = omega (arith, ge, n) in
            false_from_ne_true (is_slot_of row vars (get_or slots k d)) (λ is.
            true≢false (sym (in_front (get_or slots place d) (get_or slots k d) (up place k d lt l) is) ∙ at.1 place d (omega arith) (omega (arith, lt, l))))
      ]
    ])

-- ---- past the end of the other tuple
pub precedes_past : (vs ws : List VarId) (i : ℕ) → length ws ≤ i → precedes (drop i vs) (drop i ws) ≡ false
precedes_past [] ws zero l = refl
precedes_past [] ws (suc i) l = refl
precedes_past (v ∷ vs) [] zero l = refl
precedes_past (v ∷ vs) [] (suc i) l = none (drop i vs)
  where
    none : (us : List VarId) → precedes us [] ≡ false
    none [] = refl
    none (u ∷ us) = refl
precedes_past (v ∷ vs) (w ∷ ws) zero l = absurd (omega (arith, l))
precedes_past (v ∷ vs) (w ∷ ws) (suc i) l = precedes_past vs ws i (omega (arith, l))
