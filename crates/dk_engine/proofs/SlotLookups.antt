-- Slots that are found.
use Rattle.std.specs.Prelude.{◌≡◌, ◌⊎◌, ◌==◌, ℕ, zero, suc, true, is_some, Contains, List, [], ◌∷◌, Some, None, if◌then◌else◌, refl}
use Rattle.std.proofs.Common.{ap, ◌∙◌, arith, sym, inl, inr}
use Rattle.std.proofs.lemmas.Bool.{and_from, and_parts, cases_Bool, eq-eqb, eqb-true}
use Rattle.dk_base.specs.declared.kinds.VarId.{VarId}
use Rattle.dk_forms.specs.declared.states.State.{State}
use Rattle.dk_presence.proofs.Sameness.{same_vars-refl, same_vars-true}
use Rattle.dk_presence.specs.Patterns.{same_vars}
use Rattle.dk_template.specs.declared.grammar.RowId.{RowId}
use Rattle.dk_engine.specs.Reading.Parts.{is_slot_of, slot_at}
use Rattle.dk_engine.specs.declared.slots.slot.Slot.{Slot}

abbrev slot : RowId → List VarId → State → Slot
slot row vars s = record { row = row; leaders = vars; state = s }

slot_is : (row : RowId) (vars : List VarId) (a : Slot) → is_slot_of row vars a ≡ true → a ≡ slot row vars a.state
slot_is row vars a h =
    let hs = and_parts (a.row.0 == row.0) (same_vars a.leaders vars) h in
    let rows : a.row ≡ row = ap (λ (n : ℕ). record { 0 = n }) (eqb-true a.row.0 row.0 hs.0) in
    ap (λ r. slot r a.leaders a.state) rows ∙ ap (λ vs. slot row vs a.state) (same_vars-true a.leaders vars hs.1)

-- the slot that is found is there
pub slot_found : (slots : List Slot) (row : RowId) (vars : List VarId) (s : State) → slot_at slots row vars ≡ Some s → Contains slots (slot row vars s)
slot_found [] row vars s h = absurd (cc)
slot_found (a ∷ slots) row vars s h = elim (cases_Bool (is_slot_of row vars a)) [
  | inl here ↦
      let state : Some a.state ≡ Some s = sym (ap (λ b. if b then Some a.state else slot_at slots row vars) here) ∙ h in
      let same : a.state ≡ s = cc in
      (0, omega arith, slot_is row vars a here ∙ ap (slot row vars) same)
  | inr later ↦
      let rest = slot_found slots row vars s (sym (ap (λ b. if b then Some a.state else slot_at slots row vars) later) ∙ h) in
      (suc rest.0, omega (arith, rest.1), rest.2)
]

-- and where none is found, none is there
pub slot_missing : (slots : List Slot) (row : RowId) (vars : List VarId) → slot_at slots row vars ≡ None → (s : State) → Contains slots (slot row vars s) → ⊥
slot_missing [] row vars h s (k, l, e) = omega (arith, l)
slot_missing (a ∷ slots) row vars h s (zero, l, e) =
    let here : is_slot_of row vars a ≡ true = ap (is_slot_of row vars) e ∙ and_from (row.0 == row.0) (same_vars vars vars) (eq-eqb row.0 row.0 refl) (same_vars-refl vars) in
    let found : Some a.state ≡ None = sym (ap (λ b. if b then Some a.state else slot_at slots row vars) here) ∙ h in
    absurd (cc)
slot_missing (a ∷ slots) row vars h s (suc k, l, e) = elim (cases_Bool (is_slot_of row vars a)) [
  | inl here ↦ let found : Some a.state ≡ None = sym (ap (λ b. if b then Some a.state else slot_at slots row vars) here) ∙ h in absurd (cc)
  | inr later ↦ slot_missing slots row vars (sym (ap (λ b. if b then Some a.state else slot_at slots row vars) later) ∙ h) s (k, omega (arith, l), e)
]

-- a slot of the list is found
pub slot_there : (slots : List Slot) (a : Slot) → Contains slots a → is_some (slot_at slots a.row a.leaders) ≡ true
slot_there slots a c = elim (slot_at slots a.row a.leaders) as (λ o. slot_at slots a.row a.leaders ≡ o → is_some o ≡ true) [
  | None ↦ λ e. absurd (slot_missing slots a.row a.leaders e a.state c)
  | Some s ↦ λ e. refl
] refl

-- none is found, or one of the list
pub slot_cases : (slots : List Slot) (row : RowId) (vars : List VarId) → (slot_at slots row vars ≡ None) ⊎ ((a : Slot) × Contains slots a × (a.row ≡ row) × (a.leaders ≡ vars))
slot_cases slots row vars = elim (slot_at slots row vars) as (λ o. slot_at slots row vars ≡ o → (slot_at slots row vars ≡ None) ⊎ ((a : Slot) × Contains slots a × (a.row ≡ row) × (a.leaders ≡ vars))) [
  | None ↦ λ e. inl e
  | Some s ↦ λ e. inr (slot row vars s, slot_found slots row vars s e, refl, refl)
] refl
