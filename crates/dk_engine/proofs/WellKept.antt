-- Of parts that meet their conditions, what is read of leaders is proper.
use Rattle.std.specs.Prelude.{◌≡◌, ◌&&◌, ◌||◌, ◌==◌, ℕ, zero, suc, Bool, true, false, not, All, List, [], ◌∷◌, Option, Some, None, if◌then◌else◌, is_some, length, map, refl, slice_get, unwrap_or, zip}
use Rattle.std.specs.List.{list_all, list_any}
use Rattle.std.proofs.Common.{ap, ◌∙◌, arith, sym, inl, inr, subst}
use Rattle.std.proofs.lemmas.Bool.{and_parts, eqb-true, false≢true, or_cases}
use Rattle.std.proofs.lemmas.List.{length-map}
use Rattle.std.proofs.lemmas.List.Elements.{All-cons, All-contains, All-nil}
use Rattle.std.proofs.lemmas.Option.{slice_get_cases}
use Rattle.dk_base.specs.Shapes.{is_base_form}
use Rattle.dk_base.specs.Values.{kind_of}
use Rattle.dk_base.specs.Values.Spelling.{IsWritten}
use Rattle.dk_base.specs.Values.Tuples.{value_at}
use Rattle.dk_base.specs.declared.kinds.VarId.{VarId}
use Rattle.dk_base.specs.declared.kinds.VarInfo.{VarInfo}
use Rattle.dk_base.specs.declared.values.Value.{Value}
use Rattle.dk_base.specs.declared.values.Value.TheVariants as value
use Rattle.dk_classes.proofs.OfKind.{kind_read}
use Rattle.dk_classes.specs.Classes.{kind_at, var_kinds as kinds_of_vars}
use Rattle.dk_constants.specs.Known.{known_at}
use Rattle.dk_forms.specs.declared.states.State.{State}
use Rattle.dk_forms.specs.declared.states.State.TheVariants as state
use Rattle.dk_instances.proofs.Whole.{kind_alike, kind_is}
use Rattle.dk_instances.specs.Fits.{is_whole}
use Rattle.dk_meanings.proofs.RowLaws.{laws_of}
use Rattle.dk_meanings.specs.Meanings.{state_of}
use Rattle.dk_presence.specs.Patterns.{counted_by}
use Rattle.dk_samples.specs.Samples.{is_present}
use Rattle.dk_suppress.proofs.Facts.{conclusions_plain}
use Rattle.dk_suppress.specs.Rules.{Rule, is_suppressed, rules}
use Rattle.dk_suppress.specs.Soundness.{holds_of}
use Rattle.dk_template.proofs.ProperStates.{proper_laws}
use Rattle.dk_template.specs.Admitted.{admits, same_kind, suits}
use Rattle.dk_template.specs.Premises.{premise_fits}
use Rattle.dk_template.specs.Proper.{IsProper}
use Rattle.dk_template.specs.Rows.{IsTuple}
use Rattle.dk_template.specs.Templates.{IsRow, IsRowOf, form_of, is_base, is_plain, kind_of as kind_of_role, role_kinds, roles_of, template_of}
use Rattle.dk_template.specs.declared.grammar.Grammar.{Grammar}
use Rattle.dk_template.specs.declared.grammar.RowId.{RowId}
use Rattle.dk_template.specs.declared.templates.Role.{Role}
use Rattle.dk_template.specs.declared.templates.StateForm.{StateForm}
use Rattle.dk_template.specs.declared.templates.StateForm.TheVariants as form
use Rattle.dk_engine.proofs.Leading.{there_if_suits}
use Rattle.dk_engine.proofs.Readings.{row_is, some_known}
use Rattle.dk_engine.proofs.SlotLookups.{slot_found}
use Rattle.dk_engine.specs.Reading.{read_slot, read_written, state_of_one}
use Rattle.dk_engine.specs.Reading.Parts.{all_known, known_tuple, slot_at}
use Rattle.dk_engine.specs.Saved.Conditions.{CanBeRead}
use Rattle.dk_engine.specs.declared.kept.Kept.{Kept}
use Rattle.dk_engine.specs.declared.slots.slot.Slot.{Slot}

-- ---- conclusions
plain_form : (f : StateForm) → is_plain f ≡ true → f ≡ form.Plain
plain_form form.Plain h = refl
plain_form _ h = absurd (false≢true h)

-- a row that a rule suppresses has a relation
pub suppressed_plain : (answered : RowId → List VarId → State) (row : RowId) (vars : List VarId) → is_suppressed answered row vars ≡ true → form_of row ≡ form.Plain
suppressed_plain answered row vars h = plain_form (form_of row) (go rules conclusions_plain h)
  where
    go : (rs : List Rule) → list_all (λ (r : Rule). is_plain (form_of r.0)) rs ≡ true
        → list_any (λ (r : Rule). r.0.0 == row.0 && list_all (λ p. premise_fits answered p vars) r.1) rs ≡ true → is_plain (form_of row) ≡ true
    go [] plain h = absurd (false≢true h)
    go (r ∷ rs) plain h =
        let ps = and_parts (is_plain (form_of r.0)) (list_all (λ (q : Rule). is_plain (form_of q.0)) rs) plain in
        elim (or_cases (r.0.0 == row.0 && list_all (λ p. premise_fits answered p vars) r.1) (list_any (λ (q : Rule). q.0.0 == row.0 && list_all (λ p. premise_fits answered p vars) q.1) rs) h) [
          | inl one ↦
              let same : r.0 ≡ row = ap (λ (n : ℕ). record { 0 = n }) (eqb-true r.0.0 row.0 (and_parts (r.0.0 == row.0) (list_all (λ p. premise_fits answered p vars) r.1) one).0) in
              subst (λ (q : RowId). is_plain (form_of q) ≡ true) same ps.0
          | inr more ↦ go rs ps.1 more
        ]

holds_proper : (n : ℕ) → IsProper form.Plain (holds_of n)
holds_proper zero = tt
holds_proper (suc n) = tt

module _ (g : Grammar) (infos : List VarInfo) (kept : Kept) (are : CanBeRead infos kept) where
  abbrev known_value : VarId → Value
  known_value v = unwrap_or (known_at kept.known v) value.Missing

  abbrev is_suited : Role × VarId → Bool
  is_suited p = suits p.0 (slice_get infos p.1.0)

  -- ---- constants
  -- the kind of a constant that suits a role
  constant_kind : (role : Role) (v : VarId) → is_suited (role, v) ≡ true → is_some (known_at kept.known v) ≡ true → is_present (known_value v) ≡ true → kind_of (known_value v) ≡ Some (kind_of_role role)
  constant_kind role v s k p =
      let l = there_if_suits role infos v s in
      elim (slice_get_cases infos v.0).1 as (λ _. kind_of (known_value v) ≡ Some (kind_of_role role)) [
        | inl c ↦
            let a : VarInfo = c.0 in
            let fit = and_parts (same_kind a.kind (kind_of_role role)) (not (is_base role) || is_base_form a.form) (ap (suits role) (sym c.2) ∙ s) in
            kind_is (known_value v) (kind_at (kinds_of_vars infos) v.0) p (are.values v (known_value v) (some_known (known_at kept.known v) k)).kind
            ∙ ap (λ k. Some k) (kind_read infos v.0 a l ∙ (ap (λ (i : VarInfo). i.kind) c.3 ∙ kind_alike a.kind (kind_of_role role) fit.0))
        | inr c ↦ absurd (false≢true (ap (suits role) (sym c.1) ∙ s))
      ]

  constant_kinds : (roles : List Role) (vars : List VarId) → length vars ≡ length roles → list_all is_suited (zip roles vars) ≡ true → all_known kept.known vars ≡ true → is_whole (known_tuple kept.known vars) ≡ true
      → (role : ℕ) → kind_of (value_at (known_tuple kept.known vars) role) ≡ slice_get (map kind_of_role roles) role
  constant_kinds [] [] e s k w n = refl
  constant_kinds [] (v ∷ vars) e s k w n = absurd (omega (arith, e))
  constant_kinds (r ∷ roles) [] e s k w n = absurd (omega (arith, e))
  constant_kinds (r ∷ roles) (v ∷ vars) e s k w n =
      let ss = and_parts (is_suited (r, v)) (list_all is_suited (zip roles vars)) s in
      let ks = and_parts (is_some (known_at kept.known v)) (all_known kept.known vars) k in
      let ws = and_parts (is_present (known_value v)) (is_whole (known_tuple kept.known vars)) w in
      by_role n (constant_kind r v ss.0 ks.0 ws.0) (constant_kinds roles vars (omega (arith, e)) ss.1 ks.1 ws.1)
    where
      by_role : (n : ℕ) → kind_of (known_value v) ≡ Some (kind_of_role r) → ((m : ℕ) → kind_of (value_at (known_tuple kept.known vars) m) ≡ slice_get (map kind_of_role roles) m)
          → kind_of (value_at (known_value v ∷ known_tuple kept.known vars) n) ≡ slice_get (kind_of_role r ∷ map kind_of_role roles) n
      by_role zero here rest = here
      by_role (suc m) here rest = rest m

  constants_written : (vars : List VarId) → all_known kept.known vars ≡ true → All IsWritten (known_tuple kept.known vars)
  constants_written [] k = All-nil IsWritten
  constants_written (v ∷ vars) k =
      let ks = and_parts (is_some (known_at kept.known v)) (all_known kept.known vars) k in
      All-cons IsWritten (known_value v) (known_tuple kept.known vars) (are.values v (known_value v) (some_known (known_at kept.known v) ks.0)).written (constants_written vars ks.1)

  -- the values of constants that a row admits are a tuple of it
  pub constants_tuple : (row : RowId) (vars : List VarId) → admits row infos vars ≡ true → all_known kept.known vars ≡ true → is_whole (known_tuple kept.known vars) ≡ true → IsTuple (role_kinds row) (known_tuple kept.known vars)
  constants_tuple row vars a k w =
      let roles = roles_of (template_of row).takes in
      let parts = and_parts (length vars == length roles) (list_all is_suited (zip roles vars)) a in
      let long = eqb-true (length vars) (length roles) parts.0 in
      record {
        arity = length-map vars known_value ∙ (long ∙ sym (length-map roles kind_of_role));
        each = constant_kinds roles vars long parts.1 k w;
        written = constants_written vars k;
      }

  -- ---- states
  pub constants_proper : (row : RowId) (vars : List VarId) → IsRow row → admits row infos vars ≡ true → all_known kept.known vars ≡ true → IsProper (form_of row) (state_of_one row (known_tuple kept.known vars))
  constants_proper row vars is a k =
      let t = known_tuple kept.known vars in
      elim (is_whole t) as (λ b. is_whole t ≡ b → IsProper (form_of row) (if b then state_of row (t ∷ []) else state.Empty)) [
        | true ↦ λ e. (laws_of row is).proper (t ∷ []) (All-cons (IsTuple (role_kinds row)) t [] (constants_tuple row vars a k e) (All-nil (IsTuple (role_kinds row))))
        | false ↦ λ e. (proper_laws (form_of row)).empty_proper
      ] refl

  pub slot_proper : (row : RowId) (vars : List VarId) (s : State) → slot_at kept.slots row vars ≡ Some s → IsProper (form_of row) s
  slot_proper row vars s e = All-contains (λ (a : Slot). IsProper (form_of a.row) a.state) kept.slots (record { row = row; leaders = vars; state = s }) are.states (slot_found kept.slots row vars s e)

  read_slot_proper : (lower : RowId → List VarId → State) (row : RowId) (vars : List VarId) (o : Option State) → slot_at kept.slots row vars ≡ o → (b : Bool) → is_suppressed lower row vars ≡ b → (n : ℕ) → IsProper (form_of row) (read_slot o b n)
  read_slot_proper lower row vars (Some s) e b h n = slot_proper row vars s e
  read_slot_proper lower row vars None e true h n = subst (λ f. IsProper f (holds_of n)) (sym (suppressed_plain lower row vars h)) (holds_proper n)
  read_slot_proper lower row vars None e false h n = (proper_laws (form_of row)).broken_proper

  -- what is read of leaders in written order is proper
  pub read_written_proper : (lower : RowId → List VarId → State) (row : RowId) (vars : List VarId) → IsRowOf g row → admits row infos vars ≡ true → IsProper (form_of row) (read_written kept lower row vars)
  read_written_proper lower row vars of a =
      let slot = read_slot (slot_at kept.slots row vars) (is_suppressed lower row vars) (counted_by kept.held vars) in
      elim (all_known kept.known vars) as (λ b. all_known kept.known vars ≡ b → IsProper (form_of row) (if b then state_of_one row (known_tuple kept.known vars) else slot)) [
        | true ↦ λ k. constants_proper row vars (row_is g row of) a k
        | false ↦ λ k. read_slot_proper lower row vars (slot_at kept.slots row vars) refl (is_suppressed lower row vars) refl (counted_by kept.held vars)
      ] refl
