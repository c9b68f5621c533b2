-- Variables of which what is kept says nothing stand in no instance that holds and that no rule suppresses.
use Rattle.std.specs.Prelude.{◌≡◌, ◌≢◌, ◌<◌, ◌&&◌, ◌==◌, Bool, true, false, All, Contains, List, [], ◌∷◌, filter, if◌then◌else◌, length, Option, Some, None, refl, unwrap_or}
use Rattle.std.specs.List.{list_any}
use Rattle.std.specs.Option.{option_map_or}
use Rattle.std.proofs.Common.{◌∙◌, ap, arith, get_or, inl, inr, sym}
use Rattle.std.proofs.lemmas.Bool.{and_from, and_parts, cases_Bool, eq-eqb, false≢true, or_left, or_right}
use Rattle.dk_base.specs.declared.kinds.VarId.{VarId}
use Rattle.dk_base.specs.declared.kinds.VarInfo.{VarInfo}
use Rattle.dk_base.specs.declared.values.Value.{Value}
use Rattle.dk_base.specs.declared.values.Value.TheVariants as value
use Rattle.dk_classes.proofs.OwnLeaders.{own_from_leads}
use Rattle.dk_classes.specs.Leaders.{leader_at, own_leaders}
use Rattle.dk_constants.specs.Known.{Entries, known_at}
use Rattle.dk_engine.proofs.Readings.{constant_tuple, row_is}
use Rattle.dk_engine.specs.Exact.{IsKeptOf}
use Rattle.dk_engine.specs.Reading.Parts.{all_known, known_tuple}
use Rattle.dk_engine.specs.declared.kept.Kept.{Kept}
use Rattle.dk_engine.specs.declared.slots.slot.Slot.{Slot}
use Rattle.dk_forms.specs.Laws.{IsIn}
use Rattle.dk_forms.specs.declared.states.State.{State}
use Rattle.dk_forms.specs.declared.states.State.TheVariants.{Broken, Empty}
use Rattle.dk_instances.proofs.Fitting.{fit_of_none}
use Rattle.dk_instances.proofs.Members.{in_filter, is_in}
use Rattle.dk_instances.proofs.Pushing.{fit_of_one}
use Rattle.dk_instances.specs.Fits.{fit, is_whole}
use Rattle.dk_instances.specs.Instances.{are_distinct, is_asked}
use Rattle.dk_meanings.specs.Meanings.{state_of}
use Rattle.dk_presence.specs.Patterns.{has}
use Rattle.dk_samples.specs.Samples.{is_present}
use Rattle.dk_suppress.specs.Rules.{is_suppressed}
use Rattle.dk_suppress.specs.Soundness.{fit_of}
use Rattle.dk_template.specs.Admitted.{admits, is_written}
use Rattle.dk_template.specs.Fitting.{fits}
use Rattle.dk_template.specs.Templates.{IsRowOf}
use Rattle.dk_template.specs.declared.grammar.Grammar.{Grammar}
use Rattle.dk_template.specs.declared.grammar.RowId.{RowId}
use Rattle.dk_report.specs.Narrowing.{is_fixed, is_left, is_of_row, stands_in}

-- ---- states
pub not-broken : (s : State) → fits s ≡ true → s ≢ Broken
not-broken s h e = false≢true (ap fits (sym e) ∙ h)

-- ---- members
any-of : {X : Type 0} (q : X → Bool) (x : X) (xs : List X) → IsIn x xs → q x ≡ true → list_any q xs ≡ true
any-of q x [] i h = absurd i
any-of q x (y ∷ xs) (inl e) h = or_left (q y) (list_any q xs) (ap q (sym e) ∙ h)
any-of q x (y ∷ xs) (inr i) h = or_right (q y) (list_any q xs) (any-of q x xs i h)

has-in : (v : VarId) (vars : List VarId) → IsIn v vars → has vars v ≡ true
has-in v vars i = any-of (λ (w : VarId). w.0 == v.0) v vars i (eq-eqb v.0 v.0 refl)

-- the value of a variable of a tuple that is whole is there
there-in : (known : Entries) (v : VarId) (vars : List VarId) → IsIn v vars → is_whole (known_tuple known vars) ≡ true → is_present (unwrap_or (known_at known v) value.Missing) ≡ true
there-in known v [] i h = absurd i
there-in known v (w ∷ vars) (inl e) h =
    ap (λ u. is_present (unwrap_or (known_at known u) value.Missing)) e ∙ (and_parts (is_present (unwrap_or (known_at known w) value.Missing)) (is_whole (known_tuple known vars)) h).0
there-in known v (w ∷ vars) (inr i) h = there-in known v vars i (and_parts (is_present (unwrap_or (known_at known w) value.Missing)) (is_whole (known_tuple known vars)) h).1

fixed-by : (o : Option Value) → is_present (unwrap_or o value.Missing) ≡ true → option_map_or is_present o false ≡ true
fixed-by None h = h
fixed-by (Some x) h = h

-- each of the variables leads its class
abbrev pub AllLead : List VarId → List VarId → Type 0
AllLead leaders vars = All (λ (v : VarId). (v.0 < length leaders) × (leader_at leaders v.0 ≡ v.0)) vars

module _ (g : Grammar) (infos : List VarInfo) (samples : List (List Value)) (kept : Kept) (is : IsKeptOf g infos samples kept) (row : RowId) (of : IsRowOf g row) (vars : List VarId)
    (asked : is_asked infos row vars ≡ true) (lead : AllLead kept.leaders vars) (holds : fits (fit row vars samples) ≡ true) (free : is_suppressed (fit_of samples) row vars ≡ false)
  where
    some : 0 < length samples
    some = some-of samples holds
      where
        some-of : (xs : List (List Value)) → fits (fit row vars xs) ≡ true → 0 < length xs
        some-of [] h = absurd (false≢true (ap fits (sym (fit_of_none row (row_is g row of) vars)) ∙ h))
        some-of (x ∷ xs) h = omega arith

    -- where all are constant, their one tuple is whole
    whole : all_known kept.known vars ≡ true → is_whole (known_tuple kept.known vars) ≡ true
    whole known = elim (cases_Bool (is_whole (known_tuple kept.known vars))) as (λ _. is_whole (known_tuple kept.known vars) ≡ true) [
      | inl w ↦ w
      | inr gap ↦
          absurd (false≢true (sym (ap fits (fit_of_one row (row_is g row of) vars (known_tuple kept.known vars) samples some (constant_tuple (own_leaders kept.leaders) samples kept.known is.known vars known)
          ∙ ap (λ b. if b then state_of row (known_tuple kept.known vars ∷ []) else Empty) gap)) ∙ holds))
    ]

    pub fixed-at : all_known kept.known vars ≡ true → (v : VarId) → IsIn v vars → is_fixed kept.known v ≡ true
    fixed-at known v i = fixed-by (known_at kept.known v) (there-in kept.known v vars i (whole known))

    -- where not all are, they have a slot
    abbrev pub slot_is : Slot
    slot_is = record { row = row; leaders = vars; state = fit row vars samples }

    slot : all_known kept.known vars ≡ false → Contains kept.slots slot_is
    slot varies =
        let parts = and_parts (admits row infos vars) (is_written row vars && are_distinct vars) asked in
        (is.slots.each slot_is).1 (record {
          some = some;
          over = record {
            of_grammar = of;
            admitted = parts.0;
            lead = λ k d l. own_from_leads kept.leaders (get_or vars k d) (lead k d l).0 (lead k d l).1;
          };
          written = (and_parts (is_written row vars) (are_distinct vars) parts.1).0;
          varies = varies;
          state = refl;
          unbroken = not-broken (fit row vars samples) holds;
          unsuppressed = free;
        })

    of-row : is_of_row row slot_is ≡ true
    of-row =
        let parts = and_parts (admits row infos vars) (is_written row vars && are_distinct vars) asked in
        and_from (row.0 == row.0) (fits (fit row vars samples) && are_distinct vars) (eq-eqb row.0 row.0 refl)
        (and_from (fits (fit row vars samples)) (are_distinct vars) holds (and_parts (is_written row vars) (are_distinct vars) parts.1).1)

    pub in-row : all_known kept.known vars ≡ false → IsIn slot_is (filter (is_of_row row) kept.slots)
    in-row varies = let c = slot varies in in_filter (is_of_row row) slot_is kept.slots (is_in slot_is kept.slots c.0 c.1 c.2) of-row

    pub left : (v : VarId) → IsIn v vars → is_left kept row v ≡ true
    left v i = elim (cases_Bool (all_known kept.known vars)) as (λ _. is_left kept row v ≡ true) [
      | inl known ↦ or_left (is_fixed kept.known v) (stands_in (filter (is_of_row row) kept.slots) v) (fixed-at known v i)
      | inr varies ↦
          or_right (is_fixed kept.known v) (stands_in (filter (is_of_row row) kept.slots) v)
          (any-of (λ (s : Slot). has s.leaders v) slot_is (filter (is_of_row row) kept.slots) (in-row varies) (has-in v vars i))
    ]
