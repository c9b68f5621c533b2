-- What is read from the kept parts of samples is what the samples say.
use Rattle.std.specs.Prelude.{◌≡◌, ◌≢◌, ◌↔◌, ◌<◌, ◌==◌, ℕ, zero, suc, Bool, true, false, All, Contains, IsTrue, List, [], ◌∷◌, Option, Some, None, if◌then◌else◌, is_some, length, refl, unwrap_or}
use Rattle.std.proofs.Common.{ap, ◌∙◌, arith, get_or, sym, inl, inr}
use Rattle.std.proofs.lemmas.Bool.{and_parts, cases_Bool, cases_lt, eq-eqb, eqb-true, false≢true, true≢false}
use Rattle.std.proofs.lemmas.List.{length-map}
use Rattle.std.proofs.lemmas.List.Elements.{All-weaker}
use Rattle.dk_base.specs.Values.Spelling.{IsWritten}
use Rattle.dk_base.specs.declared.kinds.VarId.{VarId}
use Rattle.dk_base.specs.declared.kinds.VarInfo.{VarInfo}
use Rattle.dk_base.specs.declared.values.Value.{Value}
use Rattle.dk_base.specs.declared.values.Value.TheVariants as value
use Rattle.dk_classes.proofs.Agreement.{class_from_leader, one_leader}
use Rattle.dk_classes.specs.Classes.{kind_at, var_kinds}
use Rattle.dk_classes.specs.Leaders.{leader_at, own_leaders}
use Rattle.dk_constants.specs.Constants.{AreConstants}
use Rattle.dk_constants.specs.Known.{Entries, known_at}
use Rattle.dk_instances.proofs.Fitting.{count_alike, count_of_tuples, fit_alike, fit_of_none}
use Rattle.dk_instances.proofs.Pushing.{fit_of_one}
use Rattle.dk_instances.proofs.Turning.{fits_turn}
use Rattle.dk_instances.specs.Fits.{fit, tuple_in, tuples_of}
use Rattle.dk_instances.specs.Laws.{IsSample}
use Rattle.dk_forms.specs.declared.states.State.{State}
use Rattle.dk_forms.specs.declared.states.State.TheVariants.{Broken, Empty, Holds}
use Rattle.dk_presence.proofs.Refining.{has-contains}
use Rattle.dk_presence.proofs.Sums.{count_is}
use Rattle.dk_presence.specs.Patterns.{capped, count_of, counted_by, has}
use Rattle.dk_samples.specs.Samples.{Agree}
use Rattle.dk_suppress.proofs.Asking.{suppressed_alike}
use Rattle.dk_suppress.proofs.Sound.{suppressed_hold}
use Rattle.dk_suppress.specs.Rules.{is_suppressed}
use Rattle.dk_suppress.specs.Soundness.{fit_of, holds_of}
use Rattle.dk_template.proofs.WrittenOrder.{written_tuples_are_admitted}
use Rattle.dk_template.proofs.WrittenTuples.{admitted_arity, admitted_few, rank_below, written_all, written_is_written}
use Rattle.dk_template.specs.Admitted.{admits, is_written}
use Rattle.dk_template.specs.Exchange.{turned_state, written_order}
use Rattle.dk_template.specs.Premises.{AreThere}
use Rattle.dk_template.specs.Templates.{IsRow, IsRowOf, rank_of}
use Rattle.dk_template.specs.declared.grammar.Grammar.{Grammar}
use Rattle.dk_template.specs.declared.grammar.Grammar.TheVariants as grammar
use Rattle.dk_template.specs.declared.grammar.RowId.{RowId}
use Rattle.dk_engine.proofs.Leading.{admit_all, admitted_there, agree_all, are_leaders_of, lead_all, long_leaders}
use Rattle.dk_engine.specs.Saved.Conditions.{AreLeadersOf}
use Rattle.dk_engine.proofs.SlotLookups.{slot_found, slot_missing}
use Rattle.dk_engine.specs.Exact.{AreOfPoint, AreSamples, IsKeptOf, IsOverLeaders, Lead}
use Rattle.dk_engine.specs.Feeding.{is_broken}
use Rattle.dk_engine.specs.Laws.{AgreeReadIsAgreement, CountReadIsCount, ReadingIsFit}
use Rattle.dk_engine.specs.Reading.Parts.{all_known, known_tuple, leaders_of, slot_at}
use Rattle.dk_engine.specs.Reading.{agree_read, count_read, read_leaders, read_slot, read_written, state_of_one, state_read}
use Rattle.dk_engine.specs.declared.kept.Kept.{Kept}

-- ---- states
pub broken_is : (s : State) → is_broken s ≡ true → s ≡ Broken
broken_is Broken h = refl
broken_is _ h = absurd (false≢true h)

pub not_broken : (s : State) → is_broken s ≡ false → s ≢ Broken
not_broken s h e = true≢false (ap is_broken (sym e) ∙ h)

holds_of_some : (n : ℕ) → 0 < n → holds_of n ≡ Holds
holds_of_some zero h = absurd (omega (arith, h))
holds_of_some (suc n) h = refl

pub holds_of_capped : (n : ℕ) → holds_of (capped n) ≡ holds_of n
holds_of_capped zero = refl
holds_of_capped (suc n) = holds_of_some (capped (suc n)) (omega arith)

-- ---- rows
pub row_is : (g : Grammar) (row : RowId) → IsRowOf g row → IsRow row
row_is grammar.One row h = (h.0, let high = h.1 in omega (arith, high))
row_is grammar.Two row h = h

-- ---- constants
pub some_known : (o : Option Value) → is_some o ≡ true → o ≡ Some (unwrap_or o value.Missing)
some_known None h = absurd (false≢true h)
some_known (Some x) h = refl

pub constant_tuple : (leaders : List VarId) (samples : List (List Value)) (known : Entries) → AreConstants leaders samples known → (vars : List VarId) → all_known known vars ≡ true → All (λ s. tuple_in vars s ≡ known_tuple known vars) samples
constant_tuple leaders samples known are [] h = λ k d m. refl
constant_tuple leaders samples known are (v ∷ vars) h =
    let hs = and_parts (is_some (known_at known v)) (all_known known vars) h in
    let x = unwrap_or (known_at known v) value.Missing in
    let always = ((are.each v x).0 (some_known (known_at known v) hs.0)).1.each in
    let rest = constant_tuple leaders samples known are vars hs.1 in
    λ k d m. ap (λ y. y ∷ tuple_in vars (get_or samples k d)) (always k d m) ∙ ap (λ t. x ∷ t) (rest k d m)

module _ (g : Grammar) (infos : List VarInfo) (point : AreOfPoint infos) (samples : List (List Value)) (sampled : AreSamples infos samples) (kept : Kept) (is : IsKeptOf g infos samples kept) where
  led : AreLeadersOf infos kept.leaders
  led = are_leaders_of infos samples kept.leaders is.leaders point.few

  all_written : All (λ s. All IsWritten s) samples
  all_written = All-weaker (IsSample infos) (λ s. All IsWritten s) (λ s i. i.written) samples sampled

  pub count_of_leaders : (vars : List VarId) → Lead kept.leaders vars → counted_by kept.held vars ≡ count_of vars samples
  count_of_leaders vars lead =
      count_is (own_leaders kept.leaders) samples kept.held is.held.form is.held.counted vars
      (All-weaker (Contains (own_leaders kept.leaders)) (λ v. has (own_leaders kept.leaders) v ≡ true) (has-contains (own_leaders kept.leaders)) vars lead)

  module _ (some : 0 < length samples) where
    -- ---- leaders in written order
    module _ (row : RowId) (vars : List VarId) (over : IsOverLeaders g infos kept.leaders row vars) (written : is_written row vars ≡ true) where
      slot_tells : all_known kept.known vars ≡ false → (o : Option State) → slot_at kept.slots row vars ≡ o → (b : Bool) → is_suppressed (fit_of samples) row vars ≡ b
          → read_slot o b (counted_by kept.held vars) ≡ fit row vars samples
      slot_tells varies (Some s) e b h = ((is.slots.each (record { row = row; leaders = vars; state = s })).0 (slot_found kept.slots row vars s e)).state
      slot_tells varies None e true h =
          let long = admitted_arity row infos vars over.admitted in
          ap holds_of (count_of_leaders vars over.lead ∙ count_of_tuples vars samples)
          ∙ (holds_of_capped (length (tuples_of vars samples)) ∙ sym (suppressed_hold samples all_written row vars long h))
      slot_tells varies None e false h = elim (cases_Bool (is_broken (fit row vars samples))) [
        | inl broken ↦ sym (broken_is (fit row vars samples) broken)
        | inr whole ↦ absurd (slot_missing kept.slots row vars e (fit row vars samples) ((is.slots.each (record { row = row; leaders = vars; state = fit row vars samples })).1 (record {
          some = some;
          over = over;
          written = written;
          varies = varies;
          state = refl;
          unbroken = not_broken (fit row vars samples) whole;
          unsuppressed = h;
        })))
      ]

      -- what is read is the fit, if what answers for lower rows suppresses the same
      pub read_written_fits : (lower : RowId → List VarId → State) → is_suppressed lower row vars ≡ is_suppressed (fit_of samples) row vars → read_written kept lower row vars ≡ fit row vars samples
      read_written_fits lower same = elim (cases_Bool (all_known kept.known vars)) [
        | inl e ↦
            ap (λ b. if b then state_of_one row (known_tuple kept.known vars) else read_slot (slot_at kept.slots row vars) (is_suppressed lower row vars) (counted_by kept.held vars)) e
            ∙ sym (fit_of_one row (row_is g row over.of_grammar) vars (known_tuple kept.known vars) samples some (constant_tuple (own_leaders kept.leaders) samples kept.known is.known vars e))
        | inr e ↦
            ap (λ b. if b then state_of_one row (known_tuple kept.known vars) else read_slot (slot_at kept.slots row vars) (is_suppressed lower row vars) (counted_by kept.held vars)) e
            ∙ slot_tells e (slot_at kept.slots row vars) refl (is_suppressed lower row vars) (sym same)
      ]

    -- ---- leaders in any order
    pub read_leaders_fits : (n : ℕ) (row : RowId) (vars : List VarId) → IsOverLeaders g infos kept.leaders row vars → rank_of row < n → read_leaders n kept row vars ≡ fit row vars samples
    unfolding read_leaders
    read_leaders_fits zero row vars over below = absurd (omega (arith, below))
    read_leaders_fits (suc n) row vars over below =
        let isrow = row_is g row over.of_grammar in
        let admitted = written_tuples_are_admitted row isrow infos vars over.admitted in
        let lead = written_all (Contains (own_leaders kept.leaders)) row vars over.lead in
        let same = suppressed_alike g infos (Contains (own_leaders kept.leaders)) (read_leaders n kept) (fit_of samples) row
        (λ r of lower vs a all. read_leaders_fits n r vs (record { of_grammar = of; admitted = a; lead = all }) (omega (arith, below, lower)))
        (written_order row vars) admitted lead in
        ap (turned_state row vars) (read_written_fits row (written_order row vars) (record { of_grammar = over.of_grammar; admitted = admitted; lead = lead })
        (written_is_written row vars (admitted_few row infos vars over.admitted)) (read_leaders n kept) same)
        ∙ sym (fits_turn row isrow vars (admitted_arity row infos vars over.admitted) samples)

  -- ---- any variables
  pub read_fits : (row : RowId) → IsRowOf g row → (vars : List VarId) → admits row infos vars ≡ true → state_read kept row vars ≡ fit row vars samples
  unfolding state_read
  read_fits row of vars admitted = elim (cases_Bool (kept.samples == 0)) [
    | inl e ↦
        let none : length samples ≡ 0 = (let number = is.number in let zero = eqb-true kept.samples 0 e in omega arith) in
        ap (λ b. if b then Empty else read_leaders 4 kept row (leaders_of kept.leaders vars)) e
        ∙ sym (ap (fit row vars) (no_samples samples none) ∙ fit_of_none row (row_is g row of) vars)
    | inr e ↦
        let there = admitted_there infos row vars admitted in
        ap (λ b. if b then Empty else read_leaders 4 kept row (leaders_of kept.leaders vars)) e
        ∙ (read_leaders_fits (some e) 4 row (leaders_of kept.leaders vars) (record {
          of_grammar = of;
          admitted = admit_all infos point kept.leaders led row vars admitted;
          lead = lead_all infos point kept.leaders led vars there;
        }) (rank_below row (row_is g row of))
        ∙ sym (fit_alike samples vars (leaders_of kept.leaders vars) (agree_all infos samples kept.leaders is.leaders vars there) row))
  ]
    where
      no_samples : (xs : List (List Value)) → length xs ≡ 0 → xs ≡ []
      no_samples [] h = refl
      no_samples (x ∷ xs) h = absurd (omega (arith, h))

      some : (kept.samples == 0) ≡ false → 0 < length samples
      some e = elim (cases_lt 0 (length samples)) [
        | inl l ↦ l
        | inr l ↦ let number = is.number in absurd (true≢false (sym (eq-eqb kept.samples 0 (omega arith)) ∙ e))
      ]

  pub counts_read : (vars : List VarId) → AreThere infos vars → count_read kept vars ≡ count_of vars samples
  counts_read vars there =
      count_of_leaders (leaders_of kept.leaders vars) (lead_all infos point kept.leaders led vars there)
      ∙ sym (count_alike samples vars (leaders_of kept.leaders vars) (agree_all infos samples kept.leaders is.leaders vars there))

  pub agreement_read : (v w : VarId) → v.0 < length infos → w.0 < length infos
      → IsTrue (agree_read kept v w) ↔ ((kind_at (var_kinds infos) v.0 ≡ kind_at (var_kinds infos) w.0) × Agree samples v w)
  agreement_read v w there also =
      let long = long_leaders infos samples kept.leaders is.leaders in
      let kinds = length-map infos (λ (i : VarInfo). i.kind) in
      let lv : v.0 < length kept.leaders = omega arith in
      let lw : w.0 < length kept.leaders = omega arith in (
        λ h.
            let class = class_from_leader (var_kinds infos) samples kept.leaders is.leaders w.0 v.0 lw lv (eqb-true (leader_at kept.leaders v.0) (leader_at kept.leaders w.0) h) in
            (class.kind, class.agree),
        λ h. eq-eqb (leader_at kept.leaders v.0) (leader_at kept.leaders w.0)
            (one_leader (var_kinds infos) samples kept.leaders is.leaders w.0 v.0 lw lv (record { within = omega arith; kind = h.0; agree = h.1 })),
      )

-- ---- the reading theorem
pub reading_is_fit : ReadingIsFit
reading_is_fit g infos point samples sampled kept is row of vars admitted = read_fits g infos point samples sampled kept is row of vars admitted

pub count_read_is_count : CountReadIsCount
count_read_is_count g infos point samples sampled kept is vars there = counts_read g infos point samples sampled kept is vars there

pub agree_read_is_agreement : AgreeReadIsAgreement
agree_read_is_agreement g infos point samples sampled kept is v w there also = agreement_read g infos point samples sampled kept is v w there also
