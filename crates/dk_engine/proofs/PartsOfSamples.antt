-- What is kept of samples meets the conditions: all of them together.
use Rattle.std.specs.Prelude.{◌≡◌, ◌<◌, ◌==◌, ℕ, Bool, true, false, if◌then◌else◌, All, Contains, List, [], ◌∷◌, Some, length, refl}
use Rattle.std.specs.List.{list_all}
use Rattle.std.proofs.Common.{ap, ◌∙◌, arith, get_or, sym, inl, inr, subst}
use Rattle.std.proofs.lemmas.Bool.{cases_Bool, cases_lt, eq-eqb, eqb-true}
use Rattle.std.proofs.lemmas.List.{get_or_past}
use Rattle.std.proofs.lemmas.List.Elements.{All-nil, Contains-get_or}
use Rattle.dk_base.specs.Values.{IsOfKind}
use Rattle.dk_base.specs.Values.Spelling.{IsWritten}
use Rattle.dk_base.specs.declared.kinds.VarId.{VarId}
use Rattle.dk_base.specs.declared.kinds.VarInfo.{VarInfo}
use Rattle.dk_base.specs.declared.values.Value.{Value}
use Rattle.dk_base.specs.declared.values.Value.TheVariants as value
use Rattle.dk_classes.proofs.OwnLeaders.{leads_from_own}
use Rattle.dk_classes.specs.Classes.{kind_at, var_kinds}
use Rattle.dk_classes.specs.Leaders.{own_leaders}
use Rattle.dk_constants.proofs.Determined.{known_some}
use Rattle.dk_constants.specs.Known.{Entries, known_at}
use Rattle.dk_instances.proofs.Fitting.{count_of_none, count_of_tuples, fit_of_plain}
use Rattle.dk_instances.proofs.Whole.{fit_is_proper}
use Rattle.dk_instances.specs.Fits.{fit, tuples_of}
use Rattle.dk_instances.specs.Laws.{satisfies}
use Rattle.dk_forms.specs.declared.states.State.TheVariants as state
use Rattle.dk_presence.specs.Patterns.{capped, count_of, counted_by, has, present_in}
use Rattle.dk_meanings.proofs.RowLaws.{laws_of}
use Rattle.dk_meanings.specs.Meanings.{state_of}
use Rattle.dk_samples.specs.Samples.{is_present, value_in}
use Rattle.dk_suppress.proofs.Asking.{suppressed_alike}
use Rattle.dk_suppress.specs.Rules.{is_suppressed}
use Rattle.dk_suppress.specs.Soundness.{fit_of}
use Rattle.dk_template.proofs.WrittenTuples.{rank_below}
use Rattle.dk_template.specs.Proper.{IsProper}
use Rattle.dk_template.specs.Templates.{form_of}
use Rattle.dk_template.specs.declared.grammar.Grammar.{Grammar}
use Rattle.dk_engine.proofs.Leading.{are_leaders_of, long_leaders}
use Rattle.dk_engine.proofs.Meeting.{has_present, held_of_sample, in_pattern, kind_of_value}
use Rattle.dk_engine.proofs.Readings.{count_of_leaders, read_leaders_fits, row_is}
use Rattle.dk_engine.specs.Saved.Conditions.{AreParts, ArePatternsOf, IsConstantOf, IsSlotOf, IsValueOf}
use Rattle.dk_engine.specs.Exact.{AreOfPoint, AreSamples, IsKeptOf, IsSlot}
use Rattle.dk_engine.specs.Laws.{KeptPartsMeetTheirConditions}
use Rattle.dk_engine.specs.Reading.{read_leaders}
use Rattle.dk_engine.specs.declared.kept.Kept.{Kept}
use Rattle.dk_engine.specs.declared.slots.slot.Slot.{Slot}

-- ---- states
-- where a plain row's state is Empty there is no tuple
empty_counts : (n : ℕ) (b : Bool) → (if n == 0 then state.Empty else if b then state.Holds else state.Broken) ≡ state.Empty → n ≡ 0
empty_counts n b h = elim (cases_Bool (n == 0)) [
  | inl e ↦ eqb-true n 0 e
  | inr m ↦ absurd (told b (sym (ap (λ z. if z then state.Empty else if b then state.Holds else state.Broken) m) ∙ h))
]
  where
    told : (b : Bool) → (if b then state.Holds else state.Broken) ≡ state.Empty → ⊥
    told true e = absurd (cc)
    told false e = absurd (cc)

no_tuples : (ts : List (List Value)) → capped (length ts) ≡ 0 → ts ≡ []
no_tuples [] h = refl
no_tuples (t ∷ ts) h = absurd (omega (arith, h))

module _ (g : Grammar) (infos : List VarInfo) (point : AreOfPoint infos) (samples : List (List Value)) (sampled : AreSamples infos samples) (kept : Kept) (is : IsKeptOf g infos samples kept) where
  abbrev own : List VarId
  own = own_leaders kept.leaders

  -- ---- patterns
  patterns_of_kept : ArePatternsOf kept
  patterns_of_kept = record {
    form = is.held.form;
    lead = λ i d l.
        let s = held_of_sample own samples kept.held is.held.form is.held.counted i d l in
        subst (λ p. All (Contains own) p) (sym s.2) (all_in (get_or samples s.0 []));
    sum = count_of_leaders g infos point samples sampled kept is [] (All-nil (Contains own)) ∙ (count_of_none samples ∙ sym is.number);
  }
    where
      all_in : (sample : List Value) → All (Contains own) (present_in own sample)
      all_in sample k d l = in_pattern own sample (get_or (present_in own sample) k d) (Contains-get_or (present_in own sample) k d l)

  -- ---- constants
  module _ (some : 0 < length samples) (v : VarId) (x : Value) (h : known_at kept.known v ≡ Some x) where
    led : Contains own v
    led = ((is.known.each v x).0 h).0

    always : All (λ s. value_in s v ≡ x) samples
    always = ((is.known.each v x).0 h).1.each

    within : v.0 < length infos
    within = let l = (leads_from_own kept.leaders v led).0 in let long = long_leaders infos samples kept.leaders is.leaders in omega arith

    value_of_kept : IsValueOf infos v x
    value_of_kept = record {
      kind = subst (IsOfKind (kind_at (var_kinds infos) v.0)) (always 0 [] some) (kind_of_value infos (get_or samples 0 []) (sampled 0 [] some).kinds v.0 within);
      written = subst IsWritten (always 0 [] some) (written_value (get_or samples 0 []) (sampled 0 [] some).written);
    }
      where
        written_value : (sample : List Value) → All IsWritten sample → IsWritten (value_in sample v)
        written_value sample w = elim (cases_lt v.0 (length sample)) [
          | inl l ↦ w v.0 value.Missing l
          | inr n ↦ subst IsWritten (sym (get_or_past sample v.0 value.Missing n)) tt
        ]

    constant_of_kept : IsConstantOf kept v x
    constant_of_kept = record {
      leads = led;
      present = λ i d l.
          let s = held_of_sample own samples kept.held is.held.form is.held.counted i d l in
          ap (λ p. has p v) s.2 ∙ (has_present own (get_or samples s.0 []) v led ∙ ap is_present (always s.0 [] s.1));
    }

  -- ---- slots
  module _ (slot : Slot) (of : IsSlot g infos samples kept.leaders kept.known slot) where
    counted : counted_by kept.held slot.leaders ≡ count_of slot.leaders samples
    counted = count_of_leaders g infos point samples sampled kept is slot.leaders of.over.lead

    absent : counted_by kept.held slot.leaders ≡ 0 → slot.state ≡ state.Empty
    unfolding fit
    absent none =
        of.state
        ∙ (ap (state_of slot.row) (no_tuples (tuples_of slot.leaders samples) (sym (count_of_tuples slot.leaders samples) ∙ (sym counted ∙ none)))
        ∙ (laws_of slot.row (row_is g slot.row of.over.of_grammar)).none)

    suppressed_same : is_suppressed (read_leaders 4 kept) slot.row slot.leaders ≡ is_suppressed (fit_of samples) slot.row slot.leaders
    suppressed_same =
        suppressed_alike g infos (Contains own) (read_leaders 4 kept) (fit_of samples) slot.row
        (λ r o below vs a all. read_leaders_fits g infos point samples sampled kept is of.some 4 r vs (record { of_grammar = o; admitted = a; lead = all }) (rank_below r (row_is g r o)))
        slot.leaders of.over.admitted of.over.lead

    proper : IsProper (form_of slot.row) slot.state
    proper = subst (IsProper (form_of slot.row)) (sym of.state) (fit_is_proper slot.row (row_is g slot.row of.over.of_grammar) infos slot.leaders of.over.admitted samples sampled)

    slot_of_kept : IsSlotOf g infos kept slot
    slot_of_kept = record {
      over = of.over;
      written = of.written;
      varies = of.varies;
      unbroken = of.unbroken;
      absent = absent;
      present = λ plain empty. counted ∙ empty_counts (count_of slot.leaders samples) (list_all (satisfies slot.row slot.leaders) samples)
          (sym (fit_of_plain slot.row (row_is g slot.row of.over.of_grammar) plain slot.leaders samples) ∙ (sym of.state ∙ empty));
      unsuppressed = suppressed_same ∙ of.unsuppressed;
    }

  no_samples : length samples ≡ 0 → (length kept.known ≡ 0) × (length kept.slots ≡ 0)
  no_samples none = (no_known kept.known (λ v x e. known_some own samples kept.known is.known v x e), none_of kept.slots (λ s h. (is.slots.each s).0 h))
    where
      no_known : (known : Entries) → ((v : VarId) (x : Value) → known_at known v ≡ Some x → 0 < length samples) → length known ≡ 0
      no_known [] f = refl
      no_known (k ∷ known) f = let some = f k.0 k.1 (ap (λ b. if b then Some k.1 else known_at known k.0) (eq-eqb k.0.0 k.0.0 refl)) in absurd (omega (arith, some, none))

      none_of : (slots : List Slot) → ((s : Slot) → Contains slots s → IsSlot g infos samples kept.leaders kept.known s) → length slots ≡ 0
      none_of [] f = refl
      none_of (s ∷ slots) f = let some = (f s (0, omega arith, refl)).some in absurd (omega (arith, some, none))

  pub parts_of_kept : AreParts g infos kept
  parts_of_kept = record {
    readable = record {
      leaders = are_leaders_of infos samples kept.leaders is.leaders point.few;
      values = λ v x h. value_of_kept (known_some own samples kept.known is.known v x h) v x h;
      states = λ k d l. proper (get_or kept.slots k d) ((is.slots.each (get_or kept.slots k d)).0 (Contains-get_or kept.slots k d l));
    };
    patterns = patterns_of_kept;
    ascend = is.known.ascend;
    constants = λ v x h. constant_of_kept (known_some own samples kept.known is.known v x h) v x h;
    in_order = is.slots.ascend;
    slots = λ k d l. slot_of_kept (get_or kept.slots k d) ((is.slots.each (get_or kept.slots k d)).0 (Contains-get_or kept.slots k d l));
    none = λ zero. no_samples (let number = is.number in omega (arith, number, zero));
  }

pub kept_parts_meet : KeptPartsMeetTheirConditions
kept_parts_meet g infos point samples sampled kept is = parts_of_kept g infos point samples sampled kept is
