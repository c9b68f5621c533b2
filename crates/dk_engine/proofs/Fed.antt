-- The parts with one sample more are what is kept of the samples and that one.
use Rattle.std.specs.Prelude.{◌≡◌, ◌<◌, List, [], ◌∷◌, ◌++◌, length, map, refl}
use Rattle.std.proofs.Common.{arith, sym, inl, inr, subst}
use Rattle.std.proofs.lemmas.Bool.{cases_lt}
use Rattle.std.proofs.lemmas.List.{length_push, map-append}
use Rattle.std.proofs.lemmas.List.Elements.{All-push}
use Rattle.std.proofs.lemmas.List.Kept.{AllPairs-filter}
use Rattle.dk_base.specs.declared.kinds.VarId.{VarId}
use Rattle.dk_base.specs.declared.kinds.VarInfo.{VarInfo}
use Rattle.dk_base.specs.declared.values.Value.{Value}
use Rattle.dk_classes.proofs.Agreement.{lead_now, leaders_split}
use Rattle.dk_classes.proofs.OwnLeaders.{own_ascend}
use Rattle.dk_classes.specs.Classes.{AreLeaders, var_kinds}
use Rattle.dk_classes.specs.Leaders.{own_leaders}
use Rattle.dk_constants.proofs.Feeding.{constants_fed, constants_first, ended_fed}
use Rattle.dk_constants.specs.Constants.{AreConstants, AreFed}
use Rattle.dk_instances.specs.Laws.{IsSample}
use Rattle.dk_presence.proofs.Adding.{counted_added}
use Rattle.dk_presence.proofs.Placing.{held_added}
use Rattle.dk_presence.proofs.Refining.{are_refined, counted_now, led_has}
use Rattle.dk_presence.specs.Patterns.{AreCounted, patterns_of, present_in}
use Rattle.dk_presence.specs.Steps.{refined, with_sample_of}
use Rattle.dk_samples.specs.Leaders.{LeadNow}
use Rattle.dk_samples.specs.Samples.{is_present, value_in}
use Rattle.dk_template.specs.declared.grammar.Grammar.{Grammar}
use Rattle.dk_engine.proofs.Leading.{are_leaders_of}
use Rattle.dk_engine.proofs.OneMore.{read_after_is_fit}
use Rattle.dk_engine.proofs.PartsOfSamples.{parts_of_kept}
use Rattle.dk_engine.proofs.SlotLists.{slots_exact}
use Rattle.dk_engine.proofs.Unchanging.{first_sample_has_no_slots, unchanged_slots_are_exact}
use Rattle.dk_engine.proofs.Turned.{differ, parts_can_be_fed, unheld}
use Rattle.dk_engine.specs.Saved.Conditions.{CanBeFed}
use Rattle.dk_engine.specs.Exact.{AreOfPoint, ArePatterns, AreSamples, AreSlots, IsKeptOf}
use Rattle.dk_engine.specs.Feeding.{IsTurned, parts_after, read_after, slots_of, unchanged_now}
use Rattle.dk_engine.specs.Laws.{FedPartsAreExact}
use Rattle.dk_engine.specs.declared.kept.Kept.{Kept}
use Rattle.dk_engine.specs.declared.feed.now.Now.{Now}
use Rattle.dk_engine.specs.declared.slots.slot.Slot.{Slot}
use Rattle.dk_engine.specs.Feeding.Step.{ChangesNothing, IsNow, IsStep}

no_samples : (ss : List (List Value)) → length ss ≡ 0 → ss ≡ []
no_samples [] e = refl
no_samples (s ∷ ss) e = absurd (omega (arith, e))

module _ (g : Grammar) (infos : List VarInfo) (point : AreOfPoint infos) (samples : List (List Value)) (sampled : AreSamples infos samples) (kept : Kept) (is : IsKeptOf g infos samples kept)
    (sample : List Value) (now : Now) (turned : IsTurned kept sample now) where
  abbrev old : List VarId
  old = own_leaders kept.leaders

  abbrev led : List VarId
  led = own_leaders now.leaders

  lead : LeadNow old now.new samples led
  lead = lead_now kept.leaders sample now.leaders now.new (are_leaders_of infos samples kept.leaders is.leaders point.few).classes turned.leaders turned.born (var_kinds infos) samples is.leaders

  some_now : 0 < length (samples ++ sample ∷ [])
  some_now = let long = length_push samples sample in omega arith

  leaders_now : AreLeaders (var_kinds infos) (samples ++ sample ∷ []) now.leaders
  leaders_now = leaders_split (var_kinds infos) samples kept.leaders is.leaders sample now.leaders turned.leaders

  -- ---- constants
  known_first : length samples ≡ 0 → AreConstants led (samples ++ sample ∷ []) now.known
  known_first none =
      subst (λ ss. AreConstants led (ss ++ sample ∷ []) now.known) (sym (no_samples samples none))
      (subst (AreConstants led (sample ∷ [])) (sym (turned.first (let number = is.number in omega (arith, number, none)))) (constants_first led sample (own_ascend now.leaders)))

  later : 0 < length samples → AreFed kept.known now.new sample now.known now.ended
  later some = turned.later (let number = is.number in omega (arith, number, some))

  known_later : 0 < length samples → AreConstants led (samples ++ sample ∷ []) now.known
  known_later some = constants_fed old now.new samples sample led kept.known now.known now.ended is.known lead (later some) some

  known_now : AreConstants led (samples ++ sample ∷ []) now.known
  known_now = elim (cases_lt 0 (length samples)) [ inl some ↦ known_later some | inr none ↦ known_first (omega (arith, none)) ]

  pub is_now : 0 < length samples → IsNow infos samples sample kept now
  is_now some = record {
    leaders = leaders_now;
    known = known_later some;
    new = turned.born;
    ended = ended_fed old now.new samples sample led kept.known now.known now.ended is.known lead (later some);
  }

  pub is_step : IsSample infos sample → 0 < length samples → IsStep g infos samples sample kept now
  is_step of some = record { some = some; all = All-push (IsSample infos) samples sample sampled of; before = is; after = is_now some }

  -- ---- patterns
  can : CanBeFed g infos kept
  can = parts_can_be_fed g infos kept (parts_of_kept g infos point samples sampled kept is)

  pub patterns_now : ArePatterns led (samples ++ sample ∷ []) (with_sample_of (present_in led sample) (map (refined now.new) kept.held))
  patterns_now =
      let present = present_in led sample in
      let up = AllPairs-filter (λ (v w : VarId). v.0 < w.0) (λ v. is_present (value_in sample v)) led (own_ascend now.leaders) in
      let differs = differ g infos kept can now.leaders now.new turned.born in
      let away = unheld g infos kept can now.leaders now.new turned.born in
      let form = are_refined now.new differs kept.held is.held.form away in
      let counted = counted_now old now.new led differs (own_ascend kept.leaders) (own_ascend now.leaders) (led_has old now.new samples led lead) samples lead kept.held is.held.form away is.held.counted in
      record {
        form = held_added present (map (refined now.new) kept.held) up form;
        counted = subst (λ ps. AreCounted ps (with_sample_of present (map (refined now.new) kept.held))) (sym (map-append (present_in led) samples (sample ∷ []))) (counted_added (patterns_of led samples) (map (refined now.new) kept.held) present counted);
      }

  -- ---- all parts, by exact slots
  pub kept_now : (slots : List Slot) → AreSlots g infos (samples ++ sample ∷ []) now.leaders now.known slots → IsKeptOf g infos (samples ++ sample ∷ []) (parts_after kept.samples kept.held sample now slots)
  kept_now slots exact = record {
    number = let n = is.number in let long = length_push samples sample in omega (arith, n, long);
    leaders = leaders_now;
    known = known_now;
    held = patterns_now;
    slots = exact;
  }

  -- with the first sample there are no slots
  pub first_parts_exact : kept.samples ≡ 0 → IsKeptOf g infos (samples ++ sample ∷ []) (parts_after kept.samples kept.held sample now [])
  first_parts_exact first =
      let number = is.number in
      let none : samples ≡ [] = no_samples samples (omega (arith, number, first)) in
      kept_now [] (subst (λ ss. AreSlots g infos (ss ++ sample ∷ []) now.leaders now.known []) (sym none)
      (first_sample_has_no_slots g infos sample now.leaders (subst (λ ss. AreLeaders (var_kinds infos) (ss ++ sample ∷ []) now.leaders) none leaders_now) now.known (subst (λ ss. AreConstants led (ss ++ sample ∷ []) now.known) none known_now)))

pub fed_parts_exact : FedPartsAreExact
fed_parts_exact g infos point samples sampled kept is sample of now after fed =
    subst (IsKeptOf g infos (samples ++ sample ∷ [])) (sym fed.parts) (kept_now g infos point samples sampled kept is sample now fed.turned (slots_of g infos (own_leaders now.leaders) now.known (read_after kept sample))
    (slots_exact g infos (samples ++ sample ∷ []) (some_now g infos point samples sampled kept is sample now fed.turned) now.leaders (own_ascend now.leaders) now.known (read_after kept sample)
    (λ row of vars a. read_after_is_fit g infos point samples sampled kept is sample row of vars a)))

-- where a sample changes nothing only the patterns' counts grow
pub quiet_parts_exact : (g : Grammar) (infos : List VarInfo) → AreOfPoint infos → (samples : List (List Value)) → AreSamples infos samples → (kept : Kept) → IsKeptOf g infos samples kept
    → (sample : List Value) → IsSample infos sample → 0 < kept.samples → IsTurned kept sample (unchanged_now kept) → ChangesNothing sample kept (unchanged_now kept)
    → IsKeptOf g infos (samples ++ sample ∷ []) (parts_after kept.samples kept.held sample (unchanged_now kept) kept.slots)
quiet_parts_exact g infos point samples sampled kept is sample of some turned quiet =
    let step = is_step g infos point samples sampled kept is sample (unchanged_now kept) turned of (let number = is.number in omega (arith, number, some)) in
    kept_now g infos point samples sampled kept is sample (unchanged_now kept) turned kept.slots (unchanged_slots_are_exact g infos samples sample kept (unchanged_now kept) step quiet)
