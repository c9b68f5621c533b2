-- Engines of halves, with one sample more.
use Rattle.std.specs.Prelude.{◌≡◌, ◌<◌, ◌≤◌, ◌+◌, ◌++◌, ℕ, suc, Bool, true, false, All, List, [], ◌∷◌, drop, if◌then◌else◌, length, map, refl, slice_index_or, slice_set, take}
use Rattle.std.specs.List.{AllZip}
use Rattle.std.proofs.Common.{◌∙◌, ap, append-nil, arith, inl, inr, subst, sym}
use Rattle.std.proofs.lemmas.Bool.{cases_eq, cases_lt, false≢true}
use Rattle.std.proofs.lemmas.Grind.{get_or-set_at}
use Rattle.std.proofs.lemmas.List.{drop_all, get_or-set_other, length-set, take_all}
use Rattle.std.proofs.lemmas.List.Elements.{All-append, All-cons, All-head, All-nil, All-tail, All-weaker, length_all_zip}
use Rattle.dk_base.specs.declared.kinds.VarInfo.{VarInfo}
use Rattle.dk_base.specs.declared.values.Value.{Value}
use Rattle.dk_base.specs.declared.values.Value.TheVariants as value
use Rattle.dk_engine.specs.Exact.{AreOfPoint, AreSamples, IsKeptOf}
use Rattle.dk_engine.specs.Reading.Levels.{Whole}
use Rattle.dk_instances.specs.Laws.{IsSample}
use Rattle.dk_hierarchy.specs.Standing.{EngineStandsFor}
use Rattle.dk_samples.specs.Samples.{value_in}
use Rattle.dk_template.specs.declared.grammar.Grammar.{Grammar}
use Rattle.dk_implications.proofs.Growing.{halves_grow_one_by_one}
use Rattle.dk_implications.specs.Halves.{half_of, is_truth}
use Rattle.dk_implications.specs.Conditions.{base_bools}
use Rattle.dk_implications.specs.Standing.{AreAlike, AreEngines, AreFed, AreOver, Engines, HalvesStandFor, StandFor}
use Rattle.dk_implications.specs.declared.halves.Halves.{Halves}

abbrev Samples : Type 0
Samples = List (List Value)

-- items that are related place by place
zip_of : {X : Type 0} (R : X → X → Type 0) (xs ys : List X) → length xs ≡ length ys
    → ((k : ℕ) (d : X) → k < length xs → R (slice_index_or xs k d) (slice_index_or ys k d)) → AllZip R xs ys
zip_of R [] [] long each = tt
zip_of R [] (y ∷ ys) long each = absurd (omega (arith, long))
zip_of R (x ∷ xs) [] long each = absurd (omega (arith, long))
zip_of R (x ∷ xs) (y ∷ ys) long each = (each 0 x (omega arith), zip_of R xs ys (omega (arith, long)) (λ k d l. each (suc k) d (omega (arith, l))))

-- what an engine's `feed` says of it
abbrev pub Takes : List Value → Whole → Whole → Type 0
Takes sample old new =
    (samples : Samples) → AreSamples old.infos samples → IsKeptOf old.grammar old.infos samples old.kept → IsKeptOf old.grammar old.infos (samples ++ sample ∷ []) new.kept

-- an engine has one sample more
pub engine_fed : (old new : Whole) (samples : Samples) (sample : List Value) → new.grammar ≡ old.grammar → new.infos ≡ old.infos → IsSample old.infos sample
    → (AreSamples old.infos samples → IsKeptOf old.grammar old.infos samples old.kept → IsKeptOf old.grammar old.infos (samples ++ sample ∷ []) new.kept)
    → EngineStandsFor old samples → EngineStandsFor new (samples ++ sample ∷ [])
engine_fed old new samples sample grammar infos is fed stands =
    let P : List VarInfo → Type 0 = λ vars. AreSamples vars (samples ++ sample ∷ []) in
    let Q : Grammar → Type 0 = λ g. IsKeptOf g new.infos (samples ++ sample ∷ []) new.kept in
    let R : List VarInfo → Type 0 = λ vars. IsKeptOf old.grammar vars (samples ++ sample ∷ []) new.kept in
    record {
      variables = subst AreOfPoint (sym infos) stands.variables;
      samples_are = subst P (sym infos) (All-append (IsSample old.infos) samples (sample ∷ []) stands.samples_are (All-cons (IsSample old.infos) sample [] is (All-nil (IsSample old.infos))));
      kept_is = subst Q (sym grammar) (subst R (sym infos) (fed stands.samples_are stands.kept_is));
    }

-- a value isn't both
pub not_both : (v : Value) → is_truth true v ≡ true → is_truth false v ≡ false
not_both (value.Bool true) h = refl
not_both (value.Bool false) h = absurd (false≢true h)
not_both value.Missing h = refl
not_both (value.Int z) h = refl
not_both (value.Hash n) h = refl
not_both (value.Str s) h = refl
not_both (value.BoolSeq s) h = refl
not_both (value.IntSeq s) h = refl
not_both (value.HashSeq s) h = refl
not_both (value.StrSeq s) h = refl

-- what a half comes to with a sample that is in it, or not
module _ (halves : Halves) (sample : List Value) (samples : Samples) (truth : Bool) where
  abbrev in_half : Bool
  in_half = is_truth truth (value_in sample halves.condition)

  abbrev half : Samples
  half = half_of samples halves.condition truth

  with_sample : in_half ≡ true → half_of (samples ++ sample ∷ []) halves.condition truth ≡ half ++ sample ∷ []
  with_sample h = halves_grow_one_by_one samples halves.condition truth sample ∙ ap (λ b. if b then half ++ sample ∷ [] else half) h

  without_sample : in_half ≡ false → half_of (samples ++ sample ∷ []) halves.condition truth ≡ half
  without_sample h = halves_grow_one_by_one samples halves.condition truth sample ∙ ap (λ b. if b then half ++ sample ∷ [] else half) h

  pub takes_sample : (engine fed : Whole) → in_half ≡ true → (EngineStandsFor engine half → EngineStandsFor fed (half ++ sample ∷ []))
      → EngineStandsFor engine half → EngineStandsFor fed (half_of (samples ++ sample ∷ []) halves.condition truth)
  takes_sample engine fed h feed stands = subst (EngineStandsFor fed) (sym (with_sample h)) (feed stands)

  pub leaves_sample : (engine : Whole) → in_half ≡ false → EngineStandsFor engine half → EngineStandsFor engine (half_of (samples ++ sample ∷ []) halves.condition truth)
  leaves_sample engine h stands = subst (EngineStandsFor engine) (sym (without_sample h)) stands

module _ (halves : Halves) (sample : List Value) where
  abbrev value_here : Value
  value_here = value_in sample halves.condition

  abbrev Feeds : Whole → Whole → Type 0
  Feeds engine fed = (samples : Samples) → EngineStandsFor engine samples → EngineStandsFor fed (samples ++ sample ∷ [])

  pub fed_when_true : (fed : Whole) → fed.grammar ≡ halves.when_true.grammar → fed.infos ≡ halves.when_true.infos → is_truth true value_here ≡ true → Feeds halves.when_true fed
      → AreFed sample halves (record halves { when_true = fed })
  fed_when_true fed grammar infos h feeds = record {
    alike = record { condition = refl; true_grammar = grammar; true_infos = infos; false_grammar = refl; false_infos = refl };
    stand = λ samples stand. record {
      when_true = takes_sample halves sample samples true halves.when_true fed h (feeds (half_of samples halves.condition true)) stand.when_true;
      when_false = leaves_sample halves sample samples false halves.when_false (not_both value_here h) stand.when_false;
    };
  }

  pub fed_when_false : (fed : Whole) → fed.grammar ≡ halves.when_false.grammar → fed.infos ≡ halves.when_false.infos → is_truth true value_here ≡ false → is_truth false value_here ≡ true
      → Feeds halves.when_false fed → AreFed sample halves (record halves { when_false = fed })
  fed_when_false fed grammar infos not_true h feeds = record {
    alike = record { condition = refl; true_grammar = refl; true_infos = refl; false_grammar = grammar; false_infos = infos };
    stand = λ samples stand. record {
      when_true = leaves_sample halves sample samples true halves.when_true not_true stand.when_true;
      when_false = takes_sample halves sample samples false halves.when_false fed h (feeds (half_of samples halves.condition false)) stand.when_false;
    };
  }

  pub fed_neither : is_truth true value_here ≡ false → is_truth false value_here ≡ false → AreFed sample halves halves
  fed_neither not_true not_false = record {
    alike = record { condition = refl; true_grammar = refl; true_infos = refl; false_grammar = refl; false_infos = refl };
    stand = λ samples stand. record {
      when_true = leaves_sample halves sample samples true halves.when_true not_true stand.when_true;
      when_false = leaves_sample halves sample samples false halves.when_false not_false stand.when_false;
    };
  }

pub alike_itself : (halves : Halves) → AreAlike halves halves
alike_itself halves = record { condition = refl; true_grammar = refl; true_infos = refl; false_grammar = refl; false_infos = refl }

-- ---- all halves, one after another
module _ (sample : List Value) (old all : List Halves) (place : ℕ) where
  -- those in front of the place have the sample
  abbrev pub AreDone : Type 0
  AreDone = (k : ℕ) (d : Halves) → k < place → AreFed sample (slice_index_or old k d) (slice_index_or all k d)

  -- the others are as they were
  abbrev pub AreLeft : Type 0
  AreLeft = (k : ℕ) (d : Halves) → place ≤ k → slice_index_or all k d ≡ slice_index_or old k d

-- the one at the place, of which this is so, is replaced
module _ (sample : List Value) (old all : List Halves) (place : ℕ) (fed : Halves) (within : place < length all) where
  abbrev replaced : List Halves
  replaced = slice_set all place fed

  pub done_more : ((d : Halves) → AreFed sample (slice_index_or old place d) fed) → AreDone sample old all place → AreDone sample old replaced (place + 1)
  done_more here done k d l = elim (cases_eq k place) as (λ _. AreFed sample (slice_index_or old k d) (slice_index_or replaced k d)) [
    | inl same ↦
        subst (AreFed sample (slice_index_or old k d)) (sym (get_or-set_at all place k fed d same within))
        (subst (λ n. AreFed sample (slice_index_or old n d) fed) (sym same) (here d))
    | inr other ↦
        (let before : k < place = omega (arith, l, other) in
        subst (AreFed sample (slice_index_or old k d)) (sym (get_or-set_other all place k fed d other)) (done k d before))
  ]

  pub left_more : AreLeft sample old all place → AreLeft sample old replaced (place + 1)
  left_more left k d l = get_or-set_other all place k fed d (λ same. omega (arith, l, same)) ∙ left k d (omega (arith, l))

  alike_there : ((d : Halves) → AreAlike (slice_index_or old place d) fed) → AreDone sample old all place → AreLeft sample old all place
      → (k : ℕ) (d : Halves) → AreAlike (slice_index_or old k d) (slice_index_or replaced k d)
  alike_there here done left k d = elim (cases_eq k place) as (λ _. AreAlike (slice_index_or old k d) (slice_index_or replaced k d)) [
    | inl same ↦
        subst (AreAlike (slice_index_or old k d)) (sym (get_or-set_at all place k fed d same within))
        (subst (λ n. AreAlike (slice_index_or old n d) fed) (sym same) (here d))
    | inr other ↦
        subst (AreAlike (slice_index_or old k d)) (sym (get_or-set_other all place k fed d other))
        (elim (cases_lt k place) as (λ _. AreAlike (slice_index_or old k d) (slice_index_or all k d)) [
          | inl before ↦ (done k d before).alike
          | inr behind ↦ subst (AreAlike (slice_index_or old k d)) (sym (left k d behind)) (alike_itself (slice_index_or old k d))
        ])
  ]

  pub alike_more : length all ≡ length old → ((d : Halves) → AreAlike (slice_index_or old place d) fed) → AreDone sample old all place → AreLeft sample old all place
      → AllZip AreAlike old replaced
  alike_more long here done left =
      let set = length-set all place fed in
      zip_of AreAlike old replaced (omega (arith, set, long)) (λ k d l. alike_there here done left k d)

-- all of them have the sample
module _ (sample : List Value) (old all : List Halves) (place : ℕ) (end : length old ≤ place) (long : length all ≡ length old) (done : AreDone sample old all place) where
  pub all_fed : AllZip (AreFed sample) old all
  all_fed = zip_of (AreFed sample) old all (omega (arith, long)) (λ k d l. done k d (omega (arith, l, end)))

  pub all_alike : AllZip AreAlike old all
  all_alike = zip_of AreAlike old all (omega (arith, long)) (λ k d l. (done k d (omega (arith, l, end))).alike)

-- ---- the engines of a point
pub conditions_alike : (old all : List Halves) → AllZip AreAlike old all → map (λ (halves : Halves). halves.condition) all ≡ map (λ (halves : Halves). halves.condition) old
conditions_alike [] [] alike = refl
conditions_alike [] (h ∷ all) alike = absurd alike
conditions_alike (h ∷ old) [] alike = absurd alike
conditions_alike (h ∷ old) (g ∷ all) alike = λ i. alike.0.condition i ∷ conditions_alike old all alike.1 i

module _ (grammar : Grammar) (infos : List VarInfo) where
  over_same : (h g : Halves) → AreAlike h g → AreOver grammar infos h → AreOver grammar infos g
  over_same h g alike over = record {
    true_grammar = alike.true_grammar ∙ over.true_grammar;
    true_infos = alike.true_infos ∙ over.true_infos;
    false_grammar = alike.false_grammar ∙ over.false_grammar;
    false_infos = alike.false_infos ∙ over.false_infos;
  }

  over_alike : (old all : List Halves) → AllZip AreAlike old all → All (AreOver grammar infos) old → All (AreOver grammar infos) all
  over_alike [] [] alike over = All-nil (AreOver grammar infos)
  over_alike [] (h ∷ all) alike over = absurd alike
  over_alike (h ∷ old) [] alike over = absurd alike
  over_alike (h ∷ old) (g ∷ all) alike over =
      All-cons (AreOver grammar infos) g all (over_same h g alike.0 (All-head (AreOver grammar infos) h old over)) (over_alike old all alike.1 (All-tail (AreOver grammar infos) h old over))

module _ (sample : List Value) (samples : Samples) where
  abbrev Stood : Halves → Type 0
  Stood halves = HalvesStandFor halves samples

  abbrev Stand : Halves → Type 0
  Stand halves = HalvesStandFor halves (samples ++ sample ∷ [])

  pub stand_fed : (old all : List Halves) → AllZip (AreFed sample) old all → All Stood old → All Stand all
  stand_fed [] [] fed stand = All-nil Stand
  stand_fed [] (h ∷ all) fed stand = absurd fed
  stand_fed (h ∷ old) [] fed stand = absurd fed
  stand_fed (h ∷ old) (g ∷ all) fed stand = All-cons Stand g all (fed.0.stand samples (All-head Stood h old stand)) (stand_fed old all fed.1 (All-tail Stood h old stand))

-- what is written back into a vector, where there are as many
written_back : (n : ℕ) (old new : List Halves) → length old ≡ n → length new ≡ length old → take n (new ++ drop (length new) old) ≡ new
written_back n old new long same =
    ap (λ (rest : List Halves). take n (new ++ rest)) (drop_all (length new) old (omega (arith, same)))
    ∙ (ap (take n) (append-nil new) ∙ take_all n new (omega (arith, long, same)))

-- they are a point's with other engines that are alike
pub engines_alike : (old new : Engines) → new.whole.grammar ≡ old.whole.grammar → new.whole.infos ≡ old.whole.infos → AllZip AreAlike old.halves new.halves → AreEngines old → AreEngines new
engines_alike old new grammar infos alike are = record {
  point = subst AreOfPoint (sym infos) are.point;
  conditions = conditions_alike old.halves new.halves alike ∙ (are.conditions ∙ ap base_bools (sym infos));
  over =
      subst (λ g. All (AreOver g new.whole.infos) new.halves) (sym grammar)
      (subst (λ vars. All (AreOver old.whole.grammar vars) new.halves) (sym infos) (over_alike old.whole.grammar old.whole.infos old.halves new.halves alike are.over));
}

-- they take a sample of the point's variables
pub all_take : (engines : Engines) (sample : List Value) → IsSample engines.whole.infos sample → AreEngines engines
    → All (λ (halves : Halves). IsSample halves.when_true.infos sample × IsSample halves.when_false.infos sample) engines.halves
all_take engines sample is are =
    All-weaker (AreOver engines.whole.grammar engines.whole.infos) (λ (halves : Halves). IsSample halves.when_true.infos sample × IsSample halves.when_false.infos sample)
    (λ halves over. (subst (λ vars. IsSample vars sample) (sym over.true_infos) is, subst (λ vars. IsSample vars sample) (sym over.false_infos) is))
    engines.halves are.over

-- ---- a vector of halves that was fed
module _ (sample : List Value) (old : Engines) (whole : Whole) (grammar : whole.grammar ≡ old.whole.grammar) (infos : whole.infos ≡ old.whole.infos) (all : List Halves)
    (n : ℕ) (long : length old.halves ≡ n) (alike : AllZip AreAlike old.halves all)
  where
    abbrev fed_engines : Engines
    fed_engines = record { whole = whole; halves = take n (all ++ drop (length all) old.halves) }

    same : take n (all ++ drop (length all) old.halves) ≡ all
    same = written_back n old.halves all long (sym (length_all_zip AreAlike old.halves all alike))

    pub fed_are : AreEngines old → AreEngines fed_engines
    fed_are are = engines_alike old fed_engines grammar infos (subst (AllZip AreAlike old.halves) (sym same) alike) are

    pub fed_stand : IsSample old.whole.infos sample → Takes sample old.whole whole → AllZip (AreFed sample) old.halves all
        → (samples : Samples) → StandFor old samples → StandFor fed_engines (samples ++ sample ∷ [])
    fed_stand is takes fed samples stand = record {
      whole = engine_fed old.whole whole samples sample grammar infos is (takes samples) stand.whole;
      halves = subst (All (λ (halves : Halves). HalvesStandFor halves (samples ++ sample ∷ []))) (sym same) (stand_fed sample samples old.halves all fed stand.halves);
    }
