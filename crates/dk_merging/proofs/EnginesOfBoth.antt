-- The engines of both states, and what they stand for.
use Rattle.std.specs.Prelude.{◌≡◌, ◌<◌, ◌≤◌, ◌+◌, ◌++◌, ◌∷◌, ◌^◌, [], ℕ, zero, suc, All, IfOk, List, None, Some, if◌then◌else◌, Ok, Err, Result, length, map, max, refl, slice_get, slice_index_or}
use Rattle.std.specs.List.{range_with_len, zip}
use Rattle.std.proofs.Common.{◌∙◌, ap, append-nil, arith, get_or, inl, inr, subst, sym}
use Rattle.std.proofs.lemmas.Bool.{cases_lt, ne_eqb}
use Rattle.std.proofs.lemmas.List.{get_or_past, length-map, map-append}
use Rattle.std.proofs.lemmas.List.FromFn.{get_or-map-range_with_len, length-map-range_with_len}
use Rattle.std.proofs.lemmas.List.Elements.{All-append}
use Rattle.std.proofs.lemmas.Option.{slice_get-get_or}
use Rattle.dk_base.specs.declared.values.Value.{Value}
use Rattle.dk_derive.specs.Values.{values_by_form}
use Rattle.dk_engine.specs.Exact.{AreOfPoint, AreSamples, IsKeptOf}
use Rattle.dk_engine.specs.Reading.Levels.{Whole}
use Rattle.dk_engine.specs.Saved.{AreSavedParts, parts_of}
use Rattle.dk_engine.specs.declared.kept.Kept.{Kept}
use Rattle.dk_instances.specs.Laws.{IsSample}
use Rattle.dk_graph.proofs.Places.{some-injective}
use Rattle.dk_hierarchy.specs.Samples.{OwnSamples, all_vars_of, own_samples_of}
use Rattle.dk_hierarchy.specs.Standing.{AreEnginesOf}
use Rattle.dk_join.specs.Joined.{AreJoinedParts}
use Rattle.dk_join.specs.Joining.{AreAlike}
use Rattle.dk_join.specs.Laws.{AreKeptOf}
use Rattle.dk_join.specs.declared.joining.JoinFault.{JoinFault}
use Rattle.dk_points.specs.Table.{Point}
use Rattle.dk_presence.specs.Patterns.{capped}
use Rattle.dk_state.proofs.Loads.{parts_saved}
use Rattle.dk_state.specs.Fitting.{FitsSlot}
use Rattle.dk_state.specs.Loading.{AreSaved}
use Rattle.dk_state.specs.Spelling.{AreSavedAt, IsSavedAt, saved_parts}
use Rattle.dk_state.specs.StateFile.{StandForHistory}
use Rattle.dk_template.specs.declared.grammar.Grammar.{Grammar}
use Rattle.dk_merging.specs.Engines.{AreEnginesOfBoth, HaveNoJoinSomewhere, IsEngineOfBoth, IsSound}
use Rattle.dk_merging.specs.Merging.{own_of_both}
use Rattle.dk_merging.specs.Numbers.{AreWithin}
use Rattle.dk_merging.proofs.Heads.{all_at}

-- ---- one point
-- the first alone
pub first_alone : (one other : Whole) → IsSound one → IsSound other → other.kept.samples ≡ 0 → IsEngineOfBoth one other one
first_alone one other sound also none = record {
  first_sound = sound;
  second_sound = also;
  grammar = refl;
  infos = refl;
  first_alone = λ _. refl;
  second_alone = λ _ some. absurd (omega (arith, none, some));
  joined = λ _ some. absurd (omega (arith, none, some));
  stands = λ samples others are.
      let nothing : others ≡ [] = without others are.second_kept.number in
      subst (λ all. IsKeptOf one.grammar one.infos all one.kept) (sym (ap (λ o. samples ++ o) nothing ∙ append-nil samples)) are.first_kept;
}
  where
    without : (others : List (List Value)) → other.kept.samples ≡ capped (length others) → others ≡ []
    without [] e = refl
    without (s ∷ others) e = absurd (omega (arith, e, none))

-- the second alone
pub second_alone : (one other : Whole) → IsSound one → IsSound other → AreAlike (record { first = one; second = other }) → one.kept.samples ≡ 0 → 0 < other.kept.samples
    → IsEngineOfBoth one other other
second_alone one other sound also alike none more = record {
  first_sound = sound;
  second_sound = also;
  grammar = alike.grammar;
  infos = alike.infos;
  first_alone = λ e. absurd (omega (arith, e, more));
  second_alone = λ _ _. refl;
  joined = λ some _. absurd (omega (arith, none, some));
  stands = λ samples others are.
      let nothing : samples ≡ [] = without samples are.first_kept.number in
      subst (λ all. IsKeptOf one.grammar one.infos all other.kept) (sym (ap (λ o. o ++ others) nothing)) are.second_kept;
}
  where
    without : (samples : List (List Value)) → one.kept.samples ≡ capped (length samples) → samples ≡ []
    without [] e = refl
    without (s ∷ samples) e = absurd (omega (arith, e, none))

-- the join
pub joined_alone : (one other : Whole) → IsSound one → IsSound other → 0 < one.kept.samples → 0 < other.kept.samples → (r : Result Whole JoinFault)
    → IfOk r (λ e. e.grammar ≡ one.grammar) → IfOk r (λ e. e.infos ≡ one.infos)
    → IfOk r (λ e. AreJoinedParts one.grammar one.infos one.kept other.kept (parts_of e.kept))
    → IfOk r (λ e. AreSavedParts one.grammar one.infos (parts_of e.kept))
    → ((samples others : List (List Value)) → AreKeptOf one.grammar one.infos samples others one.kept other.kept → IfOk r (λ e. IsKeptOf one.grammar one.infos (samples ++ others) e.kept))
    → IfOk r (IsEngineOfBoth one other)
joined_alone one other sound also some more (Ok e) grammar infos parts saved stands = record {
  first_sound = sound;
  second_sound = also;
  grammar = grammar;
  infos = infos;
  first_alone = λ none. absurd (omega (arith, none, more));
  second_alone = λ none _. absurd (omega (arith, none, some));
  joined = λ _ _. record { parts = parts; saved = saved };
  stands = stands;
}
joined_alone one other sound also some more (Err f) grammar infos parts saved stands = tt

-- ---- what is saved
-- of some samples, the parts
pub some_saved : (g : Grammar) (ps : List Point) (p : ℕ) (kept : Kept) → 0 < kept.samples → IsSavedAt g ps p (saved_parts kept) → AreSavedAt g ps p (parts_of kept)
some_saved g ps p kept some saved = subst (λ b. IsSavedAt g ps p (if b then None else Some (parts_of kept))) (ne_eqb kept.samples 0 (λ e. omega (arith, e, some))) saved

-- ---- all points
length_of_both : (ones others both : List Whole) → length ones ≡ length others → AreEnginesOfBoth ones others both → length both ≡ length ones
length_of_both [] [] [] long all = refl
length_of_both [] [] (b ∷ both) long all = absurd all
length_of_both [] (o ∷ others) both long all = absurd (omega (arith, long))
length_of_both (a ∷ ones) [] both long all = absurd (omega (arith, long))
length_of_both (a ∷ ones) (o ∷ others) [] long all = absurd all
length_of_both (a ∷ ones) (o ∷ others) (b ∷ both) long all = omega (arith, length_of_both ones others both (omega (arith, long)) all.1)

-- the engine at a place, and the two that it is of
pub at_both : (ones others both : List Whole) → length ones ≡ length others → AreEnginesOfBoth ones others both → (i : ℕ) (e : Whole) → slice_get both i ≡ Some e
    → (one : Whole) × (other : Whole) × (slice_get ones i ≡ Some one) × (slice_get others i ≡ Some other) × IsEngineOfBoth one other e
at_both [] [] [] long all i e got = absurd (cc)
at_both [] [] (b ∷ both) long all i e got = absurd all
at_both [] (o ∷ others) both long all i e got = absurd (omega (arith, long))
at_both (a ∷ ones) [] both long all i e got = absurd (omega (arith, long))
at_both (a ∷ ones) (o ∷ others) [] long all i e got = absurd all
at_both (a ∷ ones) (o ∷ others) (b ∷ both) long all zero e got = (a, o, refl, refl, subst (IsEngineOfBoth a o) (some-injective got) all.0)
at_both (a ∷ ones) (o ∷ others) (b ∷ both) long all (suc i) e got = at_both ones others both (omega (arith, long)) all.1 i e got

-- the pair at a place
pub at_zip : (ones others : List Whole) (i : ℕ) (pair : Whole × Whole) → i < length (zip ones others) → get_or (zip ones others) i pair ≡ pair
    → (slice_get ones i ≡ Some pair.0) × (slice_get others i ≡ Some pair.1)
at_zip [] others i pair within e = absurd (omega (arith, within))
at_zip (a ∷ ones) [] i pair within e = absurd (omega (arith, within))
at_zip (a ∷ ones) (o ∷ others) zero pair within e = (ap (λ (p : Whole × Whole). Some p.0) e, ap (λ (p : Whole × Whole). Some p.1) e)
at_zip (a ∷ ones) (o ∷ others) (suc i) pair within e = at_zip ones others i pair (omega (arith, within)) e

module _ (g : Grammar) (ps : List Point) (ones others both : List Whole) (are : AreEnginesOf ps ones) (also : AreEnginesOf ps others)
    (by_one : All (λ engine. engine.grammar ≡ g) ones) (by_other : All (λ engine. engine.grammar ≡ g) others) (each : AreEnginesOfBoth ones others both) where
  one_length : length ones ≡ length others
  one_length = are.long ∙ sym also.long

  grammar_at : (i : ℕ) (e : Whole) → slice_get both i ≡ Some e → e.grammar ≡ g
  grammar_at i e got =
      let at = at_both ones others both one_length each i e got in
      at.4.grammar ∙ all_at (λ (engine : Whole). engine.grammar ≡ g) ones i at.0 by_one at.2

  -- they are of the table, too
  pub both_of_table : AreEnginesOf ps both
  both_of_table = record {
    long = length_of_both ones others both one_length each ∙ are.long;
    variables = λ i e got.
        let at = at_both ones others both one_length each i e got in
        let vars = are.variables i at.0 at.2 in
        (at.4.infos ∙ vars.0, subst AreOfPoint (sym at.4.infos) vars.1);
    grammar = λ i j e other got there. grammar_at i e got ∙ sym (grammar_at j other there);
  }

  pub both_of_grammar : All (λ engine. engine.grammar ≡ g) both
  both_of_grammar = λ k d l. grammar_at k (get_or both k d) (slice_get-get_or both k d l)

  -- what they keep can be saved
  pub both_saved : AreSaved g ps ones → AreSaved g ps others → AreWithin both → AreSaved g ps both
  both_saved saved also_saved within i e got =
      let at = at_both ones others both one_length each i e got in
      let one = at.0 in
      let other = at.1 in
      let Saved : Whole → Type 0 = λ w. IsSavedAt g ps i (saved_parts w.kept) in
      elim (cases_lt 0 other.kept.samples) as (λ _. Saved e) [
        | inr none ↦ subst Saved (sym (at.4.first_alone (omega (arith, none)))) (saved i one at.2)
        | inl more ↦ elim (cases_lt 0 one.kept.samples) as (λ _. Saved e) [
          | inr none ↦ subst Saved (sym (at.4.second_alone (omega (arith, none)) more)) (also_saved i other at.3)
          | inl some ↦
              let grammar : one.grammar ≡ g = all_at (λ (engine : Whole). engine.grammar ≡ g) ones i one by_one at.2 in
              let infos : one.infos ≡ all_vars_of ps i = (are.variables i one at.2).0 in
              let meet : AreSavedParts g (all_vars_of ps i) (parts_of e.kept) =
              subst (λ vars. AreSavedParts g vars (parts_of e.kept)) infos (subst (λ h. AreSavedParts h one.infos (parts_of e.kept)) grammar (at.4.joined some more).saved) in
              parts_saved g ps i e.kept (some_saved g ps i one.kept some (saved i one at.2)).declared meet (all_at (λ (engine : Whole). All FitsSlot engine.kept.slots) both i e within got)
        ]
      ]

-- ---- histories
-- the own samples of both at a point
pub own_at_both : (own others : OwnSamples) (p : ℕ) → slice_index_or (own_of_both own others) p [] ≡ slice_index_or own p [] ++ slice_index_or others p []
own_at_both own others p =
    let at = λ (q : ℕ). slice_index_or own q [] ++ slice_index_or others q [] in
    let many = max (length own) (length others) in
    elim (cases_lt p many) [
      | inl within ↦ get_or-map-range_with_len at 0 many p p [] within (omega arith)
      | inr past ↦
          get_or_past (map at (range_with_len 0 many)) p [] (omega (arith, length-map-range_with_len at 0 many, past))
          ∙ sym (ap (λ l. l ++ slice_index_or others p []) (get_or_past own p [] (omega (arith, past))) ∙ get_or_past others p [] (omega (arith, past)))
    ]

samples_of_both : (ps : List Point) (own others : OwnSamples) (p : ℕ) → own_samples_of ps (own_of_both own others) p ≡ own_samples_of ps own p ++ own_samples_of ps others p
samples_of_both ps own others p =
    ap (map (values_by_form (all_vars_of ps p))) (own_at_both own others p) ∙ map-append (values_by_form (all_vars_of ps p)) (slice_index_or own p []) (slice_index_or others p [])

module _ (g : Grammar) (ps : List Point) (ones others : List Whole) (own more : OwnSamples) (stand : StandForHistory g ps ones own) (also : StandForHistory g ps others more) where
  -- what two engines of a point keep
  kept_of_both : (i : ℕ) (one other : Whole) → slice_get ones i ≡ Some one → slice_get others i ≡ Some other
      → AreKeptOf one.grammar one.infos (own_samples_of ps own i) (own_samples_of ps more i) one.kept other.kept
  kept_of_both i one other at here =
      let first = stand.standing i one at in
      let second = also.standing i other here in
      let samples = own_samples_of ps more i in
      let infos : other.infos ≡ one.infos = (also.of_table.variables i other here).0 ∙ sym (stand.of_table.variables i one at).0 in
      let grammar : other.grammar ≡ one.grammar =
      all_at (λ (engine : Whole). engine.grammar ≡ g) others i other also.of_grammar here ∙ sym (all_at (λ (engine : Whole). engine.grammar ≡ g) ones i one stand.of_grammar at) in
      record {
        first_samples = first.samples_are;
        second_samples = subst (λ vars. AreSamples vars samples) infos second.samples_are;
        first_kept = first.kept_is;
        second_kept = subst (λ vars. IsKeptOf one.grammar vars samples other.kept) infos (subst (λ h. IsKeptOf h other.infos samples other.kept) grammar second.kept_is);
      }

  -- the engines of both stand for the samples of both
  pub both_stand : (both : List Whole) → AreEnginesOfBoth ones others both → StandForHistory g ps both (own_of_both own more)
  both_stand both each = record {
    of_table = both_of_table g ps ones others both stand.of_table also.of_table stand.of_grammar also.of_grammar each;
    of_grammar = both_of_grammar g ps ones others both stand.of_table also.of_table stand.of_grammar also.of_grammar each;
    standing = λ i e got.
        let at = at_both ones others both (stand.of_table.long ∙ sym also.of_table.long) each i e got in
        let kept = kept_of_both i at.0 at.1 at.2 at.3 in
        let all = own_samples_of ps (own_of_both own more) i in
        let parted : all ≡ own_samples_of ps own i ++ own_samples_of ps more i = samples_of_both ps own more i in
        let samples : AreSamples at.0.infos all = subst (AreSamples at.0.infos) (sym parted) (All-append (IsSample at.0.infos) (own_samples_of ps own i) (own_samples_of ps more i) kept.first_samples kept.second_samples) in
        let stands : IsKeptOf at.0.grammar at.0.infos all e.kept = subst (λ l. IsKeptOf at.0.grammar at.0.infos l e.kept) (sym parted) (at.4.stands (own_samples_of ps own i) (own_samples_of ps more i) kept) in
        record {
          variables = subst AreOfPoint (sym at.4.infos) (stand.standing i at.0 at.2).variables;
          samples_are = subst (λ vars. AreSamples vars all) (sym at.4.infos) samples;
          kept_is = subst (λ h. IsKeptOf h e.infos all e.kept) (sym at.4.grammar) (subst (λ vars. IsKeptOf at.0.grammar vars all e.kept) (sym at.4.infos) stands);
        };
  }

  -- and they have a join wherever these are few
  pub none_unjoined : ((p : ℕ) → length (slice_index_or own p []) + length (slice_index_or more p []) ≤ 2 ^ 40) → HaveNoJoinSomewhere ones others → ⊥
  none_unjoined few somewhere =
      let i = somewhere.0 in
      let pair = somewhere.1 in
      let at = at_zip ones others i pair somewhere.2 somewhere.3 in
      let form = values_by_form (all_vars_of ps i) in
      let first : length (own_samples_of ps own i) ≡ length (slice_index_or own i []) = length-map (slice_index_or own i []) form in
      let second : length (own_samples_of ps more i) ≡ length (slice_index_or more i []) = length-map (slice_index_or more i []) form in
      somewhere.4.many (own_samples_of ps own i) (own_samples_of ps more i) (kept_of_both i pair.0 pair.1 at.0 at.1) (omega (arith, few i, first, second))
