-- Engines of which some bytes are what is saved stand for each history of which these bytes are the state file.
use Rattle.std.specs.Prelude.{◌≡◌, ◌<◌, ℕ, All, Bool, List, Option, Some, length, map, option_map, slice_get, refl}
use Rattle.std.specs.List.{range_with_len}
use Rattle.std.proofs.Common.{◌∙◌, ap, arith, get_or, inl, inr, subst, sym}
use Rattle.std.proofs.lemmas.Bool.{cases_lt}
use Rattle.std.proofs.lemmas.List.{length-map}
use Rattle.std.proofs.lemmas.List.FromFn.{get_or-map-range_with_len, length-map-range_with_len}
use Rattle.std.proofs.lemmas.Option.{get_or_from_slice_get, slice_get-get_or, slice_get-map}
use Rattle.dk_base.specs.declared.kinds.VarInfo.{VarInfo}
use Rattle.dk_base.specs.declared.values.Value.{Value}
use Rattle.dk_engine.specs.Saved.Conditions.{AreParts}
use Rattle.dk_engine.specs.Exact.{AreOfPoint, AreSamples, IsKeptOf}
use Rattle.dk_engine.specs.Reading.Levels.{Whole}
use Rattle.dk_engine.specs.Saved.{parts_of}
use Rattle.dk_engine.specs.declared.kept.Kept.{Kept}
use Rattle.dk_engine.specs.declared.saved.parts.Parts.{Parts}
use Rattle.dk_engine.proofs.PartsOfSamples.{kept_parts_meet}
use Rattle.dk_engine.proofs.Saving.{kept_rearranged, open_can_be_fed, open_parts, shaped_parts}
use Rattle.dk_graph.proofs.Places.{some-injective}
use Rattle.dk_hierarchy.specs.Samples.{OwnSamples, all_vars_of}
use Rattle.dk_hierarchy.specs.Standing.{AreEnginesOf}
use Rattle.dk_points.specs.Table.{Point}
use Rattle.dk_state.specs.Loading.{AreLoadedAs, IsLoadedAs}
use Rattle.dk_state.specs.Saved.{saved_text}
use Rattle.dk_state.specs.Spelling.{CanBeSaved, compact_form_at, content_of, saved_parts}
use Rattle.dk_state.specs.StateFile.{state_file_of}
use Rattle.dk_state.specs.declared.loading.Loaded.{Loaded}
use Rattle.dk_state.proofs.Histories.{history_meets, loaded_stands}
use Rattle.dk_state.proofs.Loads.{map-map}
use Rattle.dk_template.specs.declared.grammar.Grammar.{Grammar}
use Rattle.dk_merging.specs.Engines.{AreEnginesOfBoth, IsSound}
use Rattle.dk_merging.specs.Loading.{IsOfHistory, head_of}
use Rattle.dk_merging.specs.Merging.{Head, Says}
use Rattle.dk_merging.proofs.EnginesOfBoth.{at_both}
use Rattle.dk_merging.proofs.Heads.{all_at, some_within}
use Rattle.dk_merging.proofs.OneAnswer.{readings_save_the_same}
use Rattle.dk_merging.proofs.OneJoin.{rearranged}
use Rattle.dk_merging.proofs.Readings.{saved_some}

-- ---- what a history's file says
module _ (g : Grammar) (ps : List Point) (implicit : Bool) (own : OwnSamples) (can : CanBeSaved g ps own) where
  -- the engines of its points
  abbrev engine_at : ℕ → Whole
  engine_at p = record { grammar = g; infos = all_vars_of ps p; kept = compact_form_at g ps own p }

  abbrev all_engines : List Whole
  all_engines = map engine_at (range_with_len 0 (length ps))

  made_at : (p : ℕ) (e : Whole) → slice_get all_engines p ≡ Some e → (p < length ps) × (engine_at p ≡ e)
  made_at p e got =
      let within : p < length ps = omega (arith, some_within all_engines p e got, length-map-range_with_len engine_at 0 (length ps)) in
      (within, sym (get_or-map-range_with_len engine_at 0 (length ps) p p e within (omega arith)) ∙ get_or_from_slice_get all_engines p e e got)

  of_table : AreEnginesOf ps all_engines
  of_table = record {
    long = length-map-range_with_len engine_at 0 (length ps);
    variables = λ p e got.
        let at = made_at p e got in
        (sym (ap (λ (w : Whole). w.infos) at.1), subst (λ (w : Whole). AreOfPoint w.infos) at.1 (can.variables p at.0));
    grammar = λ p q e f got there. sym (ap (λ (w : Whole). w.grammar) (made_at p e got).1) ∙ ap (λ (w : Whole). w.grammar) (made_at q f there).1;
  }

  saved_of_all : map (λ (e : Whole). saved_parts e.kept) all_engines ≡ (content_of g ps implicit own).saved
  saved_of_all = map-map engine_at (λ (e : Whole). saved_parts e.kept) (range_with_len 0 (length ps))

  pub history_says : (bytes : List ℕ) → state_file_of g ps implicit own ≡ bytes → Says (record { grammar = g; points = ps; implicit = implicit }) all_engines bytes
  unfolding state_file_of
  history_says bytes is = record {
    table = can.table;
    of_table = of_table;
    of_grammar = λ k d l. sym (ap (λ (w : Whole). w.grammar) (made_at k (get_or all_engines k d) (slice_get-get_or all_engines k d l)).1);
    saved = λ p e got.
        (history_meets g ps implicit own can).saved p (saved_parts e.kept)
        (ap (λ (l : List (Option Parts)). slice_get l p) (sym saved_of_all) ∙ slice_get-map (λ (w : Whole). saved_parts w.kept) all_engines p ∙ ap (λ (o : Option Whole). option_map (λ (w : Whole). saved_parts w.kept) o) got);
    text = ap (λ ks. saved_text g ps implicit ks) (map-map engine_at (λ (e : Whole). e.kept) (range_with_len 0 (length ps))) ∙ is;
  }

  -- ---- which engines stand for it
  pub stand_for_history : (l : Loaded) (bytes : List ℕ) → Says (head_of l) l.engines bytes
      → AreLoadedAs l.grammar l.points (map (λ (e : Whole). saved_parts e.kept) l.engines) l.engines
      → state_file_of g ps implicit own ≡ bytes → IsOfHistory l g ps implicit own
  stand_for_history l bytes says loaded is =
      let same = readings_save_the_same bytes (head_of l) (record { grammar = g; points = ps; implicit = implicit }) l.engines all_engines says (history_says bytes is) in
      let grammar : l.grammar ≡ g = sym (ap (λ (h : Head). h.grammar) same.0) in
      let points : l.points ≡ ps = sym (ap (λ (h : Head). h.points) same.0) in
      let word : l.implicit ≡ implicit = sym (ap (λ (h : Head). h.implicit) same.0) in
      let saved : map (λ (e : Whole). saved_parts e.kept) l.engines ≡ (content_of g ps implicit own).saved = same.1 ∙ saved_of_all in
      let Loads : Grammar → List Point → List (Option Parts) → Type 0 = λ h qs parts. AreLoadedAs h qs parts l.engines in
      record {
        grammar = grammar;
        points = points;
        word = word;
        stand = loaded_stands g ps implicit own l.engines can
            (subst (λ (qs : List Point). AreEnginesOf qs l.engines) points says.of_table)
            (subst (λ (h : Grammar). All (λ (e : Whole). e.grammar ≡ h) l.engines) grammar says.of_grammar)
            (subst (Loads g ps) saved (subst (λ (qs : List Point). Loads g qs (map (λ (e : Whole). saved_parts e.kept) l.engines)) points
            (subst (λ (h : Grammar). Loads h l.points (map (λ (e : Whole). saved_parts e.kept) l.engines)) grammar loaded)));
      }

-- ---- the engines of both
-- an engine that keeps what is kept of samples keeps it in any order
kept_again : (engine : Whole) → IsSound engine → AreOfPoint engine.infos → (samples : List (List Value)) (kept : Kept) → AreSamples engine.infos samples → IsKeptOf engine.grammar engine.infos samples kept
    → parts_of kept ≡ parts_of engine.kept → IsKeptOf engine.grammar engine.infos samples engine.kept
kept_again engine sound point samples kept sampled is same =
    let meets : AreParts engine.grammar engine.infos kept = kept_parts_meet engine.grammar engine.infos point samples sampled kept is in
    let other : Whole = record { grammar = engine.grammar; infos = engine.infos; kept = kept } in
    let fed : IsSound other = record {
      fed = open_can_be_fed engine.grammar engine.infos kept (shaped_parts engine.grammar engine.infos kept meets) (open_parts engine.grammar engine.infos kept meets);
      held = is.held.form;
    } in
    kept_rearranged engine.grammar engine.infos samples kept engine.kept (rearranged other engine fed sound refl same) is

module _ (g : Grammar) (ps : List Point) (ones others both : List Whole) (are : AreEnginesOf ps ones) (also : AreEnginesOf ps others)
    (by_one : All (λ engine. engine.grammar ≡ g) ones) (each : AreEnginesOfBoth ones others both) (sound : All IsSound both)
    (first : AreLoadedAs g ps (map (λ (e : Whole). saved_parts e.kept) ones) ones) (second : AreLoadedAs g ps (map (λ (e : Whole). saved_parts e.kept) others) others) where
  own_saved : (engines : List Whole) (p : ℕ) (e : Whole) → slice_get engines p ≡ Some e → slice_get (map (λ (w : Whole). saved_parts w.kept) engines) p ≡ Some (saved_parts e.kept)
  own_saved engines p e got = slice_get-map (λ (w : Whole). saved_parts w.kept) engines p ∙ ap (λ (o : Option Whole). option_map (λ (w : Whole). saved_parts w.kept) o) got

  -- the join of a point
  joined_loaded : (p : ℕ) (one e : Whole) → slice_get ones p ≡ Some one → slice_get both p ≡ Some e → e.grammar ≡ one.grammar → e.infos ≡ one.infos → 0 < e.kept.samples
      → IsLoadedAs g ps p (saved_parts e.kept) e
  joined_loaded p one e there got grammar infos some =
      let of = are.variables p one there in
      let here : e.infos ≡ all_vars_of ps p = infos ∙ of.0 in
      let by : e.grammar ≡ g = grammar ∙ all_at (λ (w : Whole). w.grammar ≡ g) ones p one by_one there in
      let Again : Grammar → List VarInfo → Type 0 = λ h vars. (samples : List (List Value)) (kept : Kept) → AreSamples vars samples → IsKeptOf h vars samples kept → parts_of kept ≡ parts_of e.kept → IsKeptOf h vars samples e.kept in
      let again : Again e.grammar e.infos = kept_again e (all_at IsSound both p e sound got) (subst AreOfPoint (sym infos) of.1) in
      subst (λ (o : Option Parts). IsLoadedAs g ps p o e) (sym (saved_some e.kept some))
      (refl, subst (λ (h : Grammar). Again h (all_vars_of ps p)) by (subst (Again e.grammar) here again))

  pub both_loaded : AreLoadedAs g ps (map (λ (e : Whole). saved_parts e.kept) both) both
  both_loaded = record {
    long = sym (length-map both (λ (e : Whole). saved_parts e.kept));
    each = λ p own e told got.
        let at = at_both ones others both (are.long ∙ sym also.long) each p e got in
        let one = at.0 in
        let other = at.1 in
        let Loaded_ : Whole → Type 0 = λ w. IsLoadedAs g ps p (saved_parts w.kept) w in
        let here : Loaded_ e = elim (cases_lt 0 other.kept.samples) as (λ _. Loaded_ e) [
          | inr none ↦ subst Loaded_ (sym (at.4.first_alone (omega (arith, none)))) (first.each p (saved_parts one.kept) one (own_saved ones p one at.2) at.2)
          | inl more ↦ elim (cases_lt 0 one.kept.samples) as (λ _. Loaded_ e) [
            | inr none ↦ subst Loaded_ (sym (at.4.second_alone (omega (arith, none)) more)) (second.each p (saved_parts other.kept) other (own_saved others p other at.3) at.3)
            | inl some ↦ (let many = (at.4.joined some more).saved.some in joined_loaded p one e at.2 got at.4.grammar at.4.infos (omega (arith, many)))
          ]
        ] in
        let same : saved_parts e.kept ≡ own = some-injective (sym (own_saved both p e got) ∙ told) in
        subst (λ (o : Option Parts). IsLoadedAs g ps p o e) same here;
  }
