-- What state files of histories say, and what is loaded of them.
use Rattle.std.specs.Prelude.{◌≡◌, ◌<◌, ◌^◌, ◌+◌, ◌==◌, ◌-◌, ◌∷◌, [], ℕ, zero, suc, Bool, All, IsTrue, List, Option, Some, None, flat_map, is_none, is_some, length, map, min, slice_get, slice_index_or, refl}
use Rattle.std.specs.List.{enumerate_from, range_with_len}
use Rattle.std.proofs.Common.{◌∙◌, ap, arith, subst, sym}
use Rattle.std.proofs.lemmas.Bool.{cond_both, eqb-true}
use Rattle.std.proofs.lemmas.List.{length-map}
use Rattle.std.proofs.lemmas.List.Elements.{All-get_or}
use Rattle.std.proofs.lemmas.List.FromFn.{get_or-map-range_with_len, length-range_with_len}
use Rattle.std.proofs.lemmas.Option.{get_or_from_slice_get, slice_get-get_or}
use Rattle.dk_base.specs.declared.values.Value.{Value}
use Rattle.dk_derive.specs.Values.{values_by_form}
use Rattle.dk_engine.proofs.Saving.{kept_parts_are_saved}
use Rattle.dk_engine.specs.Exact.{AreSamples, IsKeptOf}
use Rattle.dk_engine.specs.Reading.Levels.{Whole}
use Rattle.dk_engine.specs.Saved.{parts_of}
use Rattle.dk_engine.specs.declared.saved.parts.Parts.{Parts}
use Rattle.dk_hierarchy.specs.Samples.{OwnSamples, all_vars_of, own_samples_of}
use Rattle.dk_hierarchy.specs.Standing.{AreEnginesOf}
use Rattle.dk_points.specs.Table.{Point, decl_at}
use Rattle.dk_presence.specs.Patterns.{capped}
use Rattle.dk_state.specs.Declarations.{decls_of}
use Rattle.dk_state.specs.Loading.{AreLoadedAs, IsLoaded, IsLoadedAs}
use Rattle.dk_state.specs.Saved.{kept_lines, saved_text, state_text}
use Rattle.dk_state.specs.Spelling.{CanBeSaved, Content, IsContent, IsSavedAt, compact_form_at, content_of, saved_lines, saved_parts, text_of_content}
use Rattle.dk_state.specs.StateFile.{StandForHistory, state_file_of}
use Rattle.dk_state.specs.declared.loading.Loaded.{Loaded}
use Rattle.dk_state.proofs.Blocks.{all_alike, one_alike}
use Rattle.dk_state.proofs.CompactParts.{kept_exact}
use Rattle.dk_state.proofs.Loads.{map-map, saved_alike}
use Rattle.dk_template.specs.declared.grammar.Grammar.{Grammar}

some_within : {X : Type 0} (xs : List X) (i : ℕ) (x : X) → slice_get xs i ≡ Some x → i < length xs
some_within [] i x e = absurd (cc)
some_within (y ∷ xs) zero x e = omega arith
some_within (y ∷ xs) (suc i) x e = omega (arith, some_within xs i x e)

-- ---- what was loaded saves to the file
pub saves_again : (c : Content) (l : Loaded) → IsContent c → IsLoaded c l → saved_text l.grammar l.points l.implicit (map (λ (e : Whole). e.kept) l.engines) ≡ text_of_content c
unfolding saved_text
saves_again c l meets loaded =
    let are = loaded.3 in
    let alike = all_alike 0 c.saved l.engines are.long
    (λ p own engine there got. subst (λ n. kept_lines (n, engine.kept) ≡ saved_lines (n, own)) (from_zero p)
    (one_alike c.grammar c.points p own engine (meets.saved p own there) (are.each p own engine there got))) in
    λ i. state_text (loaded.0 i) (decls_of (loaded.1 i)) (loaded.2 i) (alike i)
  where
    from_zero : (p : ℕ) → p ≡ 0 + p
    from_zero p = omega arith

-- ---- the content of a history
pub content_text : (g : Grammar) (ps : List Point) (implicit : Bool) (own : OwnSamples) → text_of_content (content_of g ps implicit own) ≡ state_file_of g ps implicit own
unfolding saved_text state_file_of
content_text g ps implicit own =
    let forms = map (compact_form_at g ps own) (range_with_len 0 (length ps)) in
    ap (state_text g (decls_of ps) implicit)
    (ap (λ s. flat_map saved_lines (enumerate_from 0 s)) (sym (map-map (compact_form_at g ps own) saved_parts (range_with_len 0 (length ps)))) ∙ saved_alike 0 forms)

-- what is saved at a place
saved_at : (g : Grammar) (ps : List Point) (implicit : Bool) (own : OwnSamples) (p : ℕ) (saved : Option Parts) → slice_get (content_of g ps implicit own).saved p ≡ Some saved
    → (p < length ps) × (saved_parts (compact_form_at g ps own p) ≡ saved)
saved_at g ps implicit own p saved there =
    let f : ℕ → Option Parts = λ q. saved_parts (compact_form_at g ps own q) in
    let all = map f (range_with_len 0 (length ps)) in
    let long : length all ≡ length ps = length-map (range_with_len 0 (length ps)) f ∙ length-range_with_len 0 (length ps) in
    let within : p < length ps = omega (arith, some_within all p saved there, long) in
    (within, sym (get_or-map-range_with_len f 0 (length ps) p p None within (omega arith)) ∙ get_or_from_slice_get all p saved None there)

-- samples without number
counted : (g : Grammar) (ps : List Point) (own : OwnSamples) (p : ℕ) → (compact_form_at g ps own p).samples ≡ min (length (slice_index_or own p [])) (2 ^ 64 - 1)
counted g ps own p =
    (kept_exact g (all_vars_of ps p) (own_samples_of ps own p)).number
    ∙ ap capped (length-map (slice_index_or own p []) (values_by_form (all_vars_of ps p)))

one_saved : (g : Grammar) (ps : List Point) (own : OwnSamples) → CanBeSaved g ps own → (p : ℕ) → p < length ps → IsSavedAt g ps p (saved_parts (compact_form_at g ps own p))
one_saved g ps own can p within =
    let kept = compact_form_at g ps own p in
    let samples = own_samples_of ps own p in
    let number = counted g ps own p in
    let as_many = length-map (slice_index_or own p []) (values_by_form (all_vars_of ps p)) in
    cond_both (kept.samples == 0) None (Some (parts_of kept)) (IsSavedAt g ps p) (λ e. tt)
    (λ e.
    let some : kept.samples ≡ 0 → ⊥ = λ z. absurd (cc) in
    record {
      declared = declared_there (decl_at ps p) (λ none. some (number ∙ ap (λ (s : List (List Value)). min (length s) (2 ^ 64 - 1)) (can.declared p none)));
      meet = kept_parts_are_saved g (all_vars_of ps p) (can.variables p within) samples (can.samples p) kept (kept_exact g (all_vars_of ps p) samples)
          (omega (arith, as_many, number, some)) (omega (arith, as_many, can.few p));
      within = can.within p;
    })
  where
    declared_there : {X : Type 0} (o : Option X) → (IsTrue (is_none o) → ⊥) → IsTrue (is_some o)
    declared_there None h = absurd (h refl)
    declared_there (Some x) h = refl

-- it meets the conditions
pub history_meets : (g : Grammar) (ps : List Point) (implicit : Bool) (own : OwnSamples) → CanBeSaved g ps own → IsContent (content_of g ps implicit own)
history_meets g ps implicit own can = record {
  table = can.table;
  long = length-map (range_with_len 0 (length ps)) (λ p. saved_parts (compact_form_at g ps own p)) ∙ length-range_with_len 0 (length ps);
  saved = λ p saved there.
      let at = saved_at g ps implicit own p saved there in
      subst (IsSavedAt g ps p) at.1 (one_saved g ps own can p at.0);
}

-- ---- what was loaded stands for the history
one_stands : (g : Grammar) (ps : List Point) (own : OwnSamples) (engine : Whole) (p : ℕ) → CanBeSaved g ps own → IsLoadedAs g ps p (saved_parts (compact_form_at g ps own p)) engine
    → IsKeptOf g (all_vars_of ps p) (own_samples_of ps own p) engine.kept
one_stands g ps own engine p can =
    let kept = compact_form_at g ps own p in
    let samples = own_samples_of ps own p in
    cond_both (kept.samples == 0) None (Some (parts_of kept)) (λ o. IsLoadedAs g ps p o engine → IsKeptOf g (all_vars_of ps p) samples engine.kept)
    (λ e is. subst (λ s. IsKeptOf g (all_vars_of ps p) s engine.kept) (sym (none samples (omega (arith, eqb-true kept.samples 0 e, (kept_exact g (all_vars_of ps p) samples).number)))) is)
    (λ e is. is.1 samples kept (can.samples p) (kept_exact g (all_vars_of ps p) samples) refl)
  where
    none : {X : Type 0} (xs : List X) → length xs ≡ 0 → xs ≡ []
    none [] e = refl
    none (x ∷ xs) e = absurd (omega (arith, e))

pub loaded_stands : (g : Grammar) (ps : List Point) (implicit : Bool) (own : OwnSamples) (engines : List Whole) → CanBeSaved g ps own → AreEnginesOf ps engines
    → All (λ engine. engine.grammar ≡ g) engines → AreLoadedAs g ps (content_of g ps implicit own).saved engines → StandForHistory g ps engines own
loaded_stands g ps implicit own engines can are grammar loaded = record {
  of_table = are;
  of_grammar = grammar;
  standing = λ p engine got.
      let saved = (content_of g ps implicit own).saved in
      let inside = some_within engines p engine got in
      let within : p < length ps = omega (arith, inside, are.long) in
      let f : ℕ → Option Parts = λ q. saved_parts (compact_form_at g ps own q) in
      let long : length saved ≡ length ps = length-map (range_with_len 0 (length ps)) f ∙ length-range_with_len 0 (length ps) in
      let there : slice_get saved p ≡ Some (f p) = slice_get-get_or saved p None (omega (arith, within, long)) ∙ ap (λ (o : Option Parts). Some o) (get_or-map-range_with_len f 0 (length ps) p p None within (omega arith)) in
      let kept = one_stands g ps own engine p can (loaded.each p (f p) engine there got) in
      let vars = are.variables p engine got in
      let own_grammar : engine.grammar ≡ g = subst (λ (e : Whole). e.grammar ≡ g) (get_or_from_slice_get engines p engine engine got) (All-get_or (λ (e : Whole). e.grammar ≡ g) engines p engine inside grammar) in
      record {
        variables = vars.1;
        samples_are = subst (λ infos. AreSamples infos (own_samples_of ps own p)) (sym vars.0) (can.samples p);
        kept_is = subst (λ h. IsKeptOf h engine.infos (own_samples_of ps own p) engine.kept) (sym own_grammar) (subst (λ infos. IsKeptOf g infos (own_samples_of ps own p) engine.kept) (sym vars.0) kept);
      };
}
