-- What is kept of the same samples has one text.
use Rattle.std.specs.Prelude.{◌≡◌, ◌<◌, ◌+◌, ◌==◌, ◌++◌, ℕ, suc, false, List, [], ◌∷◌, Some, flat_map, if◌then◌else◌, length, map, refl, slice_get, slice_index_or, Bool}
use Rattle.std.specs.List.{AllByRecursion, IsDistinct, enumerate_from, range_with_len}
use Rattle.std.specs.Fmt.{decimal}
use Rattle.std.specs.List.Sorted.{IsPermutation}
use Rattle.std.proofs.Common.{◌∙◌, ap, arith, get_or, inl, inr, subst, sym}
use Rattle.std.proofs.lemmas.Bool.{true≢false}
use Rattle.std.proofs.lemmas.List.{get_or-map, length-map}
use Rattle.std.proofs.lemmas.List.Elements.{All-get_or}
use Rattle.std.proofs.lemmas.List.FromFn.{get_or-map-range_with_len, length-range_with_len}
use Rattle.std.proofs.lemmas.List.Sorted.{IsPermutation-map}
use Rattle.std.proofs.lemmas.Option.{slice_get-get_or}
use Rattle.dk_base.specs.declared.kinds.VarInfo.{VarInfo}
use Rattle.dk_base.specs.declared.values.Value.{Value}
use Rattle.dk_classes.specs.Leaders.{own_leaders}
use Rattle.dk_derive.specs.Values.{values_by_form}
use Rattle.dk_engine.proofs.AnyOrder.{order_does_not_matter}
use Rattle.dk_engine.proofs.DeterminedParts.{kept_parts_determined}
use Rattle.dk_engine.specs.Exact.{IsKeptOf}
use Rattle.dk_engine.specs.Laws.{AreSameParts}
use Rattle.dk_engine.specs.Reading.Levels.{Whole}
use Rattle.dk_engine.specs.Saved.{parts_of}
use Rattle.dk_engine.specs.declared.kept.Kept.{Kept}
use Rattle.dk_hierarchy.specs.Samples.{OwnSamples, all_vars_of, own_samples_of}
use Rattle.dk_snapshot.proofs.PatternOrder.{same_patterns}
use Rattle.dk_snapshot.proofs.Weights.{Apart, In, contains_from, in_from, same_weights}
use Rattle.dk_snapshot.specs.Classes.{classes_of}
use Rattle.dk_snapshot.specs.Entries.{all_known_of}
use Rattle.dk_snapshot.specs.Patterns.{patterns_of}
use Rattle.dk_points.specs.Table.{Point}
use Rattle.dk_presence.proofs.Sameness.{same_vars-refl}
use Rattle.dk_presence.specs.Patterns.{AreHeld, held_patterns, same_vars}
use Rattle.dk_presence.specs.declared.held.Held.{Held}
use Rattle.dk_template.specs.declared.grammar.Grammar.{Grammar}
use Rattle.dk_state.specs.Compact.{compact_form_of}
use Rattle.dk_state.specs.Kept.{parts_lines}
use Rattle.dk_state.specs.Laws.{OrderOfSamplesDoesNotMatter}
use Rattle.dk_state.specs.Declarations.{decls_of, point_lines}
use Rattle.dk_state.specs.Lines.{state_line}
use Rattle.dk_state.specs.Saved.{comparability_text, kept_lines, saved_text, version_of}
use Rattle.dk_state.specs.StateFile.{StandForHistory, state_file_of}
use Rattle.dk_state.proofs.CompactParts.{kept_exact}

-- ---- patterns in any order
differs : (h z : Held) (held : List Held) → AllByRecursion (λ y. same_vars h.leaders y ≡ false) (held_patterns held) → In z held → same_vars h.leaders z.leaders ≡ false
differs h z [] all i = absurd i
differs h z (k ∷ held) all (inl e) = ap (λ (x : Held). same_vars h.leaders x.leaders) (sym e) ∙ all.0
differs h z (k ∷ held) all (inr i) = differs h z held all.1 i

apart_from : (held : List Held) → IsDistinct same_vars (held_patterns held) → Apart held
unfolding IsDistinct
apart_from [] once = tt
apart_from (h ∷ held) once =
    (λ z i e. true≢false (sym (same_vars-refl h.leaders) ∙ (ap (λ (x : Held). same_vars h.leaders x.leaders) e ∙ differs h z held once.0 i)), apart_from held once.1)

same_parts : (kept other : Kept) → AreSameParts kept other → AreHeld kept.held → AreHeld other.held → parts_of kept ≡ parts_of other
same_parts kept other same is also =
    let weights = same_weights kept.held other.held (apart_from kept.held is.once) (apart_from other.held also.once)
    (λ z i. in_from other.held z ((same.held z).0 (contains_from kept.held z i))) (λ z i. in_from kept.held z ((same.held z).1 (contains_from other.held z i)))
    in
    let number = same.number in
    let leaders = same.leaders in
    let known = same.known in
    let slots = same.slots in
    let patterns : patterns_of (own_leaders kept.leaders) kept.held ≡ patterns_of (own_leaders other.leaders) other.held =
    ap (λ l. patterns_of (own_leaders l) kept.held) leaders ∙ same_patterns (own_leaders other.leaders) kept.held other.held weights
    in
    λ i. record { samples = number i; classes = classes_of (leaders i); patterns = patterns i; known = all_known_of (known i); slots = slots i }

same_lines : (g : Grammar) (infos : List VarInfo) (samples : List (List Value)) (p : ℕ) (kept other : Kept) → IsKeptOf g infos samples kept → IsKeptOf g infos samples other → kept_lines (p, kept) ≡ kept_lines (p, other)
same_lines g infos samples p kept other is also =
    let same = kept_parts_determined g infos samples kept other is also in
    let number = same.number in
    let parts = same_parts kept other same is.held.form also.held.form in
    λ i. if number i == 0 then [] else parts_lines p (parts i)

-- ---- point by point
lines_alike : (n : ℕ) (kept others : List Kept) → length kept ≡ length others
    → ((i : ℕ) (c d : Kept) → i < length kept → kept_lines (n + i, get_or kept i c) ≡ kept_lines (n + i, get_or others i d))
    → flat_map kept_lines (enumerate_from n kept) ≡ flat_map kept_lines (enumerate_from n others)
lines_alike n [] [] long each = refl
lines_alike n [] (o ∷ others) long each = absurd (omega (arith, long))
lines_alike n (k ∷ kept) [] long each = absurd (omega (arith, long))
lines_alike n (k ∷ kept) (o ∷ others) long each =
    let at : n + 0 ≡ n = omega arith in
    let here : kept_lines (n, k) ≡ kept_lines (n, o) = subst (λ m. kept_lines (m, k) ≡ kept_lines (m, o)) at (each 0 k o (omega arith)) in
    let next : (i : ℕ) → n + suc i ≡ n + 1 + i = λ i. omega arith in
    let rest = lines_alike (n + 1) kept others (omega (arith, long))
    (λ i c d l. subst (λ m. kept_lines (m, get_or kept i c) ≡ kept_lines (m, get_or others i d)) (next i) (each (suc i) c d (omega (arith, l))))
    in
    λ i. here i ++ rest i

-- the compact forms of all points
abbrev forms : Grammar → List Point → OwnSamples → ℕ → Kept
forms g ps own p = compact_form_of g (all_vars_of ps p) (own_samples_of ps own p)

forms_long : (g : Grammar) (ps : List Point) (own : OwnSamples) → length (map (forms g ps own) (range_with_len 0 (length ps))) ≡ length ps
forms_long g ps own = length-map (range_with_len 0 (length ps)) (forms g ps own) ∙ length-range_with_len 0 (length ps)

form_at : (g : Grammar) (ps : List Point) (own : OwnSamples) (p : ℕ) (d : Kept) → p < length ps → get_or (map (forms g ps own) (range_with_len 0 (length ps))) p d ≡ forms g ps own p
form_at g ps own p d l = get_or-map-range_with_len (forms g ps own) 0 (length ps) p p d l (omega arith)

texts_alike : (g : Grammar) (ps : List Point) (implicit : Bool) (kept others : List Kept) → flat_map kept_lines (enumerate_from 0 kept) ≡ flat_map kept_lines (enumerate_from 0 others)
    → saved_text g ps implicit kept ≡ saved_text g ps implicit others
unfolding saved_text
texts_alike g ps implicit kept others e =
    ap (λ t. state_line "daikon-state" (decimal (version_of g) ∷ []) ++ (state_line "comparability" (comparability_text implicit ∷ []) ++ (state_line "points" (decimal (length (decls_of ps)) ∷ []) ++ (flat_map point_lines (decls_of ps) ++ (t ++ state_line "end-state" []))))) e

-- ---- engines that stand for a history
pub saved_is_state_file : (g : Grammar) (ps : List Point) (implicit : Bool) (engines : List Whole) (own : OwnSamples) → StandForHistory g ps engines own
    → saved_text g ps implicit (map (λ (engine : Whole). engine.kept) engines) ≡ state_file_of g ps implicit own
unfolding state_file_of
saved_is_state_file g ps implicit engines own stand =
    let keep : Whole → Kept = λ engine. engine.kept in
    let all = map keep engines in
    let others = map (forms g ps own) (range_with_len 0 (length ps)) in
    let as_many = length-map engines keep in
    texts_alike g ps implicit all others
    (lines_alike 0 all others (as_many ∙ (stand.of_table.long ∙ sym (forms_long g ps own)))
    (λ i c d l.
    let within : i < length engines = omega (arith, l, as_many) in
    let in_table : i < length ps = omega (arith, within, stand.of_table.long) in
    let spare = first engines i within in
    let engine = get_or engines i spare in
    let samples = own_samples_of ps own i in
    let infos = all_vars_of ps i in
    let at : slice_get engines i ≡ Some engine = slice_get-get_or engines i spare within in
    let stands = stand.standing i engine at in
    let vars : engine.infos ≡ infos = (stand.of_table.variables i engine at).0 in
    let grammar : engine.grammar ≡ g = All-get_or (λ (e : Whole). e.grammar ≡ g) engines i spare within stand.of_grammar in
    let kept : IsKeptOf g infos samples engine.kept =
    subst (λ v. IsKeptOf g v samples engine.kept) vars (subst (λ h. IsKeptOf h engine.infos samples engine.kept) grammar stands.kept_is)
    in
    ap (λ (k : Kept). kept_lines (0 + i, k)) (get_or-map keep engines i spare c within)
    ∙ (same_lines g infos samples (0 + i) engine.kept (forms g ps own i) kept (kept_exact g infos samples)
    ∙ ap (λ (k : Kept). kept_lines (0 + i, k)) (sym (form_at g ps own i d in_table)))))
  where
    first : (engines : List Whole) (i : ℕ) → i < length engines → Whole
    first [] i l = absurd (omega arith)
    first (e ∷ es) i l = e

-- ---- the order of samples
pub order_of_samples : OrderOfSamplesDoesNotMatter
unfolding state_file_of
order_of_samples g ps implicit own others moved =
    let these = map (forms g ps own) (range_with_len 0 (length ps)) in
    let those = map (forms g ps others) (range_with_len 0 (length ps)) in
    texts_alike g ps implicit these those
    (lines_alike 0 these those (forms_long g ps own ∙ sym (forms_long g ps others))
    (λ i c d l.
    let within : i < length ps = omega (arith, l, forms_long g ps own) in
    let infos = all_vars_of ps i in
    let samples = own_samples_of ps own i in
    let turned = own_samples_of ps others i in
    let same : IsPermutation samples turned = IsPermutation-map (values_by_form infos) (slice_index_or own i []) (slice_index_or others i []) (moved i) in
    let kept : IsKeptOf g infos turned (forms g ps own i) = order_does_not_matter g infos samples turned same (forms g ps own i) (kept_exact g infos samples) in
    ap (λ (k : Kept). kept_lines (0 + i, k)) (form_at g ps own i c within)
    ∙ (same_lines g infos turned (0 + i) (forms g ps own i) (forms g ps others i) kept (kept_exact g infos turned)
    ∙ ap (λ (k : Kept). kept_lines (0 + i, k)) (sym (form_at g ps others i d within)))))
