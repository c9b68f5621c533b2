-- What was loaded is content that meets the conditions.
use Rattle.std.specs.Prelude.{◌≡◌, ◌+◌, ◌==◌, ◌++◌, ◌∷◌, [], ℕ, All, Bool, IsTrue, List, Option, Some, None, flat_map, is_some, length, map, option_and_then, option_map, slice_get, false, refl}
use Rattle.std.specs.List.{enumerate_from}
use Rattle.std.proofs.Common.{◌∙◌, ap, inl, inr, subst, sym}
use Rattle.std.proofs.lemmas.Bool.{cond_both}
use Rattle.std.proofs.lemmas.List.{length-map}
use Rattle.std.proofs.lemmas.Option.{slice_get-map}
use Rattle.dk_engine.specs.Reading.Levels.{Whole}
use Rattle.dk_engine.specs.Saved.{AreSavedParts, parts_of}
use Rattle.dk_engine.specs.declared.kept.Kept.{Kept}
use Rattle.dk_engine.specs.declared.saved.parts.Parts.{Parts}
use Rattle.dk_graph.proofs.Places.{some-injective}
use Rattle.dk_hierarchy.specs.Samples.{all_vars_of}
use Rattle.dk_points.specs.Table.{Point, decl_at, decl_if_declared}
use Rattle.dk_state.specs.Declarations.{decls_of}
use Rattle.dk_state.specs.Fitting.{FitsSlot}
use Rattle.dk_state.specs.Loading.{AreSaved}
use Rattle.dk_state.specs.Saved.{kept_lines, saved_text, state_text}
use Rattle.dk_state.specs.Spelling.{Content, IsContent, IsOwnTable, IsSavedAt, saved_lines, saved_parts, text_of_content}
use Rattle.dk_state.specs.declared.loading.Loaded.{Loaded}
use Rattle.dk_state.proofs.Blocks.{got_push}
use Rattle.dk_template.specs.declared.grammar.Grammar.{Grammar}

-- ---- one engine
-- a point that isn't an implicit exit is declared
pub declared_there : (ps : List Point) (p : ℕ) (is : Bool) → option_map (λ (q : Point). q.is_implicit) (slice_get ps p) ≡ Some is → is ≡ false → IsTrue (is_some (decl_at ps p))
declared_there ps p is e other = go (slice_get ps p) (e ∙ ap (λ (b : Bool). Some b) other)
  where
    go : (o : Option Point) → option_map (λ (q : Point). q.is_implicit) o ≡ Some false → IsTrue (is_some (option_and_then decl_if_declared o))
    go None e = absurd (cc)
    go (Some q) e = rw (some-injective e) refl

module _ (g : Grammar) (ps : List Point) (p : ℕ) (kept : Kept) where
  pub new_saved : kept.samples ≡ 0 → IsSavedAt g ps p (saved_parts kept)
  new_saved none = rw none tt

  pub parts_saved : IsTrue (is_some (decl_at ps p)) → AreSavedParts g (all_vars_of ps p) (parts_of kept) → All FitsSlot kept.slots → IsSavedAt g ps p (saved_parts kept)
  parts_saved there meet within =
      cond_both (kept.samples == 0) None (Some (parts_of kept)) (IsSavedAt g ps p) (λ _. tt) (λ _. record { declared = there; meet = meet; within = within })

-- one engine more
pub more_saved : (g : Grammar) (ps : List Point) (engines : List Whole) (engine : Whole) → AreSaved g ps engines → IsSavedAt g ps (length engines) (saved_parts engine.kept)
    → (p : ℕ) (other : Whole) → slice_get (engines ++ engine ∷ []) p ≡ Some other → IsSavedAt g ps p (saved_parts other.kept)
more_saved g ps engines engine all own p other got = elim (got_push engines engine p other got) as (λ _. IsSavedAt g ps p (saved_parts other.kept)) [
  | inl before ↦ all p other before
  | inr last ↦ subst (λ n. IsSavedAt g ps n (saved_parts other.kept)) (sym last.0) (subst (λ (e : Whole). IsSavedAt g ps (length engines) (saved_parts e.kept)) last.1 own)
]

-- ---- the content
-- what is saved of kept parts has their lines
pub saved_alike : (n : ℕ) (ks : List Kept) → flat_map saved_lines (enumerate_from n (map saved_parts ks)) ≡ flat_map kept_lines (enumerate_from n ks)
saved_alike n [] = refl
saved_alike n (k ∷ ks) =
    let here : saved_lines (n, saved_parts k) ≡ kept_lines (n, k) =
    cond_both (k.samples == 0) None (Some (parts_of k)) (λ o. saved_lines (n, o) ≡ kept_lines (n, k)) (λ e. rw e refl) (λ e. rw e refl) in
    let later = saved_alike (n + 1) ks in
    λ i. here i ++ later i

pub map-map : {X Y Z : Type 0} (f : X → Y) (h : Y → Z) (xs : List X) → map h (map f xs) ≡ map (λ x. h (f x)) xs
map-map f h [] = refl
map-map f h (x ∷ xs) = ap (λ r. h (f x) ∷ r) (map-map f h xs)

abbrev pub content_loaded : Loaded → Content
content_loaded l = record {
  grammar = l.grammar;
  points = l.points;
  implicit = l.implicit;
  saved = map (λ (engine : Whole). saved_parts engine.kept) l.engines;
}

-- it has the text that is saved
pub loaded_text : (l : Loaded) → text_of_content (content_loaded l) ≡ saved_text l.grammar l.points l.implicit (map (λ (engine : Whole). engine.kept) l.engines)
unfolding saved_text
loaded_text l =
    let kept = map (λ (engine : Whole). engine.kept) l.engines in
    ap (state_text l.grammar (decls_of l.points) l.implicit)
    (ap (λ saved. flat_map saved_lines (enumerate_from 0 saved)) (sym (map-map (λ (engine : Whole). engine.kept) saved_parts l.engines)) ∙ saved_alike 0 kept)

-- and meets the conditions
pub loaded_meets : (l : Loaded) → IsOwnTable l.points → length l.engines ≡ length l.points → AreSaved l.grammar l.points l.engines → IsContent (content_loaded l)
loaded_meets l table long saved = record {
  table = table;
  long = length-map l.engines (λ (engine : Whole). saved_parts engine.kept) ∙ long;
  saved = λ p own there. at p own (slice_get l.engines p) refl (sym (slice_get-map (λ (engine : Whole). saved_parts engine.kept) l.engines p) ∙ there);
}
  where
    at : (p : ℕ) (own : Option Parts) (o : Option Whole) → slice_get l.engines p ≡ o → option_map (λ (engine : Whole). saved_parts engine.kept) o ≡ Some own → IsSavedAt l.grammar l.points p own
    at p own None here e = absurd (cc)
    at p own (Some engine) here e = subst (IsSavedAt l.grammar l.points p) (some-injective e) (saved p engine here)
