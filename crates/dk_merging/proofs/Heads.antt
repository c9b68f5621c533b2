-- States with the same front declare the same.
use Rattle.std.specs.Prelude.{◌≡◌, ◌<◌, ◌^◌, ◌∷◌, [], ℕ, zero, suc, All, List, Some, length, map, slice_get}
use Rattle.std.proofs.Common.{◌∙◌, ap, arith, subst, sym}
use Rattle.std.proofs.lemmas.List.Elements.{All-get_or}
use Rattle.std.proofs.lemmas.Option.{get_or_from_slice_get}
use Rattle.dk_engine.specs.Reading.Levels.{Whole}
use Rattle.dk_graph.proofs.Places.{some-injective}
use Rattle.dk_hierarchy.specs.Standing.{AreEnginesOf}
use Rattle.dk_join.specs.Joining.{AreAlike}
use Rattle.dk_points.specs.Table.{Point}
use Rattle.dk_state.specs.Declarations.{decls_of}
use Rattle.dk_state.specs.Fitting.{FitsPoint}
use Rattle.dk_state.specs.Spelling.{IsOwnTable, table_behind}
use Rattle.dk_state.proofs.Tables.{few_made}
use Rattle.dk_template.specs.declared.grammar.Grammar.{Grammar}
use Rattle.dk_merging.specs.Engines.{AreAllAlike}
use Rattle.dk_merging.specs.Fronts.{front_of}
use Rattle.dk_merging.specs.Merging.{Head, Says}
use Rattle.dk_merging.proofs.HeadTexts.{front_of_saved, head_text, heads_told}
use Rattle.dk_merging.proofs.Zipping.{zip_from}

-- ---- the front
all_fit : (ps : List Point) → IsOwnTable ps → All FitsPoint (decls_of ps)
all_fit ps table = λ k d l. (table.given k d l).fits

few_declared : (ps : List Point) → IsOwnTable ps → length (decls_of ps) < 2 ^ 64
few_declared ps table = omega (arith, few_made (decls_of ps) [] ps (omega arith) table.made)

abbrev lines_of : Head → List ℕ
lines_of h = head_text h.grammar (decls_of h.points) h.implicit

front_said : (h : Head) (engines : List Whole) (bytes : List ℕ) → Says h engines bytes → front_of bytes ≡ lines_of h
front_said h engines bytes says =
    ap front_of (sym says.text)
    ∙ front_of_saved h.grammar h.points h.implicit (map (λ (engine : Whole). engine.kept) engines) (all_fit h.points says.table) (few_declared h.points says.table)

-- the front tells what is declared
pub one_head : (h k : Head) (ones others : List Whole) (first second : List ℕ) → Says h ones first → Says k others second → front_of second ≡ front_of first → k ≡ h
one_head h k ones others first second says also e =
    let lines : lines_of k ≡ lines_of h = sym (front_said k others second also) ∙ e ∙ front_said h ones first says in
    let same = heads_told k.grammar h.grammar (decls_of k.points) (decls_of h.points) k.implicit h.implicit
    (all_fit k.points also.table) (all_fit h.points says.table) (few_declared k.points also.table) (few_declared h.points says.table) lines in
    let grammars = same.0 in
    let points : k.points ≡ h.points = some-injective (sym also.table.made ∙ ap (table_behind []) same.1 ∙ says.table.made) in
    let words = same.2 in
    λ i. record { grammar = grammars i; points = points i; implicit = words i }

-- and what is declared makes the front
pub one_front : (h k : Head) (ones others : List Whole) (first second : List ℕ) → Says h ones first → Says k others second → k ≡ h → front_of second ≡ front_of first
one_front h k ones others first second says also e =
    front_said k others second also ∙ ap lines_of e ∙ sym (front_said h ones first says)

-- ---- the engines
pub some_within : {X : Type 0} (xs : List X) (i : ℕ) (x : X) → slice_get xs i ≡ Some x → i < length xs
some_within [] i x e = absurd (cc)
some_within (y ∷ xs) zero x e = omega arith
some_within (y ∷ xs) (suc i) x e = omega (arith, some_within xs i x e)

pub all_at : {X : Type 0} (P : X → Type 0) (xs : List X) (i : ℕ) (x : X) → All P xs → slice_get xs i ≡ Some x → P x
all_at P xs i x all at = subst P (get_or_from_slice_get xs i x x at) (All-get_or P xs i x (some_within xs i x at) all)

-- engines of one table and one grammar are alike
pub all_alike : (g : Grammar) (ps : List Point) (ones others : List Whole) → AreEnginesOf ps ones → AreEnginesOf ps others → All (λ engine. engine.grammar ≡ g) ones → All (λ engine. engine.grammar ≡ g) others
    → AreAllAlike ones others
all_alike g ps ones others are also by_one by_other =
    zip_from (λ (one other : Whole). AreAlike (record { first = one; second = other })) ones others (are.long ∙ sym also.long)
    (λ i one other at here. record {
      grammar = all_at (λ (engine : Whole). engine.grammar ≡ g) others i other by_other here ∙ sym (all_at (λ (engine : Whole). engine.grammar ≡ g) ones i one by_one at);
      infos = (also.variables i other here).0 ∙ sym (are.variables i one at).0;
    })
