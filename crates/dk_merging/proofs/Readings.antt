-- Engines of which the same bytes are what is saved keep the same.
use Rattle.std.specs.Prelude.{◌≡◌, ◌<◌, ◌≤◌, ◌+◌, ◌^◌, ◌++◌, ◌∷◌, [], ℕ, suc, List, Option, Some, None, drop, flat_map, if◌then◌else◌, length, map, option_and_then, refl, slice_get, slice_index_or}
use Rattle.std.specs.List.{enumerate_from}
use Rattle.std.proofs.Common.{◌∙◌, ap, append_assoc, arith, inl, inr, subst, sym}
use Rattle.std.proofs.lemmas.Bool.{cases_lt, eq-eqb, ne_eqb}
use Rattle.std.proofs.lemmas.List.{drop_at, length-map}
use Rattle.dk_base.specs.declared.kinds.VarInfo.{VarInfo}
use Rattle.dk_decl.specs.declared.decls.PointDecl.{PointDecl}
use Rattle.dk_engine.specs.Reading.Levels.{Whole}
use Rattle.dk_engine.specs.Saved.{parts_of}
use Rattle.dk_engine.specs.declared.kept.Kept.{Kept}
use Rattle.dk_engine.specs.declared.saved.parts.Parts.{Parts}
use Rattle.dk_graph.proofs.Places.{some-injective}
use Rattle.dk_hierarchy.specs.Samples.{all_vars_of}
use Rattle.dk_points.specs.Table.{Point}
use Rattle.dk_state.specs.Declarations.{decls_of}
use Rattle.dk_state.specs.Fitting.{FitsParts}
use Rattle.dk_state.specs.Kept.{parts_lines}
use Rattle.dk_state.specs.Lines.{state_line}
use Rattle.dk_state.specs.Saved.{kept_lines, saved_text}
use Rattle.dk_state.specs.Spelling.{if_new, saved_parts, table_behind}
use Rattle.dk_state.proofs.Loads.{map-map}
use Rattle.dk_state.proofs.PartsFit.{parts_fit}
use Rattle.dk_state.proofs.Tables.{new_adds, next_made}
use Rattle.dk_points.specs.Declaring.{declared}
use Rattle.dk_merging.specs.Merging.{Head, Says}
use Rattle.dk_merging.proofs.EnginesOfBoth.{some_saved}
use Rattle.dk_merging.proofs.HeadTexts.{head_text, text_parts}
use Rattle.dk_merging.proofs.PartsTold.{parts_told, place_told}

-- ---- what is saved of kept parts
pub saved_none : (k : Kept) → k.samples ≡ 0 → saved_parts k ≡ None
saved_none k e = ap (λ b. if b then None else Some (parts_of k)) (eq-eqb k.samples 0 e)

pub saved_some : (k : Kept) → 0 < k.samples → saved_parts k ≡ Some (parts_of k)
saved_some k l = ap (λ b. if b then None else Some (parts_of k)) (ne_eqb k.samples 0 (λ e. omega (arith, e, l)))

-- ---- the lines of all points, from a place on
abbrev lines_from : ℕ → List Kept → List ℕ
lines_from n ks = flat_map kept_lines (enumerate_from n ks) ++ state_line "end-state" []

lines_none : (n : ℕ) (k : Kept) (ks : List Kept) → k.samples ≡ 0 → lines_from n (k ∷ ks) ≡ lines_from (n + 1) ks
lines_none n k ks e =
    ap (λ b. ((if b then [] else parts_lines n (parts_of k)) ++ flat_map kept_lines (enumerate_from (n + 1) ks)) ++ state_line "end-state" []) (eq-eqb k.samples 0 e)

lines_some : (n : ℕ) (k : Kept) (ks : List Kept) → 0 < k.samples → lines_from n (k ∷ ks) ≡ parts_lines n (parts_of k) ++ lines_from (n + 1) ks
lines_some n k ks l =
    ap (λ b. ((if b then [] else parts_lines n (parts_of k)) ++ flat_map kept_lines (enumerate_from (n + 1) ks)) ++ state_line "end-state" []) (ne_eqb k.samples 0 (λ e. omega (arith, e, l)))
    ∙ append_assoc (parts_lines n (parts_of k)) (flat_map kept_lines (enumerate_from (n + 1) ks)) (state_line "end-state" [])

-- the lines of a place don't come behind it
passed : (m n : ℕ) (ks : List Kept) (p : Parts) (r : List ℕ) → n < m → m + length ks < 2 ^ 64 → lines_from m ks ≡ parts_lines n p ++ r → ⊥
passed m n [] p r l small e = let first : 101 ≡ 115 = ap (λ (bytes : List ℕ). slice_index_or bytes 0 0) e in omega (arith, first)
passed m n (k ∷ ks) p r l small e = elim (cases_lt 0 k.samples) as (λ _. ⊥) [
  | inr none ↦ passed (m + 1) n ks p r (omega (arith, l)) (omega (arith, small)) (sym (lines_none m k ks (omega (arith, none))) ∙ e)
  | inl some ↦
      (let same = place_told m n (parts_of k) p (lines_from (m + 1) ks) r (omega (arith, small)) (omega (arith, l, small)) (sym (lines_some m k ks some) ∙ e) in
      let at = same.0 in
      omega (arith, at, l))
]

-- ---- they tell what is saved
module _ (vars : ℕ → List VarInfo) where
  abbrev pub AreFit : ℕ → List Kept → Type 0
  AreFit n [] = Unit {0}
  AreFit n (k ∷ ks) = (0 < k.samples → FitsParts (vars n) (parts_of k)) × AreFit (n + 1) ks

  saved_told : (n : ℕ) (ks ls : List Kept) → length ks ≡ length ls → n + length ks < 2 ^ 64 → AreFit n ks → AreFit n ls → lines_from n ks ≡ lines_from n ls → map saved_parts ks ≡ map saved_parts ls
  saved_told n [] [] long small fit also e = refl
  saved_told n [] (l ∷ ls) long small fit also e = absurd (omega (arith, long))
  saved_told n (k ∷ ks) [] long small fit also e = absurd (omega (arith, long))
  saved_told n (k ∷ ks) (l ∷ ls) long small fit also e =
      let Told : Type 0 = map saved_parts (k ∷ ks) ≡ map saved_parts (l ∷ ls) in
      let alike : saved_parts k ≡ saved_parts l → map saved_parts ks ≡ map saved_parts ls → Told = λ first rest i. first i ∷ rest i in
      let less : n + 1 + length ks < 2 ^ 64 = omega (arith, small) in
      let shorter : length ks ≡ length ls = omega (arith, long) in
      elim (cases_lt 0 k.samples) as (λ _. Told) [
        | inr none ↦ elim (cases_lt 0 l.samples) as (λ _. Told) [
          | inr nothing ↦
              (let zero : k.samples ≡ 0 = omega (arith, none) in
              let nought : l.samples ≡ 0 = omega (arith, nothing) in
              alike (saved_none k zero ∙ sym (saved_none l nought))
              (saved_told (n + 1) ks ls shorter less fit.1 also.1 (sym (lines_none n k ks zero) ∙ e ∙ lines_none n l ls nought)))
          | inl some ↦ absurd (passed (n + 1) n ks (parts_of l) (lines_from (n + 1) ls) (omega arith) less (sym (lines_none n k ks (omega (arith, none))) ∙ e ∙ lines_some n l ls some))
        ]
        | inl some ↦ elim (cases_lt 0 l.samples) as (λ _. Told) [
          | inr nothing ↦ absurd (passed (n + 1) n ls (parts_of k) (lines_from (n + 1) ks) (omega arith) (omega (arith, less, shorter)) (sym (lines_none n l ls (omega (arith, nothing))) ∙ sym e ∙ lines_some n k ks some))
          | inl more ↦
              (let same = parts_told (vars n) n (parts_of k) (parts_of l) (lines_from (n + 1) ks) (lines_from (n + 1) ls) (omega (arith, small)) (fit.0 some) (also.0 more) (sym (lines_some n k ks some) ∙ e ∙ lines_some n l ls more) in
              alike (saved_some k some ∙ ap (λ (p : Parts). Some p) same.0 ∙ sym (saved_some l more)) (saved_told (n + 1) ks ls shorter less fit.1 also.1 same.1))
        ]
      ]

  fit_from : (n : ℕ) (engines : List Whole) → ((i : ℕ) (e : Whole) → slice_get engines i ≡ Some e → 0 < e.kept.samples → FitsParts (vars (n + i)) (parts_of e.kept)) → AreFit n (map (λ e. e.kept) engines)
  fit_from n [] each = tt
  fit_from n (e ∷ engines) each =
      let here : n + 0 ≡ n = omega arith in (
        λ some. subst (λ k. FitsParts (vars k) (parts_of e.kept)) here (each 0 e refl some),
        fit_from (n + 1) engines (λ i f at some. let later : n + suc i ≡ n + 1 + i = omega arith in subst (λ k. FitsParts (vars k) (parts_of f.kept)) later (each (suc i) f at some)),
      )

-- ---- a table
few_points : (ds : List PointDecl) (ps all : List Point) → length ps ≤ 65535 → table_behind ps ds ≡ Some all → length all ≤ 65535
few_points [] ps all few made = subst (λ (qs : List Point). length qs ≤ 65535) (some-injective made) few
few_points (d ∷ ds) ps all few made =
    let next = next_made ds (if_new (declared ps d)) all made in
    few_points ds next.0 all (new_adds ps d next.0 next.1).1 (sym (ap (λ (o : Option (List Point)). option_and_then (λ qs. table_behind qs ds) o) next.1) ∙ made)

-- ---- two readings
says_fit : (head : Head) (engines : List Whole) (bytes : List ℕ) → Says head engines bytes → AreFit (all_vars_of head.points) 0 (map (λ e. e.kept) engines)
says_fit head engines bytes says =
    fit_from (all_vars_of head.points) 0 engines (λ i e at some.
    let saved = some_saved head.grammar head.points i e.kept some (says.saved i e at) in
    let vars = says.of_table.variables i e at in
    let few : length (all_vars_of head.points i) < 2 ^ 32 = subst (λ (infos : List VarInfo). length infos < 2 ^ 32) vars.0 vars.1.few in
    let place : 0 + i ≡ i = omega arith in
    subst (λ k. FitsParts (all_vars_of head.points k) (parts_of e.kept)) (sym place) (parts_fit head.grammar (all_vars_of head.points i) (parts_of e.kept) few saved.meet saved.within))

says_lines : (head : Head) (engines : List Whole) (bytes : List ℕ) → Says head engines bytes → head_text head.grammar (decls_of head.points) head.implicit ++ lines_from 0 (map (λ e. e.kept) engines) ≡ bytes
unfolding saved_text
says_lines head engines bytes says =
    sym (text_parts head.grammar (decls_of head.points) head.implicit (flat_map kept_lines (enumerate_from 0 (map (λ e. e.kept) engines)))) ∙ says.text

-- engines of one table of which these bytes are what is saved
pub same_saved : (head : Head) (ones others : List Whole) (bytes : List ℕ) → Says head ones bytes → Says head others bytes → map (λ e. saved_parts e.kept) ones ≡ map (λ e. saved_parts e.kept) others
same_saved head ones others bytes says also =
    let front = head_text head.grammar (decls_of head.points) head.implicit in
    let firsts = map (λ (e : Whole). e.kept) ones in
    let seconds = map (λ (e : Whole). e.kept) others in
    let both : front ++ lines_from 0 firsts ≡ front ++ lines_from 0 seconds = says_lines head ones bytes says ∙ sym (says_lines head others bytes also) in
    let lines : lines_from 0 firsts ≡ lines_from 0 seconds =
    sym (drop_at front (lines_from 0 firsts) (length front) refl) ∙ ap (drop (length front)) both ∙ drop_at front (lines_from 0 seconds) (length front) refl in
    let long : length firsts ≡ length head.points = length-map ones (λ (e : Whole). e.kept) ∙ says.of_table.long in
    let also_long : length seconds ≡ length head.points = length-map others (λ (e : Whole). e.kept) ∙ also.of_table.long in
    let few : length head.points ≤ 65535 = few_points (decls_of head.points) [] head.points (omega arith) says.table.made in
    sym (map-map (λ (e : Whole). e.kept) saved_parts ones)
    ∙ saved_told (all_vars_of head.points) 0 firsts seconds (long ∙ sym also_long) (omega (arith, long, few)) (says_fit head ones bytes says) (says_fit head others bytes also) lines
    ∙ map-map (λ (e : Whole). e.kept) saved_parts others
