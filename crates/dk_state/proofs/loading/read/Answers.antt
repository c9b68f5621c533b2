use Rattle.std.specs.Prelude.{◌≡◌, ◌<◌, ◌^◌, ◌++◌, ◌∷◌, [], ℕ, All, IsTrue, List, Option, Some, flat_map, length, slice_get}
use Rattle.std.specs.Fmt.{decimal}
use Rattle.std.proofs.Common.{◌∙◌, ap, arith, subst, sym}
use Rattle.std.proofs.lemmas.Result.{err_from_is_err_and}
use Rattle.dk_decl.specs.declared.decls.PointDecl.{PointDecl}
use Rattle.dk_engine.specs.declared.saved.parts.Parts.{Parts}
use Rattle.dk_points.specs.Table.{Point}
use Rattle.dk_state.specs.Declarations.{decls_of, point_lines}
use Rattle.dk_state.specs.Fitting.{FitsPoint}
use Rattle.dk_state.specs.Given.{is_given_point}
use Rattle.dk_state.specs.Lines.{state_line}
use Rattle.dk_state.specs.Loading.{AreLoadedAs, IsLoaded, saved_blocks}
use Rattle.dk_state.specs.Saved.{comparability_text}
use Rattle.dk_state.specs.Spelling.{IsSavedAt, table_behind}
use Rattle.dk_state.proofs.Blocks.{loads_err, no_point}
use Rattle.dk_state.proofs.GivenPoints.{all_given}
use Rattle.dk_state.proofs.Tables.{few_made, own_table}
use Rattle.dk_state.proofs.loading.read.Goals as goal

abbrev Given : PointDecl → Type 0
Given d = IsTrue (is_given_point d)

pub returns-clause-read : goal.returns-clause-read
returns-clause-read c ct meets text =
    let ds = decls_of ct.points in
    let saved = ct.saved in
    let lines = flat_map point_lines ds in
    let first = state_line "comparability" (comparability_text ct.implicit ∷ []) in
    let second = state_line "points" (decimal (length ds) ∷ []) in
    let version = c.grammar-grammar.ensures ct.grammar (first ++ (second ++ (lines ++ saved_blocks 0 saved))) (c.of-front.ensures ∙ sym text) in
    let word = c.implicit-implicit.ensures ct.implicit (second ++ (lines ++ saved_blocks 0 saved)) version.1 in
    let few : length ds < 2 ^ 64 = omega (arith, few_made ds [] ct.points (omega arith) meets.table.made) in
    let count = c.pass_count.ensures (length ds) (lines ++ saved_blocks 0 saved) few word.1 in
    let fit : All FitsPoint ds = λ k e l. (meets.table.given k e l).fits in
    let decls = c.in_ok-decls.ensures.read ds (saved_blocks 0 saved) fit (no_point 0 saved) tt count in
    let given : All Given c.in_ok-decls.decls = subst (All Given) (sym decls.0) (λ k e l. (meets.table.given k e l).given) in
    let made = ap (table_behind []) decls.0 ∙ meets.table.made in
    let table = c.in_ok-points.ensures.read ct.points given made in
    let g = c.grammar-grammar.result in
    let long : length saved ≡ length c.in_ok-points.points = meets.long ∙ ap length (sym table) in
    let each : (p : ℕ) (own : Option Parts) → slice_get saved p ≡ Some own → IsSavedAt g c.in_ok-points.points p own =
    λ p own at. subst (λ h. IsSavedAt h c.in_ok-points.points p own) (sym version.0) (subst (λ ps. IsSavedAt ct.grammar ps p own) (sym table) (meets.saved p own at)) in
    let engines = c.in_ok-engines.ensures.read saved long each decls.1 in
    (version.0, table, word.0, subst (λ h. AreLoadedAs h ct.points saved c.in_ok-engines.engines) version.0 (subst (λ ps. AreLoadedAs g ps saved c.in_ok-engines.engines) table engines))

pub returns-in_err-points-clause-read : goal.returns-in_err-points-clause-read
returns-in_err-points-clause-read c ct meets text =
    let ds = decls_of ct.points in
    let saved = ct.saved in
    let lines = flat_map point_lines ds in
    let first = state_line "comparability" (comparability_text ct.implicit ∷ []) in
    let second = state_line "points" (decimal (length ds) ∷ []) in
    let version = c.grammar-grammar.ensures ct.grammar (first ++ (second ++ (lines ++ saved_blocks 0 saved))) (c.of-front.ensures ∙ sym text) in
    let word = c.implicit-implicit.ensures ct.implicit (second ++ (lines ++ saved_blocks 0 saved)) version.1 in
    let few : length ds < 2 ^ 64 = omega (arith, few_made ds [] ct.points (omega arith) meets.table.made) in
    let count = c.pass_count.ensures (length ds) (lines ++ saved_blocks 0 saved) few word.1 in
    let fit : All FitsPoint ds = λ k e l. (meets.table.given k e l).fits in
    let decls = c.in_ok-decls.ensures.read ds (saved_blocks 0 saved) fit (no_point 0 saved) tt count in
    let given : All Given c.in_ok-decls.decls = subst (All Given) (sym decls.0) (λ k e l. (meets.table.given k e l).given) in
    let made = ap (table_behind []) decls.0 ∙ meets.table.made in
    let fault = err_from_is_err_and c.from_residual-in_err-points.result c.from_residual-in_err-points.ensures.1 in
    rw (fault.1, fault.2) (loads_err (λ (ps : List Point). ps ≡ ct.points) (IsLoaded ct) c.in_err-points.field-0.0 (c.in_err-points.ensures.read ct.points given made))

pub returns-in_err-engines-clause-read : goal.returns-in_err-engines-clause-read
returns-in_err-engines-clause-read c ct meets text =
    let ds = decls_of ct.points in
    let saved = ct.saved in
    let lines = flat_map point_lines ds in
    let first = state_line "comparability" (comparability_text ct.implicit ∷ []) in
    let second = state_line "points" (decimal (length ds) ∷ []) in
    let version = c.grammar-grammar.ensures ct.grammar (first ++ (second ++ (lines ++ saved_blocks 0 saved))) (c.of-front.ensures ∙ sym text) in
    let word = c.implicit-implicit.ensures ct.implicit (second ++ (lines ++ saved_blocks 0 saved)) version.1 in
    let few : length ds < 2 ^ 64 = omega (arith, few_made ds [] ct.points (omega arith) meets.table.made) in
    let count = c.pass_count.ensures (length ds) (lines ++ saved_blocks 0 saved) few word.1 in
    let fit : All FitsPoint ds = λ k e l. (meets.table.given k e l).fits in
    let decls = c.in_ok-decls.ensures.read ds (saved_blocks 0 saved) fit (no_point 0 saved) tt count in
    let given : All Given c.in_ok-decls.decls = subst (All Given) (sym decls.0) (λ k e l. (meets.table.given k e l).given) in
    let made = ap (table_behind []) decls.0 ∙ meets.table.made in
    let table = c.in_ok-points.ensures.read ct.points given made in
    let g = c.grammar-grammar.result in
    let long : length saved ≡ length c.in_ok-points.points = meets.long ∙ ap length (sym table) in
    let each : (p : ℕ) (own : Option Parts) → slice_get saved p ≡ Some own → IsSavedAt g c.in_ok-points.points p own =
    λ p own at. subst (λ h. IsSavedAt h c.in_ok-points.points p own) (sym version.0) (subst (λ ps. IsSavedAt ct.grammar ps p own) (sym table) (meets.saved p own at)) in
    let fault = err_from_is_err_and c.from_residual-in_err-engines.result c.from_residual-in_err-engines.ensures.1 in
    rw (fault.1, fault.2) (loads_err (AreLoadedAs g c.in_ok-points.points saved) (IsLoaded ct) c.in_err-engines.field-0.0 (c.in_err-engines.ensures.read saved long each decls.1))

pub returns-clause-table : goal.returns-clause-table
returns-clause-table c =
    let ds = c.in_ok-decls.decls in
    own_table ds c.in_ok-points.points c.in_ok-points.ensures.made (all_given ds c.in_ok-points.ensures.given c.in_ok-decls.ensures.within)
