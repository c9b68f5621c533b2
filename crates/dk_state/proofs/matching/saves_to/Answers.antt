use Rattle.std.specs.Prelude.{◌≡◌, ◌++◌, ◌∷◌, [], List, ℕ, Some, flat_map, length, map}
use Rattle.std.specs.Fmt.{decimal}
use Rattle.std.specs.List.{enumerate_from}
use Rattle.std.proofs.Common.{◌∙◌, ap}
use Rattle.dk_engine.specs.Reading.Levels.{Whole}
use Rattle.dk_state.specs.Declarations.{decls_of, point_lines}
use Rattle.dk_state.specs.Lines.{state_line}
use Rattle.dk_state.specs.Matching.{is_end, left_behind}
use Rattle.dk_state.specs.Saved.{comparability_text, kept_lines, saved_text, version_of}
use Rattle.dk_state.proofs.PassedEngines.{state_passed}
use Rattle.dk_state.proofs.matching.saves_to.Goals as goal

pub returns : goal.returns
unfolding saved_text
returns c =
    let ps = c.args.points.now in
    let version = state_line "daikon-state" (decimal (version_of c.args.grammar) ∷ []) in
    let word = state_line "comparability" (comparability_text c.args.implicit ∷ []) in
    let count = state_line "points" (decimal (length (decls_of ps)) ∷ []) in
    let declared = flat_map point_lines (decls_of ps) in
    let kept = flat_map kept_lines (enumerate_from 0 (map (λ (engine : Whole). engine.kept) c.args.engines.now)) in
    let end = state_line "end-state" [] in
    let head : List ℕ = version ++ (word ++ count) in
    let front : c.as_slice.result.now ≡ head ++ declared =
    c.as_slice.ensures ∙ c.in_ok-push_points.ensures ∙ ap (λ (t : List ℕ). t ++ declared) (c.in_ok-push_head.ensures ∙ ap (λ (t : List ℕ). t ++ head) c.new-front.ensures) in
    let passed : c.pass.new.self ≡ left_behind (head ++ declared) (Some c.args.bytes.now) =
    c.pass.ensures ∙ ap (left_behind c.as_slice.result.now) c.of-rest.ensures ∙ ap (λ (t : List ℕ). left_behind t (Some c.args.bytes.now)) front in
    c.is_end.ensures
    ∙ ap is_end (c.pass-2.ensures ∙ ap (left_behind end) (c.in_ok-pass_engines.ensures ∙ ap (left_behind kept) passed))
    ∙ state_passed version word count declared kept end c.args.bytes.now
