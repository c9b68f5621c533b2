use Rattle.std.specs.Prelude.{◌≡◌, ◌++◌, ◌∷◌, [], ℕ, List, OnOk, flat_map, length, map}
use Rattle.std.specs.Fmt.{decimal}
use Rattle.std.specs.List.{enumerate_from}
use Rattle.std.proofs.Common.{◌∙◌, ap, subst}
use Rattle.dk_engine.specs.Reading.Levels.{Whole}
use Rattle.dk_state.specs.Declarations.{decls_of, point_lines}
use Rattle.dk_state.specs.Lines.{state_line}
use Rattle.dk_state.specs.Saved.{comparability_text, kept_lines, saved_text, version_of}
use Rattle.dk_state.proofs.Pieces.{head_and_body, on_ok_weaker}
use Rattle.dk_state.proofs.SameTexts.{saved_is_state_file}
use Rattle.dk_state.proofs.saving.push_saved.Goals as goal

pub returns-clause-text : goal.returns-clause-text
unfolding saved_text
returns-clause-text c =
    let ps = c.args.points.now in
    let body : List ℕ =
    flat_map point_lines (decls_of ps) ++ (flat_map kept_lines (enumerate_from 0 (map (λ (engine : Whole). engine.kept) c.args.engines.now)) ++ state_line "end-state" [])
    in
    subst (λ (t : List ℕ). OnOk c.push_body.result (c.push_body.new.text ≡ t))
    (ap (λ (t : List ℕ). t ++ body) c.in_ok-push_head.ensures
    ∙ head_and_body c.args.text.now (state_line "daikon-state" (decimal (version_of c.args.grammar) ∷ [])) (state_line "comparability" (comparability_text c.args.implicit ∷ [])) (state_line "points" (decimal (length (decls_of ps)) ∷ [])) body)
    c.push_body.ensures

pub returns-clause-stands : goal.returns-clause-stands
returns-clause-stands c =
    on_ok_weaker c.push_body.result
    (λ e own stand. e ∙ ap (λ (t : List ℕ). c.args.text.now ++ t) (saved_is_state_file c.args.grammar c.args.points.now c.args.implicit c.args.engines.now own stand))
    (returns-clause-text c)
