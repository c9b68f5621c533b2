use Rattle.std.specs.Prelude.{◌<◌, ◌≤◌, ◌+◌, ◌++◌, ◌||◌, [], ◌∷◌, Bool, List, filter, map, take}
use Rattle.std.proofs.Common.{ap, ◌∙◌, arith}
use Rattle.dk_base.specs.declared.kinds.VarId.{VarId}
use Rattle.dk_instances.specs.Instances.{rows_of}
use Rattle.dk_template.specs.Templates.{rows_in}
use Rattle.dk_template.specs.declared.grammar.RowId.{RowId}
use Rattle.dk_report.proofs.Rules.{row-more, rows-all}
use Rattle.dk_report.specs.Viewing.{left_of_shown, may_follow}
use Rattle.dk_report.proofs.viewing.told_level.Goals as goal

pub loop-n-preserved : goal.loop-n-preserved
loop-n-preserved c =
    let g = c.args.grammar in
    let below : List (List VarId) = c.args.below.now in
    let row : RowId = record { 0 = c.loop-n.n + 1 } in
    let F : RowId → List VarId = left_of_shown c.args.shown.now below in
    let test = c.loop-n-test.true in
    let last = c.rows-n-end.ensures in
    let within : c.loop-n.n < rows_in g = omega (arith, test, last) in
    c.in_ok-push-2.ensures.items
    ∙ (ap (λ (xs : List (List VarId)). xs ++ c.in_ok-vars.vars ∷ []) c.loop-n.invariant
    ∙ (ap (λ (vs : List VarId). ([] ∷ map F (take c.loop-n.n (rows_of g))) ++ vs ∷ [])
    (c.in_ok-vars.ensures ∙ ap (λ (ps : List (VarId × Bool)). map (λ (pair : VarId × Bool). pair.0) (filter (λ (pair : VarId × Bool). pair.1 || may_follow below row pair.0) ps)) c.shown_at.ensures)
    ∙ row-more g F c.loop-n.n within))

pub returns : goal.returns
returns c =
    let g = c.args.grammar in
    let F : RowId → List VarId = left_of_shown c.args.shown.now c.args.below.now in
    let test = c.loop-n-test.false in
    let last = c.rows-n-end.ensures in
    let past : rows_in g ≤ c.loop-n.n = omega (arith, test, last) in
    c.loop-n.invariant ∙ rows-all g F c.loop-n.n past
