use Rattle.std.specs.Prelude.{◌<◌, ◌≤◌, ◌+◌, ◌++◌, List, flat_map}
use Rattle.std.proofs.Common.{ap, ◌∙◌, arith}
use Rattle.dk_engine.proofs.Spread.{row_more, rows_all}
use Rattle.dk_filters.specs.declared.candidate.Candidate.{Candidate}
use Rattle.dk_instances.specs.Instances.{rows_of}
use Rattle.dk_template.specs.Templates.{rows_in}
use Rattle.dk_template.specs.declared.grammar.Grammar.{Grammar}
use Rattle.dk_template.specs.declared.grammar.RowId.{RowId}
use Rattle.dk_report.specs.Viewing.{candidates_told}
use Rattle.dk_report.proofs.asking.Asking.list_in_view.Goals as goal

pub loop-n-preserved : goal.loop-n-preserved
loop-n-preserved c =
    let asking = c.args.self.now in
    let F : RowId → List Candidate = candidates_told c.args.table.now asking c.args.standing.now in
    let test = c.loop-n-test.true in
    let last = c.rows-n-end.ensures in
    let row : RowId = record { 0 = c.loop-n.n + 1 } in
    let within : c.loop-n.n < rows_in asking.grammar = omega (arith, test, last) in
    c.in_ok-list.ensures ∙ (ap (λ ss. ss ++ F row) c.loop-n.invariant ∙ row_more F asking.grammar c.loop-n.n within)

pub returns : goal.returns
returns c =
    let asking = c.args.self.now in
    let F : RowId → List Candidate = candidates_told c.args.table.now asking c.args.standing.now in
    let test = c.loop-n-test.false in
    let last = c.rows-n-end.ensures in
    let past : rows_in asking.grammar ≤ c.loop-n.n = omega (arith, test, last) in
    c.loop-n.invariant
    ∙ (ap (flat_map F) (rows_all asking.grammar c.loop-n.n past) ∙ ap (λ (g : Grammar). flat_map F (rows_of g)) c.requires.grammar)
