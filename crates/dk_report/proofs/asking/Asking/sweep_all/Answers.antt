use Rattle.std.specs.Prelude.{◌<◌, ◌≤◌, ◌+◌, ◌++◌, List, flat_map}
use Rattle.std.proofs.Common.{ap, ◌∙◌, arith}
use Rattle.dk_engine.proofs.Spread.{row_more, rows_all}
use Rattle.dk_filters.specs.Candidates.{candidates_kept, candidates_of}
use Rattle.dk_filters.specs.declared.candidate.Candidate.{Candidate}
use Rattle.dk_template.specs.Templates.{rows_in}
use Rattle.dk_template.specs.declared.grammar.Grammar.{Grammar}
use Rattle.dk_template.specs.declared.grammar.RowId.{RowId}
use Rattle.dk_report.proofs.Swept.{swept_is}
use Rattle.dk_report.specs.Asked.{candidates_standing, here_of, views_of}
use Rattle.dk_report.specs.Keeping.{keeps}
use Rattle.dk_report.proofs.asking.Asking.sweep_all.Goals as goal

pub loop-n-preserved : goal.loop-n-preserved
loop-n-preserved c =
    let asking = c.args.self.now in
    let F : RowId → List Candidate = candidates_standing asking c.args.standing.now in
    let test = c.loop-n-test.true in
    let last = c.rows-n-end.ensures in
    let row : RowId = record { 0 = c.loop-n.n + 1 } in
    let within : c.loop-n.n < rows_in asking.grammar = omega (arith, test, last) in
    c.in_ok-list.ensures
    ∙ (ap (λ ss. ss ++ F row) c.loop-n.invariant ∙ row_more F asking.grammar c.loop-n.n within)

pub returns : goal.returns
returns c =
    let asking = c.args.self.now in
    let F : RowId → List Candidate = candidates_standing asking c.args.standing.now in
    let test = c.loop-n-test.false in
    let last = c.rows-n-end.ensures in
    let past : rows_in asking.grammar ≤ c.loop-n.n = omega (arith, test, last) in
    c.loop-n.invariant
    ∙ (ap (flat_map F) (rows_all asking.grammar c.loop-n.n past)
    ∙ (swept_is asking c.requires.asked c.args.standing.now c.requires.standing asking.grammar
    ∙ ap (λ (g : Grammar). candidates_kept (keeps asking.options.now) (candidates_of g asking.options.now.least (here_of asking) (views_of asking))) c.requires.asked.grammar))
