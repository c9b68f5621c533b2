use Rattle.std.specs.Prelude.{◌<◌, ◌≤◌, ◌+◌, ◌++◌, List, flat_map}
use Rattle.std.proofs.Common.{ap, ◌∙◌, arith}
use Rattle.dk_template.specs.Templates.{rows_in}
use Rattle.dk_template.specs.declared.grammar.RowId.{RowId}
use Rattle.dk_engine.proofs.Spread.{row_more, rows_all}
use Rattle.dk_engine.specs.Feeding.{read_after, slots_of, slots_of_row}
use Rattle.dk_engine.specs.declared.slots.slot.Slot.{Slot}
use Rattle.dk_engine.proofs.sweeps.Sweep.all.Goals as goal

pub loop-n-preserved : goal.loop-n-preserved
loop-n-preserved c =
    let s = c.args.self.now in
    let F : RowId → List Slot = slots_of_row s.infos.now c.args.leaders.now s.known.now (read_after s.answers.now.whole.kept s.answers.now.sample) in
    let test = c.loop-n-test.true in
    let last = c.rows-n-end.ensures in
    let within : c.loop-n.n < rows_in c.args.grammar = omega (arith, test, last) in
    c.in_ok-of_row.ensures
    ∙ (ap (λ l. c.loop-n.slots ++ slots_of_row s.infos.now l s.known.now (read_after s.answers.now.whole.kept s.answers.now.sample) (record { 0 = c.loop-n.n + 1 })) c.in_ok-suited.ensures.all
    ∙ (ap (λ ss. ss ++ F (record { 0 = c.loop-n.n + 1 })) c.loop-n.invariant ∙ row_more F c.args.grammar c.loop-n.n within))

pub returns : goal.returns
unfolding slots_of
returns c =
    let s = c.args.self.now in
    let F : RowId → List Slot = slots_of_row s.infos.now c.args.leaders.now s.known.now (read_after s.answers.now.whole.kept s.answers.now.sample) in
    let test = c.loop-n-test.false in
    let last = c.rows-n-end.ensures in
    let past : rows_in c.args.grammar ≤ c.loop-n.n = omega (arith, test, last) in
    c.loop-n.invariant ∙ ap (flat_map F) (rows_all c.args.grammar c.loop-n.n past)
