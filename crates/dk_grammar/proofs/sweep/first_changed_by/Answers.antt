use Rattle.std.proofs.Common.{arith}
use Rattle.dk_base.specs.Values.{values_of}
use Rattle.dk_grammar.proofs.Sweeping.{all_stay, first_here, it_changes, it_stays, more_stay, slot_read}
use Rattle.dk_grammar.specs.Runs.{Stays}
use Rattle.dk_grammar.proofs.sweep.first_changed_by.Goals as goal

pub stays_over-requires-clause-slot : goal.stays_over-requires-clause-slot
stays_over-requires-clause-slot g c =
    slot_read (g.R.Row.kinds c.args.row.now) (g.R.Row.form c.args.row.now) (values_of c.args.sample.now) g.S.Slot.vars g.S.Slot.state c.args.run.now c.loop-place.place c.index-run-place.result
    (omega arith) c.index-run-place.is c.requires.slots c.vars.result.now c.state.result.now c.vars.ensures c.state.ensures

pub loop-place-preserved : goal.loop-place-preserved
loop-place-preserved g c =
    let form = g.R.Row.form c.args.row.now in
    let state_of = g.R.Row.state_of c.args.row.now in
    let sample = values_of c.args.sample.now in
    more_stay (λ slot. Stays form state_of sample (g.S.Slot.vars slot) (g.S.Slot.state slot)) c.args.run.now c.loop-place.place c.index-run-place.result
    (omega arith) c.index-run-place.is c.loop-place.invariant (it_stays form state_of sample c.vars.ensures c.state.ensures c.stays_over.ensures c.if-not-stays_over.false)

pub returns-then-not-stays_over : goal.returns-then-not-stays_over
returns-then-not-stays_over g c =
    let form = g.R.Row.form c.args.row.now in
    let state_of = g.R.Row.state_of c.args.row.now in
    let sample = values_of c.args.sample.now in
    first_here (λ slot. Stays form state_of sample (g.S.Slot.vars slot) (g.S.Slot.state slot)) c.args.run.now c.loop-place.place c.index-run-place.result
    (omega arith) c.index-run-place.is c.loop-place.invariant (it_changes form state_of sample c.vars.ensures c.state.ensures c.stays_over.ensures c.if-not-stays_over.true)

pub returns : goal.returns
returns g c =
    all_stay (λ slot. Stays (g.R.Row.form c.args.row.now) (g.R.Row.state_of c.args.row.now) (values_of c.args.sample.now) (g.S.Slot.vars slot) (g.S.Slot.state slot)) c.args.run.now
    c.loop-place.place (omega arith) c.loop-place.invariant
