use Rattle.std.proofs.Common.{sym, ◌∙◌}
use Rattle.dk_base.specs.Values.{values_of}
use Rattle.dk_grammar.proofs.Sweeping.{stays_else, stays_whole, tuple_of_slot}
use Rattle.dk_grammar.proofs.sweep.tuple_stays.Goals as goal

pub stays-requires-clause-state : goal.stays-requires-clause-state
stays-requires-clause-state g c = c.requires.slot.proper

pub stays-requires-clause-tuple : goal.stays-requires-clause-tuple
stays-requires-clause-tuple g c = tuple_of_slot (values_of c.args.tuple.now) c.requires.slot c.requires.tuple (sym c.requires.whole ∙ c.if-whole.true)

pub returns-then-whole : goal.returns-then-whole
returns-then-whole g c =
    let row = c.args.row.now in
    stays_whole (g.R.Row.form row) (g.R.Row.state_of row) (values_of c.args.sample.now) c.args.vars.now c.args.state.now (values_of c.args.tuple.now)
    c.requires.tuple (sym c.requires.whole ∙ c.if-whole.true) c.stays.ensures

pub returns-else-whole : goal.returns-else-whole
returns-else-whole g c =
    let row = c.args.row.now in
    stays_else (g.R.Row.form row) (g.R.Row.state_of row) (values_of c.args.sample.now) c.args.vars.now c.args.state.now (values_of c.args.tuple.now)
    c.requires.tuple (sym c.requires.whole ∙ c.if-whole.false)
