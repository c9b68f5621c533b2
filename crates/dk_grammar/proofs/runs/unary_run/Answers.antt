use Rattle.std.proofs.Common.{rules, ◌≡◌}
use Rattle.dk_base.specs.Values.{values_of}
use Rattle.dk_grammar.proofs.Numbers.{first_changed_by_number, slots_by_number}
use Rattle.dk_grammar.proofs.runs.unary_run.Goals as goal

pub returns-in-1-unary_row : goal.returns-in-1-unary_row
returns-in-1-unary_row g c =
    first_changed_by_number g.S.Slot.vars g.S.Slot.state (values_of c.args.sample.now) c.args.run.now c.first_changed_by.result
    c.args.row 1 c.in-1-unary_row.is c.first_changed_by.ensures

pub returns-in-2-unary_row : goal.returns-in-2-unary_row
returns-in-2-unary_row g c =
    first_changed_by_number g.S.Slot.vars g.S.Slot.state (values_of c.args.sample.now) c.args.run.now c.first_changed_by-2.result
    c.args.row 2 c.in-2-unary_row.is c.first_changed_by-2.ensures

pub returns-in-3-unary_row : goal.returns-in-3-unary_row
returns-in-3-unary_row g c =
    first_changed_by_number g.S.Slot.vars g.S.Slot.state (values_of c.args.sample.now) c.args.run.now c.first_changed_by-3.result
    c.args.row 3 c.in-3-unary_row.is c.first_changed_by-3.ensures

pub returns-in-4-unary_row : goal.returns-in-4-unary_row
returns-in-4-unary_row g c =
    first_changed_by_number g.S.Slot.vars g.S.Slot.state (values_of c.args.sample.now) c.args.run.now c.first_changed_by-4.result
    c.args.row 4 c.in-4-unary_row.is c.first_changed_by-4.ensures

pub returns-in-5-unary_row : goal.returns-in-5-unary_row
returns-in-5-unary_row g c =
    first_changed_by_number g.S.Slot.vars g.S.Slot.state (values_of c.args.sample.now) c.args.run.now c.first_changed_by-5.result
    c.args.row 5 c.in-5-unary_row.is c.first_changed_by-5.ensures

pub returns-in-6-unary_row : goal.returns-in-6-unary_row
returns-in-6-unary_row g c =
    first_changed_by_number g.S.Slot.vars g.S.Slot.state (values_of c.args.sample.now) c.args.run.now c.first_changed_by-6.result
    c.args.row 6 c.in-6-unary_row.is c.first_changed_by-6.ensures

pub returns-in-7-unary_row : goal.returns-in-7-unary_row
returns-in-7-unary_row g c =
    first_changed_by_number g.S.Slot.vars g.S.Slot.state (values_of c.args.sample.now) c.args.run.now c.first_changed_by-7.result
    c.args.row 7 c.in-7-unary_row.is c.first_changed_by-7.ensures

pub returns-in-8-unary_row : goal.returns-in-8-unary_row
returns-in-8-unary_row g c =
    first_changed_by_number g.S.Slot.vars g.S.Slot.state (values_of c.args.sample.now) c.args.run.now c.first_changed_by-8.result
    c.args.row 8 c.in-8-unary_row.is c.first_changed_by-8.ensures

pub returns-in-9-unary_row : goal.returns-in-9-unary_row
returns-in-9-unary_row g c =
    first_changed_by_number g.S.Slot.vars g.S.Slot.state (values_of c.args.sample.now) c.args.run.now c.first_changed_by-9.result
    c.args.row 9 c.in-9-unary_row.is c.first_changed_by-9.ensures

pub first_changed_by-requires-10-clause-slots : goal.first_changed_by-requires-10-clause-slots
first_changed_by-requires-10-clause-slots g c =
    let last : c.args.row.0 ≡ 10 = search rules in
    slots_by_number g.S.Slot.vars g.S.Slot.state (values_of c.args.sample.now) c.args.run.now c.args.row 10 last c.requires.run

pub returns-in_default : goal.returns-in_default
returns-in_default g c =
    let last : c.args.row.0 ≡ 10 = search rules in
    first_changed_by_number g.S.Slot.vars g.S.Slot.state (values_of c.args.sample.now) c.args.run.now c.first_changed_by-10.result
    c.args.row 10 last c.first_changed_by-10.ensures
