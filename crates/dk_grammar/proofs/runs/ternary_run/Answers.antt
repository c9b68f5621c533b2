use Rattle.std.proofs.Common.{rules, ◌≡◌}
use Rattle.dk_base.specs.Values.{values_of}
use Rattle.dk_grammar.proofs.Numbers.{first_changed_by_number, slots_by_number}
use Rattle.dk_grammar.proofs.runs.ternary_run.Goals as goal

pub returns-in-24-ternary_row : goal.returns-in-24-ternary_row
returns-in-24-ternary_row g c =
    first_changed_by_number g.S.Slot.vars g.S.Slot.state (values_of c.args.sample.now) c.args.run.now c.first_changed_by.result
    c.args.row 24 c.in-24-ternary_row.is c.first_changed_by.ensures

pub returns-in-25-ternary_row : goal.returns-in-25-ternary_row
returns-in-25-ternary_row g c =
    first_changed_by_number g.S.Slot.vars g.S.Slot.state (values_of c.args.sample.now) c.args.run.now c.first_changed_by-2.result
    c.args.row 25 c.in-25-ternary_row.is c.first_changed_by-2.ensures

pub returns-in-26-ternary_row : goal.returns-in-26-ternary_row
returns-in-26-ternary_row g c =
    first_changed_by_number g.S.Slot.vars g.S.Slot.state (values_of c.args.sample.now) c.args.run.now c.first_changed_by-3.result
    c.args.row 26 c.in-26-ternary_row.is c.first_changed_by-3.ensures

pub returns-in-27-ternary_row : goal.returns-in-27-ternary_row
returns-in-27-ternary_row g c =
    first_changed_by_number g.S.Slot.vars g.S.Slot.state (values_of c.args.sample.now) c.args.run.now c.first_changed_by-4.result
    c.args.row 27 c.in-27-ternary_row.is c.first_changed_by-4.ensures

pub returns-in-28-ternary_row : goal.returns-in-28-ternary_row
returns-in-28-ternary_row g c =
    first_changed_by_number g.S.Slot.vars g.S.Slot.state (values_of c.args.sample.now) c.args.run.now c.first_changed_by-5.result
    c.args.row 28 c.in-28-ternary_row.is c.first_changed_by-5.ensures

pub returns-in-29-ternary_row : goal.returns-in-29-ternary_row
returns-in-29-ternary_row g c =
    first_changed_by_number g.S.Slot.vars g.S.Slot.state (values_of c.args.sample.now) c.args.run.now c.first_changed_by-6.result
    c.args.row 29 c.in-29-ternary_row.is c.first_changed_by-6.ensures

pub returns-in-30-ternary_row : goal.returns-in-30-ternary_row
returns-in-30-ternary_row g c =
    first_changed_by_number g.S.Slot.vars g.S.Slot.state (values_of c.args.sample.now) c.args.run.now c.first_changed_by-7.result
    c.args.row 30 c.in-30-ternary_row.is c.first_changed_by-7.ensures

pub returns-in-31-ternary_row : goal.returns-in-31-ternary_row
returns-in-31-ternary_row g c =
    first_changed_by_number g.S.Slot.vars g.S.Slot.state (values_of c.args.sample.now) c.args.run.now c.first_changed_by-8.result
    c.args.row 31 c.in-31-ternary_row.is c.first_changed_by-8.ensures

pub returns-in-32-ternary_row : goal.returns-in-32-ternary_row
returns-in-32-ternary_row g c =
    first_changed_by_number g.S.Slot.vars g.S.Slot.state (values_of c.args.sample.now) c.args.run.now c.first_changed_by-9.result
    c.args.row 32 c.in-32-ternary_row.is c.first_changed_by-9.ensures

pub returns-in-33-ternary_row : goal.returns-in-33-ternary_row
returns-in-33-ternary_row g c =
    first_changed_by_number g.S.Slot.vars g.S.Slot.state (values_of c.args.sample.now) c.args.run.now c.first_changed_by-10.result
    c.args.row 33 c.in-33-ternary_row.is c.first_changed_by-10.ensures

pub returns-in-34-ternary_row : goal.returns-in-34-ternary_row
returns-in-34-ternary_row g c =
    first_changed_by_number g.S.Slot.vars g.S.Slot.state (values_of c.args.sample.now) c.args.run.now c.first_changed_by-11.result
    c.args.row 34 c.in-34-ternary_row.is c.first_changed_by-11.ensures

pub first_changed_by-requires-12-clause-slots : goal.first_changed_by-requires-12-clause-slots
first_changed_by-requires-12-clause-slots g c =
    let last : c.args.row.0 ≡ 67 = search rules in
    slots_by_number g.S.Slot.vars g.S.Slot.state (values_of c.args.sample.now) c.args.run.now c.args.row 67 last c.requires.run

pub returns-in_default : goal.returns-in_default
returns-in_default g c =
    let last : c.args.row.0 ≡ 67 = search rules in
    first_changed_by_number g.S.Slot.vars g.S.Slot.state (values_of c.args.sample.now) c.args.run.now c.first_changed_by-12.result
    c.args.row 67 last c.first_changed_by-12.ensures
