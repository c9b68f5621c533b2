use Rattle.std.proofs.Common.{rules, ◌≡◌}
use Rattle.dk_base.specs.Values.{values_of}
use Rattle.dk_grammar.proofs.Numbers.{first_changed_by_number, slots_by_number}
use Rattle.dk_grammar.proofs.runs.binary_run.Goals as goal

pub returns-in-11-binary_row : goal.returns-in-11-binary_row
returns-in-11-binary_row g c =
    first_changed_by_number g.S.Slot.vars g.S.Slot.state (values_of c.args.sample.now) c.args.run.now c.first_changed_by.result
    c.args.row 11 c.in-11-binary_row.is c.first_changed_by.ensures

pub returns-in-12-binary_row : goal.returns-in-12-binary_row
returns-in-12-binary_row g c =
    first_changed_by_number g.S.Slot.vars g.S.Slot.state (values_of c.args.sample.now) c.args.run.now c.first_changed_by-2.result
    c.args.row 12 c.in-12-binary_row.is c.first_changed_by-2.ensures

pub returns-in-13-binary_row : goal.returns-in-13-binary_row
returns-in-13-binary_row g c =
    first_changed_by_number g.S.Slot.vars g.S.Slot.state (values_of c.args.sample.now) c.args.run.now c.first_changed_by-3.result
    c.args.row 13 c.in-13-binary_row.is c.first_changed_by-3.ensures

pub returns-in-14-binary_row : goal.returns-in-14-binary_row
returns-in-14-binary_row g c =
    first_changed_by_number g.S.Slot.vars g.S.Slot.state (values_of c.args.sample.now) c.args.run.now c.first_changed_by-4.result
    c.args.row 14 c.in-14-binary_row.is c.first_changed_by-4.ensures

pub returns-in-15-binary_row : goal.returns-in-15-binary_row
returns-in-15-binary_row g c =
    first_changed_by_number g.S.Slot.vars g.S.Slot.state (values_of c.args.sample.now) c.args.run.now c.first_changed_by-5.result
    c.args.row 15 c.in-15-binary_row.is c.first_changed_by-5.ensures

pub returns-in-16-binary_row : goal.returns-in-16-binary_row
returns-in-16-binary_row g c =
    first_changed_by_number g.S.Slot.vars g.S.Slot.state (values_of c.args.sample.now) c.args.run.now c.first_changed_by-6.result
    c.args.row 16 c.in-16-binary_row.is c.first_changed_by-6.ensures

pub returns-in-17-binary_row : goal.returns-in-17-binary_row
returns-in-17-binary_row g c =
    first_changed_by_number g.S.Slot.vars g.S.Slot.state (values_of c.args.sample.now) c.args.run.now c.first_changed_by-7.result
    c.args.row 17 c.in-17-binary_row.is c.first_changed_by-7.ensures

pub returns-in-18-binary_row : goal.returns-in-18-binary_row
returns-in-18-binary_row g c =
    first_changed_by_number g.S.Slot.vars g.S.Slot.state (values_of c.args.sample.now) c.args.run.now c.first_changed_by-8.result
    c.args.row 18 c.in-18-binary_row.is c.first_changed_by-8.ensures

pub returns-in-19-binary_row : goal.returns-in-19-binary_row
returns-in-19-binary_row g c =
    first_changed_by_number g.S.Slot.vars g.S.Slot.state (values_of c.args.sample.now) c.args.run.now c.first_changed_by-9.result
    c.args.row 19 c.in-19-binary_row.is c.first_changed_by-9.ensures

pub returns-in-20-binary_row : goal.returns-in-20-binary_row
returns-in-20-binary_row g c =
    first_changed_by_number g.S.Slot.vars g.S.Slot.state (values_of c.args.sample.now) c.args.run.now c.first_changed_by-10.result
    c.args.row 20 c.in-20-binary_row.is c.first_changed_by-10.ensures

pub returns-in-21-binary_row : goal.returns-in-21-binary_row
returns-in-21-binary_row g c =
    first_changed_by_number g.S.Slot.vars g.S.Slot.state (values_of c.args.sample.now) c.args.run.now c.first_changed_by-11.result
    c.args.row 21 c.in-21-binary_row.is c.first_changed_by-11.ensures

pub returns-in-22-binary_row : goal.returns-in-22-binary_row
returns-in-22-binary_row g c =
    first_changed_by_number g.S.Slot.vars g.S.Slot.state (values_of c.args.sample.now) c.args.run.now c.first_changed_by-12.result
    c.args.row 22 c.in-22-binary_row.is c.first_changed_by-12.ensures

pub first_changed_by-requires-13-clause-slots : goal.first_changed_by-requires-13-clause-slots
first_changed_by-requires-13-clause-slots g c =
    let last : c.args.row.0 ≡ 23 = search rules in
    slots_by_number g.S.Slot.vars g.S.Slot.state (values_of c.args.sample.now) c.args.run.now c.args.row 23 last c.requires.run

pub returns-in_default : goal.returns-in_default
returns-in_default g c =
    let last : c.args.row.0 ≡ 23 = search rules in
    first_changed_by_number g.S.Slot.vars g.S.Slot.state (values_of c.args.sample.now) c.args.run.now c.first_changed_by-13.result
    c.args.row 23 last c.first_changed_by-13.ensures
