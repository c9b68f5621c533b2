use Rattle.std.proofs.Common.{rules, ◌≡◌}
use Rattle.dk_base.specs.Values.{values_of}
use Rattle.dk_grammar.proofs.Numbers.{first_changed_by_number, slots_by_number}
use Rattle.dk_grammar.proofs.runs.element_run.Goals as goal

pub returns-in-35-element_row : goal.returns-in-35-element_row
returns-in-35-element_row g c =
    first_changed_by_number g.S.Slot.vars g.S.Slot.state (values_of c.args.sample.now) c.args.run.now c.first_changed_by.result
    c.args.row 35 c.in-35-element_row.is c.first_changed_by.ensures

pub returns-in-36-element_row : goal.returns-in-36-element_row
returns-in-36-element_row g c =
    first_changed_by_number g.S.Slot.vars g.S.Slot.state (values_of c.args.sample.now) c.args.run.now c.first_changed_by-2.result
    c.args.row 36 c.in-36-element_row.is c.first_changed_by-2.ensures

pub returns-in-37-element_row : goal.returns-in-37-element_row
returns-in-37-element_row g c =
    first_changed_by_number g.S.Slot.vars g.S.Slot.state (values_of c.args.sample.now) c.args.run.now c.first_changed_by-3.result
    c.args.row 37 c.in-37-element_row.is c.first_changed_by-3.ensures

pub returns-in-38-element_row : goal.returns-in-38-element_row
returns-in-38-element_row g c =
    first_changed_by_number g.S.Slot.vars g.S.Slot.state (values_of c.args.sample.now) c.args.run.now c.first_changed_by-4.result
    c.args.row 38 c.in-38-element_row.is c.first_changed_by-4.ensures

pub returns-in-39-element_row : goal.returns-in-39-element_row
returns-in-39-element_row g c =
    first_changed_by_number g.S.Slot.vars g.S.Slot.state (values_of c.args.sample.now) c.args.run.now c.first_changed_by-5.result
    c.args.row 39 c.in-39-element_row.is c.first_changed_by-5.ensures

pub returns-in-40-element_row : goal.returns-in-40-element_row
returns-in-40-element_row g c =
    first_changed_by_number g.S.Slot.vars g.S.Slot.state (values_of c.args.sample.now) c.args.run.now c.first_changed_by-6.result
    c.args.row 40 c.in-40-element_row.is c.first_changed_by-6.ensures

pub returns-in-41-element_row : goal.returns-in-41-element_row
returns-in-41-element_row g c =
    first_changed_by_number g.S.Slot.vars g.S.Slot.state (values_of c.args.sample.now) c.args.run.now c.first_changed_by-7.result
    c.args.row 41 c.in-41-element_row.is c.first_changed_by-7.ensures

pub returns-in-42-element_row : goal.returns-in-42-element_row
returns-in-42-element_row g c =
    first_changed_by_number g.S.Slot.vars g.S.Slot.state (values_of c.args.sample.now) c.args.run.now c.first_changed_by-8.result
    c.args.row 42 c.in-42-element_row.is c.first_changed_by-8.ensures

pub returns-in-43-element_row : goal.returns-in-43-element_row
returns-in-43-element_row g c =
    first_changed_by_number g.S.Slot.vars g.S.Slot.state (values_of c.args.sample.now) c.args.run.now c.first_changed_by-9.result
    c.args.row 43 c.in-43-element_row.is c.first_changed_by-9.ensures

pub returns-in-44-element_row : goal.returns-in-44-element_row
returns-in-44-element_row g c =
    first_changed_by_number g.S.Slot.vars g.S.Slot.state (values_of c.args.sample.now) c.args.run.now c.first_changed_by-10.result
    c.args.row 44 c.in-44-element_row.is c.first_changed_by-10.ensures

pub returns-in-45-element_row : goal.returns-in-45-element_row
returns-in-45-element_row g c =
    first_changed_by_number g.S.Slot.vars g.S.Slot.state (values_of c.args.sample.now) c.args.run.now c.first_changed_by-11.result
    c.args.row 45 c.in-45-element_row.is c.first_changed_by-11.ensures

pub returns-in-46-element_row : goal.returns-in-46-element_row
returns-in-46-element_row g c =
    first_changed_by_number g.S.Slot.vars g.S.Slot.state (values_of c.args.sample.now) c.args.run.now c.first_changed_by-12.result
    c.args.row 46 c.in-46-element_row.is c.first_changed_by-12.ensures

pub returns-in-47-element_row : goal.returns-in-47-element_row
returns-in-47-element_row g c =
    first_changed_by_number g.S.Slot.vars g.S.Slot.state (values_of c.args.sample.now) c.args.run.now c.first_changed_by-13.result
    c.args.row 47 c.in-47-element_row.is c.first_changed_by-13.ensures

pub returns-in-48-element_row : goal.returns-in-48-element_row
returns-in-48-element_row g c =
    first_changed_by_number g.S.Slot.vars g.S.Slot.state (values_of c.args.sample.now) c.args.run.now c.first_changed_by-14.result
    c.args.row 48 c.in-48-element_row.is c.first_changed_by-14.ensures

pub returns-in-52-element_row : goal.returns-in-52-element_row
returns-in-52-element_row g c =
    first_changed_by_number g.S.Slot.vars g.S.Slot.state (values_of c.args.sample.now) c.args.run.now c.first_changed_by-15.result
    c.args.row 52 c.in-52-element_row.is c.first_changed_by-15.ensures

pub returns-in-53-element_row : goal.returns-in-53-element_row
returns-in-53-element_row g c =
    first_changed_by_number g.S.Slot.vars g.S.Slot.state (values_of c.args.sample.now) c.args.run.now c.first_changed_by-16.result
    c.args.row 53 c.in-53-element_row.is c.first_changed_by-16.ensures

pub returns-in-54-element_row : goal.returns-in-54-element_row
returns-in-54-element_row g c =
    first_changed_by_number g.S.Slot.vars g.S.Slot.state (values_of c.args.sample.now) c.args.run.now c.first_changed_by-17.result
    c.args.row 54 c.in-54-element_row.is c.first_changed_by-17.ensures

pub returns-in-55-element_row : goal.returns-in-55-element_row
returns-in-55-element_row g c =
    first_changed_by_number g.S.Slot.vars g.S.Slot.state (values_of c.args.sample.now) c.args.run.now c.first_changed_by-18.result
    c.args.row 55 c.in-55-element_row.is c.first_changed_by-18.ensures

pub first_changed_by-requires-19-clause-slots : goal.first_changed_by-requires-19-clause-slots
first_changed_by-requires-19-clause-slots g c =
    let last : c.args.row.0 ≡ 56 = search rules in
    slots_by_number g.S.Slot.vars g.S.Slot.state (values_of c.args.sample.now) c.args.run.now c.args.row 56 last c.requires.run

pub returns-in_default : goal.returns-in_default
returns-in_default g c =
    let last : c.args.row.0 ≡ 56 = search rules in
    first_changed_by_number g.S.Slot.vars g.S.Slot.state (values_of c.args.sample.now) c.args.run.now c.first_changed_by-19.result
    c.args.row 56 last c.first_changed_by-19.ensures
