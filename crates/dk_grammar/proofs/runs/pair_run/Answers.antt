use Rattle.std.proofs.Common.{rules, ◌≡◌}
use Rattle.dk_base.specs.Values.{values_of}
use Rattle.dk_grammar.proofs.Numbers.{first_changed_by_number, slots_by_number}
use Rattle.dk_grammar.proofs.runs.pair_run.Goals as goal

pub returns-in-49-pair_row : goal.returns-in-49-pair_row
returns-in-49-pair_row g c =
    first_changed_by_number g.S.Slot.vars g.S.Slot.state (values_of c.args.sample.now) c.args.run.now c.first_changed_by.result
    c.args.row 49 c.in-49-pair_row.is c.first_changed_by.ensures

pub returns-in-50-pair_row : goal.returns-in-50-pair_row
returns-in-50-pair_row g c =
    first_changed_by_number g.S.Slot.vars g.S.Slot.state (values_of c.args.sample.now) c.args.run.now c.first_changed_by-2.result
    c.args.row 50 c.in-50-pair_row.is c.first_changed_by-2.ensures

pub returns-in-51-pair_row : goal.returns-in-51-pair_row
returns-in-51-pair_row g c =
    first_changed_by_number g.S.Slot.vars g.S.Slot.state (values_of c.args.sample.now) c.args.run.now c.first_changed_by-3.result
    c.args.row 51 c.in-51-pair_row.is c.first_changed_by-3.ensures

pub returns-in-57-pair_row : goal.returns-in-57-pair_row
returns-in-57-pair_row g c =
    first_changed_by_number g.S.Slot.vars g.S.Slot.state (values_of c.args.sample.now) c.args.run.now c.first_changed_by-4.result
    c.args.row 57 c.in-57-pair_row.is c.first_changed_by-4.ensures

pub returns-in-58-pair_row : goal.returns-in-58-pair_row
returns-in-58-pair_row g c =
    first_changed_by_number g.S.Slot.vars g.S.Slot.state (values_of c.args.sample.now) c.args.run.now c.first_changed_by-5.result
    c.args.row 58 c.in-58-pair_row.is c.first_changed_by-5.ensures

pub returns-in-59-pair_row : goal.returns-in-59-pair_row
returns-in-59-pair_row g c =
    first_changed_by_number g.S.Slot.vars g.S.Slot.state (values_of c.args.sample.now) c.args.run.now c.first_changed_by-6.result
    c.args.row 59 c.in-59-pair_row.is c.first_changed_by-6.ensures

pub returns-in-60-pair_row : goal.returns-in-60-pair_row
returns-in-60-pair_row g c =
    first_changed_by_number g.S.Slot.vars g.S.Slot.state (values_of c.args.sample.now) c.args.run.now c.first_changed_by-7.result
    c.args.row 60 c.in-60-pair_row.is c.first_changed_by-7.ensures

pub returns-in-61-pair_row : goal.returns-in-61-pair_row
returns-in-61-pair_row g c =
    first_changed_by_number g.S.Slot.vars g.S.Slot.state (values_of c.args.sample.now) c.args.run.now c.first_changed_by-8.result
    c.args.row 61 c.in-61-pair_row.is c.first_changed_by-8.ensures

pub returns-in-62-pair_row : goal.returns-in-62-pair_row
returns-in-62-pair_row g c =
    first_changed_by_number g.S.Slot.vars g.S.Slot.state (values_of c.args.sample.now) c.args.run.now c.first_changed_by-9.result
    c.args.row 62 c.in-62-pair_row.is c.first_changed_by-9.ensures

pub returns-in-63-pair_row : goal.returns-in-63-pair_row
returns-in-63-pair_row g c =
    first_changed_by_number g.S.Slot.vars g.S.Slot.state (values_of c.args.sample.now) c.args.run.now c.first_changed_by-10.result
    c.args.row 63 c.in-63-pair_row.is c.first_changed_by-10.ensures

pub returns-in-64-pair_row : goal.returns-in-64-pair_row
returns-in-64-pair_row g c =
    first_changed_by_number g.S.Slot.vars g.S.Slot.state (values_of c.args.sample.now) c.args.run.now c.first_changed_by-11.result
    c.args.row 64 c.in-64-pair_row.is c.first_changed_by-11.ensures

pub returns-in-65-pair_row : goal.returns-in-65-pair_row
returns-in-65-pair_row g c =
    first_changed_by_number g.S.Slot.vars g.S.Slot.state (values_of c.args.sample.now) c.args.run.now c.first_changed_by-12.result
    c.args.row 65 c.in-65-pair_row.is c.first_changed_by-12.ensures

pub returns-in-66-pair_row : goal.returns-in-66-pair_row
returns-in-66-pair_row g c =
    first_changed_by_number g.S.Slot.vars g.S.Slot.state (values_of c.args.sample.now) c.args.run.now c.first_changed_by-13.result
    c.args.row 66 c.in-66-pair_row.is c.first_changed_by-13.ensures

pub first_changed_by-requires-14-clause-slots : goal.first_changed_by-requires-14-clause-slots
first_changed_by-requires-14-clause-slots g c =
    let last : c.args.row.0 ≡ 68 = search rules in
    slots_by_number g.S.Slot.vars g.S.Slot.state (values_of c.args.sample.now) c.args.run.now c.args.row 68 last c.requires.run

pub returns-in_default : goal.returns-in_default
returns-in_default g c =
    let last : c.args.row.0 ≡ 68 = search rules in
    first_changed_by_number g.S.Slot.vars g.S.Slot.state (values_of c.args.sample.now) c.args.run.now c.first_changed_by-14.result
    c.args.row 68 last c.first_changed_by-14.ensures
