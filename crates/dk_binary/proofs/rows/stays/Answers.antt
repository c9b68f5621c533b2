use Rattle.std.proofs.Common.{rules, ◌≡◌}
use Rattle.dk_base.specs.Values.{values_of}
use Rattle.dk_meanings.proofs.Staying.{stays_by_number}
use Rattle.dk_binary.proofs.rows.stays.Goals as goal

pub returns-in-11 : goal.returns-in-11
returns-in-11 c = stays_by_number c.args.row 11 c.args.state.now (values_of c.args.tuple.now) c.in-11.is c.stays.ensures

pub returns-in-12 : goal.returns-in-12
returns-in-12 c = stays_by_number c.args.row 12 c.args.state.now (values_of c.args.tuple.now) c.in-12.is c.stays-in-12.ensures

pub returns-in-13 : goal.returns-in-13
returns-in-13 c = stays_by_number c.args.row 13 c.args.state.now (values_of c.args.tuple.now) c.in-13.is c.stays-in-13.ensures

pub returns-in-14 : goal.returns-in-14
returns-in-14 c = stays_by_number c.args.row 14 c.args.state.now (values_of c.args.tuple.now) c.in-14.is c.stays-in-14.ensures

pub returns-in-15 : goal.returns-in-15
returns-in-15 c = stays_by_number c.args.row 15 c.args.state.now (values_of c.args.tuple.now) c.in-15.is c.stays-in-15.ensures

pub returns-in-16 : goal.returns-in-16
returns-in-16 c = stays_by_number c.args.row 16 c.args.state.now (values_of c.args.tuple.now) c.in-16.is c.stays-in-16.ensures

pub returns-in-17 : goal.returns-in-17
returns-in-17 c = stays_by_number c.args.row 17 c.args.state.now (values_of c.args.tuple.now) c.in-17.is c.stays-in-17.ensures

pub returns-in-18 : goal.returns-in-18
returns-in-18 c = stays_by_number c.args.row 18 c.args.state.now (values_of c.args.tuple.now) c.in-18.is c.stays-in-18.ensures

pub returns-in-19 : goal.returns-in-19
returns-in-19 c = stays_by_number c.args.row 19 c.args.state.now (values_of c.args.tuple.now) c.in-19.is c.stays-in-19.ensures

pub returns-in-20 : goal.returns-in-20
returns-in-20 c = stays_by_number c.args.row 20 c.args.state.now (values_of c.args.tuple.now) c.in-20.is c.stays-in-20.ensures

pub returns-in-21 : goal.returns-in-21
returns-in-21 c = stays_by_number c.args.row 21 c.args.state.now (values_of c.args.tuple.now) c.in-21.is c.stays-in-21.ensures

pub returns-in-22 : goal.returns-in-22
returns-in-22 c = stays_by_number c.args.row 22 c.args.state.now (values_of c.args.tuple.now) c.in-22.is c.stays-in-22.ensures

pub returns-in_default : goal.returns-in_default
returns-in_default c =
    let last : c.args.row.0 ≡ 23 = search rules in
    stays_by_number c.args.row 23 c.args.state.now (values_of c.args.tuple.now) last c.stays-2.ensures
