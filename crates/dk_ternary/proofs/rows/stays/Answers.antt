use Rattle.std.proofs.Common.{rules, ◌≡◌}
use Rattle.dk_base.specs.Values.{values_of}
use Rattle.dk_meanings.proofs.Staying.{stays_by_number}
use Rattle.dk_ternary.proofs.rows.stays.Goals as goal

pub returns-in-24 : goal.returns-in-24
returns-in-24 c = stays_by_number c.args.row 24 c.args.state.now (values_of c.args.tuple.now) c.in-24.is c.stays.ensures

pub returns-in-25 : goal.returns-in-25
returns-in-25 c = stays_by_number c.args.row 25 c.args.state.now (values_of c.args.tuple.now) c.in-25.is c.stays-in-25.ensures

pub returns-in-26 : goal.returns-in-26
returns-in-26 c = stays_by_number c.args.row 26 c.args.state.now (values_of c.args.tuple.now) c.in-26.is c.stays-in-26.ensures

pub returns-in-27 : goal.returns-in-27
returns-in-27 c = stays_by_number c.args.row 27 c.args.state.now (values_of c.args.tuple.now) c.in-27.is c.stays-in-27.ensures

pub returns-in-28 : goal.returns-in-28
returns-in-28 c = stays_by_number c.args.row 28 c.args.state.now (values_of c.args.tuple.now) c.in-28.is c.stays-in-28.ensures

pub returns-in-29 : goal.returns-in-29
returns-in-29 c = stays_by_number c.args.row 29 c.args.state.now (values_of c.args.tuple.now) c.in-29.is c.stays-in-29.ensures

pub returns-in-30 : goal.returns-in-30
returns-in-30 c = stays_by_number c.args.row 30 c.args.state.now (values_of c.args.tuple.now) c.in-30.is c.stays-in-30.ensures

pub returns-in-31 : goal.returns-in-31
returns-in-31 c = stays_by_number c.args.row 31 c.args.state.now (values_of c.args.tuple.now) c.in-31.is c.stays-in-31.ensures

pub returns-in-32 : goal.returns-in-32
returns-in-32 c = stays_by_number c.args.row 32 c.args.state.now (values_of c.args.tuple.now) c.in-32.is c.stays-in-32.ensures

pub returns-in-33 : goal.returns-in-33
returns-in-33 c = stays_by_number c.args.row 33 c.args.state.now (values_of c.args.tuple.now) c.in-33.is c.stays-in-33.ensures

pub returns-in-34 : goal.returns-in-34
returns-in-34 c = stays_by_number c.args.row 34 c.args.state.now (values_of c.args.tuple.now) c.in-34.is c.stays-in-34.ensures

pub returns-in_default : goal.returns-in_default
returns-in_default c =
    let last : c.args.row.0 ≡ 67 = search rules in
    stays_by_number c.args.row 67 c.args.state.now (values_of c.args.tuple.now) last c.stays-2.ensures
