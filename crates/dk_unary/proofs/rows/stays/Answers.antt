use Rattle.std.proofs.Common.{rules, ◌≡◌, arith}
use Rattle.dk_base.specs.Values.{values_of}
use Rattle.dk_meanings.proofs.Staying.{stays_by_number}
use Rattle.dk_unary.proofs.rows.stays.Goals as goal

pub returns-in-1 : goal.returns-in-1
returns-in-1 c = stays_by_number c.args.row 1 c.args.state.now (values_of c.args.tuple.now) c.in-1.is c.stays.ensures

pub returns-in-2 : goal.returns-in-2
returns-in-2 c = stays_by_number c.args.row 2 c.args.state.now (values_of c.args.tuple.now) c.in-2.is c.stays-in-2.ensures

pub returns-in-3 : goal.returns-in-3
returns-in-3 c = stays_by_number c.args.row 3 c.args.state.now (values_of c.args.tuple.now) c.in-3.is c.stays-in-3.ensures

pub returns-in-4 : goal.returns-in-4
returns-in-4 c = stays_by_number c.args.row 4 c.args.state.now (values_of c.args.tuple.now) c.in-4.is c.stays-in-4.ensures

pub returns-in-5 : goal.returns-in-5
returns-in-5 c = stays_by_number c.args.row 5 c.args.state.now (values_of c.args.tuple.now) c.in-5.is c.stays-in-5.ensures

pub returns-in-6 : goal.returns-in-6
returns-in-6 c = stays_by_number c.args.row 6 c.args.state.now (values_of c.args.tuple.now) c.in-6.is c.stays-in-6.ensures

pub returns-in-7 : goal.returns-in-7
returns-in-7 c = stays_by_number c.args.row 7 c.args.state.now (values_of c.args.tuple.now) c.in-7.is c.stays-in-7.ensures

pub returns-in-8 : goal.returns-in-8
returns-in-8 c = stays_by_number c.args.row 8 c.args.state.now (values_of c.args.tuple.now) c.in-8.is c.stays-in-8.ensures

pub returns-in-9 : goal.returns-in-9
returns-in-9 c = stays_by_number c.args.row 9 c.args.state.now (values_of c.args.tuple.now) c.in-9.is c.stays-in-9.ensures

pub returns-in_default : goal.returns-in_default
returns-in_default c =
    let last : c.args.row.0 ≡ 10 = search rules in
    stays_by_number c.args.row 10 c.args.state.now (values_of c.args.tuple.now) last c.stays-2.ensures
