use Rattle.std.proofs.Common.{rules, ◌≡◌}
use Rattle.dk_base.specs.Values.{values_of}
use Rattle.dk_meanings.proofs.Staying.{stays_by_number}
use Rattle.dk_sequence.proofs.elements.rows.stays.Goals as goal

pub returns-in-35 : goal.returns-in-35
returns-in-35 c = stays_by_number c.args.row 35 c.args.state.now (values_of c.args.tuple.now) c.in-35.is c.stays.ensures

pub returns-in-36 : goal.returns-in-36
returns-in-36 c = stays_by_number c.args.row 36 c.args.state.now (values_of c.args.tuple.now) c.in-36.is c.stays-in-36.ensures

pub returns-in-37 : goal.returns-in-37
returns-in-37 c = stays_by_number c.args.row 37 c.args.state.now (values_of c.args.tuple.now) c.in-37.is c.stays-in-37.ensures

pub returns-in-38 : goal.returns-in-38
returns-in-38 c = stays_by_number c.args.row 38 c.args.state.now (values_of c.args.tuple.now) c.in-38.is c.stays-in-38.ensures

pub returns-in-39 : goal.returns-in-39
returns-in-39 c = stays_by_number c.args.row 39 c.args.state.now (values_of c.args.tuple.now) c.in-39.is c.stays-in-39.ensures

pub returns-in-40 : goal.returns-in-40
returns-in-40 c = stays_by_number c.args.row 40 c.args.state.now (values_of c.args.tuple.now) c.in-40.is c.stays-in-40.ensures

pub returns-in-41 : goal.returns-in-41
returns-in-41 c = stays_by_number c.args.row 41 c.args.state.now (values_of c.args.tuple.now) c.in-41.is c.stays-in-41.ensures

pub returns-in-42 : goal.returns-in-42
returns-in-42 c = stays_by_number c.args.row 42 c.args.state.now (values_of c.args.tuple.now) c.in-42.is c.stays-in-42.ensures

pub returns-in-43 : goal.returns-in-43
returns-in-43 c = stays_by_number c.args.row 43 c.args.state.now (values_of c.args.tuple.now) c.in-43.is c.stays-in-43.ensures

pub returns-in-44 : goal.returns-in-44
returns-in-44 c = stays_by_number c.args.row 44 c.args.state.now (values_of c.args.tuple.now) c.in-44.is c.stays-in-44.ensures

pub returns-in-45 : goal.returns-in-45
returns-in-45 c = stays_by_number c.args.row 45 c.args.state.now (values_of c.args.tuple.now) c.in-45.is c.stays-in-45.ensures

pub returns-in-46 : goal.returns-in-46
returns-in-46 c = stays_by_number c.args.row 46 c.args.state.now (values_of c.args.tuple.now) c.in-46.is c.stays-in-46.ensures

pub returns-in-47 : goal.returns-in-47
returns-in-47 c = stays_by_number c.args.row 47 c.args.state.now (values_of c.args.tuple.now) c.in-47.is c.stays-in-47.ensures

pub returns-in-48 : goal.returns-in-48
returns-in-48 c = stays_by_number c.args.row 48 c.args.state.now (values_of c.args.tuple.now) c.in-48.is c.stays-in-48.ensures

pub returns-in-52 : goal.returns-in-52
returns-in-52 c = stays_by_number c.args.row 52 c.args.state.now (values_of c.args.tuple.now) c.in-52.is c.stays-in-52.ensures

pub returns-in-53 : goal.returns-in-53
returns-in-53 c = stays_by_number c.args.row 53 c.args.state.now (values_of c.args.tuple.now) c.in-53.is c.stays-in-53.ensures

pub returns-in-54 : goal.returns-in-54
returns-in-54 c = stays_by_number c.args.row 54 c.args.state.now (values_of c.args.tuple.now) c.in-54.is c.stays-in-54.ensures

pub returns-in-55 : goal.returns-in-55
returns-in-55 c = stays_by_number c.args.row 55 c.args.state.now (values_of c.args.tuple.now) c.in-55.is c.stays-in-55.ensures

pub returns-in_default : goal.returns-in_default
returns-in_default c =
    let last : c.args.row.0 ≡ 56 = search rules in
    stays_by_number c.args.row 56 c.args.state.now (values_of c.args.tuple.now) last c.stays-2.ensures
