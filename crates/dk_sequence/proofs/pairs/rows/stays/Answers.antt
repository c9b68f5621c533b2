use Rattle.std.proofs.Common.{rules, ◌≡◌}
use Rattle.dk_base.specs.Values.{values_of}
use Rattle.dk_meanings.proofs.Staying.{stays_by_number}
use Rattle.dk_sequence.proofs.pairs.rows.stays.Goals as goal

pub returns-in-49 : goal.returns-in-49
returns-in-49 c = stays_by_number c.args.row 49 c.args.state.now (values_of c.args.tuple.now) c.in-49.is c.stays.ensures

pub returns-in-50 : goal.returns-in-50
returns-in-50 c = stays_by_number c.args.row 50 c.args.state.now (values_of c.args.tuple.now) c.in-50.is c.stays-in-50.ensures

pub returns-in-51 : goal.returns-in-51
returns-in-51 c = stays_by_number c.args.row 51 c.args.state.now (values_of c.args.tuple.now) c.in-51.is c.stays-in-51.ensures

pub returns-in-57 : goal.returns-in-57
returns-in-57 c = stays_by_number c.args.row 57 c.args.state.now (values_of c.args.tuple.now) c.in-57.is c.stays-in-57.ensures

pub returns-in-58 : goal.returns-in-58
returns-in-58 c = stays_by_number c.args.row 58 c.args.state.now (values_of c.args.tuple.now) c.in-58.is c.stays-in-58.ensures

pub returns-in-59 : goal.returns-in-59
returns-in-59 c = stays_by_number c.args.row 59 c.args.state.now (values_of c.args.tuple.now) c.in-59.is c.stays-in-59.ensures

pub returns-in-60 : goal.returns-in-60
returns-in-60 c = stays_by_number c.args.row 60 c.args.state.now (values_of c.args.tuple.now) c.in-60.is c.stays-in-60.ensures

pub returns-in-61 : goal.returns-in-61
returns-in-61 c = stays_by_number c.args.row 61 c.args.state.now (values_of c.args.tuple.now) c.in-61.is c.stays-in-61.ensures

pub returns-in-62 : goal.returns-in-62
returns-in-62 c = stays_by_number c.args.row 62 c.args.state.now (values_of c.args.tuple.now) c.in-62.is c.stays-in-62.ensures

pub returns-in-63 : goal.returns-in-63
returns-in-63 c = stays_by_number c.args.row 63 c.args.state.now (values_of c.args.tuple.now) c.in-63.is c.stays-in-63.ensures

pub returns-in-64 : goal.returns-in-64
returns-in-64 c = stays_by_number c.args.row 64 c.args.state.now (values_of c.args.tuple.now) c.in-64.is c.stays-in-64.ensures

pub returns-in-65 : goal.returns-in-65
returns-in-65 c = stays_by_number c.args.row 65 c.args.state.now (values_of c.args.tuple.now) c.in-65.is c.stays-in-65.ensures

pub returns-in-66 : goal.returns-in-66
returns-in-66 c = stays_by_number c.args.row 66 c.args.state.now (values_of c.args.tuple.now) c.in-66.is c.stays-in-66.ensures

pub returns-in_default : goal.returns-in_default
returns-in_default c =
    let last : c.args.row.0 ≡ 68 = search rules in
    stays_by_number c.args.row 68 c.args.state.now (values_of c.args.tuple.now) last c.stays-2.ensures
