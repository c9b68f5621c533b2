use Rattle.std.proofs.Common.{sym}
use Rattle.dk_base.specs.Values.{values_of}
use Rattle.dk_meanings.proofs.RowLaws.{plain_row_of_one}
use Rattle.dk_template.proofs.Staying.{proper_by, stays_as}
use Rattle.dk_unary.proofs.Takes.{non_null_form}
use Rattle.dk_unary.specs.Rows.{non_null_is_row, non_null_row}
use Rattle.dk_unary.proofs.non_null.NonNullRow.stays.Goals as goal

pub plain_stays-requires : goal.plain_stays-requires
plain_stays-requires c = proper_by (non_null_form c.args.self.now) c.args.state.now c.requires.state

pub returns : goal.returns
returns c =
    let r = c.args.self.now in
    stays_as c.args.state.now (non_null_form r) (sym (plain_row_of_one (non_null_row r) (non_null_is_row r) (non_null_form r) (values_of c.args.tuple.now) c.holds.ensures)) c.plain_stays.ensures
