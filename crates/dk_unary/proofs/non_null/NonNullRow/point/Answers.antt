use Rattle.std.proofs.Common.{◌∙◌}
use Rattle.dk_base.specs.Values.{values_of}
use Rattle.dk_meanings.proofs.RowLaws.{plain_row_of_one}
use Rattle.dk_unary.proofs.Takes.{non_null_form}
use Rattle.dk_unary.specs.Rows.{non_null_is_row, non_null_row}
use Rattle.dk_unary.proofs.non_null.NonNullRow.point.Goals as goal

pub returns-clause-state : goal.returns-clause-state
returns-clause-state c =
    let r = c.args.self.now in
    c.plain_point.ensures ∙ plain_row_of_one (non_null_row r) (non_null_is_row r) (non_null_form r) (values_of c.args.tuple.now) c.holds.ensures
