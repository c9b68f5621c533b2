use Rattle.std.proofs.Common.{◌∙◌}
use Rattle.dk_base.specs.Values.{values_of}
use Rattle.dk_binary.proofs.Takes.{equality_form}
use Rattle.dk_binary.specs.Rows.{equality_is_row, equality_row}
use Rattle.dk_meanings.proofs.RowLaws.{plain_row_of_one}
use Rattle.dk_binary.proofs.equality.EqualityRow.point.Goals as goal

pub returns-clause-state : goal.returns-clause-state
returns-clause-state c =
    let r = c.args.self.now in
    c.plain_point.ensures ∙ plain_row_of_one (equality_row r) (equality_is_row r) (equality_form r.kind r.equal) (values_of c.args.tuple.now) c.holds.ensures
