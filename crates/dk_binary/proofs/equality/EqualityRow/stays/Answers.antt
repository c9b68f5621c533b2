use Rattle.std.proofs.Common.{sym}
use Rattle.dk_base.specs.Values.{values_of}
use Rattle.dk_binary.proofs.Takes.{equality_form}
use Rattle.dk_binary.specs.Rows.{equality_is_row, equality_row}
use Rattle.dk_meanings.proofs.RowLaws.{plain_row_of_one}
use Rattle.dk_template.proofs.Staying.{proper_by, stays_as}
use Rattle.dk_binary.proofs.equality.EqualityRow.stays.Goals as goal

pub plain_stays-requires : goal.plain_stays-requires
plain_stays-requires c = proper_by (equality_form c.args.self.now.kind c.args.self.now.equal) c.args.state.now c.requires.state

pub returns : goal.returns
returns c =
    let r = c.args.self.now in
    let form = equality_form r.kind r.equal in
    stays_as c.args.state.now form (sym (plain_row_of_one (equality_row r) (equality_is_row r) form (values_of c.args.tuple.now) c.holds.ensures)) c.plain_stays.ensures
