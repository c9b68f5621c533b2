use Rattle.std.proofs.Common.{sym, ◌∙◌}
use Rattle.dk_base.specs.Values.{values_of}
use Rattle.dk_meanings.proofs.RowLaws.{plain_row_of_one}
use Rattle.dk_ternary.proofs.Relating.{operation_relation}
use Rattle.dk_ternary.proofs.Takes.{operation_form, operation_takes}
use Rattle.dk_ternary.specs.Rows.{operation_is_row, operation_row}
use Rattle.dk_ternary.proofs.operation.OperationRow.point.Goals as goal

pub holds-requires : goal.holds-requires
holds-requires c = operation_takes c.args.self.now (values_of c.args.tuple.now) c.requires

pub returns-clause-state : goal.returns-clause-state
returns-clause-state c =
    let r = c.args.self.now in
    let t = values_of c.args.tuple.now in
    c.plain_point.ensures ∙ plain_row_of_one (operation_row r) (operation_is_row r) (operation_form r) t (c.holds.ensures ∙ sym (operation_relation r t))
