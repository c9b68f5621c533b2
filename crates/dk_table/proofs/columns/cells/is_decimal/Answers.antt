use Rattle.std.proofs.Common.{◌∙◌, ap, is_some}
use Rattle.dk_table.proofs.Few.{decimal_few}
use Rattle.dk_table.proofs.columns.cells.is_decimal.Goals as goal

pub returns : goal.returns
returns c = c.is_some-2.ensures ∙ ap is_some c.dot_of.ensures.dot ∙ decimal_few c.args.places c.args.cell.now c.if-cell-gt-SURE.false
