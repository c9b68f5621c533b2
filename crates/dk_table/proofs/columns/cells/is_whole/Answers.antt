use Rattle.std.proofs.Common.{◌∙◌, sym}
use Rattle.dk_table.proofs.Few.{whole_nowhere, whole_where}
use Rattle.dk_table.proofs.columns.cells.is_whole.Goals as goal

pub returns-then-is_shortest : goal.returns-then-is_shortest
returns-then-is_shortest c = c.is_integer.ensures ∙ whole_where c.args.cell.now (sym c.is_shortest.ensures ∙ c.if-is_shortest.true)

pub returns-else-is_shortest : goal.returns-else-is_shortest
returns-else-is_shortest c = c.if-is_shortest.false ∙ whole_nowhere c.args.cell.now (sym c.is_shortest.ensures ∙ c.if-is_shortest.false)
