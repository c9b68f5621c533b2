use Rattle.std.proofs.Common.{◌∙◌, sym}
use Rattle.dk_table.proofs.Judged.{empty_kept, full_kept}
use Rattle.dk_table.proofs.columns.judging.Column.take.Goals as goal

pub returns-then-is_empty : goal.returns-then-is_empty
returns-then-is_empty c = empty_kept c.args.self.now c.args.cell.now (sym c.is_empty.ensures ∙ c.if-is_empty.true)

pub returns-else-not-branch : goal.returns-else-not-branch
returns-else-not-branch c =
    full_kept c.args.self.now c.args.cell.now c.as_slice.result.now (sym c.is_empty.ensures ∙ c.if-is_empty.false) c.as_slice.ensures (sym c.in_ok-writes_all.ensures ∙ c.if-not-branch.false)
