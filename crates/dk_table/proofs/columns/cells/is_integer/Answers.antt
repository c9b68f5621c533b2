use Rattle.std.proofs.Common.{◌∙◌, ap, sym}
use Rattle.std.specs.Prelude.{not}
use Rattle.dk_table.proofs.Few.{digits_decide, none_decide}
use Rattle.dk_table.proofs.columns.cells.is_integer.Goals as goal

pub returns-then-not-is_empty : goal.returns-then-not-is_empty
returns-then-not-is_empty c =
    c.are_digits.ensures
    ∙ digits_decide c.args.text.now c.size_of-size.result.now c.size_of-size.ensures c.if-text-gt-SURE.false (sym c.is_empty.ensures ∙ c.if-not-is_empty.true)

pub returns-else-not-is_empty : goal.returns-else-not-is_empty
returns-else-not-is_empty c =
    ap not c.if-not-is_empty.false
    ∙ none_decide c.args.text.now c.size_of-size.result.now c.size_of-size.ensures c.if-text-gt-SURE.false (sym c.is_empty.ensures ∙ c.if-not-is_empty.false)
