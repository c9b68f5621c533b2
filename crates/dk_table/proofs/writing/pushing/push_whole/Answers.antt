use Rattle.std.proofs.Common.{◌∙◌, sym}
use Rattle.dk_table.proofs.Pushed.{whole_pushed}
use Rattle.dk_table.proofs.writing.pushing.push_whole.Goals as goal

pub returns : goal.returns
returns c =
    whole_pushed c.args.cell.now c.args.tail.now c.args.text.now.items c.push_told.new.text.items (sym c.is_whole.ensures ∙ c.if-not-is_whole.false) c.in_ok-push_told.ensures
