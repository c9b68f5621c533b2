use Rattle.dk_page.proofs.Tables.{each_row}
use Rattle.dk_page.proofs.laws.each_row_has_a_group.Goals as goal

pub returns : goal.returns
returns c = each_row
