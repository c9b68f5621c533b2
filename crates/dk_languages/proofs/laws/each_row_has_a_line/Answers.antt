use Rattle.dk_languages.proofs.Tables.{each_row}
use Rattle.dk_languages.proofs.laws.each_row_has_a_line.Goals as goal

pub returns : goal.returns
returns c = each_row
