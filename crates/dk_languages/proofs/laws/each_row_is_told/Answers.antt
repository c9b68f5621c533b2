use Rattle.dk_languages.proofs.Tables.{each_is_told}
use Rattle.dk_languages.proofs.laws.each_row_is_told.Goals as goal

pub returns : goal.returns
returns c = each_is_told
