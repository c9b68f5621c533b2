use Rattle.dk_meanings.proofs.RowLaws.{laws_of}
use Rattle.dk_meanings.proofs.laws.rows_keep_their_laws.Goals as goal

pub returns : goal.returns
returns c = laws_of
