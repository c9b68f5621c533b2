use Rattle.dk_meanings.proofs.RowLaws.{plain_rows}
use Rattle.dk_meanings.proofs.laws.plain_rows_state_their_relation.Goals as goal

pub returns : goal.returns
returns c = plain_rows
