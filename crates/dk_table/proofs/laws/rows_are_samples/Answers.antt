use Rattle.dk_table.proofs.Sampled.{rows_sampled}
use Rattle.dk_table.proofs.laws.rows_are_samples.Goals as goal

pub returns : goal.returns
returns c = rows_sampled
