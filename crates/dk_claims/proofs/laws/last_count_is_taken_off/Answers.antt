use Rattle.dk_claims.proofs.Counting.{last_count_is_taken_off}
use Rattle.dk_claims.proofs.laws.last_count_is_taken_off.Goals as goal

pub returns : goal.returns
returns c = last_count_is_taken_off
