use Rattle.dk_claims.proofs.Counting.{other_texts_stay}
use Rattle.dk_claims.proofs.laws.other_texts_stay.Goals as goal

pub returns : goal.returns
returns c = other_texts_stay
