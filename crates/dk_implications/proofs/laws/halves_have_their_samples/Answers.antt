use Rattle.dk_implications.proofs.Growing.{halves_grow_one_by_one, halves_have_their_samples}
use Rattle.dk_implications.proofs.laws.halves_have_their_samples.Goals as goal

pub returns : goal.returns
returns c = record { each = halves_have_their_samples; more = halves_grow_one_by_one }
