use Rattle.std.proofs.Common.{◌∙◌}
use Rattle.dk_sequence.proofs.PairRows.Scans.{pointwise_pairs}
use Rattle.dk_sequence.proofs.pairs.equality.are_same.Goals as goal

pub returns : goal.returns
returns g c = c.eq.ensures ∙ pointwise_pairs _ c.args.s.now c.args.t.now
