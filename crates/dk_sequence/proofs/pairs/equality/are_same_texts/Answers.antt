use Rattle.std.proofs.Common.{◌∙◌}
use Rattle.std.specs.Str.{bytes_eq}
use Rattle.dk_sequence.proofs.PairRows.Scans.{pairs_of_parts}
use Rattle.dk_sequence.proofs.pairs.equality.are_same_texts.Goals as goal

pub returns : goal.returns
returns c = c.eq.ensures ∙ pairs_of_parts (λ e. e.now) bytes_eq c.args.s.now c.args.t.now
