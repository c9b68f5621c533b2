use Rattle.std.proofs.Common.{◌∙◌}
use Rattle.dk_lanes.proofs.BlockLemmas.{sorted_is}
use Rattle.dk_lanes.proofs.scans.sorted.Goals as goal

pub returns-in-len1-up : goal.returns-in-len1-up
returns-in-len1-up c = c.partners.ensures ∙ sorted_is c.args.rel c.args.s.now
