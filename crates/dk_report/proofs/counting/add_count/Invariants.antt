use Rattle.std.proofs.Common.{◌≡◌, drop}
use Rattle.dk_report.specs.Counting.{added}
use Rattle.dk_report.proofs.counting.add_count.Given as goal

abbrev pub invariant-loop-v : goal.invariant-loop-v
invariant-loop-v l = added (drop l.v-index l.vars) l.more l.counts.items ≡ added l.vars l.more l.initial.counts.items
