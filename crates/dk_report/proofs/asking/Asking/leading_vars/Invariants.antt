use Rattle.std.specs.Prelude.{◌≡◌, filter, take}
use Rattle.dk_report.specs.Listing.{may_lead}
use Rattle.dk_report.proofs.asking.Asking.leading_vars.Given as goal

abbrev pub invariant-loop-v : goal.invariant-loop-v
invariant-loop-v l = l.list ≡ filter (may_lead l.self.options.now l.self.found.now) (take l.v-index l.of)
