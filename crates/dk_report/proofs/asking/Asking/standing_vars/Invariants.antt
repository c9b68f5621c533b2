use Rattle.std.specs.Prelude.{◌≡◌, filter, take}
use Rattle.dk_report.specs.Listing.{may_stand}
use Rattle.dk_report.proofs.asking.Asking.standing_vars.Given as goal

abbrev pub invariant-loop-v : goal.invariant-loop-v
invariant-loop-v l = l.list ≡ filter (may_stand l.self.options.now l.self.found.now l.several) (take l.v-index l.of)
