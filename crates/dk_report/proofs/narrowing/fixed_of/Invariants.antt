use Rattle.std.specs.Prelude.{◌≡◌, filter, take}
use Rattle.dk_report.specs.Narrowing.{is_fixed}
use Rattle.dk_report.proofs.narrowing.fixed_of.Given as goal

abbrev pub invariant-loop-v : goal.invariant-loop-v
invariant-loop-v l = l.list ≡ filter (is_fixed l.known) (take l.v-index l.of)
