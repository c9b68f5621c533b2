use Rattle.std.specs.Prelude.{◌≡◌, take}
use Rattle.dk_report.specs.Viewing.{led_through}
use Rattle.dk_report.proofs.viewing.led_through.Given as goal

abbrev pub invariant-loop-v : goal.invariant-loop-v
invariant-loop-v l = l.led ≡ led_through l.engine.kept l.way (take l.v-index l.vars)
