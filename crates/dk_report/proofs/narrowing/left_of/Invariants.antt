use Rattle.std.specs.Prelude.{◌≡◌, ◌||◌, filter, take}
use Rattle.std.specs.List.{list_any}
use Rattle.dk_presence.specs.Patterns.{has}
use Rattle.dk_report.specs.Narrowing.{is_fixed}
use Rattle.dk_report.proofs.narrowing.left_of.Given as goal

abbrev pub invariant-loop-v : goal.invariant-loop-v
invariant-loop-v l = l.list ≡ filter (λ v. is_fixed l.known v || list_any (λ slot. has slot.now.leaders v) l.slots) (take l.v-index l.of)
