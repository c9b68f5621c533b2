use Rattle.std.specs.Prelude.{◌≡◌, ◌≤◌, drop, length}
use Rattle.dk_base.specs.Values.{values_of}
use Rattle.dk_presence.specs.Patterns.{present_in, same_vars}
use Rattle.dk_presence.proofs.matching.are_present.Given as goal

abbrev pub invariant-loop-leader : goal.invariant-loop-leader
invariant-loop-leader l =
    (same_vars (present_in (drop l.leader-index l.leaders) (values_of l.sample)) (drop l.next l.pattern) ≡ same_vars (present_in l.leaders (values_of l.sample)) l.pattern)
    × (l.next ≤ length l.pattern)
