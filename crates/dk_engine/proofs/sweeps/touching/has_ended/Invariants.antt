use Rattle.std.specs.Prelude.{◌≡◌, drop, is_some}
use Rattle.dk_constants.specs.Known.{known_at}
use Rattle.dk_engine.proofs.sweeps.touching.has_ended.Given as goal

abbrev pub invariant-loop-leader : goal.invariant-loop-leader
invariant-loop-leader l = is_some (known_at (drop l.leader-index l.ended) l.v) ≡ is_some (known_at l.ended l.v)
