use Rattle.std.specs.Prelude.{◌≡◌, drop}
use Rattle.dk_engine.specs.Feeding.Step.{is_new}
use Rattle.dk_engine.proofs.sweeps.touching.is_new.Given as goal

abbrev pub invariant-loop-leader : goal.invariant-loop-leader
invariant-loop-leader l = is_new (drop l.leader-index l.new) l.v ≡ is_new l.new l.v
