use Rattle.std.proofs.Common.{◌≡◌, ◌<◌, ℕ}
use Rattle.dk_classes.specs.Classes.{kind_at, var_kinds}
use Rattle.dk_classes.specs.Leaders.{leader_at}
use Rattle.dk_engine.proofs.saved.conditions.have_kinds.Given as goal

abbrev pub invariant-loop-v : goal.invariant-loop-v
invariant-loop-v l = (k : ℕ) → k < l.v → kind_at (var_kinds l.infos) (leader_at l.classes k) ≡ kind_at (var_kinds l.infos) k
