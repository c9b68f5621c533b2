use Rattle.std.proofs.Common.{◌≢◌, ◌<◌, ℕ}
use Rattle.dk_classes.specs.Classes.{kind_at, var_kinds}
use Rattle.dk_classes.proofs.steps.first_of_kind.Given as goal

abbrev pub invariant-loop-w : goal.invariant-loop-w
invariant-loop-w l = (k : ℕ) → k < l.w → kind_at (var_kinds l.vars) k ≢ kind_at (var_kinds l.vars) l.v
