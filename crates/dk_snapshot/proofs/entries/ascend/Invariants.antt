use Rattle.std.proofs.Common.{◌<◌, ℕ}
use Rattle.dk_constants.specs.Known.{entry_var_at}
use Rattle.dk_snapshot.proofs.entries.ascend.Given as goal

abbrev pub invariant-loop-i : goal.invariant-loop-i
invariant-loop-i l = (a b : ℕ) → a < b → b < l.i → entry_var_at l.entries a < entry_var_at l.entries b
