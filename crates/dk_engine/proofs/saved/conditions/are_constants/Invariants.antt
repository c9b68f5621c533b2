use Rattle.std.proofs.Common.{◌<◌, ℕ, get_or}
use Rattle.dk_base.specs.declared.kinds.VarId.{VarId}
use Rattle.dk_base.specs.declared.values.Value.{Value}
use Rattle.dk_engine.specs.Saved.Restored.{IsConstant}
use Rattle.dk_engine.proofs.saved.conditions.are_constants.Given as goal

abbrev pub invariant-loop-entry : goal.invariant-loop-entry
invariant-loop-entry l = (k : ℕ) (d : VarId × Value) → k < l.entry-index → IsConstant l.infos l.kept (get_or l.kept.known k d)
