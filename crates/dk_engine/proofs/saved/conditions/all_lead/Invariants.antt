use Rattle.std.proofs.Common.{◌<◌, ℕ, get_or}
use Rattle.std.specs.List.{Contains}
use Rattle.dk_base.specs.declared.kinds.VarId.{VarId}
use Rattle.dk_classes.specs.Leaders.{own_leaders}
use Rattle.dk_engine.proofs.saved.conditions.all_lead.Given as goal

abbrev pub invariant-loop-v : goal.invariant-loop-v
invariant-loop-v l = (k : ℕ) (d : VarId) → k < l.v-index → Contains (own_leaders l.classes) (get_or l.vars k d)
