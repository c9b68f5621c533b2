use Rattle.std.specs.Prelude.{◌<◌, ℕ}
use Rattle.std.proofs.Common.{get_or}
use Rattle.dk_base.specs.Values.{IsOfKind, values_of}
use Rattle.dk_base.specs.declared.kinds.VarInfo.{VarInfo}
use Rattle.dk_base.specs.declared.values.Value.{Value}
use Rattle.dk_engine.proofs.feed.taking.are_of_kinds.Given as goal

abbrev pub invariant-loop-place : goal.invariant-loop-place
invariant-loop-place l = (k : ℕ) (d : VarInfo) (e : Value) → k < l.place → IsOfKind (get_or l.vars k d).kind (get_or (values_of l.sample) k e)
