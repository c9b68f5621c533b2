use Rattle.std.proofs.Common.{◌<◌, ◌≤◌, ℕ, get_or}
use Rattle.dk_base.specs.declared.kinds.VarId.{VarId}
use Rattle.dk_engine.proofs.saved.mapping.place_from.Given as goal

abbrev pub invariant-loop-place : goal.invariant-loop-place
invariant-loop-place l = (k : ℕ) (d : VarId) → l.from ≤ k → k < l.place → (get_or l.present k d).0 < l.v.0
