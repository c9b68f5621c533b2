use Rattle.std.proofs.Common.{◌≡◌, ◌<◌, ◌≤◌, ◌+◌, ◌*◌, ℕ, cond, get_or, length}
use Rattle.dk_base.specs.declared.kinds.VarId.{VarId}
use Rattle.dk_presence.specs.Patterns.{has}
use Rattle.dk_engine.proofs.saved.mapping.push_pattern.Given as goal

abbrev pub invariant-loop-k : goal.invariant-loop-k
invariant-loop-k l = record {
  long : length l.row ≡ length l.leaders;
  within : l.place ≤ length l.present;
  before : (p k : ℕ) (d e : VarId) → p < l.place → l.k ≤ k → k < length l.leaders → (get_or l.present p d).0 < (get_or l.leaders k e).0;
  done : (k : ℕ) (d : VarId) → k < l.k → get_or l.row k 0 ≡ get_or l.initial.row k 0 * 2 + cond (has l.present (get_or l.leaders k d)) 1 0;
  rest : (k : ℕ) → l.k ≤ k → get_or l.row k 0 ≡ get_or l.initial.row k 0;
}
