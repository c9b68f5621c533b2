use Rattle.std.specs.Prelude.{◌<◌, ◌^◌, ℕ}
use Rattle.std.proofs.Common.{get_or}
use Rattle.dk_engine.proofs.saved.conditions.read_codes.Given as goal

abbrev pub invariant-loop-code : goal.invariant-loop-code
invariant-loop-code l = (k : ℕ) (d : ℕ) → k < l.code-index → get_or l.codes k d < 2 ^ 64
