use Rattle.std.specs.Prelude.{◌<◌, ℕ, ℤ, IsTrue}
use Rattle.std.proofs.Common.{get_or}
use Rattle.dk_base.specs.Numbers.{fits_i64}
use Rattle.dk_engine.proofs.saved.conditions.read_numbers.Given as goal

abbrev pub invariant-loop-number : goal.invariant-loop-number
invariant-loop-number l = (k : ℕ) (d : ℤ) → k < l.number-index → IsTrue (fits_i64 (get_or l.numbers k d))
