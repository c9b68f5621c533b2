use Rattle.std.specs.Prelude.{◌≡◌, ◌<◌, ℕ, None, Some, slice_index_or}
use Rattle.dk_base.specs.Shapes.{var}
use Rattle.dk_report.proofs.narrowing.are_own.Given as goal

abbrev pub invariant-loop-number : goal.invariant-loop-number
invariant-loop-number l = (v : ℕ) → v < l.number → slice_index_or l.partners v None ≡ Some (var v)
