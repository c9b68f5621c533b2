use Rattle.std.proofs.Common.{◌≡◌, ◌+◌, drop}
use Rattle.std.specs.Prelude.{false}
use Rattle.dk_expr.specs.Valued.{quoted_end}
use Rattle.dk_expr.proofs.values.quoted_len.Given as goal

abbrev pub invariant-loop-i : goal.invariant-loop-i
invariant-loop-i l = l.i + quoted_end l.is_escaped (drop l.i l.bytes) ≡ quoted_end false l.bytes
