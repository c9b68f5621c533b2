use Rattle.std.proofs.Common.{◌≡◌, ◌+◌, drop}
use Rattle.std.specs.List.{position_or_len}
use Rattle.dk_expr.specs.Readable.{ends_number}
use Rattle.dk_expr.proofs.numbers.number_len.Given as goal

abbrev pub invariant-loop-i : goal.invariant-loop-i
invariant-loop-i l = l.i + position_or_len ends_number (drop l.i l.bytes) ≡ position_or_len ends_number l.bytes
