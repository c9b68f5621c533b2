use Rattle.std.proofs.Common.{◌≡◌, ◌+◌, drop}
use Rattle.std.specs.List.{position_or_len}
use Rattle.dk_state.specs.Reading.{ends_line}
use Rattle.dk_state.proofs.front.line_len.Given as goal

abbrev pub invariant-loop-i : goal.invariant-loop-i
invariant-loop-i l = l.i + position_or_len ends_line (drop l.i l.bytes) ≡ position_or_len ends_line l.bytes
