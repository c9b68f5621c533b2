use Rattle.std.proofs.Common.{◌≡◌, ◌+◌, drop}
use Rattle.std.specs.List.{position_or_len}
use Rattle.dk_state.specs.Reading.{ends_field}
use Rattle.dk_state.proofs.front.field_len.Given as goal

abbrev pub invariant-loop-i : goal.invariant-loop-i
invariant-loop-i l = l.i + position_or_len ends_field (drop l.i l.bytes) ≡ position_or_len ends_field l.bytes
