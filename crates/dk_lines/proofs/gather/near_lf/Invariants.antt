use Rattle.std.proofs.Common.{◌≡◌, ◌+◌, drop}
use Rattle.dk_lines.specs.Cutting.{line_len}
use Rattle.dk_lines.proofs.gather.near_lf.Given as goal

-- no byte so far is LF
abbrev pub invariant-loop-place : goal.invariant-loop-place
invariant-loop-place l = line_len l.bytes ≡ l.place + line_len (drop l.place l.bytes)
