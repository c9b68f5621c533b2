use Rattle.std.proofs.Common.{◌≡◌, ◌≤◌, length}
use Rattle.dk_turns.specs.Reading.{behind_run, trimmed_lines}
use Rattle.dk_turns.proofs.files.behind_run.Given as goal

abbrev pub invariant-run : goal.invariant-run
invariant-run l = record {
  lines : behind_run (trimmed_lines l.left) ≡ behind_run (trimmed_lines l.bytes);
  within : length l.left ≤ length l.bytes;
}

abbrev pub decreases-run : goal.decreases-run
decreases-run l = length l.left
