use Rattle.std.proofs.Common.{◌≡◌, ◌++◌, length}
use Rattle.dk_turns.specs.Reading.{first_run, trimmed_lines}
use Rattle.dk_turns.specs.Turns.{lines_text}
use Rattle.dk_turns.proofs.writing.push_run.Given as goal

abbrev pub invariant-run : goal.invariant-run
invariant-run l = l.text ++ lines_text (first_run (trimmed_lines l.left)) ≡ l.fn.text ++ lines_text (first_run (trimmed_lines l.bytes))

abbrev pub decreases-run : goal.decreases-run
decreases-run l = length l.left
