use Rattle.std.proofs.Common.{◌≡◌, length}
use Rattle.dk_turns.specs.Blocks.{has_lines}
use Rattle.dk_turns.specs.Reading.{first_block, trimmed_lines}
use Rattle.dk_turns.proofs.fronts.has_lines.Given as goal

abbrev pub invariant-front : goal.invariant-front
invariant-front l = has_lines (first_block (trimmed_lines l.left)) ≡ has_lines (first_block (trimmed_lines l.bytes))

abbrev pub decreases-front : goal.decreases-front
decreases-front l = length l.left
