use Rattle.std.proofs.Common.{◌≡◌, length}
use Rattle.dk_turns.specs.Blocks.{has_sample}
use Rattle.dk_turns.specs.Reading.{block_left, first_block, trimmed_lines}
use Rattle.dk_turns.proofs.fronts.has_sample.Given as goal

abbrev pub invariant-front : goal.invariant-front
invariant-front l = has_sample (block_left l.header (trimmed_lines l.left)) ≡ has_sample (first_block (trimmed_lines l.bytes))

abbrev pub decreases-front : goal.decreases-front
decreases-front l = length l.left
