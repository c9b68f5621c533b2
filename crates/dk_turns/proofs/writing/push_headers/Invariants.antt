use Rattle.std.proofs.Common.{◌≡◌, ◌++◌, length}
use Rattle.dk_turns.specs.Reading.{block_left, first_block, trimmed_lines}
use Rattle.dk_turns.specs.Turns.{block_text}
use Rattle.dk_turns.proofs.writing.push_headers.Given as goal

abbrev pub invariant-front : goal.invariant-front
invariant-front l =
    l.text ++ block_text (block_left l.header (trimmed_lines l.left)) ≡ l.fn.text ++ block_text (first_block (trimmed_lines l.bytes))

abbrev pub decreases-front : goal.decreases-front
decreases-front l = length l.left
