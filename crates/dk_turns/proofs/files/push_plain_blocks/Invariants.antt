use Rattle.std.proofs.Common.{◌≡◌, fold, length}
use Rattle.dk_turns.specs.Blocks.{plain_blocks}
use Rattle.dk_turns.specs.Reading.{with_block}
use Rattle.dk_turns.proofs.files.push_plain_blocks.Given as goal

abbrev pub invariant-runs : goal.invariant-runs
invariant-runs l = fold with_block l.text (plain_blocks l.left) ≡ fold with_block l.fn.text (plain_blocks l.file)

abbrev pub decreases-runs : goal.decreases-runs
decreases-runs l = length l.left
