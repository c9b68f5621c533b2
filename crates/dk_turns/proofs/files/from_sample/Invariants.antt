use Rattle.std.proofs.Common.{◌≡◌, length}
use Rattle.dk_turns.specs.Blocks.{sample_blocks}
use Rattle.dk_turns.proofs.files.from_sample.Given as goal

abbrev pub invariant-runs : goal.invariant-runs
invariant-runs l = sample_blocks l.left ≡ sample_blocks l.bytes

abbrev pub decreases-runs : goal.decreases-runs
decreases-runs l = length l.left
