use Rattle.std.proofs.Common.{◌≡◌, ◌<◌, true, drop, fold, length, take}
use Rattle.dk_turns.specs.Blocks.{has_sample, sample_blocks}
use Rattle.dk_turns.specs.Reading.{first_block, trimmed_lines, with_block}
use Rattle.dk_turns.proofs.files.push_sample_blocks.Given as goal

abbrev pub invariant-runs : goal.invariant-runs
invariant-runs l = record {
  text : fold with_block l.text (take l.wanted (sample_blocks l.left)) ≡ fold with_block l.fn.text (take l.n (sample_blocks l.file));
  left : drop l.wanted (sample_blocks l.left) ≡ drop l.n (sample_blocks l.file);
  first : 0 < length l.left → has_sample (first_block (trimmed_lines l.left)) ≡ true;
}

abbrev pub decreases-runs : goal.decreases-runs
decreases-runs l = l.wanted
