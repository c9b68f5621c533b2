use Rattle.std.proofs.Common.{◌≡◌, ◌++◌, [], drop, flat_map, fold}
use Rattle.dk_turns.specs.Blocks.{plain_blocks}
use Rattle.dk_turns.specs.Reading.{with_block}
use Rattle.dk_turns.proofs.Rounding.{bytes_at}
use Rattle.dk_turns.proofs.rounds.in_turns.Given as goal

abbrev pub invariant-loop-file : goal.invariant-loop-file
invariant-loop-file l = record {
  text : fold with_block l.text (flat_map plain_blocks (drop l.file-index l.file-items)) ≡ fold with_block [] (flat_map plain_blocks l.file-items);
  left : bytes_at l.left.items ++ drop l.file-index l.file-items ≡ l.file-items;
}
