use Rattle.std.proofs.Common.{◌≡◌, ◌++◌, drop, flat_map, fold, map, take}
use Rattle.dk_turns.specs.Reading.{some_left, with_block}
use Rattle.dk_turns.proofs.Rounding.{samples_of}
use Rattle.dk_turns.proofs.rounds.push_round.Given as goal

abbrev pub invariant-loop-file : goal.invariant-loop-file
invariant-loop-file l = record {
  text : fold with_block l.text (flat_map (take l.n) (samples_of (drop l.file-index l.files)))
      ≡ fold with_block l.fn.text (flat_map (take l.n) (samples_of l.files));
  left : samples_of l.left.items ++ some_left (map (drop l.n) (samples_of (drop l.file-index l.files)))
      ≡ some_left (map (drop l.n) (samples_of l.files));
}
