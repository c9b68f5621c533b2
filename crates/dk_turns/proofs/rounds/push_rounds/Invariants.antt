use Rattle.std.proofs.Common.{◌≡◌, fold}
use Rattle.dk_turns.specs.Reading.{with_block}
use Rattle.dk_turns.specs.Turns.{in_rounds}
use Rattle.dk_turns.proofs.Rounding.{samples_of, weight}
use Rattle.dk_turns.proofs.rounds.push_rounds.Given as goal

abbrev pub invariant-rounds : goal.invariant-rounds
invariant-rounds l =
    fold with_block l.text (in_rounds l.n (samples_of l.left.items)) ≡ fold with_block l.fn.text (in_rounds l.n (samples_of l.fn.files.items))

abbrev pub decreases-rounds : goal.decreases-rounds
decreases-rounds l = weight (samples_of l.left.items)
