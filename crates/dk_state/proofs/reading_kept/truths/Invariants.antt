use Rattle.std.proofs.Common.{◌≡◌, ◌==◌, map, take}
use Rattle.dk_state.proofs.reading_kept.truths.Given as goal

abbrev pub invariant-loop-bit : goal.invariant-loop-bit
invariant-loop-bit l = l.truths ≡ map (λ b. b == 49) (take l.bit-index l.bits)
