use Rattle.std.proofs.Common.{◌≡◌, ◌++◌, take}
use Rattle.dk_state.specs.Kept.{bits_of}
use Rattle.dk_state.proofs.kept.push_bits.Given as goal

abbrev pub invariant-loop-truth : goal.invariant-loop-truth
invariant-loop-truth l = l.text ≡ l.fn.text ++ bits_of (take l.truth-index l.present)
