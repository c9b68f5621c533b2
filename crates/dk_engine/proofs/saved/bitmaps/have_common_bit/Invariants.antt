use Rattle.std.proofs.Common.{◌≡◌, ◌<◌, ℕ, bit_and, get_or}
use Rattle.dk_engine.proofs.saved.bitmaps.have_common_bit.Given as goal

abbrev pub invariant-loop-j : goal.invariant-loop-j
invariant-loop-j l = (k : ℕ) → k < l.j → bit_and (bit_and (get_or l.a k 0) (get_or l.b k 0)) (get_or l.c k 0) ≡ 0
