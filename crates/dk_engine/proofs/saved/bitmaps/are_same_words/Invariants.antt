use Rattle.std.proofs.Common.{◌≡◌, ◌<◌, ℕ, get_or}
use Rattle.dk_engine.specs.Saved.Bitmaps.{block_at, digits}
use Rattle.dk_engine.proofs.saved.bitmaps.are_same_words.Given as goal

abbrev pub invariant-loop-j : goal.invariant-loop-j
invariant-loop-j l = (k : ℕ) → k < l.j → get_or l.words k 0 ≡ digits (λ _. l.present) (block_at l.held k)
