use Rattle.std.proofs.Common.{◌≡◌, ◌≤◌, ◌&&◌, Bool, List, length, sum_by}
use Rattle.dk_presence.specs.Patterns.{capped}
use Rattle.dk_presence.specs.declared.held.Held.{Held}
use Rattle.dk_bitmaps.specs.Bitmaps.{AreDigitMaps, IsBitmap}
use Rattle.dk_bitmaps.proofs.Counts.{rest_at}
use Rattle.dk_bitmaps.proofs.counting.common_sum.Given as goal

abbrev pub invariant-loop-place : goal.invariant-loop-place
invariant-loop-place l = record {
  within : l.place ≤ length l.digits;
  summed : (held : List Held) (p q r : Held → Bool) → AreDigitMaps held l.digits → IsBitmap held p l.a → IsBitmap held q l.b → IsBitmap held r l.c
      → l.sum ≡ capped (sum_by (rest_at (λ h. p h && (q h && r h)) l.place) held);
}

abbrev pub decreases-loop-place : goal.decreases-loop-place
decreases-loop-place l = l.place
