use Rattle.dk_bitmaps.specs.Bitmaps.{AreMaps, is_one_at}
use Rattle.dk_bitmaps.proofs.maps.digit_maps.Given as goal

abbrev pub invariant-loop-place : goal.invariant-loop-place
invariant-loop-place l = AreMaps l.held (λ k h. is_one_at k h.count) l.place l.maps.items
