use Rattle.std.proofs.Common.{slice_index_or}
use Rattle.dk_presence.specs.Patterns.{has}
use Rattle.dk_bitmaps.specs.Bitmaps.{AreMaps}
use Rattle.dk_bitmaps.proofs.maps.leader_maps.Given as goal

abbrev pub invariant-loop-v : goal.invariant-loop-v
invariant-loop-v l = AreMaps l.held (λ k h. has h.leaders (slice_index_or l.leaders k (record { 0 = 0 }))) l.v-index l.maps.items
