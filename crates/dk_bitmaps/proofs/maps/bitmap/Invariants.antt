use Rattle.dk_bitmaps.specs.Bitmaps.{AreWords, is_marked}
use Rattle.dk_bitmaps.proofs.maps.bitmap.Given as goal

abbrev pub invariant-loop-j : goal.invariant-loop-j
invariant-loop-j l = AreWords l.held (is_marked l.mark) l.j l.words.items
