use Rattle.dk_engine.specs.Saved.Bitmaps.{AreBegun}
use Rattle.dk_engine.proofs.saved.mapping.bitmaps.Given as goal

abbrev pub invariant-loop-j : goal.invariant-loop-j
invariant-loop-j l = AreBegun l.held l.leaders l.j l.maps.items
