use Rattle.std.proofs.Common.{◌≡◌, drop}
use Rattle.dk_engine.specs.Saved.Bitmaps.{are_together}
use Rattle.dk_engine.proofs.saved.bitmaps.some_has_each.Given as goal

abbrev pub invariant-loop-pattern : goal.invariant-loop-pattern
invariant-loop-pattern l = are_together (drop l.pattern-index l.held) l.vars ≡ are_together l.held l.vars
