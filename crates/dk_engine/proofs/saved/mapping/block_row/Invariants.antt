use Rattle.std.proofs.Common.{take}
use Rattle.dk_engine.specs.Saved.Bitmaps.{IsRowOf}
use Rattle.dk_engine.proofs.saved.mapping.block_row.Given as goal

abbrev pub invariant-loop-pattern : goal.invariant-loop-pattern
invariant-loop-pattern l = IsRowOf l.leaders (take l.pattern-index l.block) l.row.items
