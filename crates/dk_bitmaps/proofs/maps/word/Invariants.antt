use Rattle.std.proofs.Common.{◌≡◌, ◌<◌, ◌^◌, take}
use Rattle.dk_bitmaps.specs.Bitmaps.{digits, is_marked}
use Rattle.dk_bitmaps.proofs.maps.word.Given as goal

abbrev pub invariant-loop-pattern : goal.invariant-loop-pattern
invariant-loop-pattern l = record {
  so_far : l.word ≡ digits (is_marked l.mark) (take l.pattern-index l.block);
  fits : l.word < 2 ^ l.pattern-index;
}
