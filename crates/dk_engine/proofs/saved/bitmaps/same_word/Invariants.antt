use Rattle.std.proofs.Common.{◌≡◌, ◌<◌, ◌^◌, take}
use Rattle.dk_engine.specs.Saved.Bitmaps.{digits}
use Rattle.dk_engine.proofs.saved.bitmaps.same_word.Given as goal

abbrev pub invariant-loop : goal.invariant-loop
invariant-loop l = record {
  so_far : l.bits ≡ digits (λ _. l.present) (take l.index l.block);
  fits : l.bits < 2 ^ l.index;
}
