use Rattle.std.specs.Prelude.{◌≡◌, length}
use Rattle.dk_base.specs.Values.{values_of}
use Rattle.dk_implications.proofs.Feeding.{AreDone, AreLeft}
use Rattle.dk_implications.proofs.halves.feed_all.Given as goal

-- those in front of the place have the sample, and the others are as they were
abbrev pub invariant-loop-place : goal.invariant-loop-place
invariant-loop-place l = record {
  long : length l.all ≡ length l.initial.all;
  done : AreDone (values_of l.sample) l.initial.all l.all l.place;
  left : AreLeft (values_of l.sample) l.initial.all l.all l.place;
}
