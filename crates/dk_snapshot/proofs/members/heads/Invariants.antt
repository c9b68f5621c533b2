use Rattle.std.proofs.Common.{◌≡◌, drop, replicate}
use Rattle.dk_classes.specs.Leaders.{var}
use Rattle.dk_snapshot.specs.Restored.{heads_of}
use Rattle.dk_snapshot.proofs.members.heads.Given as goal

abbrev pub invariant-loop-class : goal.invariant-loop-class
invariant-loop-class l = heads_of (drop l.class-index l.classes) l.heads.items ≡ heads_of l.classes (replicate l.count (var 0))
