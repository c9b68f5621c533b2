use Rattle.std.specs.Prelude.{◌≡◌, drop}
use Rattle.dk_implications.specs.Telling.{is_first}
use Rattle.dk_implications.proofs.telling.is_first.Given as goal

abbrev pub invariant-loop-halves : goal.invariant-loop-halves
invariant-loop-halves l = is_first l.whole.kept (drop l.halves-index l.all) l.b ≡ is_first l.whole.kept l.all l.b
