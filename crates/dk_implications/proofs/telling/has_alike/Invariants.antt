use Rattle.std.specs.Prelude.{◌≡◌, drop}
use Rattle.std.specs.List.{list_any}
use Rattle.dk_engine.specs.Reading.{agree_read}
use Rattle.dk_implications.proofs.telling.has_alike.Given as goal

abbrev pub invariant-loop-v : goal.invariant-loop-v
invariant-loop-v l = list_any (agree_read l.whole.kept l.b) (drop l.v-index l.vars) ≡ list_any (agree_read l.whole.kept l.b) l.vars
