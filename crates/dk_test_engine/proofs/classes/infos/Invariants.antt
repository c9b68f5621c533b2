use Rattle.std.proofs.Common.{◌≡◌, length}
use Rattle.dk_test_engine.proofs.classes.infos.Given as goal

abbrev pub invariant-loop-kind : goal.invariant-loop-kind
invariant-loop-kind l = length l.all ≡ l.kind-index
