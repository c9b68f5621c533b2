use Rattle.std.proofs.Common.{◌≡◌, length}
use Rattle.dk_test_reports.proofs.claims.infos.Given as goal

abbrev pub invariant-loop-name : goal.invariant-loop-name
invariant-loop-name l = length l.infos ≡ l.name-index
