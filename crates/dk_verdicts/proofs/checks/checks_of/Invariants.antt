use Rattle.std.specs.Prelude.{[], IfSome}
use Rattle.dk_hierarchy.specs.Descent.{IsDescent}
use Rattle.dk_verdicts.specs.Checks.{AreChecksOfFirst}
use Rattle.dk_verdicts.proofs.checks.checks_of.Given as goal

abbrev pub invariant-loop-claim : goal.invariant-loop-claim
invariant-loop-claim l = record {
  made : AreChecksOfFirst l.claim l.points l.findings l.checks.items;
  last : IfSome l.last (λ d. IsDescent l.points d.top.0 d.merged.ways []);
}
