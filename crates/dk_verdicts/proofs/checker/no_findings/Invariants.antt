use Rattle.std.specs.Prelude.{◌≡◌, replicate}
use Rattle.dk_verdicts.specs.declared.findings.Finding.TheVariants.{Unknown}
use Rattle.dk_verdicts.proofs.checker.no_findings.Given as goal

abbrev pub invariant-loop : goal.invariant-loop
invariant-loop l = l.findings.items ≡ replicate l.counter Unknown
