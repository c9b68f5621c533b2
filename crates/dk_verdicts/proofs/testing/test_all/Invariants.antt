use Rattle.std.specs.Prelude.{take}
use Rattle.dk_base.specs.Values.{values_of}
use Rattle.dk_verdicts.specs.Tests.{AreTaken}
use Rattle.dk_verdicts.proofs.testing.test_all.Given as goal

abbrev pub invariant-loop-check : goal.invariant-loop-check
invariant-loop-check l = AreTaken l.sample.file l.sample.line (values_of l.sample.values.now) (take l.check-index l.checks) l.fn.findings.items l.findings.items
