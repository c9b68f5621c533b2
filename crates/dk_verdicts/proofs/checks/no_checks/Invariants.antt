use Rattle.std.specs.Prelude.{◌≡◌, [], List, replicate}
use Rattle.dk_verdicts.specs.declared.checks.Check.{Check}
use Rattle.dk_verdicts.proofs.checks.no_checks.Given as goal

abbrev none : List Check
none = []

abbrev pub invariant-loop : goal.invariant-loop
invariant-loop l = l.checks.items ≡ replicate l.counter none
