use Rattle.std.specs.Prelude.{IfSome}
use Rattle.dk_report.specs.Viewing.{IsView}
use Rattle.dk_report.proofs.viewing.fewest.Given as goal

abbrev pub invariant-loop-way : goal.invariant-loop-way
invariant-loop-way l = IfSome l.best (λ view. IsView l.engines l.ways l.vars view.way.now view.engine.now)
