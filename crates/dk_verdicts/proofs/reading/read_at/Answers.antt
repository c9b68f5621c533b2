use Rattle.std.proofs.Common.{◌≡◌, subst, sym}
use Rattle.std.specs.Prelude.{IfSome, Option}
use Rattle.dk_expr.specs.Naming.{AreUnderNames}
use Rattle.dk_verdicts.specs.declared.reading.Listed.{Listed}
use Rattle.dk_verdicts.proofs.reading.read_at.Goals as goal

pub names_at-requires-clause-last : goal.names_at-requires-clause-last
names_at-requires-clause-last c =
    subst (λ (o : Option Listed). IfSome o (λ l. l.point ≡ c.args.point → AreUnderNames c.args.vars.now l.names)) (sym c.take.ensures.value) c.requires.last
