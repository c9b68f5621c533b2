use Rattle.std.proofs.Common.{◌∙◌, ap}
use Rattle.std.specs.Prelude.{replicate, ℕ}
use Rattle.dk_verdicts.proofs.Starting.{none_stands}
use Rattle.dk_verdicts.specs.declared.findings.Finding.TheVariants.{Unknown}
use Rattle.dk_verdicts.proofs.checker.Checker.new.Goals as goal

pub returns-clause-stands : goal.returns-clause-stands
returns-clause-stands c = none_stands _ (c.in_ok-findings.ensures ∙ ap (λ (n : ℕ). replicate n Unknown) c.len.ensures)
