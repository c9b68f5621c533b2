use Rattle.dk_verdicts.proofs.Alone.{reports_are_one, verdicts_are_one}
use Rattle.dk_verdicts.proofs.laws.verdicts_are_one.Goals as goal

pub returns-clause-verdicts : goal.returns-clause-verdicts
returns-clause-verdicts c = verdicts_are_one

pub returns-clause-reports : goal.returns-clause-reports
returns-clause-reports c = reports_are_one
