-- A rule of the code as a rule of the table.
use Rattle.dk_suppress.specs.Rules.{Rule as TableRule}
use Rattle.dk_suppress.specs.declared.rules.Rule.{Rule}

abbrev pub told : Rule → TableRule
told r = (r.conclusion, r.premises.now)
