use Rattle.std.proofs.Common.{◌≡◌, true, take}
use Rattle.std.specs.List.{list_all}
use Rattle.dk_template.specs.Premises.{premise_fits}
use Rattle.dk_suppress.proofs.suppressing.all_fit.Given as goal

-- the premises so far fit
abbrev pub invariant-loop-premise : goal.invariant-loop-premise
invariant-loop-premise g l = list_all (λ p. premise_fits (g.A.Answers.answered l.answers) p l.vars) (take l.premise-index l.premises) ≡ true
