use Rattle.std.proofs.Common.{◌≡◌, false, take}
use Rattle.std.specs.List.{list_any}
use Rattle.dk_suppress.specs.Told.{told}
use Rattle.dk_suppress.proofs.Searching.{fits_all}
use Rattle.dk_suppress.proofs.suppressing.suppressed.Given as goal

-- no rule so far fits
abbrev pub invariant-loop-rule : goal.invariant-loop-rule
invariant-loop-rule g l = list_any (λ r. fits_all (g.A.Answers.answered l.answers) l.vars (told r)) (take l.rule-index l.rule-items) ≡ false
