use Rattle.std.specs.Prelude.{◌≡◌, true, take}
use Rattle.dk_report.specs.Viewing.{all_may_fit}
use Rattle.dk_report.proofs.viewing.all_may_fit.Given as goal

abbrev pub invariant-loop-premise : goal.invariant-loop-premise
invariant-loop-premise l = all_may_fit l.below l.role l.v (take l.premise-index l.premises) ≡ true
