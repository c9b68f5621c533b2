use Rattle.std.specs.Prelude.{◌≡◌, false, take}
use Rattle.std.specs.List.{list_any}
use Rattle.dk_report.proofs.Rules.{follows}
use Rattle.dk_report.proofs.viewing.may_follow.Given as goal

-- no rule so far
abbrev pub invariant-loop-rule : goal.invariant-loop-rule
invariant-loop-rule l = list_any (follows l.below l.row l.v) (take l.rule-index l.rule-items) ≡ false
