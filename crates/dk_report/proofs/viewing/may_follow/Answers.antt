use Rattle.std.proofs.Common.{sym, ◌∙◌}
use Rattle.dk_report.proofs.Rules.{none-follow, rule-follows, rule-rows}
use Rattle.dk_report.proofs.viewing.may_follow.Goals as goal

pub follows_by-requires-clause-premises : goal.follows_by-requires-clause-premises
follows_by-requires-clause-premises c = rule-rows c.table-rule-items.result.now c.table-rule-items.ensures c.loop-rule.rule-index c.loop-rule-test.true _

pub returns-then-follows_by : goal.returns-then-follows_by
returns-then-follows_by c =
    sym (rule-follows c.table-rule-items.result.now c.table-rule-items.ensures c.args.below.now c.args.row c.args.v
    c.loop-rule.rule-index c.loop-rule-test.true _ (sym c.follows_by.ensures ∙ c.if-follows_by.true))

pub returns : goal.returns
returns c =
    sym (none-follow c.table-rule-items.result.now c.table-rule-items.ensures c.args.below.now c.args.row c.args.v
    c.loop-rule.rule-index c.loop-rule-test.false c.loop-rule.invariant)
