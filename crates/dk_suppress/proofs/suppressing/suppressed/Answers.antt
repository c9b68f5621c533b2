use Rattle.std.proofs.Common.{sym, ◌∙◌}
use Rattle.dk_suppress.proofs.Searching.{rule_usable, rule_found, none_found}
use Rattle.dk_suppress.proofs.suppressing.suppressed.Goals as goal

pub all_fit-requires : goal.all_fit-requires
all_fit-requires g c =
    rule_usable c.args.row c.rules_of-rule-items.result.now c.rules_of-rule-items.ensures (g.A.Answers.grammar c.args.answers.now) (g.A.Answers.infos c.args.answers.now) c.args.vars.now c.requires
    c.loop-rule.rule-index c.loop-rule-test.true _

pub returns-then-all_fit : goal.returns-then-all_fit
returns-then-all_fit g c =
    sym (rule_found c.args.row c.rules_of-rule-items.result.now c.rules_of-rule-items.ensures (g.A.Answers.answered c.args.answers.now) c.args.vars.now
    c.loop-rule.rule-index c.loop-rule-test.true _ (sym c.all_fit.ensures ∙ c.if-all_fit.true))

pub returns : goal.returns
returns g c =
    sym (none_found c.args.row c.rules_of-rule-items.result.now c.rules_of-rule-items.ensures (g.A.Answers.answered c.args.answers.now) c.args.vars.now
    c.loop-rule.rule-index c.loop-rule-test.false c.loop-rule.invariant)
