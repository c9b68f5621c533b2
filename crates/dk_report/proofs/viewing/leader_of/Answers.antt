use Rattle.std.proofs.Common.{ap, sym, ◌∙◌}
use Rattle.dk_classes.specs.Leaders.{own_leaders}
use Rattle.dk_report.proofs.Rules.{found-leader}
use Rattle.dk_report.proofs.viewing.leader_of.Goals as goal

pub returns-then-agree : goal.returns-then-agree
returns-then-agree c =
    found-leader c.args.engine.now.kept c.leaders-a-items.result.now (c.leaders-a-items.ensures.all ∙ ap own_leaders c.classes.ensures) c.loop-a.a-index c.loop-a-test.true _ c.args.v
    (sym c.agree.ensures ∙ c.if-agree.true)
