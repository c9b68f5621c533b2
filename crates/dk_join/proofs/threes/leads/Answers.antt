use Rattle.std.specs.Prelude.{◌≡◌}
use Rattle.std.proofs.Common.{◌∙◌, ap, rules, sym}
use Rattle.dk_classes.specs.Leaders.{leader_at, var}
use Rattle.dk_join.proofs.threes.leads.Goals as goal

pub returns : goal.returns
returns c = λ same.
    let led : c.leader.result.0 ≡ c.args.v.0 = search rules in
    sym (ap var (c.leader.ensures ∙ ap (λ ls. leader_at ls c.args.v.0) c.classes.ensures)) ∙ ap var led
