use Rattle.std.specs.Prelude.{◌≡◌}
use Rattle.std.proofs.Common.{◌∙◌, ap}
use Rattle.dk_classes.specs.Leaders.{leader_at, var}
use Rattle.dk_constants.specs.Known.{Entries, known_at}
use Rattle.dk_engine.specs.Reading.Parts.{leader_of}
use Rattle.dk_join.proofs.constants.known_of.Goals as goal

pub returns : goal.returns
returns c =
    let kept = c.args.engine.now.kept in
    let leader : c.leader.result ≡ leader_of kept.leaders c.args.v = ap var (c.leader.ensures ∙ ap (λ ls. leader_at ls c.args.v.0) c.classes.ensures) in
    c.value.ensures ∙ (ap (λ (known : Entries). known_at known c.leader.result) c.constants.ensures ∙ ap (known_at kept.known) leader)
