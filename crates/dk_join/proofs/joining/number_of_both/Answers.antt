use Rattle.std.specs.Prelude.{◌+◌}
use Rattle.std.proofs.Common.{◌∙◌, ap}
use Rattle.dk_presence.specs.Patterns.{capped}
use Rattle.dk_join.proofs.joining.number_of_both.Goals as goal

pub returns : goal.returns
returns c =
    c.saturating_add.ensures
    ∙ (ap (λ n. capped (n + c.counts-other.result.samples)) c.counts-one.ensures.samples ∙ ap (λ n. capped (c.args.first.now.kept.samples + n)) c.counts-other.ensures.samples)
