use Rattle.std.proofs.Common.{◌∙◌, ap}
use Rattle.std.proofs.lemmas.Result.{IfOk-weaker}
use Rattle.dk_events.specs.Following.{Following}
use Rattle.dk_events.specs.Standing.{points_of}
use Rattle.dk_check.proofs.Judged.{report_told}
use Rattle.dk_check.specs.declared.checking.Checking.{Checking}
use Rattle.dk_check.proofs.reporting.report.Goals as goal

pub returns : goal.returns
returns c =
    let both = c.into_parts-events.ensures in
    IfOk-weaker c.lines.result _ _
    (λ text is h records stands.
    report_told c.args.names.now c.claims.result.now c.as_slice.result.now c.in_ok-verdicts.verdicts c.points.result.now c.into_parts-events.result.1 c.args.feed text
    (ap (λ (p : Following × Checking). p.1) both) (c.points.ensures.points ∙ ap (λ (p : Following × Checking). points_of p.0) both)
    (c.claims.ensures ∙ c.in_ok-verdicts.ensures.claims) c.as_slice.ensures c.in_ok-verdicts.ensures.verdicts is h records stands)
    c.lines.ensures
