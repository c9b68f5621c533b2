use Rattle.std.proofs.Common.{[], if◌then◌else◌, refl}
use Rattle.std.proofs.lemmas.Result.{err_from_is_err_and}
use Rattle.dk_core.specs.Sections.{all_stats_of, report_of}
use Rattle.dk_core.specs.Standing.{SessionStandsFor}
use Rattle.dk_run.specs.Commands.{is_selected, report_options}
use Rattle.dk_run.specs.Reports.{whole_report}
use Rattle.dk_run.proofs.Writing.{cut_short, tells_then}
use Rattle.dk_run.proofs.reporting.tell_report.Goals as goal

pub returns : goal.returns
unfolding whole_report
returns g c = tells_then (SessionStandsFor c.args.session.now) (λ h. report_of (report_options c.args.command.now) (is_selected c.args.command.now) h) (λ h. (if c.args.command.now.stats then all_stats_of h else [])) _ _ _ _ _ _ c.tell_sizes.result c.in_ok-tell_sections.ensures c.tell_sizes.ensures

pub returns-in_err-tell_sections : goal.returns-in_err-tell_sections
unfolding whole_report
returns-in_err-tell_sections g c =
    let p = err_from_is_err_and c.from_residual.result c.from_residual.ensures.1 in
    rw (p.1, p.2) (cut_short (SessionStandsFor c.args.session.now) (λ h. report_of (report_options c.args.command.now) (is_selected c.args.command.now) h) (λ h. whole_report c.args.command.now h) _ _ _ _ c.in_err-tell_sections.field-0.0
    (λ h stands. ((if c.args.command.now.stats then all_stats_of h else []), refl)) c.in_err-tell_sections.ensures)
