use Rattle.std.proofs.Common.{◌++◌, [], refl}
use Rattle.std.specs.Option.{option_map_or}
use Rattle.std.proofs.lemmas.Result.{err_from_is_err_and}
use Rattle.dk_core.specs.Standing.{SessionStandsFor}
use Rattle.dk_print.specs.Sections.{end_line}
use Rattle.dk_run.specs.Reports.{whole_report}
use Rattle.dk_run.proofs.Writing.{cut_short, cut_text, told_text, tells_then}
use Rattle.dk_run.proofs.reporting.tell_last.Goals as goal

pub returns : goal.returns
returns g c =
    rw (← c.blocks-2.ensures) (tells_then (SessionStandsFor c.args.session.now) (λ h. option_map_or (λ every. end_line c.blocks-2.result) c.args.command.now.every []) (λ h. whole_report c.args.command.now h) _ _ _ _ _ _ c.tell_report.result
    (told_text (SessionStandsFor c.args.session.now) (option_map_or (λ every. end_line c.blocks-2.result) c.args.command.now.every []) _ _ _ _ c.in_ok-tell_end.ensures.0 c.in_ok-tell_end.ensures.1) c.tell_report.ensures)

pub returns-in_err-tell_end : goal.returns-in_err-tell_end
returns-in_err-tell_end g c =
    let p = err_from_is_err_and c.from_residual.result c.from_residual.ensures.1 in
    rw (p.1, p.2, ← c.blocks-2.ensures) (cut_short (SessionStandsFor c.args.session.now) (λ h. option_map_or (λ every. end_line c.blocks-2.result) c.args.command.now.every [])
    (λ h. option_map_or (λ every. end_line c.blocks-2.result) c.args.command.now.every [] ++ whole_report c.args.command.now h) _ _ _ _ c.in_err-tell_end.field-0.0
    (λ h stands. (whole_report c.args.command.now h, refl)) (cut_text (SessionStandsFor c.args.session.now) (option_map_or (λ every. end_line c.blocks-2.result) c.args.command.now.every []) _ _ _ _ c.in_err-tell_end.field-0.0 c.in_err-tell_end.ensures))
