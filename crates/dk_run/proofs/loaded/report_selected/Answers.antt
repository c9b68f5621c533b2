use Rattle.std.proofs.Common.{◌++◌, [], ap}
use Rattle.std.specs.Option.{option_map_or}
use Rattle.dk_core.specs.Standing.{SessionStandsFor}
use Rattle.dk_print.specs.Sections.{end_line}
use Rattle.dk_run.specs.Reports.{whole_report}
use Rattle.dk_run.proofs.LoadedReports.{cut_loaded, nothing_told, whole_loaded}
use Rattle.dk_run.proofs.loaded.report_selected.Goals as goal

pub returns-in-Ok-tell_last : goal.returns-in-Ok-tell_last
returns-in-Ok-tell_last g c =
    whole_loaded c.args.command.now c.args.loaded (SessionStandsFor c.in-Ok.session) _ c.in-Ok.ensures.stands
    (λ h. ap (λ blocks. option_map_or (λ every. end_line blocks) c.args.command.now.every [] ++ whole_report c.args.command.now h) c.in-Ok.ensures.counts.0) _ _ _ _ c.in-Ok-tell_last.ensures

pub returns-in-Ok : goal.returns-in-Ok
returns-in-Ok g c =
    rw c.status.ensures (cut_loaded c.args.command.now c.args.loaded (SessionStandsFor c.in-Ok.session) _ c.in-Ok.ensures.stands
    (λ h. ap (λ blocks. option_map_or (λ every. end_line blocks) c.args.command.now.every [] ++ whole_report c.args.command.now h) c.in-Ok.ensures.counts.0) _ _ _ _ c.in-Err-tell_last.halt c.in-Err-tell_last.ensures)

pub returns : goal.returns
returns g c = nothing_told c.args.command.now c.args.loaded _ _
