use Rattle.dk_formats.proofs.Told.{in_language_told, json_told}
use Rattle.dk_formats.proofs.reports.report.Goals as goal

pub returns-in-Json : goal.returns-in-Json
returns-in-Json c = json_told c.args.format c.args.sections.now c.args.points.now c.sections_told.result c.in-Json.is c.sections_told.ensures

pub returns-in-In : goal.returns-in-In
returns-in-In c =
    in_language_told c.args.format c.in-In.language c.args.sections.now c.args.points.now c.sections_told-in-In.result c.in-In.is c.sections_told-in-In.ensures
