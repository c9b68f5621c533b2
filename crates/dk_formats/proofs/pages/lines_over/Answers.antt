use Rattle.std.proofs.Common.{List, IfOk, subst}
use Rattle.dk_claims.specs.declared.sections.ReportLine.{ReportLine}
use Rattle.dk_formats.specs.Steps.{ArePageLines}
use Rattle.dk_formats.proofs.pages.lines_over.Goals as goal

pub returns : goal.returns
returns c =
    subst (λ (lines : List ReportLine). IfOk c.page_lines.result (ArePageLines c.args.vars.now lines)) c.as_slice.ensures c.page_lines.ensures
