use Rattle.std.proofs.Common.{List, subst}
use Rattle.std.proofs.lemmas.List.{take_all}
use Rattle.dk_claims.specs.declared.sections.ReportLine.{ReportLine}
use Rattle.dk_formats.specs.Steps.{ArePageLines}
use Rattle.dk_formats.proofs.Adding.{says_by}
use Rattle.dk_formats.proofs.Paging.{more_page_lines, no_page_lines}
use Rattle.dk_formats.proofs.pages.page_lines.Goals as goal

pub loop-told-init : goal.loop-told-init
loop-told-init c = no_page_lines c.args.vars.now _ c.new-found.ensures

pub loop-told-preserved : goal.loop-told-preserved
loop-told-preserved c =
    let says = says_by c.args.vars.now c.told-item.result.text c.as_slice.result.now c.in_ok-says.says c.as_slice.ensures c.in_ok-says.ensures.read c.in_ok-says.ensures.none in
    more_page_lines c.args.vars.now c.args.lines.now c.loop-told.told-index c.told-item.result c.loop-told-test.true c.told-item.is c.in_ok-says.says says
    c.loop-told.found c.push.new.self _ c.loop-told.invariant c.in_ok-page_line.ensures c.in_ok-push.ensures.ok

pub returns : goal.returns
returns c =
    subst (λ (lines : List ReportLine). ArePageLines c.args.vars.now lines c.loop-told.found)
    (take_all c.loop-told.told-index c.args.lines.now c.loop-told-test.false) c.loop-told.invariant
