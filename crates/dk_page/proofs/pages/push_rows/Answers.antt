use Rattle.dk_page.specs.Pages.{row}
use Rattle.dk_page.proofs.Adding.{one_more}
use Rattle.dk_page.proofs.pages.push_rows.Goals as goal

pub loop-section-preserved : goal.loop-section-preserved
loop-section-preserved c =
    one_more row c.args.sections.now c.loop-section.section-index c.section-item.result c.args.text.now c.loop-section.text c.push_row.new.text
    c.loop-section-test.true c.section-item.is c.loop-section.invariant c.in_ok-push_row.ensures
