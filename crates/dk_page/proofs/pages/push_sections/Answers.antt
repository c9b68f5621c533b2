use Rattle.dk_page.specs.Pages.{section}
use Rattle.dk_page.proofs.Adding.{one_more}
use Rattle.dk_page.proofs.pages.push_sections.Goals as goal

pub loop-told-preserved : goal.loop-told-preserved
loop-told-preserved c =
    one_more section c.args.sections.now c.loop-told.told-index c.told-item.result c.args.text.now c.loop-told.text c.push_section.new.text
    c.loop-told-test.true c.told-item.is c.loop-told.invariant c.in_ok-push_section.ensures
