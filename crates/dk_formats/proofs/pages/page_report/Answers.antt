use Rattle.std.proofs.Common.{◌≡◌, ◌∙◌, ℕ, List, ap, subst}
use Rattle.std.proofs.lemmas.List.{take_all}
use Rattle.std.proofs.lemmas.Result.{IfOk-weaker}
use Rattle.dk_claims.specs.declared.sections.Section.{Section}
use Rattle.dk_page.specs.Pages.{page}
use Rattle.dk_formats.specs.Steps.{ArePageSections}
use Rattle.dk_formats.specs.Telling.{IsTold}
use Rattle.dk_formats.specs.declared.formats.Format.TheVariants as format
use Rattle.dk_formats.proofs.Paging.{more_page_sections, no_page_sections}
use Rattle.dk_formats.proofs.pages.page_report.Goals as goal

pub loop-section-init : goal.loop-section-init
loop-section-init c = no_page_sections c.args.points.now _ _ c.new-headings.ensures c.new-found.ensures

pub loop-section-preserved : goal.loop-section-preserved
loop-section-preserved c =
    more_page_sections c.args.points.now c.args.sections.now c.loop-section.section-index c.section-item.result c.loop-section-test.true c.section-item.is
    c.loop-section.headings c.push_page_section.new.headings c.loop-section.found c.push_page_section.new.found
    c.loop-section.invariant c.in_ok-push_page_section.ensures

pub returns : goal.returns
returns c =
    let all = subst (λ (sections : List Section). ArePageSections c.args.points.now sections c.loop-section.headings c.loop-section.found)
    (take_all c.loop-section.section-index c.args.sections.now c.loop-section-test.false) c.loop-section.invariant in
    IfOk-weaker c.page.result (λ (text : List ℕ). text ≡ page c.as_slice.result.now) (IsTold format.Html c.args.sections.now c.args.points.now)
    (λ text is. record { said = all.said; are_said = all.are_said; is_text = is ∙ ap page (c.as_slice.ensures ∙ all.sections_are) })
    c.page.ensures
