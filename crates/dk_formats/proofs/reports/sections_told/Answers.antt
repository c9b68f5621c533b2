use Rattle.std.proofs.Common.{◌≡◌, ◌∙◌, ℕ, List, subst, sym}
use Rattle.std.proofs.lemmas.List.{take_all}
use Rattle.dk_claims.specs.declared.sections.Section.{Section}
use Rattle.dk_formats.specs.Steps.{AddsSections}
use Rattle.dk_formats.specs.Telling.{front_text}
use Rattle.dk_formats.proofs.Adding.{more_sections, no_sections}
use Rattle.dk_formats.proofs.reports.sections_told.Goals as goal

pub loop-section-init : goal.loop-section-init
loop-section-init c =
    let is : c.in_ok-text.text ≡ front_text c.args.format = c.in_ok-text.ensures ∙ c.as_bytes.ensures.value ∙ c.front_text.ensures in
    subst (λ (t : List ℕ). AddsSections c.args.format c.args.points.now _ (front_text c.args.format) t) (sym is)
    (no_sections c.args.format c.args.points.now (front_text c.args.format))

pub loop-section-preserved : goal.loop-section-preserved
loop-section-preserved c =
    more_sections c.args.format c.args.points.now c.args.sections.now c.loop-section.section-index c.section-item.result c.loop-section-test.true c.section-item.is
    (front_text c.args.format) c.loop-section.text c.push_section_of.new.text c.loop-section.invariant c.in_ok-push_section_of.ensures

pub returns : goal.returns
returns c =
    let all = subst (λ (sections : List Section). AddsSections c.args.format c.args.points.now sections (front_text c.args.format) c.loop-section.text)
    (take_all c.loop-section.section-index c.args.sections.now c.loop-section-test.false) c.loop-section.invariant in
    record { said = all.said; are_said = all.are_said; is_text = all.added }
