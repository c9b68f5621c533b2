use Rattle.std.specs.Prelude.{◌≡◌, ◌++◌, IfOk}
use Rattle.std.proofs.Common.{◌∙◌, ap, subst, sym}
use Rattle.dk_report.specs.Asked.{listed_candidates_by}
use Rattle.dk_report.specs.Sweeps.{over_takes}
use Rattle.dk_template.specs.declared.templates.Takes.{Takes}
use Rattle.dk_template.specs.declared.templates.Template.{Template}
use Rattle.dk_report.proofs.asking.Asking.over.Goals as goal

pub returns-in-Three : goal.returns-in-Three
returns-in-Three c =
    let asking = c.args.self.now in
    let row = c.args.row in
    let takes = sym c.in-Three.is ∙ ap (λ (t : Template). t.takes) c.template_at.ensures in
    subst (λ (t : Takes). IfOk c.of_three.result (λ more. more ≡ c.args.list ++ over_takes (listed_candidates_by asking row) asking.here.now.here.infos t c.args.of.now)) takes c.of_three.ensures
