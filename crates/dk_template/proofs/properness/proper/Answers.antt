use Rattle.std.proofs.Common.{ap, ◌∙◌}
use Rattle.std.proofs.lemmas.Bool.Decides.{Decides-at}
use Rattle.dk_template.proofs.ProperTests.{tells_proper}
use Rattle.dk_template.specs.ProperTest.{is_proper}
use Rattle.dk_template.specs.Templates.{form_of}
use Rattle.dk_template.specs.declared.templates.Template.{Template}
use Rattle.dk_template.proofs.properness.proper.Goals as goal

pub returns : goal.returns
returns c =
    let s = c.args.state.now in
    Decides-at c.is_of.result (is_proper (form_of c.args.row) s) (c.is_of.ensures ∙ ap (λ (t : Template). is_proper t.form s) c.template_at.ensures)
    (tells_proper (form_of c.args.row) s)
