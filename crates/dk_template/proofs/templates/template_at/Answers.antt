use Rattle.dk_template.specs.Templates.{rows}
use Rattle.dk_template.proofs.Table.{at_row}
use Rattle.dk_template.proofs.templates.template_at.Goals as goal

pub returns : goal.returns
unfolding rows
returns c = at_row c.args.row c.requires _
