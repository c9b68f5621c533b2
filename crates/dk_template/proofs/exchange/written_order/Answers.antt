use Rattle.std.proofs.Common.{ap, ◌∙◌}
use Rattle.dk_template.proofs.WrittenOrder.{arranged_ascends}
use Rattle.dk_template.specs.Admitted.{is_written}
use Rattle.dk_template.specs.Exchange.{arrange_tuple}
use Rattle.dk_template.specs.Templates.{template_of}
use Rattle.dk_template.specs.declared.templates.Template.{Template}
use Rattle.dk_template.proofs.exchange.written_order.Goals as goal

pub returns-clause-value : goal.returns-clause-value
returns-clause-value c = c.arrange_tuple.ensures ∙ ap (λ (t : Template). arrange_tuple t.symmetry c.args.tuple.now) c.template_at.ensures

pub returns-clause-written : goal.returns-clause-written
returns-clause-written c =
    let e = c.arrange_tuple.ensures ∙ ap (λ (t : Template). arrange_tuple t.symmetry c.args.tuple.now) c.template_at.ensures in
    ap (is_written c.args.row) e ∙ arranged_ascends (template_of c.args.row).symmetry c.args.tuple.now c.requires.few
