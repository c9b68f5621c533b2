use Rattle.std.proofs.Common.{◌∙◌}
use Rattle.dk_base.proofs.Wordless.{int_by_number}
use Rattle.dk_base.proofs.values.items.int_item.Goals as goal

pub returns-in_default : goal.returns-in_default
returns-in_default c = c.whole.ensures ∙ int_by_number c.args.text.now (λ bad. c.in_default.not-Bad (c.whole.ensures ∙ bad))
