use Rattle.std.proofs.Common.{◌∙◌, ap, sym}
use Rattle.std.proofs.lemmas.Result.{on_err_weaker}
use Rattle.dk_engine.proofs.Readings.{row_is}
use Rattle.dk_template.specs.declared.templates.Template.{Template}
use Rattle.dk_join.proofs.Answering.{texts_may_want}
use Rattle.dk_join.proofs.both.Both.with_second.Goals as goal

pub returns-clause-err : goal.returns-clause-err
returns-clause-err c =
    on_err_weaker c.join_states.result
    (λ e. texts_may_want c.args.row (row_is c.args.self.now.first.grammar c.args.row c.requires.row) (ap (λ (t : Template). t.form) (sym c.template_at.ensures) ∙ e))
    c.join_states.ensures.err
