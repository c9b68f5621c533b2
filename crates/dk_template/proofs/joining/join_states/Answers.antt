use Rattle.std.specs.Prelude.{◌≡◌}
use Rattle.std.proofs.Common.{sym, subst}
use Rattle.std.proofs.lemmas.Result.{IfOk-weaker}
use Rattle.dk_template.specs.Joins.{joined}
use Rattle.dk_template.specs.Proper.{IsProper}
use Rattle.dk_template.proofs.ProperStates.{proper_laws}
use Rattle.dk_template.proofs.joining.join_states.Goals as goal

-- the proper states are closed under join
pub returns-clause-proper : goal.returns-clause-proper
returns-clause-proper c =
    IfOk-weaker c.joined_by.result (λ s. s ≡ joined c.args.form c.args.a c.args.b.now) (IsProper c.args.form)
    (λ s e. subst (IsProper c.args.form) (sym e) ((proper_laws c.args.form).closed c.args.a c.args.b.now c.requires.a c.requires.b))
    c.joined_by.ensures.state
