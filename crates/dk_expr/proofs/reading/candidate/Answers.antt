use Rattle.std.proofs.Common.{◌∙◌, subst, sym}
use Rattle.dk_template.specs.Proper.{IsProper}
use Rattle.dk_expr.proofs.FirstRead.{candidate_some}
use Rattle.dk_expr.proofs.reading.candidate.Goals as goal

pub returns-in-Some-clause-some : goal.returns-in-Some-clause-some
returns-in-Some-clause-some c =
    candidate_some c.args.infos.now c.args.text.now c.args.row c.args.found c.in-Some.state c.vars_of-vars.result c.if_it_has.result c.vars_of-vars.ensures
    (λ t proper holds held tells. sym c.in-Some.is ∙ c.in_ok-state_of.ensures.told t (subst (λ template. IsProper template.form t) (sym c.template_at.ensures) proper) holds held tells)
    c.if_it_has.ensures.some
