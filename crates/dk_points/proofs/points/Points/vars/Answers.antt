use Rattle.std.proofs.Common.{◌∙◌, take, sym, ap}
use Rattle.dk_points.proofs.Keeping.{few-vars-at, vars-at}
use Rattle.dk_points.proofs.BaseForms.{base-vars-are}
use Rattle.dk_points.proofs.points.Points.vars.Goals as goal

pub returns-clause-vars : goal.returns-clause-vars
returns-clause-vars c = c.as_slice.ensures ∙ ap (λ o. o.vars) c.deref.ensures ∙ sym (vars-at c.args.self.now c.args.p.0 c.place.result.now c.place.ensures.point c.place.ensures.kept)

pub returns-clause-few : goal.returns-clause-few
returns-clause-few c = rw (c.as_slice.ensures, c.deref.ensures) (few-vars-at (take c.args.p.0 c.args.self.now) c.place.result.now c.place.ensures.kept)

pub returns-clause-base : goal.returns-clause-base
returns-clause-base c =
    rw (c.as_slice.ensures ∙ ap (λ o. o.vars) c.deref.ensures ∙ sym c.place.ensures.kept.own.vars) (base-vars-are (take c.args.p.0 c.args.self.now) c.place.result.now.own.value.decl)
