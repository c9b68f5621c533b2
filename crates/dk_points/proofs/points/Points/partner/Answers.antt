use Rattle.std.proofs.Common.{◌≡◌, ◌∙◌, ◌<◌, length, take, slice_get, Some, get_or, sym, ap, subst, arith}
use Rattle.dk_points.proofs.Keeping.{few-base-vars-at, get_at, partner-at, vars-at}
use Rattle.dk_points.specs.Vars.{vars_of}
use Rattle.dk_points.proofs.points.Points.partner.Goals as goal

pub returns-in-None-clause-partner : goal.returns-in-None-clause-partner
returns-in-None-clause-partner c =
    let var : slice_get (vars_of c.args.self.now c.args.edge.parent.0) c.args.w.0 ≡ Some c.index-vars-w.result =
    get_at (vars_of c.args.self.now c.args.edge.parent.0) c.args.w.0 c.index-vars-w.result c.requires.var
    (c.index-vars-w.is ∙ ap (λ xs. get_or xs c.args.w.0 c.index-vars-w.result) c.vars.ensures.vars) in
    c.in-None.ensures.place ∙ sym (partner-at c.args.self.now c.args.edge c.args.w.0 c.index-vars-w.result c.place.result.now var c.place.ensures.point c.place.ensures.kept)

pub returns-in-Some-clause-partner : goal.returns-in-Some-clause-partner
returns-in-Some-clause-partner c =
    let var : slice_get (vars_of c.args.self.now c.args.edge.parent.0) c.args.w.0 ≡ Some c.index-vars-w.result =
    get_at (vars_of c.args.self.now c.args.edge.parent.0) c.args.w.0 c.index-vars-w.result c.requires.var
    (c.index-vars-w.is ∙ ap (λ xs. get_or xs c.args.w.0 c.index-vars-w.result) c.vars.ensures.vars) in
    c.in-Some.ensures.place ∙ sym (partner-at c.args.self.now c.args.edge c.args.w.0 c.index-vars-w.result c.place.result.now var c.place.ensures.point c.place.ensures.kept)

pub returns-in-Some-clause-within : goal.returns-in-Some-clause-within
returns-in-Some-clause-within c =
    subst (λ vs. c.in-Some.place < length vs) (sym (vars-at c.args.self.now c.args.edge.child.0 c.place.result.now c.place.ensures.point c.place.ensures.kept)) c.in-Some.ensures.within

pub overflow_cast-result : goal.overflow_cast-result
overflow_cast-result c =
    let few = few-base-vars-at (take c.args.edge.child.0 c.args.self.now) c.place.result.now c.place.ensures.kept in
    omega (arith, few, c.in-Some.ensures.within)
