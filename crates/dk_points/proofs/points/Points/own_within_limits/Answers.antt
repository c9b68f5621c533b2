use Rattle.std.proofs.Common.{◌∙◌, refl, sym}
use Rattle.dk_points.proofs.Declarations.{new-vars, vars-are-many}
use Rattle.dk_points.proofs.points.Points.own_within_limits.Goals as goal

pub returns-then-has_many_vars : goal.returns-then-has_many_vars
returns-then-has_many_vars c =
    let many = vars-are-many c.args.self.now c.args.decl c.in_ok-own.own c.len.result c.as_slice.result.now c.has_many_vars.result c.in_ok-own.ensures.decl c.in_ok-own.ensures.own
    c.len.ensures c.as_slice.ensures c.has_many_vars.ensures in
    rw (c.refuse-then-has_many_vars.ensures)
    (refl, new-vars c.args.self.now c.args.decl (sym c.has_many_points.ensures ∙ c.if-has_many_points.false) (sym many ∙ c.if-has_many_vars.true))

pub returns : goal.returns
returns c =
    let many = vars-are-many c.args.self.now c.args.decl c.in_ok-own.own c.len.result c.as_slice.result.now c.has_many_vars.result c.in_ok-own.ensures.decl c.in_ok-own.ensures.own
    c.len.ensures c.as_slice.ensures c.has_many_vars.ensures in
    (c.in_ok-own.ensures.decl, c.in_ok-own.ensures.own, sym c.has_many_points.ensures ∙ c.if-has_many_points.false, sym many ∙ c.if-has_many_vars.false)
