use Rattle.std.proofs.Common.{◌∙◌, sym, ap}
use Rattle.dk_points.proofs.Keeping.{base-vars-none}
use Rattle.dk_points.specs.Vars.{declared_vars}
use Rattle.dk_points.proofs.points.Points.base_vars.Goals as goal

pub returns-in-None : goal.returns-in-None
returns-in-None c =
    let none = rw (c.in-None.is) at c.requires.entry in
    c.in_ok-vars.ensures ∙ ap declared_vars c.as_slice.ensures ∙ sym (base-vars-none c.args.self.now c.args.decl.now (sym none))
