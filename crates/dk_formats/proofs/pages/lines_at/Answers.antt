use Rattle.std.proofs.Common.{◌≡◌, ◌∙◌, List, IfOk, ap, subst}
use Rattle.dk_base.specs.declared.kinds.VarInfo.{VarInfo}
use Rattle.dk_derive.specs.Laws.{all_vars_of}
use Rattle.dk_derive.specs.Vars.{with_derived_vars}
use Rattle.dk_formats.specs.Steps.{ArePageLines}
use Rattle.dk_formats.proofs.pages.lines_at.Goals as goal

pub returns : goal.returns
returns c =
    let are : c.as_slice.result.now ≡ all_vars_of c.args.points.now c.args.point.0 =
    c.as_slice.ensures ∙ c.in_ok-vars.ensures.vars ∙ ap with_derived_vars c.vars.ensures.vars in
    subst (λ (infos : List VarInfo). IfOk c.lines_over.result (ArePageLines infos c.args.section.now.lines)) are c.lines_over.ensures
