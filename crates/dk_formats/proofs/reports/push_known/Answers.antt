use Rattle.std.proofs.Common.{◌≡◌, ◌∙◌, ap, subst, List}
use Rattle.std.proofs.lemmas.Result.{on_ok_weaker}
use Rattle.dk_base.specs.declared.kinds.VarInfo.{VarInfo}
use Rattle.dk_derive.specs.Laws.{all_vars_of}
use Rattle.dk_derive.specs.Vars.{with_derived_vars}
use Rattle.dk_formats.specs.Steps.{AddsSection}
use Rattle.dk_formats.proofs.reports.push_known.Goals as goal

pub returns : goal.returns
returns c =
    let are : c.as_slice.result.now ≡ all_vars_of c.args.points.now c.args.point.0 =
    c.as_slice.ensures ∙ c.in_ok-vars.ensures.vars ∙ ap with_derived_vars c.vars.ensures.vars in
    on_ok_weaker c.push_section.result
    (λ adds. subst (λ (infos : List VarInfo). AddsSection c.args.format infos c.args.section.now c.args.text.now c.push_section.new.text) are adds) c.push_section.ensures
