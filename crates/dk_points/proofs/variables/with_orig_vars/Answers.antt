use Rattle.std.proofs.Common.{◌≡◌, ◌∙◌, ◌++◌, IfOk, ap, subst, bytes_eq}
use Rattle.indexmap.specs.IndexMap.{get_by}
use Rattle.dk_points.proofs.Typing.{orig-vars-by}
use Rattle.dk_points.specs.VarsByName.{typed_in}
use Rattle.dk_points.proofs.variables.with_orig_vars.Goals as goal

pub returns : goal.returns
returns c =
    let by = orig-vars-by c.args.vars (λ name. get_by (λ k. bytes_eq name k.items) c.in_ok-typed.typed) (λ name. c.in_ok-typed.ensures name ∙ ap (λ vs. typed_in vs name) c.as_slice.ensures) c.args.entry.now in
    subst (λ origs. IfOk c.push_orig_vars.result (λ all. all ≡ c.args.vars ++ origs)) by c.push_orig_vars.ensures
