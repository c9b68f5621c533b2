use Rattle.std.proofs.Common.{◌≡◌, ◌∙◌, Some, sym, ap, bytes_eq}
use Rattle.indexmap.specs.IndexMap.{get_by}
use Rattle.dk_points.proofs.variables.orig_var.Goals as goal

pub returns-in-Some-get : goal.returns-in-Some-get
returns-in-Some-get c =
    let found : get_by (λ k. bytes_eq c.args.var.now.name k.items) c.args.typed.now ≡ Some c.in-Some-get.like.now =
    ap (λ n. get_by (λ k. bytes_eq n k.items) c.args.typed.now) (sym c.as_slice.ensures) ∙ sym c.in-Some-get.ensures.value in
    rw (c.in-Some.is, found) (rw c.as_slice-in-Some-get.ensures at c.orig_like.ensures)
