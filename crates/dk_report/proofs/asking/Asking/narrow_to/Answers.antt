use Rattle.std.specs.Prelude.{◌≡◌, List, filter, flat_map}
use Rattle.std.proofs.Common.{◌∙◌, ap}
use Rattle.dk_base.specs.declared.kinds.VarId.{VarId}
use Rattle.dk_constants.specs.Known.{Entries}
use Rattle.dk_instances.specs.Instances.{rows_of}
use Rattle.dk_report.proofs.Reported.{if_ok}
use Rattle.dk_report.specs.Narrowing.{candidates_left, fixed_vars, is_fixed}
use Rattle.dk_report.proofs.asking.Asking.narrow_to.Goals as goal

pub returns : goal.returns
returns c =
    let asking = c.args.self.now in
    let kept = c.args.engine.now.kept in
    let of = c.args.standing.now in
    let given : List VarId = c.as_slice-2.result.now in
    let same : given ≡ fixed_vars kept of =
    c.as_slice-2.ensures
    ∙ (c.in_ok-fixed.ensures
    ∙ (ap (λ (known : Entries). filter (is_fixed known) c.as_slice.result.now) c.constants.ensures ∙ ap (λ (vs : List VarId). filter (is_fixed kept.known) vs) c.as_slice.ensures)) in
    if_ok c.narrow_by.result (λ list. list ≡ flat_map (candidates_left kept asking of given) (rows_of asking.here.now.here.grammar)) _
    (λ list is. is ∙ ap (λ (vs : List VarId). flat_map (candidates_left kept asking of vs) (rows_of asking.here.now.here.grammar)) same)
    c.narrow_by.ensures
