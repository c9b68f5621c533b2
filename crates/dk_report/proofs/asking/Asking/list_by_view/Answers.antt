use Rattle.std.specs.Prelude.{◌≡◌, IfSome, List, flat_map}
use Rattle.std.proofs.Common.{◌∙◌, subst, sym}
use Rattle.dk_base.specs.declared.kinds.VarId.{VarId}
use Rattle.dk_instances.specs.Instances.{rows_of}
use Rattle.dk_report.proofs.Reported.{if_ok}
use Rattle.dk_report.proofs.Viewed.{viewed_is}
use Rattle.dk_report.specs.Viewing.{IsTold, candidates_told}
use Rattle.dk_report.proofs.asking.Asking.list_by_view.Goals as goal

pub returns-in-Some : goal.returns-in-Some
returns-in-Some c =
    let asking = c.args.self.now in
    let of = c.args.standing.now in
    let table : List (List VarId) = c.as_slice.result.now in
    if_ok c.list_in_view.result (λ list. list ≡ flat_map (candidates_told table asking of) (rows_of asking.here.now.here.grammar)) _
    (λ list is. is ∙ viewed_is asking c.requires.asked of c.requires.standing table (subst (IsTold asking.here.now of.several) (sym c.as_slice.ensures.value) (subst (λ o. IfSome o (λ t. IsTold asking.here.now of.several t.items)) c.in-Some.is c.in_ok-told.ensures)))
    c.list_in_view.ensures
