use Rattle.std.specs.Prelude.{◌≡◌, [], ◌∷◌}
use Rattle.std.proofs.Common.{sym, subst}
use Rattle.std.proofs.lemmas.Result.{IfOk-weaker}
use Rattle.dk_base.specs.Values.{values_of}
use Rattle.dk_template.specs.Proper.{IsProper}
use Rattle.dk_template.proofs.Listing.{point_proper}
use Rattle.dk_template.proofs.row.point_of.Goals as goal

pub returns-clause-proper : goal.returns-clause-proper
returns-clause-proper g c =
    let row = g.R.Row in
    let form = row.form c.args.row.now in
    let tuple = values_of c.args.tuple.now in
    IfOk-weaker c.point.result (λ s. s ≡ row.state_of c.args.row.now (tuple ∷ [])) (IsProper form)
    (λ s e. subst (IsProper form) (sym e) (point_proper (g.met.R.Row.laws c.args.row.now) tuple c.requires))
    c.point.ensures.state
