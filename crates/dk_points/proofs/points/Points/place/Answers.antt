use Rattle.std.proofs.Common.{◌≡◌, ◌∙◌, length, get_or, ap, arith}
use Rattle.dk_points.proofs.Keeping.{kept-at, length-seen}
use Rattle.dk_points.proofs.points.Points.place.Goals as goal

pub bounds-as_slice-p : goal.bounds-as_slice-p
bounds-as_slice-p c = omega (arith, c.requires, ap length c.as_slice.ensures, length-seen c.self.inside.places, ap length c.self.view_is)

pub returns : goal.returns
returns c =
    let is : c.index-as_slice-p.result ≡ get_or c.self.inside.places c.args.p.0 c.index-as_slice-p.result =
    c.index-as_slice-p.is ∙ ap (λ xs. get_or xs c.args.p.0 c.index-as_slice-p.result) c.as_slice.ensures in
    let at = kept-at c.self.inside.graph c.self.inside.places c.args.self.now c.args.p.0 c.index-as_slice-p.result c.self.invariant c.self.view_is
    (omega (arith, c.requires, length-seen c.self.inside.places, ap length c.self.view_is)) is in
    record { point = at.0; kept = at.1 }
