use Rattle.std.proofs.Common.{rules, ◌≡◌, [], ◌∷◌, subst, ◌&&◌}
use Rattle.dk_forms.proofs.LineStays.{spot_stays, straight_stays}
use Rattle.dk_forms.proofs.Stays.{stays_by}
use Rattle.dk_forms.specs.Plane.Line.{IsLineState, in_limit, is_on, line_join, line_of, same_point}
use Rattle.dk_forms.proofs.plane.line.wide_stays.Goals as goal

pub returns-in-Spot : goal.returns-in-Spot
returns-in-Spot c =
    let u = c.in-Spot.u in let v = c.in-Spot.v in let x = c.args.x in let y = c.args.y in
    let e : c.is_same.result ≡ same_point (u, v) (x, y) = search rules in
    stays_by line_join (line_of ((x, y) ∷ [])) c.in-Spot.is e (spot_stays u v x y (subst IsLineState c.in-Spot.is c.requires))

pub returns-in-Straight : goal.returns-in-Straight
returns-in-Straight c =
    let a = c.in-Straight.a in let b = c.in-Straight.b in let d = c.in-Straight.c in let x = c.args.x in let y = c.args.y in
    let e : c.wide_meet.result ≡ (in_limit (x, y) && is_on (a, b, d) (x, y)) = search rules in
    stays_by line_join (line_of ((x, y) ∷ [])) c.in-Straight.is e (straight_stays a b d x y)
