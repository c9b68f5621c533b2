use Rattle.std.specs.Prelude.{◌≡◌, ℤ, true}
use Rattle.std.proofs.Common.{rules}
use Rattle.dk_forms.proofs.PlaneFacts.{point_of_limit}
use Rattle.dk_forms.specs.Plane.{IsPoint, are_aligned, in_space, is_before}
use Rattle.dk_engine.proofs.Stretches.{within_stretch}
use Rattle.dk_engine.proofs.feed.growing.is_within.Goals as goal

pub is_on_line-requires-clause-point : goal.is_on_line-requires-clause-point
is_on_line-requires-clause-point c =
    let v : ℤ × ℤ × ℤ = (c.args.x, c.args.y, c.args.z) in
    let near : in_space v ≡ true = search rules in
    let point : IsPoint v = point_of_limit v near in
    search (rules, point)

pub returns : goal.returns
returns c fits =
    let p : ℤ × ℤ × ℤ = (c.args.x1, c.args.y1, c.args.z1) in
    let q : ℤ × ℤ × ℤ = (c.args.x2, c.args.y2, c.args.z2) in
    let v : ℤ × ℤ × ℤ = (c.args.x, c.args.y, c.args.z) in
    let near : in_space v ≡ true = search rules in
    let behind : is_before p v ≡ true = search rules in
    let before : is_before v q ≡ true = search rules in
    let on : are_aligned p v q ≡ true = search rules in
    let made = within_stretch p q v c.requires near behind before on in
    search (rules, made)
