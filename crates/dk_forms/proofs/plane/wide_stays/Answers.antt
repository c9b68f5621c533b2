use Rattle.std.proofs.Common.{rules, ◌≡◌, [], ◌∷◌, ◌&&◌, ℤ, subst}
use Rattle.dk_forms.proofs.PlaneStays.{plane_stays, span_stays}
use Rattle.dk_forms.proofs.Stays.{stays_by}
use Rattle.dk_forms.specs.Plane.{IsPlaneState, are_aligned, in_space, is_before, is_in_plane, plane_join, plane_of}
use Rattle.dk_forms.proofs.plane.wide_stays.Goals as goal

pub returns-in-Span : goal.returns-in-Span
returns-in-Span c =
    let k = c.in-Span in
    let s : (ℤ × ℤ × ℤ) × (ℤ × ℤ × ℤ) = ((k.x1, k.y1, k.z1), (k.x2, k.y2, k.z2)) in
    let v : ℤ × ℤ × ℤ = (c.args.x, c.args.y, c.args.z) in
    let e : c.span_has.result ≡ (in_space v && (is_before s.0 v && (is_before v s.1 && are_aligned s.0 s.1 v))) = search rules in
    stays_by plane_join (plane_of (v ∷ [])) k.is e (span_stays s v (subst IsPlaneState k.is c.requires))

pub returns-in-Plane : goal.returns-in-Plane
returns-in-Plane c =
    let k = c.in-Plane in
    let n : ℤ × ℤ × ℤ × ℤ = (k.a, k.b, k.c, k.d) in
    let v : ℤ × ℤ × ℤ = (c.args.x, c.args.y, c.args.z) in
    let e : c.wide_meet.result ≡ (in_space v && is_in_plane n v) = search rules in
    stays_by plane_join (plane_of (v ∷ [])) k.is e (plane_stays n v)
