use Rattle.std.proofs.Common.{rules, ◌≡◌, ◌↔◌, IsTrue, [], ◌∷◌, ap, arith, sym, subst, unsigned_abs, ◌&&◌, ◌≤◌, ◌^◌, ◌∙◌, ℤ, SFits, w64}
use Rattle.std.specs.Int.{w128}
use Rattle.std.proofs.lemmas.Int.{to_z-of_z}
use Rattle.dk_arith.proofs.Registers.{kept, kept64}
use Rattle.dk_forms.proofs.PlaneFacts.{limit_of_point}
use Rattle.dk_forms.proofs.PlaneStays.{plane_stays}
use Rattle.dk_forms.proofs.SmallNumbers.{narrow_is}
use Rattle.dk_forms.proofs.Stays.{stays_by}
use Rattle.dk_forms.specs.Plane.{in_space, is_in_plane, plane_join, plane_of}
use Rattle.dk_forms.proofs.plane.flat_stays.Goals as goal

pub is_flat-requires-clause-a : goal.is_flat-requires-clause-a
is_flat-requires-clause-a c =
    let h : unsigned_abs c.args.n.a ≤ 2 ^ 30 = search rules in subst (λ t. unsigned_abs t ≤ 2 ^ 31) (sym (narrow_is c.args.n.a (omega arith))) (omega arith)

pub is_flat-requires-clause-b : goal.is_flat-requires-clause-b
is_flat-requires-clause-b c =
    let h : unsigned_abs c.args.n.b ≤ 2 ^ 30 = search rules in subst (λ t. unsigned_abs t ≤ 2 ^ 31) (sym (narrow_is c.args.n.b (omega arith))) (omega arith)

pub is_flat-requires-clause-c : goal.is_flat-requires-clause-c
is_flat-requires-clause-c c =
    let h : unsigned_abs c.args.n.c ≤ 2 ^ 30 = search rules in subst (λ t. unsigned_abs t ≤ 2 ^ 31) (sym (narrow_is c.args.n.c (omega arith))) (omega arith)

pub returns-then-are_six_small : goal.returns-then-are_six_small
returns-then-are_six_small c =
    let n = c.args.n in let p = c.args.p in
    let ha : unsigned_abs n.a ≤ 2 ^ 30 = search rules in let hb : unsigned_abs n.b ≤ 2 ^ 30 = search rules in let hc : unsigned_abs n.c ≤ 2 ^ 30 = search rules in
    let hx : unsigned_abs p.x ≤ 2 ^ 30 = search rules in let hy : unsigned_abs p.y ≤ 2 ^ 30 = search rules in let hz : unsigned_abs p.z ≤ 2 ^ 30 = search rules in
    let fd : SFits w128 n.d = search rules in
    let fx : SFits w64 p.x = search rules in let fy : SFits w64 p.y = search rules in let fz : SFits w64 p.z = search rules in
    let v : ℤ × ℤ × ℤ = (p.x, p.y, p.z) in
    let e : c.is_flat.result ≡ (in_space v && is_in_plane (n.a, n.b, n.c, n.d) v) =
    c.is_flat.ensures
    ∙ ap (λ t. is_in_plane (t, kept64 (kept n.b), kept64 (kept n.c), kept n.d) (kept64 p.x, kept64 p.y, kept64 p.z)) (narrow_is n.a (omega arith))
    ∙ ap (λ t. is_in_plane (n.a, t, kept64 (kept n.c), kept n.d) (kept64 p.x, kept64 p.y, kept64 p.z)) (narrow_is n.b (omega arith))
    ∙ ap (λ t. is_in_plane (n.a, n.b, t, kept n.d) (kept64 p.x, kept64 p.y, kept64 p.z)) (narrow_is n.c (omega arith))
    ∙ ap (λ t. is_in_plane (n.a, n.b, n.c, t) (kept64 p.x, kept64 p.y, kept64 p.z)) (to_z-of_z w128 n.d fd)
    ∙ ap (λ t. is_in_plane (n.a, n.b, n.c, n.d) (t, kept64 p.y, kept64 p.z)) (to_z-of_z w64 p.x fx)
    ∙ ap (λ t. is_in_plane (n.a, n.b, n.c, n.d) (p.x, t, kept64 p.z)) (to_z-of_z w64 p.y fy)
    ∙ ap (λ t. is_in_plane (n.a, n.b, n.c, n.d) (p.x, p.y, t)) (to_z-of_z w64 p.z fz)
    ∙ ap (λ t. t && is_in_plane (n.a, n.b, n.c, n.d) v) (sym (limit_of_point v (record { x = hx; y = hy; z = hz }))) in
    stays_by plane_join (plane_of (v ∷ [])) c.requires.state e (plane_stays (n.a, n.b, n.c, n.d) v)

pub returns-else-are_six_small : goal.returns-else-are_six_small
returns-else-are_six_small c =
    let p = c.args.p in let s = c.args.state.now in
    let fx : SFits w64 p.x = search rules in let fy : SFits w64 p.y = search rules in let fz : SFits w64 p.z = search rules in
    let e : (kept64 p.x, kept64 p.y, kept64 p.z) ≡ (p.x, p.y, p.z) =
    ap (λ (t : ℤ). (t, kept64 p.y, kept64 p.z)) (to_z-of_z w64 p.x fx) ∙ ap (λ (t : ℤ). (p.x, t, kept64 p.z)) (to_z-of_z w64 p.y fy) ∙ ap (λ (t : ℤ). (p.x, p.y, t)) (to_z-of_z w64 p.z fz) in
    subst (λ (v : ℤ × ℤ × ℤ). IsTrue c.wide_stays.result ↔ (plane_join s (plane_of (v ∷ [])) ≡ s)) e c.wide_stays.ensures
