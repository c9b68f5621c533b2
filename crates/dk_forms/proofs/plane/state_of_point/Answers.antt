use Rattle.std.proofs.Common.{rules, ◌≡◌, sym, ap, ◌∙◌, true, ℤ}
use Rattle.std.specs.Int.{w64}
use Rattle.std.proofs.lemmas.Int.{to_z-of_z}
use Rattle.dk_forms.specs.Known.{fact}
use Rattle.dk_forms.specs.Plane.{span, in_space, plane_state}
use Rattle.dk_arith.proofs.Registers.{kept64}
use Rattle.dk_forms.proofs.PlaneLaws.{plane_of_one}
use Rattle.dk_forms.proofs.plane.state_of_point.Goals as goal

pub returns-then-in_space : goal.returns-then-in_space
returns-then-in_space c =
    let p : ℤ × ℤ × ℤ = (c.args.x, c.args.y, c.args.z) in
    let e : in_space p ≡ true = search rules in
    let kx = kept64 c.args.x in let ky = kept64 c.args.y in let kz = kept64 c.args.z in
    let same : ◌≡◌ {A = ℤ × ℤ × ℤ} (kx, ky, kz) p =
    ap (λ t. (t, ky, kz)) (to_z-of_z w64 c.args.x c.ranges.x) ∙ ap (λ t. (c.args.x, t, kz)) (to_z-of_z w64 c.args.y c.ranges.y) ∙ ap (λ t. (c.args.x, c.args.y, t)) (to_z-of_z w64 c.args.z c.ranges.z) in
    c.state_of_span.ensures ∙ ap (λ t. plane_state (fact (span (t, t)))) same ∙ sym (plane_of_one p e)
