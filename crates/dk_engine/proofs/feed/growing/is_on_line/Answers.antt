use Rattle.std.specs.Prelude.{◌≡◌, ℤ, ◌-ℤ◌}
use Rattle.std.proofs.Common.{◌∙◌, ap, rules}
use Rattle.dk_forms.specs.Plane.{are_parallel}
use Rattle.dk_engine.proofs.feed.growing.is_on_line.Goals as goal

pub returns : goal.returns
returns c =
    let a = c.distance.result in let b = c.distance-2.result in let k = c.distance-3.result in
    let d = c.distance-4.result in let e = c.distance-5.result in let f = c.distance-6.result in
    let at_a : a ≡ c.args.x -ℤ c.args.x1 = search rules in
    let at_b : b ≡ c.args.y -ℤ c.args.y1 = search rules in
    let at_k : k ≡ c.args.z -ℤ c.args.z1 = search rules in
    let at_d : d ≡ c.args.x2 -ℤ c.args.x1 = search rules in
    let at_e : e ≡ c.args.y2 -ℤ c.args.y1 = search rules in
    let at_f : f ≡ c.args.z2 -ℤ c.args.z1 = search rules in
    let told : c.are_parallel.result ≡ are_parallel (a, b, k) (d, e, f) = search rules in
    let u : ℤ × ℤ × ℤ = (c.args.x -ℤ c.args.x1, c.args.y -ℤ c.args.y1, c.args.z -ℤ c.args.z1) in
    told
    ∙ ap (λ t. are_parallel (t, b, k) (d, e, f)) at_a
    ∙ ap (λ t. are_parallel (u.0, t, k) (d, e, f)) at_b
    ∙ ap (λ t. are_parallel (u.0, u.1, t) (d, e, f)) at_k
    ∙ ap (λ t. are_parallel u (t, e, f)) at_d
    ∙ ap (λ t. are_parallel u (c.args.x2 -ℤ c.args.x1, t, f)) at_e
    ∙ ap (λ t. are_parallel u (c.args.x2 -ℤ c.args.x1, c.args.y2 -ℤ c.args.y1, t)) at_f
