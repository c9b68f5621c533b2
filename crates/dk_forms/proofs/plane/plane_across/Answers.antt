use Rattle.std.proofs.Common.{rules, ◌≡◌, arith, ap, ◌∙◌, SFits}
use Rattle.std.specs.Prelude.{ℤ, neg_ℤ, pos, ◌-ℤ◌, ◌+ℤ◌, ◌*ℤ◌}
use Rattle.std.specs.Int.{w64, w128}
use Rattle.std.proofs.lemmas.Int.{ints, to_z-of_z}
use Rattle.dk_arith.proofs.Registers.{fits128, kept, kept_is, space_kept}
use Rattle.dk_forms.proofs.plane.plane_across.Goals as goal

pub overflow_sub-result : goal.overflow_sub-result
overflow_sub-result c =
    let small = c.value_in_space.ensures.small in
    let e = kept_is c.value_in_space.result (omega arith) in
    fits128 (pos 0 -ℤ kept c.value_in_space.result) (omega (arith, ints))

pub returns : goal.returns
returns c =
    let n = c.args.n in let p = c.args.p in
    let fa : SFits w128 n.a = search rules in let fb : SFits w128 n.b = search rules in let fc : SFits w128 n.c = search rules in
    let fx : SFits w64 p.x = search rules in let fy : SFits w64 p.y = search rules in let fz : SFits w64 p.z = search rules in
    let sum = n.a *ℤ p.x +ℤ n.b *ℤ p.y +ℤ n.c *ℤ p.z in
    let small = c.value_in_space.ensures.small in
    let value : c.value_in_space.result ≡ sum = c.value_in_space.ensures.value ∙ space_kept n.a n.b n.c p.x p.y p.z fa fb fc fx fy fz in
    let neg : pos 0 -ℤ kept c.value_in_space.result ≡ neg_ℤ c.value_in_space.result = ap (λ t. pos 0 -ℤ t) (kept_is c.value_in_space.result (omega arith)) ∙ omega (arith, ints) in
    let last : kept (pos 0 -ℤ kept c.value_in_space.result) ≡ neg_ℤ sum = ap kept neg ∙ kept_is (neg_ℤ c.value_in_space.result) (omega (arith, ints)) ∙ ap neg_ℤ value in
    let d = kept (pos 0 -ℤ kept c.value_in_space.result) in
    quad (kept n.a) (kept n.b) (kept n.c) d n.a n.b n.c (neg_ℤ sum) (to_z-of_z w128 n.a fa) (to_z-of_z w128 n.b fb) (to_z-of_z w128 n.c fc) last
  where
    quad : (a b c d a' b' c' d' : ℤ) → a ≡ a' → b ≡ b' → c ≡ c' → d ≡ d' → ◌≡◌ {A = ℤ × ℤ × ℤ × ℤ} (a, b, c, d) (a', b', c', d')
    quad a b c d a' b' c' d' e f g h = ap (λ t. (t, b, c, d)) e ∙ ap (λ t. (a', t, c, d)) f ∙ ap (λ t. (a', b', t, d)) g ∙ ap (λ t. (a', b', c', t)) h
