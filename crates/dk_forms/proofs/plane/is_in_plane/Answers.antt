use Rattle.std.proofs.Common.{rules, ◌≡◌, arith, sym, ap, ◌∙◌, subst, ◌≤◌, ◌^◌, SFits}
use Rattle.std.specs.Prelude.{unsigned_abs, neg_ℤ, pos, ◌-ℤ◌, ◌+ℤ◌, ◌*ℤ◌}
use Rattle.std.specs.Int.{w64, w128}
use Rattle.std.specs.Ordering.{int_eq}
use Rattle.std.proofs.lemmas.Int.{ints, to_z-of_z}
use Rattle.dk_arith.proofs.Registers.{kept, eq_kept, space_kept}
use Rattle.dk_forms.proofs.plane.is_in_plane.Goals as goal

pub returns : goal.returns
returns c =
    let n = c.args.n in let p = c.args.p in
    let fa : SFits w128 n.a = search rules in let fb : SFits w128 n.b = search rules in let fc : SFits w128 n.c = search rules in let fd : SFits w128 n.d = search rules in
    let fx : SFits w64 p.x = search rules in let fy : SFits w64 p.y = search rules in let fz : SFits w64 p.z = search rules in
    let sum = n.a *ℤ p.x +ℤ n.b *ℤ p.y +ℤ n.c *ℤ p.z in
    let value : c.value_in_space.result ≡ sum = c.value_in_space.ensures.value ∙ space_kept n.a n.b n.c p.x p.y p.z fa fb fc fx fy fz in
    let other : pos 0 -ℤ kept n.d ≡ neg_ℤ n.d = ap (λ t. pos 0 -ℤ t) (to_z-of_z w128 n.d fd) ∙ omega (arith, ints) in
    let low = c.requires.n.d in
    let small = c.value_in_space.ensures.small in
    let bound : unsigned_abs (pos 0 -ℤ kept n.d) ≤ 2 ^ 126 = subst (λ t. unsigned_abs t ≤ 2 ^ 126) (sym other) (omega (arith, ints)) in
    eq_kept c.value_in_space.result (pos 0 -ℤ kept n.d) (omega arith) bound ∙ ap (λ t. int_eq t (pos 0 -ℤ kept n.d)) value ∙ ap (int_eq sum) other
