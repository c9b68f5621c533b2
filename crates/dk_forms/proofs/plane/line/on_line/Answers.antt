use Rattle.std.proofs.Common.{◌≡◌, arith, sym, ap, ◌∙◌, subst, ◌≤◌, ◌^◌}
use Rattle.std.specs.Prelude.{unsigned_abs, neg_ℤ, pos, ◌-ℤ◌, ◌+ℤ◌, ◌*ℤ◌}
use Rattle.std.specs.Int.{w128}
use Rattle.std.specs.Ordering.{int_eq}
use Rattle.std.proofs.lemmas.Int.{ints, to_z-of_z}
use Rattle.dk_arith.proofs.Registers.{kept, eq_kept, value_kept}
use Rattle.dk_forms.proofs.plane.line.on_line.Goals as goal

pub returns : goal.returns
returns c =
    let a = c.args.a in let b = c.args.b in let x = c.args.x in let y = c.args.y in
    let value : c.value_at.result ≡ a *ℤ x +ℤ b *ℤ y = c.value_at.ensures.value ∙ value_kept a b x y c.ranges.a c.ranges.b c.ranges.x c.ranges.y in
    let other : pos 0 -ℤ kept c.args.c ≡ neg_ℤ c.args.c = ap (λ t. pos 0 -ℤ t) (to_z-of_z w128 c.args.c c.ranges.c) ∙ omega (arith, ints) in
    let low = c.requires.line.c in
    let small : unsigned_abs (pos 0 -ℤ kept c.args.c) ≤ 2 ^ 126 = subst (λ t. unsigned_abs t ≤ 2 ^ 126) (sym other) (omega (arith, ints)) in
    eq_kept c.value_at.result (pos 0 -ℤ kept c.args.c) c.value_at.ensures.small small ∙ ap (λ t. int_eq t (pos 0 -ℤ kept c.args.c)) value ∙ ap (int_eq (a *ℤ x +ℤ b *ℤ y)) other
