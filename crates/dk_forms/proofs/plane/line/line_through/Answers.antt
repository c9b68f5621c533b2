use Rattle.std.proofs.Common.{rules, ◌≡◌, arith, ap, ◌∙◌, SFits}
use Rattle.std.specs.Prelude.{pos, ◌+ℤ◌, ◌-ℤ◌, ◌*ℤ◌, neg_ℤ, int_div}
use Rattle.std.specs.Int.{w128}
use Rattle.std.proofs.lemmas.Int.{ints, to_z-of_z}
use Rattle.dk_forms.specs.declared.states.State.TheVariants.{Straight}
use Rattle.dk_forms.specs.Plane.Line.{through}
use Rattle.dk_arith.specs.Directions.{divisor}
use Rattle.dk_arith.proofs.Registers.{kept, kept_is, minus_is, value_kept}
use Rattle.dk_forms.proofs.plane.line.line_through.Goals as goal

pub returns : goal.returns
unfolding through
returns c =
    let x = c.args.x in let y = c.args.y in let u = c.args.u in let v = c.args.v in
    let rise = v -ℤ y in
    let back = x -ℤ u in
    let d = divisor rise back (pos 0) in
    let f1 : SFits w128 c.minus.result = record { sfits = c.minus.type_inv } in
    let f2 : SFits w128 c.minus-2.result = record { sfits = c.minus-2.type_inv } in
    let m1 = minus_is v y c.minus.result c.ranges.v c.ranges.y f1 c.minus.ensures in
    let m2 = minus_is x u c.minus-2.result c.ranges.x c.ranges.u f2 c.minus-2.ensures in
    let ra = c.lowest-across.result.a in
    let rb = c.lowest-across.result.b in
    let fa : SFits w128 ra = search rules in
    let fb : SFits w128 rb = search rules in
    let a : ra ≡ int_div rise d =
    c.lowest-across.ensures.a ∙ ap (λ t. int_div t (divisor t (kept c.minus-2.result) (pos 0))) m1 ∙ ap (λ t. int_div rise (divisor rise t (pos 0))) m2 in
    let b : rb ≡ int_div back d =
    c.lowest-across.ensures.b ∙ ap (λ t. int_div (kept c.minus-2.result) (divisor t (kept c.minus-2.result) (pos 0))) m1 ∙ ap (λ t. int_div t (divisor rise t (pos 0))) m2 in
    let value : c.value_at.result ≡ int_div rise d *ℤ x +ℤ int_div back d *ℤ y =
    c.value_at.ensures.value ∙ value_kept ra rb x y fa fb c.ranges.x c.ranges.y
    ∙ ap (λ t. t *ℤ x +ℤ rb *ℤ y) a ∙ ap (λ t. int_div rise d *ℤ x +ℤ t *ℤ y) b in
    let small = c.value_at.ensures.small in
    let kv = kept_is c.value_at.result small in
    let neg : pos 0 -ℤ kept c.value_at.result ≡ neg_ℤ c.value_at.result = ap (λ t. pos 0 -ℤ t) kv ∙ omega (arith, ints) in
    let last : kept (pos 0 -ℤ kept c.value_at.result) ≡ neg_ℤ (int_div rise d *ℤ x +ℤ int_div back d *ℤ y) =
    ap kept neg ∙ kept_is (neg_ℤ c.value_at.result) (omega (arith, ints)) ∙ ap neg_ℤ value in
    ap (λ t. Straight t (kept rb) (kept (pos 0 -ℤ kept c.value_at.result))) (to_z-of_z w128 ra fa ∙ a)
    ∙ ap (λ t. Straight (int_div rise d) t (kept (pos 0 -ℤ kept c.value_at.result))) (to_z-of_z w128 rb fb ∙ b)
    ∙ ap (Straight (int_div rise d) (int_div back d)) last
