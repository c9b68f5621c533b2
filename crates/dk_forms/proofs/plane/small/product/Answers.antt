use Rattle.std.proofs.Common.{◌≤◌, ◌^◌, ap, arith, sym, subst, unsigned_abs, ◌∙◌, ◌*ℤ◌}
use Rattle.dk_arith.proofs.Registers.{kept64}
use Rattle.dk_forms.proofs.SmallNumbers.{factors64, kept64_is, small_product}
use Rattle.dk_forms.proofs.plane.small.product.Goals as goal

pub returns-clause-value : goal.returns-clause-value
returns-clause-value c =
    let a = c.args.a in let x = c.args.x in
    let small = small_product a x c.requires.a c.requires.x in
    ap kept64 (factors64 a x c.ranges.a c.ranges.x) ∙ kept64_is (a *ℤ x) (omega arith)

pub returns-clause-small : goal.returns-clause-small
returns-clause-small c =
    let small = small_product c.args.a c.args.x c.requires.a c.requires.x in
    subst (λ t. unsigned_abs t ≤ 2 ^ 61) (sym (returns-clause-value c)) small
