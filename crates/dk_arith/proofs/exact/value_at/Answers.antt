use Rattle.std.proofs.Common.{sym, ap, ◌∙◌, subst, ◌+ℤ◌, ◌*ℤ◌, ◌≤◌, ◌^◌, unsigned_abs, FitsSigned}
use Rattle.std.specs.Int.{w128}
use Rattle.dk_arith.proofs.Registers.{wide, fits128, kept, kept_is, product_small, product_kept, sum_small}
use Rattle.dk_arith.proofs.exact.value_at.Goals as goal

pub overflow_add-result : goal.overflow_add-result
overflow_add-result c =
    let a = c.args.a in let b = c.args.b in let x = c.args.x in let y = c.args.y in
    let small = sum_small (a *ℤ x) (b *ℤ y) (product_small a x c.requires.a c.requires.x) (product_small b y c.requires.b c.requires.y) in
    subst (λ t. FitsSigned w128 (t +ℤ kept (kept b *ℤ wide y))) (sym (product_kept a x c.ranges.x c.requires.a c.requires.x))
    (subst (λ t. FitsSigned w128 (a *ℤ x +ℤ t)) (sym (product_kept b y c.ranges.y c.requires.b c.requires.y)) (fits128 (a *ℤ x +ℤ b *ℤ y) small))

pub returns-clause-value : goal.returns-clause-value
returns-clause-value c =
    let a = c.args.a in let b = c.args.b in let x = c.args.x in let y = c.args.y in
    let small = sum_small (a *ℤ x) (b *ℤ y) (product_small a x c.requires.a c.requires.x) (product_small b y c.requires.b c.requires.y) in
    ap (λ t. kept (t +ℤ kept (kept b *ℤ wide y))) (product_kept a x c.ranges.x c.requires.a c.requires.x)
    ∙ ap (λ t. kept (a *ℤ x +ℤ t)) (product_kept b y c.ranges.y c.requires.b c.requires.y) ∙ kept_is (a *ℤ x +ℤ b *ℤ y) small

pub returns-clause-small : goal.returns-clause-small
returns-clause-small c =
    let a = c.args.a in let b = c.args.b in let x = c.args.x in let y = c.args.y in
    subst (λ t. unsigned_abs t ≤ 2 ^ 126) (sym (returns-clause-value c))
    (sum_small (a *ℤ x) (b *ℤ y) (product_small a x c.requires.a c.requires.x) (product_small b y c.requires.b c.requires.y))
