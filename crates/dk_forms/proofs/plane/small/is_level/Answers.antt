use Rattle.std.proofs.Common.{ap, arith, ◌≤◌, ◌<◌, ◌^◌, ◌∙◌, ◌*ℤ◌, ◌+ℤ◌, unsigned_abs}
use Rattle.std.specs.Ordering.{int_eq}
use Rattle.std.specs.Prelude.{neg_ℤ}
use Rattle.dk_forms.proofs.SmallNumbers.{factors64, neg_fits, opposite_test, sum_kept, sum_small}
use Rattle.dk_forms.proofs.plane.small.is_level.Goals as goal

pub overflow_sub-result : goal.overflow_sub-result
overflow_sub-result c =
    let r = c.product.result in let s = c.product-2.result in
    let small = sum_small r s c.product.ensures.small c.product-2.ensures.small in
    neg_fits _ (r +ℤ s) (sum_kept r s c.product.ensures.small c.product-2.ensures.small) (omega arith)

pub returns : goal.returns
returns c =
    let a = c.args.a in let b = c.args.b in let x = c.args.x in let y = c.args.y in
    let r = c.product.result in let s = c.product-2.result in
    let small = sum_small r s c.product.ensures.small c.product-2.ensures.small in
    opposite_test _ (r +ℤ s) c.args.c (sum_kept r s c.product.ensures.small c.product-2.ensures.small) (omega arith) c.requires.c
    ∙ ap (λ t. int_eq (t +ℤ s) (neg_ℤ c.args.c)) (c.product.ensures.value ∙ factors64 a x c.ranges.a c.ranges.x)
    ∙ ap (λ t. int_eq (a *ℤ x +ℤ t) (neg_ℤ c.args.c)) (c.product-2.ensures.value ∙ factors64 b y c.ranges.b c.ranges.y)
