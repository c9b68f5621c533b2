use Rattle.std.proofs.Common.{ap, sym, subst, w64, FitsSigned, ◌∙◌, ◌*ℤ◌, ◌+ℤ◌}
use Rattle.std.specs.Ordering.{int_eq}
use Rattle.std.specs.Prelude.{neg_ℤ}
use Rattle.dk_forms.proofs.SmallNumbers.{factors64, fits64, neg_fits, opposite_test, three_kept, three_small}
use Rattle.dk_forms.proofs.plane.small.is_flat.Goals as goal

pub overflow_add-sum-2 : goal.overflow_add-sum-2
overflow_add-sum-2 c =
    let r = c.product.result in let s = c.product-2.result in let q = c.product-3.result in
    let hr = c.product.ensures.small in let hs = c.product-2.ensures.small in let hq = c.product-3.ensures.small in
    subst (FitsSigned w64) (sym (three_kept r s q hr hs hq)) (fits64 _ (three_small r s q hr hs hq))

pub overflow_sub-result : goal.overflow_sub-result
overflow_sub-result c =
    let r = c.product.result in let s = c.product-2.result in let q = c.product-3.result in
    let hr = c.product.ensures.small in let hs = c.product-2.ensures.small in let hq = c.product-3.ensures.small in
    neg_fits _ (r +ℤ s +ℤ q) (three_kept r s q hr hs hq) (three_small r s q hr hs hq)

pub returns : goal.returns
returns c =
    let a = c.args.a in let b = c.args.b in let k = c.args.c in let x = c.args.x in let y = c.args.y in let z = c.args.z in
    let r = c.product.result in let s = c.product-2.result in let q = c.product-3.result in let e = neg_ℤ c.args.d in
    let hr = c.product.ensures.small in let hs = c.product-2.ensures.small in let hq = c.product-3.ensures.small in
    opposite_test _ (r +ℤ s +ℤ q) c.args.d (three_kept r s q hr hs hq) (three_small r s q hr hs hq) c.requires.d
    ∙ ap (λ t. int_eq (t +ℤ s +ℤ q) e) (c.product.ensures.value ∙ factors64 a x c.ranges.a c.ranges.x)
    ∙ ap (λ t. int_eq (a *ℤ x +ℤ t +ℤ q) e) (c.product-2.ensures.value ∙ factors64 b y c.ranges.b c.ranges.y)
    ∙ ap (λ t. int_eq (a *ℤ x +ℤ b *ℤ y +ℤ t) e) (c.product-3.ensures.value ∙ factors64 k z c.ranges.c c.ranges.z)
