use Rattle.std.proofs.Common.{arith, sym, ap, ◌∙◌, subst, ◌≤◌, ◌^◌, FitsSigned}
use Rattle.std.specs.Prelude.{◌-ℤ◌, ◌*ℤ◌, unsigned_abs}
use Rattle.std.specs.Int.{w128}
use Rattle.dk_arith.proofs.Registers.{fits128, kept, kept_is, tiny_product, tiny_kept, difference_small}
use Rattle.dk_arith.proofs.exact.area.Goals as goal

pub overflow_sub-result : goal.overflow_sub-result
overflow_sub-result c =
    let a = c.args.a in let b = c.args.b in let x = c.args.c in let y = c.args.d in
    let small = difference_small (a *ℤ b) (x *ℤ y) (tiny_product a b c.requires.a c.requires.b) (tiny_product x y c.requires.c c.requires.d) in
    let e = tiny_kept a b c.ranges.a c.ranges.b c.requires.a c.requires.b in
    let f = tiny_kept x y c.ranges.c c.ranges.d c.requires.c c.requires.d in
    subst (λ t. FitsSigned w128 (t -ℤ kept (kept x *ℤ kept y))) (sym e) (subst (λ t. FitsSigned w128 (a *ℤ b -ℤ t)) (sym f) (fits128 (a *ℤ b -ℤ x *ℤ y) (omega arith)))

pub returns-clause-value : goal.returns-clause-value
returns-clause-value c =
    let a = c.args.a in let b = c.args.b in let x = c.args.c in let y = c.args.d in
    let small = difference_small (a *ℤ b) (x *ℤ y) (tiny_product a b c.requires.a c.requires.b) (tiny_product x y c.requires.c c.requires.d) in
    let e = tiny_kept a b c.ranges.a c.ranges.b c.requires.a c.requires.b in
    let f = tiny_kept x y c.ranges.c c.ranges.d c.requires.c c.requires.d in
    ap (λ t. kept (t -ℤ kept (kept x *ℤ kept y))) e ∙ ap (λ t. kept (a *ℤ b -ℤ t)) f ∙ kept_is (a *ℤ b -ℤ x *ℤ y) (omega arith)

pub returns-clause-small : goal.returns-clause-small
returns-clause-small c =
    let a = c.args.a in let b = c.args.b in let x = c.args.c in let y = c.args.d in
    subst (λ t. unsigned_abs t ≤ 2 ^ 63) (sym (returns-clause-value c))
    (difference_small (a *ℤ b) (x *ℤ y) (tiny_product a b c.requires.a c.requires.b) (tiny_product x y c.requires.c c.requires.d))
