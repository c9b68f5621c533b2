use Rattle.std.proofs.Common.{◌≡◌, arith, sym, ap, ◌∙◌, subst, ◌≤◌, ◌^◌, FitsSigned}
use Rattle.std.specs.Prelude.{◌+ℤ◌, ◌*ℤ◌, unsigned_abs}
use Rattle.std.specs.Int.{w128}
use Rattle.dk_arith.proofs.Registers.{wide, fits128, kept, kept_is, small_kept, space_product, two_small, three_small, wide_factors}
use Rattle.dk_arith.proofs.exact.value_in_space.Goals as goal

pub overflow_add-result : goal.overflow_add-result
overflow_add-result c =
    let a = c.args.a in let b = c.args.b in let d = c.args.c in let x = c.args.x in let y = c.args.y in let z = c.args.z in
    let ea = small_kept a x c.ranges.a c.ranges.x c.requires.a c.requires.x in
    let eb = small_kept b y c.ranges.b c.ranges.y c.requires.b c.requires.y in
    let two = two_small (a *ℤ x) (b *ℤ y) (space_product a x c.requires.a c.requires.x) (space_product b y c.requires.b c.requires.y) in
    subst (λ t. FitsSigned w128 (t +ℤ kept (kept b *ℤ wide y))) (sym ea) (subst (λ t. FitsSigned w128 (a *ℤ x +ℤ t)) (sym eb) (fits128 (a *ℤ x +ℤ b *ℤ y) (omega arith)))

pub overflow_mul-result-3 : goal.overflow_mul-result-3
overflow_mul-result-3 c =
    let d = c.args.c in let z = c.args.z in
    let s = space_product d z c.requires.c c.requires.z in
    subst (FitsSigned w128) (sym (wide_factors d z c.ranges.c c.ranges.z)) (fits128 (d *ℤ z) (omega arith))

pub overflow_add-result-2 : goal.overflow_add-result-2
overflow_add-result-2 c =
    let a = c.args.a in let b = c.args.b in let d = c.args.c in let x = c.args.x in let y = c.args.y in let z = c.args.z in
    let ea = small_kept a x c.ranges.a c.ranges.x c.requires.a c.requires.x in
    let eb = small_kept b y c.ranges.b c.ranges.y c.requires.b c.requires.y in
    let two = two_small (a *ℤ x) (b *ℤ y) (space_product a x c.requires.a c.requires.x) (space_product b y c.requires.b c.requires.y) in
    let ed = small_kept d z c.ranges.c c.ranges.z c.requires.c c.requires.z in
    let three = three_small (a *ℤ x +ℤ b *ℤ y) (d *ℤ z) two (space_product d z c.requires.c c.requires.z) in
    let sum : kept (kept (kept a *ℤ wide x) +ℤ kept (kept b *ℤ wide y)) ≡ a *ℤ x +ℤ b *ℤ y =
    ap (λ t. kept (t +ℤ kept (kept b *ℤ wide y))) ea ∙ ap (λ t. kept (a *ℤ x +ℤ t)) eb ∙ kept_is (a *ℤ x +ℤ b *ℤ y) (omega arith) in
    subst (λ t. FitsSigned w128 (t +ℤ kept (kept d *ℤ wide z))) (sym sum) (subst (λ t. FitsSigned w128 ((a *ℤ x +ℤ b *ℤ y) +ℤ t)) (sym ed) (fits128 (a *ℤ x +ℤ b *ℤ y +ℤ d *ℤ z) (omega arith)))

pub returns-clause-value : goal.returns-clause-value
returns-clause-value c =
    let a = c.args.a in let b = c.args.b in let d = c.args.c in let x = c.args.x in let y = c.args.y in let z = c.args.z in
    let ea = small_kept a x c.ranges.a c.ranges.x c.requires.a c.requires.x in
    let eb = small_kept b y c.ranges.b c.ranges.y c.requires.b c.requires.y in
    let two = two_small (a *ℤ x) (b *ℤ y) (space_product a x c.requires.a c.requires.x) (space_product b y c.requires.b c.requires.y) in
    let ed = small_kept d z c.ranges.c c.ranges.z c.requires.c c.requires.z in
    let three = three_small (a *ℤ x +ℤ b *ℤ y) (d *ℤ z) two (space_product d z c.requires.c c.requires.z) in
    let sum : kept (kept (kept a *ℤ wide x) +ℤ kept (kept b *ℤ wide y)) ≡ a *ℤ x +ℤ b *ℤ y =
    ap (λ t. kept (t +ℤ kept (kept b *ℤ wide y))) ea ∙ ap (λ t. kept (a *ℤ x +ℤ t)) eb ∙ kept_is (a *ℤ x +ℤ b *ℤ y) (omega arith) in
    ap (λ t. kept (t +ℤ kept (kept d *ℤ wide z))) sum ∙ ap (λ t. kept ((a *ℤ x +ℤ b *ℤ y) +ℤ t)) ed ∙ kept_is (a *ℤ x +ℤ b *ℤ y +ℤ d *ℤ z) (omega arith)

pub returns-clause-small : goal.returns-clause-small
returns-clause-small c =
    let a = c.args.a in let b = c.args.b in let d = c.args.c in let x = c.args.x in let y = c.args.y in let z = c.args.z in
    let ea = small_kept a x c.ranges.a c.ranges.x c.requires.a c.requires.x in
    let eb = small_kept b y c.ranges.b c.ranges.y c.requires.b c.requires.y in
    let two = two_small (a *ℤ x) (b *ℤ y) (space_product a x c.requires.a c.requires.x) (space_product b y c.requires.b c.requires.y) in
    let ed = small_kept d z c.ranges.c c.ranges.z c.requires.c c.requires.z in
    let three = three_small (a *ℤ x +ℤ b *ℤ y) (d *ℤ z) two (space_product d z c.requires.c c.requires.z) in
    let sum : kept (kept (kept a *ℤ wide x) +ℤ kept (kept b *ℤ wide y)) ≡ a *ℤ x +ℤ b *ℤ y =
    ap (λ t. kept (t +ℤ kept (kept b *ℤ wide y))) ea ∙ ap (λ t. kept (a *ℤ x +ℤ t)) eb ∙ kept_is (a *ℤ x +ℤ b *ℤ y) (omega arith) in
    subst (λ t. unsigned_abs t ≤ 2 ^ 95) (sym (returns-clause-value c)) three
