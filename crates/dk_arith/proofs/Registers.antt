-- Numbers in registers that lose nothing.
use Rattle.std.specs.Prelude.{◌≡◌, ℤ, nat_eq, FitsSigned, ◌≤◌, ◌^◌, ◌*◌, pos, negsuc, ◌+ℤ◌, ◌-ℤ◌, ◌*ℤ◌, unsigned_abs, int_div}
use Rattle.std.specs.Int.{w64, w128}
use Rattle.std.specs.Ordering.{int_eq}
use Rattle.std.proofs.Common.{sym, ap, ◌∙◌, arith, SFits, to_z, of_z}
use Rattle.std.proofs.lemmas.Int.{ints, to_z-of_z, unsigned_abs-mul}
use Rattle.std.proofs.lemmas.Bool.Decides.{same_from_decides, Decides-eqb, Decides-int_eq}
use Rattle.std.proofs.Math.Nat.{mul-le-mul}
use Rattle.dk_arith.specs.Directions.{divisor, in_lowest}
use Rattle.dk_arith.proofs.LowestTerms.{divisor-zero}

-- x, widened
abbrev pub wide : ℤ → ℤ
wide x = to_z w128 (of_z w128 (to_z w64 (of_z w64 x)))

fits_wide : (x : ℤ) → FitsSigned w64 x → FitsSigned w128 x
fits_wide x f = record { sfits = omega (arith, f.sfits) }

pub wide_is : (x : ℤ) → FitsSigned w64 x → wide x ≡ x
wide_is x f = ap (λ y. to_z w128 (of_z w128 y)) (to_z-of_z w64 x f) ∙ to_z-of_z w128 x (fits_wide x f)

wide_eq : (z w : ℤ) → FitsSigned w128 z → FitsSigned w128 w → nat_eq (of_z w128 z) (of_z w128 w) ≡ int_eq z w
wide_eq z w f g =
    same_from_decides {P = z ≡ w} (nat_eq (of_z w128 z) (of_z w128 w)) (int_eq z w) (
      (λ h. sym (to_z-of_z w128 z f) ∙ ap (to_z w128) ((Decides-eqb (of_z w128 z) (of_z w128 w)).0 h) ∙ to_z-of_z w128 w g),
      (λ e. (Decides-eqb (of_z w128 z) (of_z w128 w)).1 (ap (of_z w128) e)),
    )
    (Decides-int_eq z w)

-- the test that z is what an operation gives
pub wide_test : (z x y : ℤ) (op : ℤ → ℤ → ℤ) → FitsSigned w64 z → FitsSigned w64 x → FitsSigned w64 y → FitsSigned w128 (op x y)
    → nat_eq (of_z w128 (to_z w64 (of_z w64 z))) (of_z w128 (op (wide x) (wide y))) ≡ int_eq z (op x y)
wide_test z x y op fz fx fy fits =
    ap (λ a. nat_eq (of_z w128 a) (of_z w128 (op (wide x) (wide y)))) (to_z-of_z w64 z fz)
    ∙ ap (λ a. nat_eq (of_z w128 z) (of_z w128 (op a (wide y)))) (wide_is x fx)
    ∙ ap (λ a. nat_eq (of_z w128 z) (of_z w128 (op x a))) (wide_is y fy)
    ∙ wide_eq z (op x y) (fits_wide z fz) fits

pub fits128 : (z : ℤ) → unsigned_abs z ≤ 2 ^ 126 → FitsSigned w128 z
fits128 (pos n) h = record { sfits = omega (arith, h) }
fits128 (negsuc n) h = record { sfits = omega (arith, h) }

-- z, through a register
abbrev pub kept : ℤ → ℤ
kept z = to_z w128 (of_z w128 z)

pub kept_is : (z : ℤ) → unsigned_abs z ≤ 2 ^ 126 → kept z ≡ z
kept_is z h = to_z-of_z w128 z (fits128 z h)

pub product_small : (a x : ℤ) → unsigned_abs a ≤ 2 ^ 63 → unsigned_abs x ≤ 2 ^ 62 → unsigned_abs (a *ℤ x) ≤ 2 ^ 125
product_small a x ha hx = let p : unsigned_abs a * unsigned_abs x ≤ 2 ^ 63 * 2 ^ 62 = mul-le-mul ha hx in let e = unsigned_abs-mul a x in omega (arith, e)

pub product_kept : (a x : ℤ) → FitsSigned w64 x → unsigned_abs a ≤ 2 ^ 63 → unsigned_abs x ≤ 2 ^ 62 → kept (kept a *ℤ wide x) ≡ a *ℤ x
product_kept a x f ha hx =
    let s = product_small a x ha hx in
    ap (λ t. kept (t *ℤ wide x)) (kept_is a (omega arith)) ∙ ap (λ t. kept (a *ℤ t)) (wide_is x f) ∙ kept_is (a *ℤ x) (omega arith)

pub sum_small : (z w : ℤ) → unsigned_abs z ≤ 2 ^ 125 → unsigned_abs w ≤ 2 ^ 125 → unsigned_abs (z +ℤ w) ≤ 2 ^ 126
sum_small z w hz hw = omega (arith, ints)

-- a test of equality in registers
pub eq_kept : (z w : ℤ) → unsigned_abs z ≤ 2 ^ 126 → unsigned_abs w ≤ 2 ^ 126 → nat_eq (of_z w128 z) (of_z w128 w) ≡ int_eq z w
eq_kept z w f g =
    same_from_decides {P = z ≡ w} (nat_eq (of_z w128 z) (of_z w128 w)) (int_eq z w) (
      (λ h. sym (kept_is z f) ∙ ap (to_z w128) ((Decides-eqb (of_z w128 z) (of_z w128 w)).0 h) ∙ kept_is w g),
      (λ e. (Decides-eqb (of_z w128 z) (of_z w128 w)).1 (ap (of_z w128) e)),
    )
    (Decides-int_eq z w)

abbrev pub kept64 : ℤ → ℤ
kept64 z = to_z w64 (of_z w64 z)

pub value_kept : (a b x y : ℤ) → SFits w128 a → SFits w128 b → SFits w64 x → SFits w64 y → kept a *ℤ kept64 x +ℤ kept b *ℤ kept64 y ≡ a *ℤ x +ℤ b *ℤ y
value_kept a b x y fa fb fx fy =
    ap (λ t. t *ℤ kept64 x +ℤ kept b *ℤ kept64 y) (to_z-of_z w128 a fa) ∙ ap (λ t. a *ℤ t +ℤ kept b *ℤ kept64 y) (to_z-of_z w64 x fx)
    ∙ ap (λ t. a *ℤ x +ℤ t *ℤ kept64 y) (to_z-of_z w128 b fb) ∙ ap (λ t. a *ℤ x +ℤ b *ℤ t) (to_z-of_z w64 y fy)

divisor_kept : (p q r d : ℤ) → SFits w128 p → SFits w128 q → SFits w128 r → SFits w128 d → d ≡ divisor (kept p) (kept q) (kept r) → kept d ≡ divisor p q r
divisor_kept p q r d fp fq fr fd e =
    to_z-of_z w128 d fd ∙ e ∙ ap (λ t. divisor t (kept q) (kept r)) (to_z-of_z w128 p fp) ∙ ap (λ t. divisor p t (kept r)) (to_z-of_z w128 q fq) ∙ ap (divisor p q) (to_z-of_z w128 r fr)

pub some_divisor : (p q r d : ℤ) → SFits w128 p → SFits w128 q → SFits w128 r → SFits w128 d → d ≡ divisor (kept p) (kept q) (kept r)
    → ((p ≡ pos 0) × (q ≡ pos 0) × (r ≡ pos 0) → ⊥) → kept d ≡ pos 0 → ⊥
some_divisor p q r d fp fq fr fd e ne z = ne (divisor-zero p q r (sym (divisor_kept p q r d fp fq fr fd e) ∙ z))

-- a quotient by the divisor
pub quotient_is : (z p q r d result : ℤ) → SFits w128 z → SFits w128 p → SFits w128 q → SFits w128 r → SFits w128 d → SFits w128 result
    → d ≡ divisor (kept p) (kept q) (kept r) → result ≡ int_div (kept z) (kept d) → kept result ≡ int_div z (divisor p q r)
quotient_is z p q r d result fz fp fq fr fd fres e h =
    to_z-of_z w128 result fres ∙ h ∙ ap (λ t. int_div t (kept d)) (to_z-of_z w128 z fz) ∙ ap (int_div z) (divisor_kept p q r d fp fq fr fd e)

pub minus_is : (v y result : ℤ) → SFits w64 v → SFits w64 y → SFits w128 result → result ≡ kept64 v -ℤ kept64 y → kept result ≡ v -ℤ y
minus_is v y result fv fy fr e = to_z-of_z w128 result fr ∙ e ∙ ap (λ t. t -ℤ kept64 y) (to_z-of_z w64 v fv) ∙ ap (λ t. v -ℤ t) (to_z-of_z w64 y fy)

-- products of small numbers, in registers
pub small_product : (a b : ℤ) → unsigned_abs a ≤ 2 ^ 63 → unsigned_abs b ≤ 2 ^ 31 → unsigned_abs (a *ℤ b) ≤ 2 ^ 94
small_product a b ha hb = let p : unsigned_abs a * unsigned_abs b ≤ 2 ^ 63 * 2 ^ 31 = mul-le-mul ha hb in let e = unsigned_abs-mul a b in omega (arith, e)

pub tiny_product : (a b : ℤ) → unsigned_abs a ≤ 2 ^ 31 → unsigned_abs b ≤ 2 ^ 31 → unsigned_abs (a *ℤ b) ≤ 2 ^ 62
tiny_product a b ha hb = let p : unsigned_abs a * unsigned_abs b ≤ 2 ^ 31 * 2 ^ 31 = mul-le-mul ha hb in let e = unsigned_abs-mul a b in omega (arith, e)

pub factors_kept : (a b : ℤ) → SFits w128 a → SFits w128 b → kept a *ℤ kept b ≡ a *ℤ b
factors_kept a b fa fb = ap (λ t. t *ℤ kept b) (to_z-of_z w128 a fa) ∙ ap (λ t. a *ℤ t) (to_z-of_z w128 b fb)

pub wide_factors : (a x : ℤ) → SFits w128 a → FitsSigned w64 x → kept a *ℤ wide x ≡ a *ℤ x
wide_factors a x fa fx = ap (λ t. t *ℤ wide x) (to_z-of_z w128 a fa) ∙ ap (λ t. a *ℤ t) (wide_is x fx)

pub tiny_kept : (a b : ℤ) → SFits w128 a → SFits w128 b → unsigned_abs a ≤ 2 ^ 31 → unsigned_abs b ≤ 2 ^ 31 → kept (kept a *ℤ kept b) ≡ a *ℤ b
tiny_kept a b fa fb ha hb = let s = tiny_product a b ha hb in ap kept (factors_kept a b fa fb) ∙ kept_is (a *ℤ b) (omega arith)

pub small_kept : (a x : ℤ) → SFits w128 a → FitsSigned w64 x → unsigned_abs a ≤ 2 ^ 63 → unsigned_abs x ≤ 2 ^ 30 → kept (kept a *ℤ wide x) ≡ a *ℤ x
small_kept a x fa fx ha hx = let s = small_product a x ha (omega arith) in ap kept (wide_factors a x fa fx) ∙ kept_is (a *ℤ x) (omega arith)

pub space_product : (a x : ℤ) → unsigned_abs a ≤ 2 ^ 63 → unsigned_abs x ≤ 2 ^ 30 → unsigned_abs (a *ℤ x) ≤ 2 ^ 93
space_product a b ha hb = let p : unsigned_abs a * unsigned_abs b ≤ 2 ^ 63 * 2 ^ 30 = mul-le-mul ha hb in let e = unsigned_abs-mul a b in omega (arith, e)

pub difference_small : (z w : ℤ) → unsigned_abs z ≤ 2 ^ 62 → unsigned_abs w ≤ 2 ^ 62 → unsigned_abs (z -ℤ w) ≤ 2 ^ 63
difference_small z w hz hw = omega (arith, ints)

pub two_small : (z w : ℤ) → unsigned_abs z ≤ 2 ^ 93 → unsigned_abs w ≤ 2 ^ 93 → unsigned_abs (z +ℤ w) ≤ 2 ^ 94
two_small z w hz hw = omega (arith, ints)

pub three_small : (z w : ℤ) → unsigned_abs z ≤ 2 ^ 94 → unsigned_abs w ≤ 2 ^ 93 → unsigned_abs (z +ℤ w) ≤ 2 ^ 95
three_small z w hz hw = omega (arith, ints)

pub space_kept : (a b c x y z : ℤ) → SFits w128 a → SFits w128 b → SFits w128 c → SFits w64 x → SFits w64 y → SFits w64 z
    → kept a *ℤ kept64 x +ℤ kept b *ℤ kept64 y +ℤ kept c *ℤ kept64 z ≡ a *ℤ x +ℤ b *ℤ y +ℤ c *ℤ z
space_kept a b c x y z fa fb fc fx fy fz =
    ap (λ t. t +ℤ kept c *ℤ kept64 z) (value_kept a b x y fa fb fx fy) ∙ ap (λ t. a *ℤ x +ℤ b *ℤ y +ℤ t *ℤ kept64 z) (to_z-of_z w128 c fc)
    ∙ ap (λ t. a *ℤ x +ℤ b *ℤ y +ℤ c *ℤ t) (to_z-of_z w64 z fz)

divisor_same : (k : ℤ × ℤ × ℤ) → SFits w128 k.0 → SFits w128 k.1 → SFits w128 k.2 → divisor (kept k.0) (kept k.1) (kept k.2) ≡ divisor k.0 k.1 k.2
divisor_same k f0 f1 f2 = ap (λ t. divisor t (kept k.1) (kept k.2)) (to_z-of_z w128 k.0 f0) ∙ ap (λ t. divisor k.0 t (kept k.2)) (to_z-of_z w128 k.1 f1) ∙ ap (divisor k.0 k.1) (to_z-of_z w128 k.2 f2)

pub lowest_kept : (k r : ℤ × ℤ × ℤ) → SFits w128 k.0 → SFits w128 k.1 → SFits w128 k.2
    → r.0 ≡ int_div (kept k.0) (divisor (kept k.0) (kept k.1) (kept k.2)) → r.1 ≡ int_div (kept k.1) (divisor (kept k.0) (kept k.1) (kept k.2)) → r.2 ≡ int_div (kept k.2) (divisor (kept k.0) (kept k.1) (kept k.2))
    → r ≡ in_lowest k
lowest_kept k r f0 f1 f2 e0 e1 e2 =
    let d = divisor_same k f0 f1 f2 in
    let kd = divisor (kept k.0) (kept k.1) (kept k.2) in
    let a : r.0 ≡ int_div k.0 (divisor k.0 k.1 k.2) = e0 ∙ ap (λ t. int_div t kd) (to_z-of_z w128 k.0 f0) ∙ ap (int_div k.0) d in
    let b : r.1 ≡ int_div k.1 (divisor k.0 k.1 k.2) = e1 ∙ ap (λ t. int_div t kd) (to_z-of_z w128 k.1 f1) ∙ ap (int_div k.1) d in
    let c : r.2 ≡ int_div k.2 (divisor k.0 k.1 k.2) = e2 ∙ ap (λ t. int_div t kd) (to_z-of_z w128 k.2 f2) ∙ ap (int_div k.2) d in
    ap (λ t. (t, r.1, r.2)) a ∙ ap (λ t. ((in_lowest k).0, t, r.2)) b ∙ ap (λ t. ((in_lowest k).0, (in_lowest k).1, t)) c
