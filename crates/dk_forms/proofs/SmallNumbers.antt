-- Numbers in registers of 64 bits that lose nothing.
use Rattle.std.specs.Prelude.{◌≡◌, ℕ, ℤ, nat_eq, nat_lt, true, FitsSigned, ◌<◌, ◌≤◌, ◌^◌, ◌*◌, pos, negsuc, ◌+ℤ◌, ◌-ℤ◌, ◌*ℤ◌, neg_ℤ, unsigned_abs}
use Rattle.std.specs.Int.{w64, w128}
use Rattle.std.specs.Int.Bits.{bit_or}
use Rattle.std.specs.Ordering.{int_eq}
use Rattle.std.proofs.Common.{sym, ap, ◌∙◌, subst, arith, SFits, to_z, of_z}
use Rattle.std.proofs.lemmas.Int.{ints, to_z-of_z, unsigned_abs-mul}
use Rattle.std.proofs.lemmas.Nat.{le_or_l, le_or_r}
use Rattle.std.proofs.lemmas.Bool.{ltb-true}
use Rattle.std.proofs.lemmas.Bool.Decides.{same_from_decides, Decides-eqb, Decides-int_eq}
use Rattle.std.proofs.Math.Nat.{mul-le-mul}
use Rattle.dk_arith.proofs.Registers.{eq_kept, kept, kept64, kept_is}

pub fits64 : (z : ℤ) → unsigned_abs z < 2 ^ 63 → FitsSigned w64 z
fits64 (pos n) h = record { sfits = omega (arith, h) }
fits64 (negsuc n) h = record { sfits = omega (arith, h) }

pub kept64_is : (z : ℤ) → unsigned_abs z < 2 ^ 63 → kept64 z ≡ z
kept64_is z h = to_z-of_z w64 z (fits64 z h)

pub small_product : (a x : ℤ) → unsigned_abs a ≤ 2 ^ 31 → unsigned_abs x ≤ 2 ^ 30 → unsigned_abs (a *ℤ x) ≤ 2 ^ 61
small_product a x ha hx = let p : unsigned_abs a * unsigned_abs x ≤ 2 ^ 31 * 2 ^ 30 = mul-le-mul ha hx in let e = unsigned_abs-mul a x in omega (arith, e)

pub factors64 : (a x : ℤ) → SFits w64 a → SFits w64 x → kept64 a *ℤ kept64 x ≡ a *ℤ x
factors64 a x fa fx = ap (λ t. t *ℤ kept64 x) (to_z-of_z w64 a fa) ∙ ap (λ t. a *ℤ t) (to_z-of_z w64 x fx)

-- a sum of two
pub sum_small : (z w : ℤ) → unsigned_abs z ≤ 2 ^ 61 → unsigned_abs w ≤ 2 ^ 61 → unsigned_abs (z +ℤ w) ≤ 2 ^ 62
sum_small z w hz hw = omega (arith, ints)

pub sum_kept : (z w : ℤ) → unsigned_abs z ≤ 2 ^ 61 → unsigned_abs w ≤ 2 ^ 61 → kept64 z +ℤ kept64 w ≡ z +ℤ w
sum_kept z w hz hw = ap (λ t. t +ℤ kept64 w) (kept64_is z (omega arith)) ∙ ap (λ t. z +ℤ t) (kept64_is w (omega arith))

-- of three
pub three_small : (z w v : ℤ) → unsigned_abs z ≤ 2 ^ 61 → unsigned_abs w ≤ 2 ^ 61 → unsigned_abs v ≤ 2 ^ 61 → unsigned_abs (z +ℤ w +ℤ v) < 2 ^ 63
three_small z w v hz hw hv = let s = sum_small z w hz hw in omega (arith, ints)

pub three_kept : (z w v : ℤ) → unsigned_abs z ≤ 2 ^ 61 → unsigned_abs w ≤ 2 ^ 61 → unsigned_abs v ≤ 2 ^ 61 → kept64 (kept64 z +ℤ kept64 w) +ℤ kept64 v ≡ z +ℤ w +ℤ v
three_kept z w v hz hw hv =
    let s = sum_small z w hz hw in
    ap (λ t. t +ℤ kept64 v) (ap kept64 (sum_kept z w hz hw) ∙ kept64_is (z +ℤ w) (omega arith)) ∙ ap (λ t. z +ℤ w +ℤ t) (kept64_is v (omega arith))

-- a test of equality in registers
pub eq_kept64 : (z w : ℤ) → unsigned_abs z < 2 ^ 63 → unsigned_abs w < 2 ^ 63 → nat_eq (of_z w64 z) (of_z w64 w) ≡ int_eq z w
eq_kept64 z w f g =
    same_from_decides {P = z ≡ w} (nat_eq (of_z w64 z) (of_z w64 w)) (int_eq z w) (
      (λ h. sym (kept64_is z f) ∙ ap (to_z w64) ((Decides-eqb (of_z w64 z) (of_z w64 w)).0 h) ∙ kept64_is w g),
      (λ e. (Decides-eqb (of_z w64 z) (of_z w64 w)).1 (ap (of_z w64) e)),
    )
    (Decides-int_eq z w)

-- the same of what stands in registers for them
pub eq_of : (u v z w : ℤ) → u ≡ z → v ≡ w → unsigned_abs z < 2 ^ 63 → unsigned_abs w < 2 ^ 63 → nat_eq (of_z w64 u) (of_z w64 v) ≡ int_eq z w
eq_of u v z w e f hz hw = ap (λ t. nat_eq (of_z w64 t) (of_z w64 v)) e ∙ ap (λ t. nat_eq (of_z w64 z) (of_z w64 t)) f ∙ eq_kept64 z w hz hw

-- the opposite of a sum, in registers
pub neg_kept : (u z : ℤ) → u ≡ z → unsigned_abs z < 2 ^ 63 → pos 0 -ℤ kept64 u ≡ neg_ℤ z
neg_kept u z e h = ap (λ t. pos 0 -ℤ kept64 t) e ∙ ap (λ t. pos 0 -ℤ t) (kept64_is z h) ∙ omega (arith, ints)

neg_small : (z : ℤ) → unsigned_abs z < 2 ^ 63 → unsigned_abs (neg_ℤ z) < 2 ^ 63
neg_small z h = omega (arith, ints)

pub neg_fits : (u z : ℤ) → u ≡ z → unsigned_abs z < 2 ^ 63 → FitsSigned w64 (pos 0 -ℤ kept64 u)
neg_fits u z e h = subst (FitsSigned w64) (sym (neg_kept u z e h)) (fits64 (neg_ℤ z) (neg_small z h))

-- a number against the opposite of another
opposites : (s d : ℤ) → int_eq (neg_ℤ s) d ≡ int_eq s (neg_ℤ d)
opposites s d =
    same_from_decides {P = neg_ℤ s ≡ d} (int_eq (neg_ℤ s) d) (int_eq s (neg_ℤ d)) (Decides-int_eq (neg_ℤ s) d) (
      (λ h. let e = (Decides-int_eq s (neg_ℤ d)).0 h in omega (arith, ints, e)),
      (λ e. (Decides-int_eq s (neg_ℤ d)).1 (omega (arith, ints, e))),
    )

-- the test that a sum's opposite, widened, is a number
pub opposite_test : (u z d : ℤ) → u ≡ z → unsigned_abs z < 2 ^ 63 → unsigned_abs d ≤ 2 ^ 126 → nat_eq (of_z w128 (kept64 (pos 0 -ℤ kept64 u))) (of_z w128 d) ≡ int_eq z (neg_ℤ d)
opposite_test u z d e h hd =
    let small = neg_small z h in
    ap (λ t. nat_eq (of_z w128 t) (of_z w128 d)) (ap kept64 (neg_kept u z e h) ∙ kept64_is (neg_ℤ z) small) ∙ eq_kept (neg_ℤ z) d (omega arith) hd ∙ opposites z d

-- a wide number that is small, cut to 64 bits
pub narrow_is : (z : ℤ) → unsigned_abs z ≤ 2 ^ 62 → kept64 (kept z) ≡ z
narrow_is z h = ap kept64 (kept_is z (omega arith)) ∙ kept64_is z (omega arith)

-- a number is below a bound where the bits of it and of another together are
pub below_left : (x y k : ℕ) → nat_lt (bit_or x y) k ≡ true → x < k
below_left x y k h = let l = le_or_l x y in let t = ltb-true (bit_or x y) k h in omega (arith, l, t)

pub below_right : (x y k : ℕ) → nat_lt (bit_or x y) k ≡ true → y < k
below_right x y k h = let l = le_or_r x y in let t = ltb-true (bit_or x y) k h in omega (arith, l, t)
