-- Exact differences of numbers of 64 bits, from differences that wrap round and the side on which one of the two is below the other.
use Rattle.std.proofs.Common.{◌≡◌, ℕ, nat_eq, ℤ, pos, negsuc, ◌-ℤ◌, ◌<ℤ◌, ◌≤ℤ◌, ◌≤◌, Bool, true, false, cond, ◌&&◌, ◌-◌, ◌%◌, ◌^◌, ◌<◌, List, [], ◌∷◌, length, get_or, take, drop, zip, refl, sym, ap, ap₂, ◌∙◌, arith, All, SFits, w64, to_z, of_z}
use Rattle.std.proofs.lemmas.Int.{ints, of_z-to_z, wrapping_sub_is}
use Rattle.std.proofs.lemmas.Bool.{ltb-true, eq-eqb}
use Rattle.std.proofs.lemmas.List.{take_all}
use Rattle.std.proofs.lemmas.List.Folds.{list_all-map}
use Rattle.std.proofs.lemmas.Float.{T_from_true}
use Rattle.std.specs.Bool.{Decides}
use Rattle.std.proofs.lemmas.Bool.Decides.{same_from_decides, Decides-eqb, Decides-int_eq, Decides-and, Decides-like}
use Rattle.std.specs.Int.{int_wrap, int_wrapping_sub}
use Rattle.std.specs.List.{list_all}
use Rattle.std.specs.Ordering.{int_eq}
use Rattle.std.specs.Prelude.{int_lt, int_le}
use lib.Signed.{lt_z, le_z, lt_z_yes}
use mir.Val.{bits}
use Rattle.dk_lanes.specs.Shift.{are_above_by, wrap_to, shift_of, differences, common_difference}
use Rattle.dk_lanes.specs.declared.offsets.Shift.TheVariants.{Unequal, Const}
use Rattle.dk_lanes.proofs.LaneLemmas.{IsInRange, in_range, all_flipped, and_swap}

-- numbers on one side of 0, and not too far from it, are equal where they wrap round to one number
wrap_apart : (d e : ℤ) → negsuc (2 ^ 64) <ℤ d → d <ℤ pos (2 ^ 64) → negsuc (2 ^ 64) <ℤ e → e <ℤ pos (2 ^ 64) → lt_z d (pos 0) ≡ lt_z e (pos 0) → int_wrap w64 d ≡ int_wrap w64 e → d ≡ e
unfolding int_wrap
wrap_apart (pos m) (pos n) p q r s side same =
    let a : m % 2 ^ 64 < 2 ^ bits w64 = omega arith in
    let b : n % 2 ^ 64 < 2 ^ bits w64 = omega arith in
    let e : m % 2 ^ 64 ≡ n % 2 ^ 64 = sym (of_z-to_z w64 (m % 2 ^ 64) a) ∙ ap (of_z w64) same ∙ of_z-to_z w64 (n % 2 ^ 64) b in
    let k : m < 2 ^ 64 = omega (arith, ints) in
    let l : n < 2 ^ 64 = omega (arith, ints) in
    ap pos (omega arith)
wrap_apart (negsuc m) (negsuc n) p q r s side same =
    let a : 2 ^ 64 - 1 - m % 2 ^ 64 < 2 ^ bits w64 = omega arith in
    let b : 2 ^ 64 - 1 - n % 2 ^ 64 < 2 ^ bits w64 = omega arith in
    let e : 2 ^ 64 - 1 - m % 2 ^ 64 ≡ 2 ^ 64 - 1 - n % 2 ^ 64 = sym (of_z-to_z w64 (2 ^ 64 - 1 - m % 2 ^ 64) a) ∙ ap (of_z w64) same ∙ of_z-to_z w64 (2 ^ 64 - 1 - n % 2 ^ 64) b in
    let k : m < 2 ^ 64 = omega (arith, ints) in
    let l : n < 2 ^ 64 = omega (arith, ints) in
    ap negsuc (omega arith)
wrap_apart (pos m) (negsuc n) p q r s side same = absurd (omega (arith, ltb-true m 0 side))
wrap_apart (negsuc m) (pos n) p q r s side same = absurd (omega (arith, ltb-true n 0 (sym side)))

not_too_low : (a b : ℤ) → SFits w64 a → SFits w64 b → negsuc (2 ^ 64) <ℤ (b -ℤ a)
not_too_low a b f g = omega (arith, ints)

not_too_high : (a b : ℤ) → SFits w64 a → SFits w64 b → (b -ℤ a) <ℤ pos (2 ^ 64)
not_too_high a b f g = omega (arith, ints)

-- the differences of x, y and of a, b are equal where they wrap round to one number and are both below 0, or none is
same_difference : (x y a b : ℤ) → SFits w64 x → SFits w64 y → SFits w64 a → SFits w64 b → lt_z (b -ℤ a) (pos 0) ≡ lt_z (y -ℤ x) (pos 0)
    → int_wrapping_sub w64 b a ≡ int_wrapping_sub w64 y x → (y -ℤ x) ≡ (b -ℤ a)
same_difference x y a b f g h i side same =
    sym (wrap_apart (b -ℤ a) (y -ℤ x) (not_too_low a b h i) (not_too_high a b h i) (not_too_low x y f g) (not_too_high x y f g) side
    (sym (wrapping_sub_is w64 b a i h) ∙ same ∙ wrapping_sub_is w64 y x g f))

back_same : (x y a b : ℤ) → SFits w64 x → SFits w64 y → SFits w64 a → SFits w64 b → (y -ℤ x) ≡ (b -ℤ a) → int_wrapping_sub w64 b a ≡ int_wrapping_sub w64 y x
back_same x y a b f g h i e = wrapping_sub_is w64 b a i h ∙ ap (int_wrap w64) (sym e) ∙ sym (wrapping_sub_is w64 y x g f)

below_true : (a b : ℤ) → a <ℤ b → lt_z a b ≡ true
below_true a b h = grind (arith, ints)

below_false : (a b : ℤ) → b ≤ℤ a → lt_z a b ≡ false
below_false a b h = grind (arith, ints)

is_negative : (a b : ℤ) → b <ℤ a → lt_z (b -ℤ a) (pos 0) ≡ true
is_negative a b h = below_true (b -ℤ a) (pos 0) (omega (arith, ints))

is_not_negative : (a b : ℤ) → a ≤ℤ b → lt_z (b -ℤ a) (pos 0) ≡ false
is_not_negative a b h = below_false (b -ℤ a) (pos 0) (omega (arith, ints))

Decides-int_lt : (a b : ℤ) → Decides (int_lt a b) (a <ℤ b)
Decides-int_lt a b = (λ e. lt_z_yes (T_from_true (lt_z a b) e), below_true a b)

Decides-int_le : (a b : ℤ) → Decides (int_le a b) (a ≤ℤ b)
Decides-int_le a b = (λ e. grind (arith, ints), λ h. grind (arith, ints))

-- ---- two numbers, and two others with the first below or not
pub below_exact : (x y : ℤ) → SFits w64 x → SFits w64 y → y <ℤ x → (a b : ℤ) → SFits w64 a → SFits w64 b
    → (int_eq (int_wrapping_sub w64 b a) (int_wrapping_sub w64 y x) && int_lt b a) ≡ int_eq (y -ℤ x) (b -ℤ a)
below_exact x y f g low a b h i =
    let wraps = int_eq (int_wrapping_sub w64 b a) (int_wrapping_sub w64 y x) in
    same_from_decides (wraps && int_lt b a) (int_eq (y -ℤ x) (b -ℤ a))
    (Decides-like (wraps && int_lt b a)
    (λ (w : (int_wrapping_sub w64 b a ≡ int_wrapping_sub w64 y x) × (b <ℤ a)). same_difference x y a b f g h i (is_negative a b w.1 ∙ sym (is_negative x y low)) w.0)
    (λ e. (back_same x y a b f g h i e, omega (arith, ints)))
    (Decides-and wraps (int_lt b a) (Decides-int_eq (int_wrapping_sub w64 b a) (int_wrapping_sub w64 y x)) (Decides-int_lt b a)))
    (Decides-int_eq (y -ℤ x) (b -ℤ a))

pub above_exact : (x y : ℤ) → SFits w64 x → SFits w64 y → x ≤ℤ y → (a b : ℤ) → SFits w64 a → SFits w64 b
    → (int_eq (int_wrapping_sub w64 b a) (int_wrapping_sub w64 y x) && int_le a b) ≡ int_eq (y -ℤ x) (b -ℤ a)
above_exact x y f g high a b h i =
    let wraps = int_eq (int_wrapping_sub w64 b a) (int_wrapping_sub w64 y x) in
    same_from_decides (wraps && int_le a b) (int_eq (y -ℤ x) (b -ℤ a))
    (Decides-like (wraps && int_le a b)
    (λ (w : (int_wrapping_sub w64 b a ≡ int_wrapping_sub w64 y x) × (a ≤ℤ b)). same_difference x y a b f g h i (is_not_negative a b w.1 ∙ sym (is_not_negative x y high)) w.0)
    (λ e. (back_same x y a b f g h i e, omega (arith, ints)))
    (Decides-and wraps (int_le a b) (Decides-int_eq (int_wrapping_sub w64 b a) (int_wrapping_sub w64 y x)) (Decides-int_le a b)))
    (Decides-int_eq (y -ℤ x) (b -ℤ a))

-- differences that wrap round to two numbers are not equal
pub apart : (x y : ℤ) → SFits w64 x → SFits w64 y → (a b : ℤ) → SFits w64 a → SFits w64 b → (m n : ℕ) → m < 2 ^ 64 → n < 2 ^ 64
    → int_wrapping_sub w64 b a ≡ to_z w64 m → int_wrapping_sub w64 y x ≡ to_z w64 n → ¬ (m ≡ n) → nat_eq m n ≡ int_eq (y -ℤ x) (b -ℤ a)
apart x y f g a b h i m n below below₂ left right differ =
    same_from_decides (nat_eq m n) (int_eq (y -ℤ x) (b -ℤ a)) (Decides-eqb m n)
    (Decides-like (int_eq (y -ℤ x) (b -ℤ a))
    (λ (e : (y -ℤ x) ≡ (b -ℤ a)). sym (of_z-to_z w64 m below) ∙ ap (of_z w64) (sym left ∙ back_same x y a b f g h i e ∙ right) ∙ of_z-to_z w64 n below₂)
    (λ e. absurd (differ e))
    (Decides-int_eq (y -ℤ x) (b -ℤ a)))

-- two tests of each pair that come to a third
both_tests : (p q r : ℤ → ℤ → Bool) → ((a b : ℤ) → SFits w64 a → SFits w64 b → (p a b && q a b) ≡ r a b) → (s t : List ℤ) → IsInRange s → IsInRange t
    → (list_all (λ (w : ℤ × ℤ). p w.0 w.1) (zip s t) && list_all (λ (w : ℤ × ℤ). q w.0 w.1) (zip s t)) ≡ list_all (λ (w : ℤ × ℤ). r w.0 w.1) (zip s t)
both_tests p q r same [] t f g = refl
both_tests p q r same (a ∷ s) [] f g = refl
both_tests p q r same (a ∷ s) (b ∷ t) f g =
    and_swap (p a b) (list_all (λ (w : ℤ × ℤ). p w.0 w.1) (zip s t)) (q a b) (list_all (λ (w : ℤ × ℤ). q w.0 w.1) (zip s t))
    ∙ ap₂ (λ u v. u && v) (same a b f.0 g.0) (both_tests p q r same s t f.1 g.1)

pub below_block : (x y : ℤ) → SFits w64 x → SFits w64 y → y <ℤ x → (s t : List ℤ) → All (SFits w64) s → All (SFits w64) t
    → (wrap_to (int_wrapping_sub w64 y x) s t && list_all (λ (w : ℤ × ℤ). int_lt w.0 w.1) (zip t s)) ≡ are_above_by (y -ℤ x) s t
below_block x y f g low s t h i =
    ap (λ b. wrap_to (int_wrapping_sub w64 y x) s t && b) (all_flipped int_lt s t)
    ∙ both_tests (λ a b. int_eq (int_wrapping_sub w64 b a) (int_wrapping_sub w64 y x)) (λ a b. int_lt b a) (λ a b. int_eq (y -ℤ x) (b -ℤ a)) (below_exact x y f g low) s t (in_range s h) (in_range t i)

pub above_block : (x y : ℤ) → SFits w64 x → SFits w64 y → x ≤ℤ y → (s t : List ℤ) → All (SFits w64) s → All (SFits w64) t
    → (wrap_to (int_wrapping_sub w64 y x) s t && list_all (λ (w : ℤ × ℤ). int_le w.0 w.1) (zip s t)) ≡ are_above_by (y -ℤ x) s t
above_block x y f g high s t h i =
    both_tests (λ a b. int_eq (int_wrapping_sub w64 b a) (int_wrapping_sub w64 y x)) int_le (λ a b. int_eq (y -ℤ x) (b -ℤ a)) (above_exact x y f g high) s t (in_range s h) (in_range t i)

-- the first difference is the one that the others have to be
pub shift_is : (s t : List ℤ) → length s ≡ length t → 1 ≤ length s
    → shift_of s t ≡ cond (are_above_by (get_or t 0 (pos 0) -ℤ get_or s 0 (pos 0)) s t) (Const (get_or t 0 (pos 0) -ℤ get_or s 0 (pos 0))) Unequal
shift_is [] t long some = absurd (omega arith)
shift_is (x ∷ s) [] long some = absurd (omega arith)
shift_is (x ∷ s) (y ∷ t) long some =
    let d = y -ℤ x in
    let itself : int_eq d d ≡ true = (Decides-int_eq d d).1 refl in
    ap (λ b. cond b (common_difference (differences (x ∷ s) (y ∷ t))) Unequal) (eq-eqb (length (x ∷ s)) (length (y ∷ t)) long)
    ∙ ap (λ b. cond b (Const d) Unequal) (list_all-map (int_eq d) (λ (p : ℤ × ℤ). p.1 -ℤ p.0) (zip s t) ∙ ap (λ b. b && are_above_by d s t) (sym itself))

-- the first number of t is above its partner by the difference of the two
pub without_first : (s t : List ℤ) → length s ≡ length t → 1 ≤ length s
    → (let d = get_or t 0 (pos 0) -ℤ get_or s 0 (pos 0) in are_above_by d (take (length s - 1) (drop 1 s)) (take (length t - 1) (drop 1 t)) ≡ are_above_by d s t)
without_first [] t long some = absurd (omega arith)
without_first (x ∷ s) [] long some = absurd (omega arith)
without_first (x ∷ s) (y ∷ t) long some =
    let d = y -ℤ x in
    let itself : int_eq d d ≡ true = (Decides-int_eq d d).1 refl in
    ap₂ (are_above_by d) (take_all (length (x ∷ s) - 1) s (omega arith)) (take_all (length (y ∷ t) - 1) t (omega arith)) ∙ ap (λ b. b && are_above_by d s t) (sym itself)

pub below_yes : (x y : ℤ) → lt_z y x ≡ true → y <ℤ x
below_yes x y e = lt_z_yes (T_from_true (lt_z y x) e)

pub below_no : (x y : ℤ) → lt_z y x ≡ false → x ≤ℤ y
below_no x y e = grind (arith, ints)
