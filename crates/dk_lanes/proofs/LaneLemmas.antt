-- From what the operations on vectors compute to tests of the numbers in the lanes.
use Rattle.std.proofs.Math.Bool.{and_assoc, or_assoc}
use Rattle.std.proofs.Common.{◌≡◌, ℕ, ℤ, suc, zero, Bool, true, false, not, cond, ◌&&◌, ◌||◌, ◌+◌, ◌%◌, eqb, List, [], ◌∷◌, ◌++◌, map, length, replicate, zip, refl, sym, ap, ap₂, ◌∙◌, subst, get_or, pos, All, ◌<◌, ◌^◌, ◌-◌, arith, SFits, w64, to_z, of_z, bit_and, bit_or}
use Rattle.std.proofs.lemmas.Int.{to_z-of_z, of_z-to_z}
use Rattle.std.specs.Int.{int_wrapping_sub}
use Rattle.std.proofs.lemmas.Simd.{length-zip2, Each1-from_get_or, Each1-get_or, Each1-replicate}
use Rattle.std.proofs.lemmas.List.{length-map}
use Rattle.std.proofs.lemmas.List.Folds.{list_all-map, list_all-append, list_any-append}
use Rattle.std.proofs.lemmas.Bool.Decides.{same_from_decides, Decides-eqb, Decides-int_eq, Decides-like}
use Rattle.std.specs.Ordering.{int_eq}
use Rattle.std.specs.List.{list_all, list_any}
use Rattle.std.specs.Prelude.{int_lt, int_le}
use lib.Lanes.{zip2, mask_l, top, Each1}
use lib.Signed.{lt_z, le_z}
use mir.Val.{bits}
use Rattle.dk_lanes.specs.Blocks.{IsInLanes}
use Rattle.dk_lanes.specs.Shift.{wrap_to}

-- a lane of a comparison: all bits where the test holds, and none elsewhere
abbrev pub lane_of : Bool → ℕ
lane_of b = cond b (2 ^ bits w64 - 1) 0

or_lanes : (a b : Bool) → bit_or (lane_of a) (lane_of b) ≡ lane_of (a || b)
or_lanes true true = refl
or_lanes true false = refl
or_lanes false true = refl
or_lanes false false = refl

and_lanes : (a b : Bool) → bit_and (lane_of a) (lane_of b) ≡ lane_of (a && b)
and_lanes true true = refl
and_lanes true false = refl
and_lanes false true = refl
and_lanes false false = refl

-- what a comparison of vectors gives at two lanes
abbrev pub compared : (ℕ → ℕ → Bool) → ℕ → ℕ → ℕ
compared t a b = lane_of (t a b)

pub compared_is : (t : ℕ → ℕ → Bool) (xs ys : List ℕ) → zip2 (compared t) xs ys ≡ map lane_of (zip2 t xs ys)
compared_is t [] ys = refl
compared_is t (x ∷ xs) [] = refl
compared_is t (x ∷ xs) (y ∷ ys) = ap (λ r. lane_of (t x y) ∷ r) (compared_is t xs ys)

zip2-append : {A : Type 0} (t : ℕ → ℕ → A) (xs ys us vs : List ℕ) → length xs ≡ length ys → zip2 t (xs ++ us) (ys ++ vs) ≡ zip2 t xs ys ++ zip2 t us vs
zip2-append t [] [] us vs e = refl
zip2-append t [] (y ∷ ys) us vs e = absurd (omega arith)
zip2-append t (x ∷ xs) [] us vs e = absurd (omega arith)
zip2-append t (x ∷ xs) (y ∷ ys) us vs e = ap (λ r. t x y ∷ r) (zip2-append t xs ys us vs (omega arith))

-- ---- four vectors of two lanes, put together lane by lane: `and` of their lanes, or `or`
module _ (bit : ℕ → ℕ → ℕ) (op : Bool → Bool → Bool) (q : List Bool → Bool)
    (assoc : (a b c : Bool) → op (op a b) c ≡ op a (op b c))
    (on_lanes : (a b : Bool) → bit (lane_of a) (lane_of b) ≡ lane_of (op a b))
    (on_append : (ms ns : List Bool) → q (ms ++ ns) ≡ op (q ms) (q ns))
    (on_zip : (ms ns : List Bool) → length ms ≡ length ns → q (zip2 op ms ns) ≡ op (q ms) (q ns)) where
  zip_lanes : (ms ns : List Bool) → zip2 bit (map lane_of ms) (map lane_of ns) ≡ map lane_of (zip2 op ms ns)
  zip_lanes [] ns = refl
  zip_lanes (m ∷ ms) [] = refl
  zip_lanes (m ∷ ms) (n ∷ ns) = ap₂ (λ a r. a ∷ r) (on_lanes m n) (zip_lanes ms ns)

  abbrev gathered : List ℕ → List ℕ → List ℕ → List ℕ → List ℕ
  gathered a b c d = zip2 bit (zip2 bit (zip2 bit a b) c) d

  abbrev joined : List Bool → List Bool → List Bool → List Bool → List Bool
  joined a b c d = zip2 op (zip2 op (zip2 op a b) c) d

  gathered_is : (a b c d : List Bool) → gathered (map lane_of a) (map lane_of b) (map lane_of c) (map lane_of d) ≡ map lane_of (joined a b c d)
  gathered_is a b c d =
      ap (λ v. zip2 bit (zip2 bit v (map lane_of c)) (map lane_of d)) (zip_lanes a b)
      ∙ ap (λ v. zip2 bit v (map lane_of d)) (zip_lanes (zip2 op a b) c)
      ∙ zip_lanes (zip2 op (zip2 op a b) c) d

  joined_long : (a b c d : List Bool) → length a ≡ 2 → length b ≡ 2 → length c ≡ 2 → length d ≡ 2 → length (joined a b c d) ≡ 2
  joined_long a b c d p q r s =
      let ab : length (zip2 op a b) ≡ 2 = length-zip2 op a b (p ∙ sym q) ∙ p in
      let abc : length (zip2 op (zip2 op a b) c) ≡ 2 = length-zip2 op (zip2 op a b) c (ab ∙ sym r) ∙ ab in
      length-zip2 op (zip2 op (zip2 op a b) c) d (abc ∙ sym s) ∙ abc

  joined_is : (a b c d : List Bool) → length a ≡ 2 → length b ≡ 2 → length c ≡ 2 → length d ≡ 2 → q (joined a b c d) ≡ q (a ++ (b ++ (c ++ d)))
  joined_is a b c d k l m n =
      let ab : length (zip2 op a b) ≡ 2 = length-zip2 op a b (k ∙ sym l) ∙ k in
      let abc : length (zip2 op (zip2 op a b) c) ≡ 2 = length-zip2 op (zip2 op a b) c (ab ∙ sym m) ∙ ab in
      on_zip (zip2 op (zip2 op a b) c) d (abc ∙ sym n)
      ∙ ap (λ x. op x (q d)) (on_zip (zip2 op a b) c (ab ∙ sym m) ∙ ap (λ x. op x (q c)) (on_zip a b (k ∙ sym l)))
      ∙ assoc (op (q a) (q b)) (q c) (q d) ∙ assoc (q a) (q b) (op (q c) (q d))
      ∙ ap (λ x. op (q a) (op (q b) x)) (sym (on_append c d))
      ∙ ap (λ x. op (q a) x) (sym (on_append b (c ++ d)))
      ∙ sym (on_append a (b ++ (c ++ d)))

abbrev pub every : List Bool → Bool
every ms = list_all (λ m. m) ms

abbrev pub some : List Bool → Bool
some ms = list_any (λ m. m) ms

pub and_swap : (a b c d : Bool) → ((a && b) && (c && d)) ≡ ((a && c) && (b && d))
and_swap true true c d = refl
and_swap true false true d = refl
and_swap true false false d = refl
and_swap false b c d = refl

or_swap : (a b c d : Bool) → ((a || b) || (c || d)) ≡ ((a || c) || (b || d))
or_swap false false c d = refl
or_swap false true false d = refl
or_swap false true true d = refl
or_swap true b c d = refl

every_zip : (ms ns : List Bool) → length ms ≡ length ns → every (zip2 (λ a b. a && b) ms ns) ≡ (every ms && every ns)
every_zip [] [] e = refl
every_zip [] (n ∷ ns) e = absurd (omega arith)
every_zip (m ∷ ms) [] e = absurd (omega arith)
every_zip (m ∷ ms) (n ∷ ns) e = ap (λ r. (m && n) && r) (every_zip ms ns (omega arith)) ∙ and_swap m n (every ms) (every ns)

some_zip : (ms ns : List Bool) → length ms ≡ length ns → some (zip2 (λ a b. a || b) ms ns) ≡ (some ms || some ns)
some_zip [] [] e = refl
some_zip [] (n ∷ ns) e = absurd (omega arith)
some_zip (m ∷ ms) [] e = absurd (omega arith)
some_zip (m ∷ ms) (n ∷ ns) e = ap (λ r. (m || n) || r) (some_zip ms ns (omega arith)) ∙ or_swap m n (some ms) (some ns)

-- `all` and `any` of the mask of two lanes
two_every : (ms : List Bool) → length ms ≡ 2 → eqb (mask_l (map (top 63) (map lane_of ms)) % 2 ^ 64) 3 ≡ every ms
two_every [] e = absurd (omega arith)
two_every (a ∷ []) e = absurd (omega arith)
two_every (true ∷ true ∷ []) e = refl
two_every (true ∷ false ∷ []) e = refl
two_every (false ∷ true ∷ []) e = refl
two_every (false ∷ false ∷ []) e = refl
two_every (a ∷ b ∷ c ∷ ms) e = absurd (omega arith)

two_some : (ms : List Bool) → length ms ≡ 2 → not (eqb (mask_l (map (top 63) (map lane_of ms)) % 2 ^ 64) 0) ≡ some ms
two_some [] e = absurd (omega arith)
two_some (a ∷ []) e = absurd (omega arith)
two_some (true ∷ true ∷ []) e = refl
two_some (true ∷ false ∷ []) e = refl
two_some (false ∷ true ∷ []) e = refl
two_some (false ∷ false ∷ []) e = refl
two_some (a ∷ b ∷ c ∷ ms) e = absurd (omega arith)

-- whether each lane is set in the four vectors a, b, c, d, whose lanes are the tests k, l, m, n
pub every_lane : (k l m n : List Bool) → length k ≡ 2 → length l ≡ 2 → length m ≡ 2 → length n ≡ 2 → (a b c d : List ℕ) → a ≡ map lane_of k → b ≡ map lane_of l → c ≡ map lane_of m → d ≡ map lane_of n
    → eqb (mask_l (map (top 63) (zip2 bit_and (zip2 bit_and (zip2 bit_and a b) c) d)) % 2 ^ 64) 3 ≡ every (k ++ (l ++ (m ++ n)))
every_lane k l m n k₂ l₂ m₂ n₂ a b c d p q r s =
    let op : Bool → Bool → Bool = λ x y. x && y in
    let is : zip2 bit_and (zip2 bit_and (zip2 bit_and a b) c) d ≡ map lane_of (zip2 op (zip2 op (zip2 op k l) m) n) =
    ap₂ (λ u v. zip2 bit_and (zip2 bit_and (zip2 bit_and u v) c) d) p q ∙ ap₂ (λ u v. zip2 bit_and (zip2 bit_and (zip2 bit_and (map lane_of k) (map lane_of l)) u) v) r s
    ∙ gathered_is bit_and op every and_assoc and_lanes (list_all-append (λ b. b)) every_zip k l m n in
    ap (λ v. eqb (mask_l (map (top 63) v) % 2 ^ 64) 3) is
    ∙ two_every (zip2 op (zip2 op (zip2 op k l) m) n) (joined_long bit_and op every and_assoc and_lanes (list_all-append (λ b. b)) every_zip k l m n k₂ l₂ m₂ n₂)
    ∙ joined_is bit_and op every and_assoc and_lanes (list_all-append (λ b. b)) every_zip k l m n k₂ l₂ m₂ n₂

pub some_lane : (k l m n : List Bool) → length k ≡ 2 → length l ≡ 2 → length m ≡ 2 → length n ≡ 2 → (a b c d : List ℕ) → a ≡ map lane_of k → b ≡ map lane_of l → c ≡ map lane_of m → d ≡ map lane_of n
    → not (eqb (mask_l (map (top 63) (zip2 bit_or (zip2 bit_or (zip2 bit_or a b) c) d)) % 2 ^ 64) 0) ≡ some (k ++ (l ++ (m ++ n)))
some_lane k l m n k₂ l₂ m₂ n₂ a b c d p q r s =
    let op : Bool → Bool → Bool = λ x y. x || y in
    let is : zip2 bit_or (zip2 bit_or (zip2 bit_or a b) c) d ≡ map lane_of (zip2 op (zip2 op (zip2 op k l) m) n) =
    ap₂ (λ u v. zip2 bit_or (zip2 bit_or (zip2 bit_or u v) c) d) p q ∙ ap₂ (λ u v. zip2 bit_or (zip2 bit_or (zip2 bit_or (map lane_of k) (map lane_of l)) u) v) r s
    ∙ gathered_is bit_or op some or_assoc or_lanes (list_any-append (λ b. b)) some_zip k l m n in
    ap (λ v. not (eqb (mask_l (map (top 63) v) % 2 ^ 64) 0)) is
    ∙ two_some (zip2 op (zip2 op (zip2 op k l) m) n) (joined_long bit_or op some or_assoc or_lanes (list_any-append (λ b. b)) some_zip k l m n k₂ l₂ m₂ n₂)
    ∙ joined_is bit_or op some or_assoc or_lanes (list_any-append (λ b. b)) some_zip k l m n k₂ l₂ m₂ n₂

-- ---- numbers and their bits
abbrev pub IsInRange : List ℤ → Type 0
IsInRange xs = Each1 (SFits w64) xs

pub in_range : (xs : List ℤ) → All (SFits w64) xs → IsInRange xs
in_range xs h = Each1-from_get_or (SFits w64) xs (pos 0) (λ i below. h i (pos 0) below)

abbrev pub bits_of : List ℤ → List ℕ
bits_of xs = map (of_z w64) xs

pub from_bits : (xs : List ℤ) → IsInRange xs → map (to_z w64) (bits_of xs) ≡ xs
from_bits [] f = refl
from_bits (x ∷ xs) f = ap₂ (λ a r. a ∷ r) (to_z-of_z w64 x f.0) (from_bits xs f.1)

bits-append : (xs ys : List ℤ) → bits_of (xs ++ ys) ≡ bits_of xs ++ bits_of ys
bits-append [] ys = refl
bits-append (x ∷ xs) ys = ap (λ r. of_z w64 x ∷ r) (bits-append xs ys)

-- a test of the bits that is a test of the numbers
abbrev pub Agrees : (ℕ → ℕ → Bool) → (ℤ → ℤ → Bool) → Type 0
Agrees t p = (x y : ℤ) → SFits w64 x → SFits w64 y → t (of_z w64 x) (of_z w64 y) ≡ p x y

pub tests_are : (t : ℕ → ℕ → Bool) (p : ℤ → ℤ → Bool) → Agrees t p → (xs ys : List ℤ) → IsInRange xs → IsInRange ys
    → zip2 t (bits_of xs) (bits_of ys) ≡ map (λ (q : ℤ × ℤ). p q.0 q.1) (zip xs ys)
tests_are t p same [] ys f g = refl
tests_are t p same (x ∷ xs) [] f g = refl
tests_are t p same (x ∷ xs) (y ∷ ys) f g = ap₂ (λ a r. a ∷ r) (same x y f.0 g.0) (tests_are t p same xs ys f.1 g.1)

pub eq_agrees : Agrees eqb int_eq
eq_agrees x y f g =
    same_from_decides (eqb (of_z w64 x) (of_z w64 y)) (int_eq x y)
    (Decides-like (eqb (of_z w64 x) (of_z w64 y)) (λ e. sym (to_z-of_z w64 x f) ∙ ap (to_z w64) e ∙ to_z-of_z w64 y g) (ap (of_z w64)) (Decides-eqb (of_z w64 x) (of_z w64 y)))
    (Decides-int_eq x y)

pub lt_agrees : Agrees (λ a b. lt_z (to_z w64 a) (to_z w64 b)) int_lt
lt_agrees x y f g = ap₂ lt_z (to_z-of_z w64 x f) (to_z-of_z w64 y g)

pub le_agrees : Agrees (λ a b. le_z (to_z w64 a) (to_z w64 b)) int_le
le_agrees x y f g = ap₂ le_z (to_z-of_z w64 x f) (to_z-of_z w64 y g)

-- ---- blocks of eight
below_eight : (Q : ℕ → Type 0) → Q 0 → Q 1 → Q 2 → Q 3 → Q 4 → Q 5 → Q 6 → Q 7 → (i : ℕ) → i < 8 → Q i
below_eight Q a b c d e f g h zero lt = a
below_eight Q a b c d e f g h (suc zero) lt = b
below_eight Q a b c d e f g h (suc (suc zero)) lt = c
below_eight Q a b c d e f g h (suc (suc (suc zero))) lt = d
below_eight Q a b c d e f g h (suc (suc (suc (suc zero)))) lt = e
below_eight Q a b c d e f g h (suc (suc (suc (suc (suc zero))))) lt = f
below_eight Q a b c d e f g h (suc (suc (suc (suc (suc (suc zero)))))) lt = g
below_eight Q a b c d e f g h (suc (suc (suc (suc (suc (suc (suc zero))))))) lt = h
below_eight Q a b c d e f g h (suc (suc (suc (suc (suc (suc (suc (suc i)))))))) lt = absurd (omega arith)

-- a list of eight by its places
pub eight_is : (xs : List ℤ) → length xs ≡ 8
    → xs ≡ get_or xs 0 (pos 0) ∷ get_or xs 1 (pos 0) ∷ get_or xs 2 (pos 0) ∷ get_or xs 3 (pos 0) ∷ get_or xs 4 (pos 0) ∷ get_or xs 5 (pos 0) ∷ get_or xs 6 (pos 0) ∷ get_or xs 7 (pos 0) ∷ []
eight_is (a ∷ b ∷ c ∷ d ∷ e ∷ f ∷ g ∷ h ∷ []) long = refl
eight_is (a ∷ b ∷ c ∷ d ∷ e ∷ f ∷ g ∷ h ∷ i ∷ xs) long = absurd (omega arith)
eight_is [] long = absurd (omega arith)
eight_is (a ∷ []) long = absurd (omega arith)
eight_is (a ∷ b ∷ []) long = absurd (omega arith)
eight_is (a ∷ b ∷ c ∷ []) long = absurd (omega arith)
eight_is (a ∷ b ∷ c ∷ d ∷ []) long = absurd (omega arith)
eight_is (a ∷ b ∷ c ∷ d ∷ e ∷ []) long = absurd (omega arith)
eight_is (a ∷ b ∷ c ∷ d ∷ e ∷ f ∷ []) long = absurd (omega arith)
eight_is (a ∷ b ∷ c ∷ d ∷ e ∷ f ∷ g ∷ []) long = absurd (omega arith)

-- the value that is passed on in a vector
abbrev pub passed : ℤ → ℤ
passed x = to_z w64 (of_z w64 x)

pub read_in_lanes : (xs : List ℤ) → length xs ≡ 8 → SFits w64 (get_or xs 0 (pos 0)) → SFits w64 (get_or xs 1 (pos 0)) → SFits w64 (get_or xs 2 (pos 0)) → SFits w64 (get_or xs 3 (pos 0))
    → SFits w64 (get_or xs 4 (pos 0)) → SFits w64 (get_or xs 5 (pos 0)) → SFits w64 (get_or xs 6 (pos 0)) → SFits w64 (get_or xs 7 (pos 0))
    → IsInLanes xs (passed (get_or xs 0 (pos 0)) ∷ passed (get_or xs 1 (pos 0)) ∷ []) (passed (get_or xs 2 (pos 0)) ∷ passed (get_or xs 3 (pos 0)) ∷ [])
    (passed (get_or xs 4 (pos 0)) ∷ passed (get_or xs 5 (pos 0)) ∷ []) (passed (get_or xs 6 (pos 0)) ∷ passed (get_or xs 7 (pos 0)) ∷ [])
read_in_lanes xs long a b c d e f g h = record {
  order = eight_is xs long ∙ ap₂ (λ u r. u ∷ r) (back a) (ap₂ (λ u r. u ∷ r) (back b) (ap₂ (λ u r. u ∷ r) (back c) (ap₂ (λ u r. u ∷ r) (back d)
      (ap₂ (λ u r. u ∷ r) (back e) (ap₂ (λ u r. u ∷ r) (back f) (ap₂ (λ u r. u ∷ r) (back g) (ap (λ u. u ∷ []) (back h))))))));
  a_long = refl;
  b_long = refl;
  c_long = refl;
  d_long = refl;
  fit = λ k z below. Each1-get_or (SFits w64) xs k z below (Each1-from_get_or (SFits w64) xs (pos 0) (λ i at. below_eight (λ n. SFits w64 (get_or xs n (pos 0))) a b c d e f g h i (omega arith)));
}
  where
    back : {x : ℤ} → SFits w64 x → x ≡ passed x
    back {x} f = sym (to_z-of_z w64 x f)

-- the tests of two blocks, vector by vector
block_tests : {A : Type 0} (t : ℕ → ℕ → A) (xs a b c d ys e f g h : List ℤ) → IsInLanes xs a b c d → IsInLanes ys e f g h
    → zip2 t (bits_of a) (bits_of e) ++ (zip2 t (bits_of b) (bits_of f) ++ (zip2 t (bits_of c) (bits_of g) ++ zip2 t (bits_of d) (bits_of h))) ≡ zip2 t (bits_of xs) (bits_of ys)
block_tests t xs a b c d ys e f g h l r =
    let long = λ (u v : List ℤ) (p : length u ≡ 2) (q : length v ≡ 2). length-map u (of_z w64) ∙ p ∙ sym q ∙ sym (length-map v (of_z w64)) in
    sym (
    ap₂ (zip2 t) (ap bits_of l.order ∙ split a b c d) (ap bits_of r.order ∙ split e f g h)
    ∙ zip2-append t (bits_of a) (bits_of e) (bits_of b ++ (bits_of c ++ bits_of d)) (bits_of f ++ (bits_of g ++ bits_of h)) (long a e l.a_long r.a_long)
    ∙ ap (λ m. zip2 t (bits_of a) (bits_of e) ++ m) (
    zip2-append t (bits_of b) (bits_of f) (bits_of c ++ bits_of d) (bits_of g ++ bits_of h) (long b f l.b_long r.b_long)
    ∙ ap (λ m. zip2 t (bits_of b) (bits_of f) ++ m) (zip2-append t (bits_of c) (bits_of g) (bits_of d) (bits_of h) (long c g l.c_long r.c_long)))
    )
  where
    split : (a b c d : List ℤ) → bits_of (a ++ (b ++ (c ++ d))) ≡ bits_of a ++ (bits_of b ++ (bits_of c ++ bits_of d))
    split a b c d = bits-append a (b ++ (c ++ d)) ∙ ap (λ r. bits_of a ++ r) (bits-append b (c ++ d) ∙ ap (λ r. bits_of b ++ r) (bits-append c d))

two_tests : {A : Type 0} (t : ℕ → ℕ → A) (a e : List ℤ) → length a ≡ 2 → length e ≡ 2 → length (zip2 t (bits_of a) (bits_of e)) ≡ 2
two_tests t a e p q = length-zip2 t (bits_of a) (bits_of e) (length-map a (of_z w64) ∙ p ∙ sym q ∙ sym (length-map e (of_z w64))) ∙ length-map a (of_z w64) ∙ p

-- where each lane of the four vectors u, v, w, z is a test of two numbers
pub block_every : (t : ℕ → ℕ → Bool) (p : ℤ → ℤ → Bool) → Agrees t p → (xs a b c d ys e f g h : List ℤ) → IsInLanes xs a b c d → IsInLanes ys e f g h → (u v w z : List ℕ)
    → u ≡ map lane_of (zip2 t (bits_of a) (bits_of e)) → v ≡ map lane_of (zip2 t (bits_of b) (bits_of f)) → w ≡ map lane_of (zip2 t (bits_of c) (bits_of g)) → z ≡ map lane_of (zip2 t (bits_of d) (bits_of h))
    → eqb (mask_l (map (top 63) (zip2 bit_and (zip2 bit_and (zip2 bit_and u v) w) z)) % 2 ^ 64) 3 ≡ list_all (λ (q : ℤ × ℤ). p q.0 q.1) (zip xs ys)
block_every t p same xs a b c d ys e f g h l r u v w z i j k m =
    every_lane (zip2 t (bits_of a) (bits_of e)) (zip2 t (bits_of b) (bits_of f)) (zip2 t (bits_of c) (bits_of g)) (zip2 t (bits_of d) (bits_of h))
    (two_tests t a e l.a_long r.a_long) (two_tests t b f l.b_long r.b_long) (two_tests t c g l.c_long r.c_long) (two_tests t d h l.d_long r.d_long) u v w z i j k m
    ∙ ap every (block_tests t xs a b c d ys e f g h l r ∙ tests_are t p same xs ys (in_range xs l.fit) (in_range ys r.fit))
    ∙ list_all-map (λ b. b) (λ (q : ℤ × ℤ). p q.0 q.1) (zip xs ys)

pub block_some : (t : ℕ → ℕ → Bool) (p : ℤ → ℤ → Bool) → Agrees t p → (xs a b c d ys e f g h : List ℤ) → IsInLanes xs a b c d → IsInLanes ys e f g h → (u v w z : List ℕ)
    → u ≡ map lane_of (zip2 t (bits_of a) (bits_of e)) → v ≡ map lane_of (zip2 t (bits_of b) (bits_of f)) → w ≡ map lane_of (zip2 t (bits_of c) (bits_of g)) → z ≡ map lane_of (zip2 t (bits_of d) (bits_of h))
    → not (eqb (mask_l (map (top 63) (zip2 bit_or (zip2 bit_or (zip2 bit_or u v) w) z)) % 2 ^ 64) 0) ≡ list_any (λ (q : ℤ × ℤ). p q.0 q.1) (zip xs ys)
block_some t p same xs a b c d ys e f g h l r u v w z i j k m =
    some_lane (zip2 t (bits_of a) (bits_of e)) (zip2 t (bits_of b) (bits_of f)) (zip2 t (bits_of c) (bits_of g)) (zip2 t (bits_of d) (bits_of h))
    (two_tests t a e l.a_long r.a_long) (two_tests t b f l.b_long r.b_long) (two_tests t c g l.c_long r.c_long) (two_tests t d h l.d_long r.d_long) u v w z i j k m
    ∙ ap some (block_tests t xs a b c d ys e f g h l r ∙ tests_are t p same xs ys (in_range xs l.fit) (in_range ys r.fit))
    ∙ list_any-map (λ b. b) (λ (q : ℤ × ℤ). p q.0 q.1) (zip xs ys)
  where
    list_any-map : {X Y : Type 0} (p : X → Bool) (h : Y → X) (ys : List Y) → list_any p (map h ys) ≡ list_any (λ y. p (h y)) ys
    list_any-map p h [] = refl
    list_any-map p h (y ∷ ys) = ap (λ b. p (h y) || b) (list_any-map p h ys)

-- two blocks compared
pub block_compared : (t : ℕ → ℕ → Bool) (p : ℤ → ℤ → Bool) → Agrees t p → (xs a b c d ys e f g h : List ℤ) → IsInLanes xs a b c d → IsInLanes ys e f g h
    → eqb (mask_l (map (top 63) (zip2 bit_and (zip2 bit_and (zip2 bit_and (zip2 (compared t) (bits_of a) (bits_of e)) (zip2 (compared t) (bits_of b) (bits_of f))) (zip2 (compared t) (bits_of c) (bits_of g))) (zip2 (compared t) (bits_of d) (bits_of h)))) % 2 ^ 64) 3
    ≡ list_all (λ (q : ℤ × ℤ). p q.0 q.1) (zip xs ys)
block_compared t p same xs a b c d ys e f g h l r =
    block_every t p same xs a b c d ys e f g h l r (zip2 (compared t) (bits_of a) (bits_of e)) (zip2 (compared t) (bits_of b) (bits_of f)) (zip2 (compared t) (bits_of c) (bits_of g)) (zip2 (compared t) (bits_of d) (bits_of h))
    (compared_is t (bits_of a) (bits_of e)) (compared_is t (bits_of b) (bits_of f)) (compared_is t (bits_of c) (bits_of g)) (compared_is t (bits_of d) (bits_of h))

-- a block compared with one number
splat_in_lanes : (k : ℤ) → SFits w64 k → IsInLanes (replicate 8 k) (k ∷ k ∷ []) (k ∷ k ∷ []) (k ∷ k ∷ []) (k ∷ k ∷ [])
splat_in_lanes k f = record {
  order = refl;
  a_long = refl;
  b_long = refl;
  c_long = refl;
  d_long = refl;
  fit = λ i d below. Each1-get_or (SFits w64) (replicate 8 k) i d below (Each1-replicate (SFits w64) 8 k f);
}

any_splat : (k : ℤ) (n : ℕ) (xs : List ℤ) → length xs ≡ n → list_any (λ (q : ℤ × ℤ). int_eq q.0 q.1) (zip xs (replicate n k)) ≡ list_any (λ x. int_eq x k) xs
any_splat k n xs long = subst (λ m. list_any (λ (q : ℤ × ℤ). int_eq q.0 q.1) (zip xs (replicate m k)) ≡ list_any (λ x. int_eq x k) xs) long (each xs)
  where
    each : (xs : List ℤ) → list_any (λ (q : ℤ × ℤ). int_eq q.0 q.1) (zip xs (replicate (length xs) k)) ≡ list_any (λ x. int_eq x k) xs
    each [] = refl
    each (x ∷ xs) = ap (λ b. int_eq x k || b) (each xs)

pub block_member : (k : ℤ) → SFits w64 k → (xs a b c d : List ℤ) → length xs ≡ 8 → IsInLanes xs a b c d
    → not (eqb (mask_l (map (top 63) (zip2 bit_or (zip2 bit_or (zip2 bit_or (zip2 (compared eqb) (bits_of a) (bits_of (k ∷ k ∷ []))) (zip2 (compared eqb) (bits_of b) (bits_of (k ∷ k ∷ [])))) (zip2 (compared eqb) (bits_of c) (bits_of (k ∷ k ∷ [])))) (zip2 (compared eqb) (bits_of d) (bits_of (k ∷ k ∷ []))))) % 2 ^ 64) 0)
    ≡ list_any (λ x. int_eq x k) xs
block_member k f xs a b c d long l =
    let ks : List ℤ = k ∷ k ∷ [] in
    block_some eqb int_eq eq_agrees xs a b c d (replicate 8 k) ks ks ks ks l (splat_in_lanes k f) (zip2 (compared eqb) (bits_of a) (bits_of ks)) (zip2 (compared eqb) (bits_of b) (bits_of ks)) (zip2 (compared eqb) (bits_of c) (bits_of ks)) (zip2 (compared eqb) (bits_of d) (bits_of ks))
    (compared_is eqb (bits_of a) (bits_of ks)) (compared_is eqb (bits_of b) (bits_of ks)) (compared_is eqb (bits_of c) (bits_of ks)) (compared_is eqb (bits_of d) (bits_of ks))
    ∙ any_splat k 8 xs long

-- ---- differences that wrap round
abbrev pub wrapped_sub : ℕ → ℕ → ℕ
wrapped_sub a b = (a + (2 ^ bits w64 - b)) % 2 ^ bits w64

abbrev pub wraps_bits : ℕ → ℕ → ℕ → Bool
wraps_bits k a b = eqb (wrapped_sub b a) k

wraps_agree : (k : ℤ) → SFits w64 k → Agrees (wraps_bits (of_z w64 k)) (λ x y. int_eq (int_wrapping_sub w64 y x) k)
wraps_agree k f x y _ _ =
    let n = wrapped_sub (of_z w64 y) (of_z w64 x) in
    let small : n < 2 ^ bits w64 = omega arith in
    same_from_decides (eqb n (of_z w64 k)) (int_eq (to_z w64 n) k)
    (Decides-like (eqb n (of_z w64 k)) (λ e. ap (to_z w64) e ∙ to_z-of_z w64 k f) (λ e. sym (of_z-to_z w64 n small) ∙ ap (of_z w64) e) (Decides-eqb n (of_z w64 k)))
    (Decides-int_eq (to_z w64 n) k)

wrapped_lanes : (k : ℕ) (xs ys : List ℕ) → length xs ≡ 2 → length ys ≡ 2 → zip2 (compared eqb) (zip2 wrapped_sub ys xs) (k ∷ k ∷ []) ≡ map lane_of (zip2 (wraps_bits k) xs ys)
wrapped_lanes k xs ys p q =
    compared_is eqb (zip2 wrapped_sub ys xs) (k ∷ k ∷ [])
    ∙ ap (map lane_of) (subst (λ n. zip2 eqb (zip2 wrapped_sub ys xs) (replicate n k) ≡ zip2 (wraps_bits k) xs ys) p (each xs ys (q ∙ sym p)))
  where
    each : (xs ys : List ℕ) → length ys ≡ length xs → zip2 eqb (zip2 wrapped_sub ys xs) (replicate (length xs) k) ≡ zip2 (wraps_bits k) xs ys
    each [] [] e = refl
    each [] (y ∷ ys) e = absurd (omega arith)
    each (x ∷ xs) [] e = absurd (omega arith)
    each (x ∷ xs) (y ∷ ys) e = ap (λ r. wraps_bits k x y ∷ r) (each xs ys (omega arith))

-- one vector of two blocks: whether its differences are k
abbrev pub wrapped : ℤ → List ℤ → List ℤ → List ℕ
wrapped k a e = zip2 (compared eqb) (zip2 wrapped_sub (bits_of e) (bits_of a)) (of_z w64 k ∷ of_z w64 k ∷ [])

pub block_wraps : (k : ℤ) → SFits w64 k → (xs a b c d ys e f g h : List ℤ) → IsInLanes xs a b c d → IsInLanes ys e f g h
    → eqb (mask_l (map (top 63) (zip2 bit_and (zip2 bit_and (zip2 bit_and (wrapped k a e) (wrapped k b f)) (wrapped k c g)) (wrapped k d h))) % 2 ^ 64) 3 ≡ wrap_to k xs ys
block_wraps k fit xs a b c d ys e f g h l r =
    block_every (wraps_bits (of_z w64 k)) (λ x y. int_eq (int_wrapping_sub w64 y x) k) (wraps_agree k fit) xs a b c d ys e f g h l r (wrapped k a e) (wrapped k b f) (wrapped k c g) (wrapped k d h)
    (lanes a e l.a_long r.a_long) (lanes b f l.b_long r.b_long) (lanes c g l.c_long r.c_long) (lanes d h l.d_long r.d_long)
  where
    lanes : (u v : List ℤ) → length u ≡ 2 → length v ≡ 2 → wrapped k u v ≡ map lane_of (zip2 (wraps_bits (of_z w64 k)) (bits_of u) (bits_of v))
    lanes u v p q = wrapped_lanes (of_z w64 k) (bits_of u) (bits_of v) (length-map u (of_z w64) ∙ p) (length-map v (of_z w64) ∙ q)

-- the same pairs, with their sides exchanged
pub all_flipped : (p : ℤ → ℤ → Bool) (xs ys : List ℤ) → list_all (λ (q : ℤ × ℤ). p q.0 q.1) (zip ys xs) ≡ list_all (λ (q : ℤ × ℤ). p q.1 q.0) (zip xs ys)
all_flipped p [] [] = refl
all_flipped p [] (y ∷ ys) = refl
all_flipped p (x ∷ xs) [] = refl
all_flipped p (x ∷ xs) (y ∷ ys) = ap (λ b. p y x && b) (all_flipped p xs ys)
