-- Counts by bitmaps are the sums of the patterns' counts.
use Rattle.std.proofs.Common.{◌≡◌, ◌<◌, ◌≤◌, ◌+◌, ◌*◌, ◌/◌, ◌%◌, ◌^◌, ◌&&◌, ◌++◌, ◌∙◌, ◌==◌, ℕ, Bool, true, false, cond, All, List, [], ◌∷◌, None, Some, arith, ap, sym, refl, inl, inr, bit_and, count_by, count_ones, drop, get_or, length, sum_by, take, if◌then◌else◌}
use Rattle.std.proofs.Math.Nat.{div-eq_of_lt, div-one}
use Rattle.std.proofs.lemmas.Bool.{cases_eq, eq-eqb, ne_eqb}
use Rattle.std.proofs.lemmas.List.{drop-take, take-append-drop, take-take, take_all}
use Rattle.std.proofs.lemmas.List.Elements.{All-head, All-tail}
use Rattle.std.proofs.lemmas.List.Sums.{sum_by-append, sum_by-cons}
use Rattle.std.proofs.lemmas.Nat.{shr-shr}
use Rattle.dk_base.specs.declared.kinds.VarId.{VarId}
use Rattle.dk_presence.specs.Patterns.{capped, counted_by, has, has_all}
use Rattle.dk_presence.specs.declared.held.Held.{Held}
use Rattle.dk_bitmaps.specs.Bitmaps.{IsBitmap, block_at, digits, is_one_at, Indexed, told}
use Rattle.dk_bitmaps.proofs.Words.{digits_common, digits_ones}

sums_same : (f g : Held → ℕ) → ((h : Held) → f h ≡ g h) → (held : List Held) → sum_by f held ≡ sum_by g held
sums_same f g same [] = refl
sums_same f g same (h ∷ held) =
    let left = sum_by-cons f h held in
    let right = sum_by-cons g h held in
    omega (arith, left, right, same h, sums_same f g same held)

-- ---- the patterns that four bitmaps have in common
module _ (p q r s : Held → Bool) where
  abbrev pub all : Held → Bool
  all h = (p h && (q h && r h)) && s h

  -- in one word
  word_ones : (block : List Held) (a b c d : ℕ) → a ≡ digits p block → b ≡ digits q block → c ≡ digits r block → d ≡ digits s block
      → count_ones (bit_and (bit_and a (bit_and b c)) d) ≡ count_by all block
  word_ones block a b c d ea eb ec ed =
      let inner : bit_and b c ≡ digits (λ h. q h && r h) block = ap (λ n. bit_and n c) eb ∙ (ap (bit_and (digits q block)) ec ∙ digits_common q r block) in
      let three : bit_and a (bit_and b c) ≡ digits (λ h. p h && (q h && r h)) block =
      ap (λ n. bit_and n (bit_and b c)) ea ∙ (ap (bit_and (digits p block)) inner ∙ digits_common p (λ h. q h && r h) block)
      in
      let four : bit_and (bit_and a (bit_and b c)) d ≡ digits all block =
      ap (λ n. bit_and n d) three ∙ (ap (bit_and (digits (λ h. p h && (q h && r h)) block)) ed ∙ digits_common (λ h. p h && (q h && r h)) s block)
      in
      ap count_ones four ∙ digits_ones all block

  -- one word more
  pub block_more : (held : List Held) (a b c d : List ℕ) → IsBitmap held p a → IsBitmap held q b → IsBitmap held r c → IsBitmap held s d → (j : ℕ) → j < length a
      → count_by all (take (j * 64) held) + count_ones (bit_and (bit_and (get_or a j 0) (bit_and (get_or b j 0) (get_or c j 0))) (get_or d j 0)) ≡ count_by all (take ((j + 1) * 64) held)
  block_more held a b c d ia ib ic id j l =
      let within : j < length held / 64 + 1 = omega (arith, l, ia.long) in
      let ones = word_ones (block_at held j) (get_or a j 0) (get_or b j 0) (get_or c j 0) (get_or d j 0) (ia.each j within) (ib.each j within) (ic.each j within) (id.each j within) in
      let next : (j + 1) * 64 ≡ j * 64 + 64 = omega arith in
      let split = sum_by-append (λ h. cond (all h) 1 0) (take (j * 64) held) (block_at held j) in
      let joined : take (j * 64) held ++ block_at held j ≡ take ((j + 1) * 64) held = take_next (j * 64) 64 held ∙ ap (λ n. take n held) (sym next) in
      let whole : count_by all (take (j * 64) held ++ block_at held j) ≡ count_by all (take ((j + 1) * 64) held) = ap (count_by all) joined in
      omega (arith, ones, split, whole)
    where
      take_next : (m n : ℕ) (xs : List Held) → take m xs ++ take n (drop m xs) ≡ take (m + n) xs
      take_next m n xs =
          ap (λ ys. ys ++ take n (drop m xs)) (sym (take-take m (m + n) xs (omega arith)))
          ∙ (ap (λ ys. take m (take (m + n) xs) ++ ys) (sym (drop-take m n xs)) ∙ take-append-drop m (take (m + n) xs))

  -- all words
  pub all_blocks : (held : List Held) (a : List ℕ) → IsBitmap held p a → (j : ℕ) → length a ≤ j → count_by all (take (j * 64) held) ≡ count_by all held
  all_blocks held a ia j past = ap (count_by all) (take_all (j * 64) held (omega (arith, past, ia.long)))

-- ---- binary digits of counts
module _ (test : Held → Bool) where
  -- what is left of the counts before a place
  abbrev pub rest_at : ℕ → Held → ℕ
  rest_at place h = cond (test h) (h.count / 2 ^ place) 0

  -- no count has a digit before all
  pub none_before : (held : List Held) (place : ℕ) → All (λ h. h.count < 2 ^ place) held → sum_by (rest_at place) held ≡ 0
  none_before [] place below = refl
  none_before (h ∷ held) place below =
      let first : h.count / 2 ^ place ≡ 0 = div-eq_of_lt (All-head (λ (x : Held). x.count < 2 ^ place) h held below) in
      let here : cond (test h) (h.count / 2 ^ place) 0 ≡ 0 = ap {A = ℕ} (λ n. cond (test h) n 0) first ∙ none (test h) in
      let others = none_before held place (All-tail (λ (x : Held). x.count < 2 ^ place) h held below) in
      let whole = sum_by-cons (rest_at place) h held in
      omega (arith, here, others, whole)
    where
      none : (b : Bool) → ◌≡◌ {A = ℕ} (cond b 0 0) 0
      none true = refl
      none false = refl

  digit_more : (n place : ℕ) (b : Bool) → cond b (n / 2 ^ place) 0 ≡ cond b (n / 2 ^ (place + 1)) 0 * 2 + cond (b && is_one_at place n) 1 0
  digit_more n place false = refl
  digit_more n place true =
      let m = n / 2 ^ place in
      let shifted : m / 2 ≡ n / 2 ^ (place + 1) = shr-shr n place 1 in
      elim (cases_eq (m % 2) 1) as (λ _. m ≡ n / 2 ^ (place + 1) * 2 + cond (m % 2 == 1) 1 0) [
        | inl one ↦ (let bit = ap {B = ℕ} (λ b. cond b 1 0) (eq-eqb (m % 2) 1 one) in omega (arith, shifted, one, bit))
        | inr other ↦ (let bit = ap {B = ℕ} (λ b. cond b 1 0) (ne_eqb (m % 2) 1 other) in omega (arith, shifted, other, bit))
      ]

  -- one digit more
  pub place_more : (held : List Held) (place : ℕ) → sum_by (rest_at place) held ≡ sum_by (rest_at (place + 1)) held * 2 + count_by (λ h. test h && is_one_at place h.count) held
  place_more [] place = refl
  place_more (h ∷ held) place =
      let here = digit_more h.count place (test h) in
      let whole = sum_by-cons (rest_at place) h held in
      let rest = sum_by-cons (rest_at (place + 1)) h held in
      let ones = sum_by-cons (λ x. cond (test x && is_one_at place x.count) 1 0) h held in
      omega (arith, here, whole, rest, ones, place_more held place)

  -- all digits
  pub all_places : (held : List Held) → sum_by (rest_at 0) held ≡ sum_by (λ h. cond (test h) h.count 0) held
  all_places held = sums_same (rest_at 0) (λ h. cond (test h) h.count 0) (λ h. ap (λ n. cond (test h) n 0) (div-one h.count)) held

-- ---- the counts of one, two and three leaders
same_counts : (held : List Held) (p q : Held → Bool) → ((h : Held) → p h ≡ q h) → sum_by (λ h. cond (p h) h.count 0) held ≡ sum_by (λ h. cond (q h) h.count 0) held
same_counts held p q same = sums_same (λ h. cond (p h) h.count 0) (λ h. cond (q h) h.count 0) (λ h. ap (λ b. cond b h.count 0) (same h)) held

pub three_counted : (held : List Held) (x y z : VarId) → capped (sum_by (λ h. cond (has h.leaders x && (has h.leaders y && has h.leaders z)) h.count 0) held) ≡ counted_by held (x ∷ y ∷ z ∷ [])
three_counted held x y z =
    ap capped (same_counts held (λ h. has h.leaders x && (has h.leaders y && has h.leaders z)) (λ h. has_all h.leaders (x ∷ y ∷ z ∷ []))
    (λ h. same (has h.leaders x) (has h.leaders y) (has h.leaders z)))
  where
    same : (a b c : Bool) → (a && (b && c)) ≡ (a && (b && (c && true)))
    same true true true = refl
    same true true false = refl
    same true false c = refl
    same false b c = refl

-- ---- what an index tells
-- leaders that the same patterns have
told_same : (index : Indexed) (vs ws : List VarId) → ((leaders : List VarId) → has_all leaders vs ≡ has_all leaders ws) → told index vs ≡ told index ws
told_same index vs ws same =
    let counted : counted_by index.held vs ≡ counted_by index.held ws = ap capped (same_counts index.held (λ h. has_all h.leaders vs) (λ h. has_all h.leaders ws) (λ h. same h.leaders)) in
    ap (λ b. if b then Some (counted_by index.held vs) else None) (same index.leaders) ∙ ap (λ n. if has_all index.leaders ws then Some n else None) counted

one_alike : (index : Indexed) (x : VarId) → told index (x ∷ x ∷ x ∷ []) ≡ told index (x ∷ [])
one_alike index x = told_same index (x ∷ x ∷ x ∷ []) (x ∷ []) (λ leaders. same (has leaders x))
  where
    same : (b : Bool) → (b && (b && (b && true))) ≡ (b && true)
    same true = refl
    same false = refl

two_alike : (index : Indexed) (x y : VarId) → told index (x ∷ y ∷ y ∷ []) ≡ told index (x ∷ y ∷ [])
two_alike index x y = told_same index (x ∷ y ∷ y ∷ []) (x ∷ y ∷ []) (λ leaders. same (has leaders x) (has leaders y))
  where
    same : (b c : Bool) → (b && (c && (c && true))) ≡ (b && (c && true))
    same true true = refl
    same true false = refl
    same false c = refl

module _ (index : Indexed) (x y z : VarId) where
  all_there : has index.leaders x ≡ true → has index.leaders y ≡ true → has index.leaders z ≡ true → has_all index.leaders (x ∷ y ∷ z ∷ []) ≡ true
  all_there hx hy hz = ap (λ b. b && (has index.leaders y && (has index.leaders z && true))) hx ∙ (ap (λ b. b && (has index.leaders z && true)) hy ∙ ap (λ b. b && true) hz)

  pub three_told : (n : ℕ) → has index.leaders x ≡ true → has index.leaders y ≡ true → has index.leaders z ≡ true → n ≡ counted_by index.held (x ∷ y ∷ z ∷ []) → Some n ≡ told index (x ∷ y ∷ z ∷ [])
  three_told n hx hy hz is = ap Some is ∙ sym (ap (λ b. if b then Some (counted_by index.held (x ∷ y ∷ z ∷ [])) else None) (all_there hx hy hz))

pub one_long : (index : Indexed) (vars : List VarId) (d : VarId) → 1 ≤ length vars → length vars < 2 → told index (get_or vars 0 d ∷ get_or vars 0 d ∷ get_or vars 0 d ∷ []) ≡ told index vars
one_long index [] d least most = absurd (omega (arith, least))
one_long index (x ∷ []) d least most = one_alike index x
one_long index (x ∷ y ∷ vars) d least most = absurd (omega (arith, most))

pub two_long : (index : Indexed) (vars : List VarId) (d e : VarId) → 2 ≤ length vars → length vars < 3 → told index (get_or vars 0 d ∷ get_or vars 1 e ∷ get_or vars 1 e ∷ []) ≡ told index vars
two_long index [] d e least most = absurd (omega (arith, least))
two_long index (x ∷ []) d e least most = absurd (omega (arith, least))
two_long index (x ∷ y ∷ []) d e least most = two_alike index x y
two_long index (x ∷ y ∷ z ∷ vars) d e least most = absurd (omega (arith, most))

pub three_long : (index : Indexed) (vars : List VarId) (d e f : VarId) → 3 ≤ length vars → length vars < 4 → told index (get_or vars 0 d ∷ get_or vars 1 e ∷ get_or vars 2 f ∷ []) ≡ told index vars
three_long index [] d e f least most = absurd (omega (arith, least))
three_long index (x ∷ []) d e f least most = absurd (omega (arith, least))
three_long index (x ∷ y ∷ []) d e f least most = absurd (omega (arith, least))
three_long index (x ∷ y ∷ z ∷ []) d e f least most = refl
three_long index (x ∷ y ∷ z ∷ w ∷ vars) d e f least most = absurd (omega (arith, most))
