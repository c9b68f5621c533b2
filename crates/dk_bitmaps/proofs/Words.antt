-- What the words of bitmaps say: their digits, one after another.
use Rattle.std.proofs.Common.{◌≡◌, ◌<◌, ◌+◌, ◌*◌, ◌/◌, ◌%◌, ◌^◌, ◌&&◌, ◌∙◌, ℕ, suc, min, Bool, true, false, cond, List, [], ◌∷◌, arith, ap, refl, bit_and, count_by, count_ones, fold, get_or, length, take}
use Rattle.std.proofs.lemmas.List.{take_more}
use Rattle.std.proofs.lemmas.List.Sums.{fold-append, sum_by-cons}
use Rattle.std.specs.Int.Bits.{and_step}
use Rattle.std.specs.Int.Count.{ones_step}
use Rattle.dk_presence.specs.declared.held.Held.{Held}
use Rattle.dk_bitmaps.specs.Bitmaps.{digits}

-- the digits of patterns behind those of a number
behind : (Held → Bool) → ℕ → List Held → ℕ
behind test n block = fold (λ m h. m * 2 + cond (test h) 1 0) n block

bit_below : (b : Bool) → cond b 1 0 < 2
bit_below true = omega arith
bit_below false = omega arith

-- ---- digits that two numbers have in common
common_bit : (m n : ℕ) (b c : Bool) → min ((m * 2 + cond b 1 0) % 2) ((n * 2 + cond c 1 0) % 2) ≡ cond (b && c) 1 0
common_bit m n true true = omega arith
common_bit m n true false = omega arith
common_bit m n false true = omega arith
common_bit m n false false = omega arith

half : (m : ℕ) (b : Bool) → (m * 2 + cond b 1 0) / 2 ≡ m
half m b = omega (arith, bit_below b)

common_step : (m n : ℕ) (b c : Bool) → bit_and (m * 2 + cond b 1 0) (n * 2 + cond c 1 0) ≡ bit_and m n * 2 + cond (b && c) 1 0
common_step m n b c =
    and_step (m * 2 + cond b 1 0) (n * 2 + cond c 1 0)
    ∙ (ap (λ k. bit_and k ((n * 2 + cond c 1 0) / 2) * 2 + min ((m * 2 + cond b 1 0) % 2) ((n * 2 + cond c 1 0) % 2)) (half m b)
    ∙ (ap (λ k. bit_and m k * 2 + min ((m * 2 + cond b 1 0) % 2) ((n * 2 + cond c 1 0) % 2)) (half n c)
    ∙ ap (λ k. bit_and m n * 2 + k) (common_bit m n b c)))

common_behind : (p q : Held → Bool) (m n : ℕ) (block : List Held) → bit_and (behind p m block) (behind q n block) ≡ behind (λ h. p h && q h) (bit_and m n) block
unfolding behind
common_behind p q m n [] = refl
common_behind p q m n (h ∷ block) =
    common_behind p q (m * 2 + cond (p h) 1 0) (n * 2 + cond (q h) 1 0) block
    ∙ ap (λ k. behind (λ x. p x && q x) k block) (common_step m n (p h) (q h))

-- words have in common the digits of both tests
pub digits_common : (p q : Held → Bool) (block : List Held) → bit_and (digits p block) (digits q block) ≡ digits (λ h. p h && q h) block
unfolding behind
digits_common p q block = common_behind p q 0 0 block

-- ---- how many digits are 1
ones_more : (n : ℕ) (b : Bool) → count_ones (n * 2 + cond b 1 0) ≡ count_ones n + cond b 1 0
ones_more n b =
    let step = ones_step (n * 2 + cond b 1 0) in
    let rest : count_ones ((n * 2 + cond b 1 0) / 2) ≡ count_ones n = ap count_ones (half n b) in
    let last : (n * 2 + cond b 1 0) % 2 ≡ cond b 1 0 = omega (arith, bit_below b) in
    omega (arith, step, rest, last)

ones_behind : (p : Held → Bool) (n : ℕ) (block : List Held) → count_ones (behind p n block) ≡ count_ones n + count_by p block
unfolding behind
ones_behind p n [] = omega arith
ones_behind p n (h ∷ block) =
    let rest = ones_behind p (n * 2 + cond (p h) 1 0) block in
    let here = ones_more n (p h) in
    let all = sum_by-cons (λ x. cond (p x) 1 0) h block in
    omega (arith, rest, here, all)

no_ones : count_ones 0 ≡ 0
unfolding lib.Count.ones
no_ones = refl

-- as many digits are 1 as patterns meet the test
pub digits_ones : (p : Held → Bool) (block : List Held) → count_ones (digits p block) ≡ count_by p block
unfolding behind
digits_ones p block = omega (arith, no_ones, ones_behind p 0 block)

-- ---- one pattern more
pub digits_more : (test : Held → Bool) (block : List Held) (i : ℕ) (d : Held) → i < length block
    → digits test (take (i + 1) block) ≡ digits test (take i block) * 2 + cond (test (get_or block i d)) 1 0
digits_more test block i d l = ap (digits test) (take_more block i d l) ∙ fold-append (λ n h. n * 2 + cond (test h) 1 0) 0 (take i block) (get_or block i d ∷ [])

-- so many digits are below that power of 2
pub digit_fits : (n i : ℕ) (b : Bool) → n < 2 ^ i → n * 2 + cond b 1 0 < 2 ^ (i + 1)
digit_fits n i b l =
    let next : i + 1 ≡ suc i = omega arith in
    let twice : 2 ^ suc i ≡ 2 ^ i * 2 = omega arith in
    let power : 2 ^ (i + 1) ≡ 2 ^ suc i = ap (λ k. 2 ^ k) next in
    omega (arith, bit_below b, l, twice, power)
