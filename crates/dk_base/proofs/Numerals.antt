-- The value of the digits so far.
use Rattle.std.proofs.Common.{◌≡◌, ◌<◌, ◌≤◌, ◌+◌, ◌*◌, ◌^◌, ◌∙◌, ℕ, Bool, true, false, List, length, take, drop, get_or, arith, sym, ap, refl, nat_lt, Option}
use Rattle.std.proofs.Math.Nat.{mul-le-mul_left}
use Rattle.std.specs.Prelude.{option_and_then}
use Rattle.std.specs.Char.{digit_value, is_digit}
use Rattle.std.specs.List.{list_all}
use Rattle.std.specs.Str.Parse.{digits_value}
use Rattle.std.proofs.lemmas.Bool.{ltb-false, le-ltb, lt-ltb}
use Rattle.std.proofs.lemmas.List.{drop_more}
use Rattle.std.proofs.lemmas.Int.Digits.{digits_value_more}
use Rattle.dk_base.specs.Numbers.{in_u64}

with_digit : (radix d v : ℕ) → 1 ≤ radix → option_and_then (λ n. in_u64 (n * radix + d)) (in_u64 v) ≡ in_u64 (v * radix + d)
with_digit radix d v positive = go (nat_lt v (2 ^ 64)) refl
  where
    go : (fits : Bool) → nat_lt v (2 ^ 64) ≡ fits → option_and_then (λ n. in_u64 (n * radix + d)) (in_u64 v) ≡ in_u64 (v * radix + d)
    go true e = rw e refl
    go false e =
        let large : 2 ^ 64 ≤ v = ltb-false v (2 ^ 64) e in
        let more : v ≤ v * radix = omega (arith, mul-le-mul_left {m = 1} {n = radix} v positive) in
        let larger : nat_lt (v * radix + d) (2 ^ 64) ≡ false = le-ltb (v * radix + d) (2 ^ 64) (omega arith) in
        rw (e, larger) refl

-- one digit more
pub one_digit_more : (radix : ℕ) (text : List ℕ) (i : ℕ) (total next : Option ℕ) (digit : ℕ) → 1 ≤ radix → i < length text
    → total ≡ in_u64 (digits_value radix (take i text)) → digit ≡ digit_value (get_or text i 0)
    → next ≡ option_and_then (λ n. in_u64 (n * radix + digit)) total
    → next ≡ in_u64 (digits_value radix (take (i + 1) text))
one_digit_more radix text i total next digit positive lt so_far is_digit step =
    step
    ∙ ap (λ (o : Option ℕ). option_and_then (λ n. in_u64 (n * radix + digit)) o) so_far
    ∙ with_digit radix digit (digits_value radix (take i text)) positive
    ∙ ap in_u64 (ap (λ d. digits_value radix (take i text) * radix + d) is_digit ∙ sym (digits_value_more radix text i lt))

-- the others decide, where the next is a digit
pub others_decide : (radix : ℕ) (text : List ℕ) (i : ℕ) → i < length text → digit_value (get_or text i 0) < radix
    → list_all (λ d. is_digit d radix) (drop (i + 1) text) ≡ list_all (λ d. is_digit d radix) (drop i text)
others_decide radix text i lt h =
    let here : nat_lt (digit_value (get_or text i 0)) radix ≡ true = lt-ltb (digit_value (get_or text i 0)) radix h in
    sym (ap (list_all (λ d. is_digit d radix)) (drop_more text i 0 lt) ∙ rw here refl)
