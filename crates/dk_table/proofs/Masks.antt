-- Masks of bytes that end cells.
use Rattle.std.proofs.Common.{◌≡◌, ◌≤◌, ◌<◌, ◌+◌, ◌-◌, ◌∙◌, inl, inr, ◌==◌, ◌||◌, ap, arith, Bool, bit_or, false, true, get_or, length, List, refl, ℕ, if◌then◌else◌}
use Rattle.std.specs.Int.{bit_at}
use Rattle.std.specs.Prelude.{max, slice_index}
use Rattle.std.proofs.lemmas.Bool.{cases_lt}
use Rattle.std.proofs.lemmas.Nat.Bits.{bit_at_or, bit_at-zero}
use Rattle.dk_table.specs.Tables.Marks.{AreAhead, HasBytes, IsMask, IsNextEnd, ends_cell}
use Rattle.dk_table.specs.declared.rows.marks.Marks.{Marks}

-- a bit of three joined masks, each of which tests for one byte
abbrev bit_of : Bool → ℕ
bit_of b = if b then 1 else 0

joined : (p q r : Bool) → max (max (bit_of p) (bit_of q)) (bit_of r) ≡ bit_of (p || (q || r))
joined true true true = refl
joined true true false = refl
joined true false true = refl
joined true false false = refl
joined false true true = refl
joined false true false = refl
joined false false true = refl
joined false false false = refl

is_set : (b : Bool) (n : ℕ) → n ≡ bit_of b → n ≡ 1 → b ≡ true
is_set true n e h = refl
is_set false n e h = absurd (omega (arith, e, h))

module _ (separator : ℕ) (bytes : List ℕ) (block : ℕ) (lanes : List ℕ) (a b c : ℕ) (has : HasBytes bytes block lanes) (room : block + 64 ≤ length bytes)
    (is_a : (k : ℕ) → k < 64 → bit_at a k ≡ bit_of (slice_index lanes k == separator)) (is_b : (k : ℕ) → k < 64 → bit_at b k ≡ bit_of (slice_index lanes k == 13))
    (is_c : (k : ℕ) → k < 64 → bit_at c k ≡ bit_of (slice_index lanes k == 10)) where
  bit_joined : (k : ℕ) → k < 64 → bit_at (bit_or (bit_or a b) c) k ≡ bit_of (ends_cell separator (get_or bytes (block + k) 0))
  bit_joined k lt =
      let x : ℕ = slice_index lanes k in
      bit_at_or (bit_or a b) c k ∙ ap (λ (n : ℕ). max n (bit_at c k)) (bit_at_or a b k)
      ∙ ap (λ (n : ℕ). max (max n (bit_at b k)) (bit_at c k)) (is_a k lt)
      ∙ ap (λ (n : ℕ). max (max (bit_of (x == separator)) n) (bit_at c k)) (is_b k lt)
      ∙ ap (λ (n : ℕ). max (max (bit_of (x == separator)) (bit_of (x == 13))) n) (is_c k lt)
      ∙ joined (x == separator) (x == 13) (x == 10)
      ∙ ap (λ (y : ℕ). bit_of (ends_cell separator y)) (has.each k lt)

  pub mask_joined : IsMask separator bytes block (bit_or (bit_or a b) c)
  mask_joined = record {
    seen = λ k lt within is. bit_joined k lt ∙ ap bit_of is;
    within = λ k lt set. omega (arith, room, lt);
    ends = λ k lt set. is_set (ends_cell separator (get_or bytes (block + k) 0)) (bit_at (bit_or (bit_or a b) c) k) (bit_joined k lt) set;
  }

-- ---- what is ahead
is_false : (b : Bool) (bit : ℕ) → bit ≡ 0 → (b ≡ true → bit ≡ 1) → b ≡ false
is_false true bit is h = absurd (omega (arith, is, h refl))
is_false false bit is h = refl

module _ (separator : ℕ) (bytes : List ℕ) (marks : Marks) (ahead : AreAhead separator bytes marks) where
  -- in front of the lowest mark of a block
  pub quiet_before : (bit : ℕ) → bit ≤ 64 → ((k : ℕ) → k < bit → bit_at marks.ahead k ≡ 0)
      → (p : ℕ) → marks.place ≤ p → p < marks.block + bit → p < length bytes → ends_cell separator (get_or bytes p 0) ≡ false
  quiet_before bit small clear p low high within = elim (cases_lt p marks.block) [ inl lt ↦ ahead.none p low lt | inr ge ↦ in_block ge ]
    where
      in_block : marks.block ≤ p → ends_cell separator (get_or bytes p 0) ≡ false
      in_block ge =
          let k : ℕ = p - marks.block in
          let at : marks.block + k ≡ p = omega (arith, ge) in
          let short : k < bit = omega (arith, ge, high) in
          is_false (ends_cell separator (get_or bytes p 0)) (bit_at marks.ahead k) (clear k short)
          (λ is. ahead.seen k (omega (arith, short, small)) (omega (arith, at, low)) (omega (arith, at, within)) (ap (λ (q : ℕ). ends_cell separator (get_or bytes q 0)) at ∙ is))

  none_set : marks.ahead ≡ 0 → (k : ℕ) → k < 64 → bit_at marks.ahead k ≡ 0
  none_set none k lt = ap (λ (n : ℕ). bit_at n k) none ∙ bit_at-zero k

  -- on to the next block
  pub block_passed : (mask : ℕ) → marks.ahead ≡ 0 → marks.block + 64 < length bytes → IsMask separator bytes (marks.block + 64) mask
      → AreAhead separator bytes (record { place = marks.place; block = marks.block + 64; ahead = mask })
  block_passed mask none more is = record {
    begun = ahead.begun;
    ordered = omega (arith, more);
    near = omega (arith, ahead.near);
    none = λ p low high. quiet_before 64 (omega arith) (none_set none) p low high (omega (arith, high, more));
    seen = λ k lt low within. is.seen k lt within;
    low = λ k lt set. omega (arith, ahead.near);
    within = is.within;
    ends = is.ends;
  }

  -- no mark is left
  pub none_ends : marks.ahead ≡ 0 → length bytes ≤ marks.block + 64 → IsNextEnd separator bytes marks.place (length bytes)
  none_ends none last = record {
    low = ahead.begun;
    high = omega arith;
    none = λ p low high. quiet_before 64 (omega arith) (none_set none) p low (omega (arith, high, last)) high;
    ends = λ lt. absurd (omega (arith, lt));
  }

  -- the lowest mark is the next end
  pub lowest_ends : (bit : ℕ) → bit < 64 → bit_at marks.ahead bit ≡ 1 → ((k : ℕ) → k < bit → bit_at marks.ahead k ≡ 0)
      → IsNextEnd separator bytes marks.place (marks.block + bit)
  lowest_ends bit lt set clear =
      let within : marks.block + bit < length bytes = ahead.within bit lt set in
      record {
        low = ahead.low bit lt set;
        high = omega (arith, within);
        none = λ p low high. quiet_before bit (omega (arith, lt)) clear p low high (omega (arith, high, within));
        ends = λ there. ahead.ends bit lt set;
      }
