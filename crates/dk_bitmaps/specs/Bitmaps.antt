-- Bitmaps of patterns: a binary digit for each pattern, 64 of them in a word.
use Rattle.std.specs.Prelude.{◌≡◌, ◌==◌, ◌<◌, ◌+◌, ◌*◌, ◌/◌, ◌%◌, ◌^◌, ℕ, All, Bool, List, Option, Some, None, cond, drop, fold, get_or, if◌then◌else◌, length, slice_index_or, take}
use Rattle.std.specs.Global.{Vec}
use Rattle.dk_base.specs.declared.kinds.VarId.{VarId}
use Rattle.dk_bitmaps.specs.declared.marks.Mark.{Mark}
use Rattle.dk_bitmaps.specs.declared.marks.Mark.TheVariants.{Digit, Leader}
use Rattle.dk_presence.specs.Patterns.{counted_by, has, has_all}
use Rattle.dk_presence.specs.declared.held.Held.{Held}

-- what an index is seen as: the patterns, and the leaders that it has
pub record Indexed : Type 0 where
  pub held : List Held
  pub leaders : List VarId

-- what an index tells of some leaders: in how many samples all of them are present, if it has them all
abbrev pub told : Indexed → List VarId → Option ℕ
told index vars = if has_all index.leaders vars then Some (counted_by index.held vars) else None

-- whether a number has the binary digit 1 at a place, counted from 0 at the last digit
abbrev pub is_one_at : ℕ → ℕ → Bool
is_one_at place n = n / 2 ^ place % 2 == 1

-- whether a mark holds of a pattern
abbrev pub is_marked : Mark → Held → Bool
is_marked (Leader v) h = has h.leaders v
is_marked (Digit place) h = is_one_at place h.count

-- the number that is written in base 2 by a digit for each pattern, 1 where the test holds
abbrev pub digits : (Held → Bool) → List Held → ℕ
digits test block = fold (λ n h. n * 2 + cond (test h) 1 0) 0 block

-- the patterns whose digits are word j
abbrev pub block_at : List Held → ℕ → List Held
block_at held j = take 64 (drop (j * 64) held)

-- the first so many words of the bitmap of a test, each of 64 patterns but for the last of all
pub record AreWords (held : List Held) (test : Held → Bool) (count : ℕ) (words : List ℕ) : Type 0 where
  pub long : length words ≡ count
  pub each : (j : ℕ) → j < count → get_or words j 0 ≡ digits test (block_at held j)

-- the bitmap of a test: a word for each 64 patterns, and one for those that are left
abbrev pub IsBitmap : List Held → (Held → Bool) → List ℕ → Type 0
IsBitmap held test words = AreWords held test (length held / 64 + 1) words

-- for each number below the count the bitmap of its test
pub record AreMaps (held : List Held) (test : ℕ → Held → Bool) (count : ℕ) (maps : List (Vec ℕ)) : Type 0 where
  pub long : length maps ≡ count
  pub each : (k : ℕ) (d : Vec ℕ) → k < count → IsBitmap held (test k) (get_or maps k d).items

-- for each of the leaders, in their order, the bitmap of the patterns that have it
abbrev pub AreLeaderMaps : List Held → List VarId → List (Vec ℕ) → Type 0
AreLeaderMaps held leaders maps = AreMaps held (λ k h. has h.leaders (slice_index_or leaders k (record { 0 = 0 }))) (length leaders) maps

-- for each binary digit of the counts, the last first, the bitmap of the patterns whose counts have it
pub record AreDigitMaps (held : List Held) (maps : List (Vec ℕ)) : Type 0 where
  pub maps_are : AreMaps held (λ k h. is_one_at k h.count) (length maps) maps
  pub whole : All (λ h. h.count < 2 ^ length maps) held
