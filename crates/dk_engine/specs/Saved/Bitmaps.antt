-- Bitmaps of patterns: for each leader the patterns that have it, 64 of them in a word.
use Rattle.std.specs.Prelude.{◌≡◌, ◌<◌, ◌+◌, ◌*◌, ◌/◌, ℕ, Bool, List, cond, drop, fold, get_or, length, take}
use Rattle.std.specs.Global.{Vec}
use Rattle.std.specs.List.{list_any}
use Rattle.dk_base.specs.declared.kinds.VarId.{VarId}
use Rattle.dk_presence.specs.Patterns.{has, has_all}
use Rattle.dk_presence.specs.declared.held.Held.{Held}

-- whether some pattern has all of these variables
abbrev pub are_together : List Held → List VarId → Bool
are_together held vars = list_any (λ h. has_all h.leaders vars) held

-- the number that is written in base 2 by a digit for each pattern, 1 where the test holds
abbrev pub digits : (Held → Bool) → List Held → ℕ
digits test block = fold (λ n h. n * 2 + cond (test h) 1 0) 0 block

-- the patterns whose bits are word j
abbrev pub block_at : List Held → ℕ → List Held
block_at held j = take 64 (drop (j * 64) held)

-- the first so many words of the bitmap of a variable, each of 64 patterns but for the last of all
pub record AreWords (held : List Held) (v : VarId) (count : ℕ) (words : List ℕ) : Type 0 where
  pub long : length words ≡ count
  pub each : (j : ℕ) → j < count → get_or words j 0 ≡ digits (λ h. has h.leaders v) (block_at held j)

-- the bitmap of a variable: a word for each 64 patterns, and one for those that are left
abbrev pub IsBitmap : List Held → VarId → List ℕ → Type 0
IsBitmap held v words = AreWords held v (length held / 64 + 1) words

-- for each leader, in their order, the first so many words of its bitmap
pub record AreBegun (held : List Held) (leaders : List VarId) (count : ℕ) (maps : List (Vec ℕ)) : Type 0 where
  pub long : length maps ≡ length leaders
  pub each : (k : ℕ) (d : VarId) (e : Vec ℕ) → k < length leaders → AreWords held (get_or leaders k d) count (get_or maps k e).items

-- for each leader, in their order, its bitmap
abbrev pub AreBitmaps : List Held → List VarId → List (Vec ℕ) → Type 0
AreBitmaps held leaders maps = AreBegun held leaders (length held / 64 + 1) maps

-- for each leader, in their order, the word of these patterns
pub record IsRowOf (leaders : List VarId) (block : List Held) (row : List ℕ) : Type 0 where
  pub long : length row ≡ length leaders
  pub each : (k : ℕ) (d : VarId) → k < length leaders → get_or row k 0 ≡ digits (λ h. has h.leaders (get_or leaders k d)) block

-- the variable stands at the place
pub record IsPlaceOf (leaders : List VarId) (v : VarId) (place : ℕ) : Type 0 where
  pub within : place < length leaders
  pub stands : (d : VarId) → get_or leaders place d ≡ v
