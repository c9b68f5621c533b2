-- The bytes that end cells, and the marks that stand for them.
use Rattle.std.specs.Prelude.{◌≡◌, ◌≤◌, ◌<◌, ◌+◌, ◌==◌, ◌||◌, ℕ, Bool, true, false, List, get_or, length, slice_index}
use Rattle.std.specs.Int.{bit_at}
use Rattle.dk_table.specs.declared.rows.marks.Marks.{Marks}

-- A byte that ends a cell: the separator, CR (13) or LF (10).
abbrev pub ends_cell : ℕ → ℕ → Bool
ends_cell separator byte = (byte == separator) || ((byte == 13) || (byte == 10))

-- the lanes of a vector are the 64 bytes from a place on
pub record HasBytes (bytes : List ℕ) (block : ℕ) (lanes : List ℕ) : Type 0 where
  pub long : length lanes ≡ 64
  pub each : (k : ℕ) → k < 64 → slice_index lanes k ≡ get_or bytes (block + k) 0

-- the bits of a mask stand for the bytes of a block that end cells
pub record IsMask (separator : ℕ) (bytes : List ℕ) (block mask : ℕ) : Type 0 where
  pub seen : (k : ℕ) → k < 64 → block + k < length bytes → ends_cell separator (get_or bytes (block + k) 0) ≡ true → bit_at mask k ≡ 1
  pub within : (k : ℕ) → k < 64 → bit_at mask k ≡ 1 → block + k < length bytes
  pub ends : (k : ℕ) → k < 64 → bit_at mask k ≡ 1 → ends_cell separator (get_or bytes (block + k) 0) ≡ true

-- From the place of the marks on, no byte in front of the block ends a cell, and the bits stand for the bytes of the block that do.
pub record AreAhead (separator : ℕ) (bytes : List ℕ) (marks : Marks) : Type 0 where
  pub begun : marks.place ≤ length bytes
  pub ordered : marks.block ≤ length bytes
  pub near : marks.place ≤ marks.block + 64
  pub none : (p : ℕ) → marks.place ≤ p → p < marks.block → ends_cell separator (get_or bytes p 0) ≡ false
  pub seen : (k : ℕ) → k < 64 → marks.place ≤ marks.block + k → marks.block + k < length bytes
      → ends_cell separator (get_or bytes (marks.block + k) 0) ≡ true
      → bit_at marks.ahead k ≡ 1
  pub low : (k : ℕ) → k < 64 → bit_at marks.ahead k ≡ 1 → marks.place ≤ marks.block + k
  pub within : (k : ℕ) → k < 64 → bit_at marks.ahead k ≡ 1 → marks.block + k < length bytes
  pub ends : (k : ℕ) → k < 64 → bit_at marks.ahead k ≡ 1 → ends_cell separator (get_or bytes (marks.block + k) 0) ≡ true

-- the first place from this one on at which a byte ends a cell, or the end of the bytes
pub record IsNextEnd (separator : ℕ) (bytes : List ℕ) (place end : ℕ) : Type 0 where
  pub low : place ≤ end
  pub high : end ≤ length bytes
  pub none : (p : ℕ) → place ≤ p → p < end → ends_cell separator (get_or bytes p 0) ≡ false
  pub ends : end < length bytes → ends_cell separator (get_or bytes end 0) ≡ true
