-- Rows, and where they stand.
use Rattle.std.specs.Prelude.{[], ℕ, List, map, slice_get, unwrap_or}

-- the place of its file, its number in the file, from 1, and its cells
pub record Placed : Type 0 where
  pub file : ℕ
  pub number : ℕ
  pub cells : List (List ℕ)

-- the cell of a row at a place; an empty one, where there is none
abbrev pub cell_at : ℕ → Placed → List ℕ
cell_at place row = unwrap_or (slice_get row.cells place) []

-- the cells of a column
abbrev pub cells_at : List Placed → ℕ → List (List ℕ)
cells_at rows place = map (cell_at place) rows
