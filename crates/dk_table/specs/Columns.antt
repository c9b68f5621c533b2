-- What a column has.
pub mod Cells
pub mod Judging
use Rattle.std.specs.Prelude.{◌∷◌, [], Bool, ℕ, List, Option, Some, find, is_some, unwrap_or, option_map, if◌then◌else◌}
use Rattle.std.specs.List.{list_all}
use Rattle.dk_base.specs.Pieces.{is_empty}
use Rattle.dk_base.specs.declared.values.Value.{Value}
use Rattle.dk_base.specs.declared.values.Value.TheVariants as value
use Rattle.dk_lines.specs.Passing.{joined}
use Rattle.dk_write.specs.Records.{mark_text, value_text}
use Rattle.dk_table.specs.Columns.Cells.{decimal_of, quoted, truth, whole}
use Rattle.dk_table.specs.declared.columns.TheConstants.{CANDIDATES}
use Rattle.dk_table.specs.declared.columns.ColumnKind.{ColumnKind}
use Rattle.dk_table.specs.declared.columns.ColumnKind.TheVariants as kind

-- the value that a cell with bytes writes in a column of this kind, if it writes one
abbrev pub written_value : ColumnKind → List ℕ → Option Value
written_value kind.Whole cell = option_map (λ z. value.Int z) (whole cell)
written_value (kind.Truth words) cell = option_map (λ b. value.Bool b) (truth words cell)
written_value (kind.Decimal places) cell = option_map (λ z. value.Int z) (decimal_of places cell)
written_value kind.Text cell = Some (value.Str (quoted cell))

-- the value of a cell; an empty one is missing
abbrev pub cell_value : ColumnKind → List ℕ → Option Value
cell_value k cell = if is_empty cell then Some value.Missing else written_value k cell

-- each cell writes a value of this kind, or is empty
abbrev pub all_write : ColumnKind → List (List ℕ) → Bool
all_write k cells = list_all (λ cell. is_some (cell_value k cell)) cells

-- the first of these kinds that all of them write, or else texts
abbrev pub first_kind : List ColumnKind → List (List ℕ) → ColumnKind
first_kind kinds cells = unwrap_or (find (λ k. all_write k cells) kinds) kind.Text

-- The kind of a column by its cells. Where all are empty, it has texts.
abbrev pub kind_of_column : List (List ℕ) → ColumnKind
kind_of_column cells = if list_all is_empty cells then kind.Text else first_kind CANDIDATES cells

-- the two lines of a value in a record: its text, and its mark
abbrev pub value_lines : Value → List ℕ
value_lines v = joined (value_text v ∷ mark_text v ∷ [])

-- those of a value, or of the missing one, where there is none
abbrev pub option_lines : Option Value → List ℕ
option_lines v = value_lines (unwrap_or v value.Missing)
