-- Finding the kinds of columns row by row.
use Rattle.std.specs.Prelude.{◌&&◌, ℕ, zero, suc, true, List, [], ◌∷◌, Option, Some, None, Result, Ok, filter, is_some, map, replicate, if◌then◌else◌}
use Rattle.std.specs.List.{enumerate_from}
use Rattle.dk_base.specs.Pieces.{is_empty}
use Rattle.dk_table.specs.Columns.{cell_value}
use Rattle.dk_table.specs.Tables.PlacedRows.{Placed, cell_at}
use Rattle.dk_table.specs.Tables.{◌>>=◌}
use Rattle.dk_table.specs.declared.columns.TheConstants.{CANDIDATES}
use Rattle.dk_table.specs.declared.columns.ColumnKind.{ColumnKind}
use Rattle.dk_table.specs.declared.columns.ColumnKind.TheVariants as kind
use Rattle.dk_table.specs.declared.faults.Refusal.{Refusal}
use Rattle.dk_table.specs.declared.columns.judging.Column.{Column}

-- how many rows are still to be looked at, where it isn't all, and what is known of the columns
pub record Judged : Type 0 where
  pub left : Option ℕ
  pub columns : List Column

-- ---- a column
abbrev pub fresh_column : Column
fresh_column = record { kinds = CANDIDATES; is_empty = true }

-- with one cell more
abbrev pub with_cell : Column → List ℕ → Column
with_cell column cell = record {
  kinds = filter (λ k. is_some (cell_value k cell)) column.kinds;
  is_empty = column.is_empty && is_empty cell;
}

abbrev pub first_or_text : List ColumnKind → ColumnKind
first_or_text [] = kind.Text
first_or_text (k ∷ ks) = k

-- the kind that its cells have
abbrev pub kind_by : Column → ColumnKind
kind_by column = if column.is_empty then kind.Text else first_or_text column.kinds

-- ---- all columns
abbrev pub fresh : Option ℕ → ℕ → Judged
fresh types columns = record { left = types; columns = replicate columns fresh_column }

-- with the cells of one row more
abbrev pub with_row : List Column → Placed → List Column
with_row columns row = map (λ e. with_cell e.1 (cell_at e.0 row)) (enumerate_from 0 columns)

abbrev pub judging_by : Option ℕ → Judged → Placed → Judged
judging_by None judged row = record judged { columns = with_row judged.columns row }
judging_by (Some zero) judged row = judged
judging_by (Some (suc n)) judged row = record { left = Some n; columns = with_row judged.columns row }

-- with one row more, where one is still to be looked at
abbrev pub judging : Judged → Placed → Judged
judging judged row = judging_by judged.left judged row

-- with all these
abbrev pub judging_all : Judged → List Placed → Judged
judging_all judged [] = judged
judging_all judged (row ∷ rows) = judging_all (judging judged row) rows

-- with these rows, where none is refused
abbrev pub judging_rows : Judged → Result (List Placed) Refusal → Result Judged Refusal
judging_rows judged rows = rows >>= λ all. Ok (judging_all judged all)
