-- The text of records, row by row.
use Rattle.std.specs.Prelude.{◌≡◌, ◌++◌, ◌∷◌, [], ℕ, Bool, List, codes, drop, flat_map, get_or, is_some, map}
use Rattle.std.specs.List.{list_all, zip}
use Rattle.dk_base.specs.Names.{escaped}
use Rattle.dk_base.specs.declared.values.Value.TheVariants as value
use Rattle.dk_decl.specs.declared.decls.PointDecl.{PointDecl}
use Rattle.dk_decl.specs.declared.decls.VarDecl.{VarDecl}
use Rattle.dk_lines.specs.Passing.{joined}
use Rattle.dk_table.specs.Columns.{cell_value, option_lines, value_lines}
use Rattle.dk_table.specs.Tables.PlacedRows.{Placed}
use Rattle.dk_table.specs.declared.columns.ColumnKind.{ColumnKind}
use Rattle.dk_table.specs.declared.writing.Form.{Form}
use Rattle.dk_table.specs.declared.writing.Heading.{Heading}
use Rattle.dk_table.specs.declared.writing.tails.Tail.{Tail}

abbrev pub heading_of : VarDecl × ColumnKind → Heading
heading_of e = record { line = joined (escaped e.0.name ∷ []); kind = e.1 }

-- What stands behind a value's text, and from a missing one's text on, where this follows its lines.
abbrev pub tail_of : List ℕ → Tail
tail_of next = record { told = (10 ∷ joined (codes "1" ∷ [])) ++ next; untold = value_lines value.Missing ++ next }

-- For each column but the last: the line of the next one's name follows.
abbrev pub tails_of : List Heading → List Tail
tails_of headings = map (λ h. tail_of h.line) (drop 1 headings)

abbrev pub form_by : List ℕ → List Heading → Form
form_by point headings = record { point = point; headings = headings; tails = tails_of headings; last = tail_of [] }

-- what the records of a point with columns of these kinds have in common
abbrev pub form_of : PointDecl → List ColumnKind → Form
form_of d kinds = form_by (joined (escaped d.name ∷ [])) (map heading_of (zip d.vars kinds))

-- the line of the name of the column at a place; nothing where there is none
abbrev pub line_at : List Heading → ℕ → List ℕ
line_at headings place = get_or (map (λ h. h.line) headings) place []

-- the tails are those of the headings
abbrev pub IsFormed : Form → Type 0
IsFormed form = form ≡ form_by form.point form.headings

-- the three lines of a cell
abbrev pub cell_lines : Heading × List ℕ → List ℕ
cell_lines e = e.0.line ++ option_lines (cell_value e.0.kind e.1)

-- the lines of a row's record, and a blank line (10) behind them
abbrev pub row_text : Form → Placed → List ℕ
row_text form row = form.point ++ (flat_map cell_lines (zip form.headings row.cells) ++ 10 ∷ [])

abbrev pub rows_text : Form → List Placed → List ℕ
rows_text form rows = flat_map (row_text form) rows

-- each cell of a row writes a value of its column's kind
abbrev pub row_fits : Form → Placed → Bool
row_fits form row = list_all (λ e. is_some (cell_value e.0.kind e.1)) (zip form.headings row.cells)

-- so does each of all rows
abbrev pub all_fit : Form → List Placed → Bool
all_fit form rows = list_all (row_fits form) rows
