-- What is written of a table is read as its declaration and its rows.
use Rattle.std.specs.Prelude.{◌≡◌, ◌≤◌, ◌-◌, ◌++◌, ◌∷◌, [], ℕ, All, Bool, false, true, List, None, Ok, Some, length, map, replicate, unwrap_or}
use Rattle.std.specs.List.{zip}
use Rattle.dk_base.specs.declared.values.Value.{Value}
use Rattle.dk_blocks.specs.Blocks.{groups_of}
use Rattle.dk_blocks.specs.History.{History, effect_of, nothing_by}
use Rattle.dk_blocks.specs.Reading.{after_all}
use Rattle.dk_decl.specs.Headers.{awaits_word}
use Rattle.dk_decl.specs.declared.decls.PointDecl.{PointDecl}
use Rattle.dk_lines.specs.Left.{lined, lines_of, numbered, pieces}
use Rattle.dk_points.specs.Table.{added_points}
use Rattle.dk_template.specs.declared.grammar.Grammar.{Grammar}
use Rattle.dk_write.specs.Course.{done_all}
use Rattle.dk_write.specs.Texts.{Write, trace_text}
use Rattle.dk_table.specs.Streams.{stream_at}
use Rattle.dk_table.specs.Tables.{first_of, names_of, rows_in, rows_of_all}
use Rattle.dk_table.specs.Tables.PlacedRows.{Placed}
use Rattle.dk_table.specs.Traces.{declaration_of, judged, kinds_of, trace_at, trace_of, value_at}
use Rattle.dk_table.specs.declared.columns.ColumnKind.{ColumnKind}
use Rattle.dk_table.specs.declared.words.command.Command.{Command}

-- The text of a table's trace does what its blocks are meant to do, one after another, whatever was read before it: the header lines, the
-- declaration, and a record for each row.
abbrev pub TablesAreRead : Type 0
TablesAreRead =
    (c : Command) (name : List ℕ) (files : List (List ℕ)) (ws : List Write) → trace_of c name files ≡ Ok ws
    → (ignores : Bool) (h : History) → awaits_word h.header ≡ false
    → after_all ignores (effect_of ignores h) (groups_of (numbered 0 (lines_of (trace_text ws)))) ≡ done_all ignores h 1 ws

-- ---- rows as samples

-- what the files' tables have: names of columns, and rows
pub record HasTable (c : Command) (files : List (List ℕ)) : Type 0 where
  pub names : List (List ℕ)
  pub rows : List Placed
  pub named : names_of c.has_header (rows_in c.separator 0 (first_of files)) ≡ Ok names
  pub read : rows_of_all c names 0 files ≡ Ok rows

-- what the cells of a row write, in columns of these kinds; an empty one is missing
abbrev pub row_values : List ColumnKind → Placed → List Value
row_values kinds row = map value_at (zip kinds row.cells)

-- A history of this one declaration: its point is the last, behind the implicit exit that a subexit's name makes, and has these samples. No
-- other has one.
pub record HasOnly (h : History) (d : PointDecl) (samples : List (List Value)) : Type 0 where
  pub table : h.table ≡ added_points [] d
  pub sampled : h.samples ≡ replicate (length h.table - 1) [] ++ samples ∷ []

-- a file's lines and its bytes are no more than a reader takes
pub record KeepsLimits (line room : ℕ) (bytes : List ℕ) : Type 0 where
  pub lines : All (λ p. length p.bytes ≤ line) (pieces bytes)
  pub whole : length bytes ≤ room

-- The trace of a table of at most 1,024 columns, read alone and within a reader's limits, is read to its end. The history then has the
-- point that the columns declare, and for each row, in order, one sample: the values that the row's cells write.
abbrev pub RowsAreSamples : Type 0
RowsAreSamples =
    (c : Command) (name : List ℕ) (files : List (List ℕ)) (ws : List Write) → trace_of c name files ≡ Ok ws
    → (t : HasTable c files)
    × (length t.names ≤ 1024 → (line room : ℕ) → KeepsLimits line room (trace_text ws) → (ignores : Bool) (grammar : Grammar)
    → let kinds = kinds_of (judged c.types t.rows) (length t.names) in
    let d = declaration_of (unwrap_or c.point name) t.names kinds in
    (h : History)
    × (after_all ignores (effect_of ignores (nothing_by grammar)) (groups_of (lined line room 0 true (trace_text ws))) ≡ Ok h)
    × HasOnly h d (map (row_values kinds) t.rows))

-- ---- rows that are written as they come
-- Where nothing is refused, what is written is the trace of the tables; and nothing is, where there is one.
abbrev pub StreamsAreTraces : Type 0
StreamsAreTraces =
    (c : Command) (point : List ℕ) (types : ℕ) (files : List (List ℕ)) → c.types ≡ Some types
    → ((stream_at c point types files).refusal ≡ None → trace_at c point files ≡ Ok (stream_at c point types files).written)
    × ((ws : List Write) → trace_at c point files ≡ Ok ws → stream_at c point types files ≡ record { written = ws; refusal = None })
