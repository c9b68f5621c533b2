-- Rows that are read in one way or the other.
use Rattle.dk_table.specs.Tables.Cursors.{Cursor}
use Rattle.dk_table.specs.declared.rows.Source.{Source}
use Rattle.dk_table.specs.declared.rows.Source.TheVariants as source

abbrev pub cursor_of : Source → Cursor
cursor_of (source.Lines lines) = lines
cursor_of (source.Records records) = records.value
