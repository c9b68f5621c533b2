-- The numbers of the rows over sequences.
use Rattle.std.specs.Prelude.{◌≢◌, ◌≤◌}
use Rattle.dk_template.specs.declared.grammar.RowId.{RowId}

-- a row that takes a sequence: 35 to 66, and 68
abbrev pub IsSequenceRow : RowId → Type 0
IsSequenceRow r = (35 ≤ r.0) × (r.0 ≤ 68) × (r.0 ≢ 67)
