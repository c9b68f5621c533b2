use Rattle.std.proofs.Common.{◌≡◌, ◌++◌, flat_map, take}
use Rattle.dk_table.specs.Columns.Cells.{quoted_byte}
use Rattle.dk_table.proofs.columns.cells.push_quoted_bytes.Given as goal

abbrev pub invariant-loop-byte : goal.invariant-loop-byte
invariant-loop-byte l = l.text.items ≡ l.fn.text.items ++ flat_map quoted_byte (take l.byte-index l.cell)
