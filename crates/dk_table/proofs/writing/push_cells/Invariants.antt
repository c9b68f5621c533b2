use Rattle.std.proofs.Common.{◌≡◌, ◌++◌, drop, flat_map, is_some, take}
use Rattle.std.specs.List.{list_all, zip}
use Rattle.dk_table.specs.Columns.{cell_value}
use Rattle.dk_table.specs.Writing.Forms.{cell_lines, line_at}
use Rattle.dk_table.proofs.writing.push_cells.Given as goal

abbrev pub invariant-loop-i : goal.invariant-loop-i
invariant-loop-i l = record {
  told :
      l.gathered.text.items
      ≡ l.fn.gathered.text.items ++ (flat_map cell_lines (take l.i (zip l.form.headings l.rows.row.cells)) ++ line_at (take l.width l.form.headings) l.i);
  fit :
      list_all (λ e. is_some (cell_value e.0.kind e.1)) (drop l.i (zip l.form.headings l.rows.row.cells))
      ≡ list_all (λ e. is_some (cell_value e.0.kind e.1)) (zip l.form.headings l.rows.row.cells);
}
