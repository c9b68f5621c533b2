use Rattle.std.proofs.Common.{◌≡◌, ◌++◌, length, true}
use Rattle.dk_table.specs.Writing.{IsTold}
use Rattle.dk_table.specs.Writing.Forms.{all_fit, rows_text}
use Rattle.dk_table.proofs.writing.tell_rows.Given as goal

abbrev pub invariant-rows : goal.invariant-rows
invariant-rows g l = record {
  told :
      IsTold (l.fn.gathered.text.items ++ rows_text l.form l.fn.rows.left) (l.gathered.text.items ++ rows_text l.form l.rows.left)
      (g.S.Sinks.written l.fn.sinks) (g.S.Sinks.written l.sinks) (g.S.Sinks.faults l.fn.sinks) (g.S.Sinks.faults l.sinks);
  fit : all_fit l.form l.rows.left ≡ true;
}

abbrev pub decreases-rows : goal.decreases-rows
decreases-rows g l = length l.rows.left
