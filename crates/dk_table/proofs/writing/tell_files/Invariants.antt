use Rattle.std.proofs.Common.{◌≡◌, ◌++◌, drop, true}
use Rattle.dk_table.specs.Tables.{bodies_in}
use Rattle.dk_table.specs.Writing.{IsTold}
use Rattle.dk_table.specs.Writing.Forms.{all_fit, rows_text}
use Rattle.dk_table.proofs.writing.tell_files.Given as goal

abbrev pub invariant-loop-file : goal.invariant-loop-file
invariant-loop-file g l = record {
  told :
      IsTold (l.fn.gathered.text.items ++ rows_text l.form (bodies_in l.command 0 l.files))
      (l.gathered.text.items ++ rows_text l.form (bodies_in l.command l.file (drop l.file l.files)))
      (g.S.Sinks.written l.fn.sinks) (g.S.Sinks.written l.sinks) (g.S.Sinks.faults l.fn.sinks) (g.S.Sinks.faults l.sinks);
  fit : all_fit l.form (bodies_in l.command l.file (drop l.file l.files)) ≡ true;
}
