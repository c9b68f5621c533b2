use Rattle.std.proofs.Common.{◌≡◌, drop}
use Rattle.dk_table.specs.Streams.{first_refusal, rows_before, rows_steps, told_steps}
use Rattle.dk_table.specs.Streams.Pieces.{held_rows}
use Rattle.dk_table.specs.Writing.{IsTold}
use Rattle.dk_table.specs.Writing.Forms.{rows_text}
use Rattle.dk_table.proofs.streaming.sending.tell_held.Given as goal

abbrev pub invariant-loop-i : goal.invariant-loop-i
invariant-loop-i g l = record {
  told :
      IsTold (rows_text l.body.form (rows_before (told_steps l.body.plan.kinds (rows_steps l.command.has_header l.body.names (held_rows l.command.separator l.held)))))
      (rows_text l.body.form (rows_before (told_steps l.body.plan.kinds (rows_steps l.command.has_header l.body.names (held_rows l.command.separator (drop l.i l.held))))))
      (g.S.Sinks.written l.fn.sinks) (g.S.Sinks.written l.sinks) (g.S.Sinks.faults l.fn.sinks) (g.S.Sinks.faults l.sinks);
  refused :
      first_refusal (told_steps l.body.plan.kinds (rows_steps l.command.has_header l.body.names (held_rows l.command.separator (drop l.i l.held))))
      ≡ first_refusal (told_steps l.body.plan.kinds (rows_steps l.command.has_header l.body.names (held_rows l.command.separator l.held)));
}
