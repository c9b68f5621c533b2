use Rattle.std.proofs.Common.{◌≡◌, ◌+◌, ◌++◌, length}
use Rattle.dk_table.specs.Streams.{first_refusal, rows_before, rows_steps, told_steps}
use Rattle.dk_table.specs.Writing.{IsTold}
use Rattle.dk_table.specs.Writing.Forms.{rows_text}
use Rattle.dk_table.proofs.streaming.sending.tell_left.Given as goal

abbrev pub invariant-rows : goal.invariant-rows
invariant-rows g l = record {
  told :
      IsTold (l.fn.gathered.text.items ++ rows_text l.body.form (rows_before (told_steps l.body.plan.kinds (rows_steps l.has_header l.body.names l.fn.rows.left))))
      (l.gathered.text.items ++ rows_text l.body.form (rows_before (told_steps l.body.plan.kinds (rows_steps l.has_header l.body.names l.rows.left))))
      (g.S.Sinks.written l.fn.sinks) (g.S.Sinks.written l.sinks) (g.S.Sinks.faults l.fn.sinks) (g.S.Sinks.faults l.sinks);
  refused :
      first_refusal (told_steps l.body.plan.kinds (rows_steps l.has_header l.body.names l.rows.left))
      ≡ first_refusal (told_steps l.body.plan.kinds (rows_steps l.has_header l.body.names l.fn.rows.left));
  counted : l.count + length l.rows.left ≡ length l.fn.rows.left;
}

abbrev pub decreases-rows : goal.decreases-rows
decreases-rows g l = length l.rows.left
