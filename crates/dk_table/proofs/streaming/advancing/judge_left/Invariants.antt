use Rattle.std.proofs.Common.{◌≡◌, ◌+◌, length}
use Rattle.dk_table.specs.Streams.{rows_steps}
use Rattle.dk_table.specs.Streams.Stages.{judging_steps}
use Rattle.dk_table.proofs.streaming.advancing.judge_left.Given as goal

abbrev pub invariant-rows : goal.invariant-rows
invariant-rows l = record {
  judged : judging_steps l.judge (rows_steps l.has_header l.names l.rows.left) ≡ judging_steps l.fn.judge (rows_steps l.has_header l.names l.fn.rows.left);
  counted : l.count + length l.rows.left ≡ length l.fn.rows.left;
}

abbrev pub decreases-rows : goal.decreases-rows
decreases-rows l = length l.rows.left
