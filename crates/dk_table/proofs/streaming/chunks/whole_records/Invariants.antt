use Rattle.dk_table.proofs.Chunked.{Found}
use Rattle.dk_table.proofs.streaming.chunks.whole_records.Given as goal

abbrev pub invariant-loop-place : goal.invariant-loop-place
invariant-loop-place l = Found l.separator l.bytes l.place l.whole l.stand
