use Rattle.std.specs.Prelude.{All}
use Rattle.std.proofs.Common.{ap, subst, sym}
use Rattle.dk_base.specs.Values.{values_of}
use Rattle.dk_base.specs.Values.Spelling.{IsWritten}
use Rattle.dk_bench.proofs.Written.{written_push}
use Rattle.dk_bench.proofs.drawing.values.Goals as goal

pub loop-number-preserved : goal.loop-number-preserved
loop-number-preserved c =
    subst (All IsWritten) (sym (ap values_of c.in_ok-push.ensures.items))
    (written_push c.loop-number.sample.items c.value.result c.loop-number.invariant c.value.ensures)
