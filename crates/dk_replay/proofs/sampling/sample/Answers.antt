use Rattle.std.specs.Prelude.{All, List}
use Rattle.std.proofs.Common.{subst, sym}
use Rattle.dk_base.specs.Values.{values_of}
use Rattle.dk_base.specs.Values.Spelling.{IsWritten}
use Rattle.dk_base.specs.declared.values.View.{View}
use Rattle.dk_replay.proofs.Drawing.{value_more}
use Rattle.dk_replay.proofs.sampling.sample.Goals as goal

pub loop-place-preserved : goal.loop-place-preserved
loop-place-preserved c =
    subst (λ (vs : List View). All IsWritten (values_of vs)) (sym c.in_ok-push.ensures.ok) (value_more c.loop-place.sample c.in_ok-value.field-0 c.loop-place.invariant c.in_ok-value.ensures)
