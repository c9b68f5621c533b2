use Rattle.std.proofs.Common.{below_more, refl}
use Rattle.dk_classes.proofs.steps.are_one.Goals as goal

pub loop-v-preserved : goal.loop-v-preserved
loop-v-preserved c = below_more _ _ c.loop-v.invariant (c.if-not-agree_in.ensures.0 refl)
