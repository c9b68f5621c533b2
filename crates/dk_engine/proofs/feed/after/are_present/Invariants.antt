use Rattle.std.specs.Prelude.{◌≡◌, drop}
use Rattle.dk_base.specs.Values.{values_of}
use Rattle.dk_instances.specs.Fits.{is_whole}
use Rattle.dk_engine.proofs.feed.after.are_present.Given as goal

abbrev pub invariant-loop-value : goal.invariant-loop-value
invariant-loop-value l = is_whole (values_of (drop l.value-index l.tuple)) ≡ is_whole (values_of l.tuple)
