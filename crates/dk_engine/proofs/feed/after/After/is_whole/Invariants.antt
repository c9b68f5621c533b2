use Rattle.std.specs.Prelude.{◌≡◌, drop}
use Rattle.dk_base.specs.Values.{values_of}
use Rattle.dk_instances.specs.Fits.{is_whole, tuple_in}
use Rattle.dk_engine.proofs.feed.after.After.is_whole.Given as goal

abbrev pub invariant-loop-v : goal.invariant-loop-v
invariant-loop-v l = is_whole (tuple_in (drop l.v-index l.vars) (values_of l.sample)) ≡ is_whole (tuple_in l.vars (values_of l.sample))
