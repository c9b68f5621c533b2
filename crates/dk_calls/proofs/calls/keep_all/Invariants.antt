use Rattle.std.proofs.Common.{◌≡◌, take}
use Rattle.dk_base.specs.Values.{values_of}
use Rattle.dk_calls.proofs.calls.keep_all.Given as goal

abbrev pub invariant-loop-view : goal.invariant-loop-view
invariant-loop-view l = l.kept ≡ values_of (take l.view-index l.views)
