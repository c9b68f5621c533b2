use Rattle.std.proofs.Common.{◌≡◌, take, fold}
use Rattle.std.specs.Int.{int_min, int_max}
use Rattle.dk_lanes.proofs.extremes.least_and_greatest.Given as goal

abbrev pub invariant-loop-x : goal.invariant-loop-x
invariant-loop-x l = record {
  least : l.least ≡ fold int_min l.fn.first (take l.x-index l.rest);
  greatest : l.greatest ≡ fold int_max l.fn.first (take l.x-index l.rest);
}
