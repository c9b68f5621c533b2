use Rattle.std.specs.Prelude.{◌≡◌, ◌++◌, drop, take}
use Rattle.dk_merging.specs.Fronts.{front_from, front_of}
use Rattle.dk_merging.proofs.fronts.front_of.Given as goal

abbrev pub invariant-loop-place : goal.invariant-loop-place
invariant-loop-place l = front_of l.bytes ≡ take l.place l.bytes ++ front_from l.begins (drop l.place l.bytes)
