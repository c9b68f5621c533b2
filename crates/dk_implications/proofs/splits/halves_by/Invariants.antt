use Rattle.std.specs.Prelude.{◌≡◌, All, [], map, take}
use Rattle.dk_hierarchy.specs.Samples.{all_vars_of}
use Rattle.dk_implications.specs.Standing.{AreOver, HalvesStandFor}
use Rattle.dk_implications.specs.declared.halves.Halves.{Halves}
use Rattle.dk_implications.proofs.splits.halves_by.Given as goal

abbrev pub invariant-loop-b : goal.invariant-loop-b
invariant-loop-b l = record {
  conditions : map (λ (halves : Halves). halves.condition) l.all.items ≡ take l.b-index l.bools;
  over : All (AreOver l.grammar (all_vars_of l.points l.p.0)) l.all.items;
  stand : All (λ (halves : Halves). HalvesStandFor halves []) l.all.items;
}
