use Rattle.std.specs.Prelude.{◌≡◌, ◌++◌}
use Rattle.std.specs.List.{AllZip, zip}
use Rattle.dk_engine.specs.Reading.Levels.{Whole}
use Rattle.dk_merging.specs.Engines.{AreAllAlike, IsEngineOfBoth}
use Rattle.dk_merging.proofs.engines.engines_of_both.Given as goal

abbrev pub invariant-loop-one : goal.invariant-loop-one
invariant-loop-one l = record {
  so_far : AllZip (λ (pair : Whole × Whole) engine. IsEngineOfBoth pair.0 pair.1 engine) l.yielded l.engines;
  rest : l.yielded ++ zip l.one-iterator.a.rest.items l.one-iterator.b.rest.items ≡ zip l.fn.first l.fn.second;
  alike : AreAllAlike l.one-iterator.a.rest.items l.one-iterator.b.rest.items;
}
