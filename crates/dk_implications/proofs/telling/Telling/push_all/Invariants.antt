use Rattle.std.specs.Prelude.{◌≡◌, ◌++◌, All, List, flat_map, take}
use Rattle.dk_base.specs.declared.values.Value.{Value}
use Rattle.dk_hierarchy.specs.Standing.{EngineStandsFor}
use Rattle.dk_implications.specs.Standing.{HalvesStandFor}
use Rattle.dk_implications.specs.Telling.{lines_of}
use Rattle.dk_implications.specs.declared.halves.Halves.{Halves}
use Rattle.dk_implications.proofs.telling.Telling.push_all.Given as goal

abbrev pub invariant-loop-halves : goal.invariant-loop-halves
invariant-loop-halves l =
    (samples : List (List Value)) → EngineStandsFor l.self.whole.now samples → All (λ (halves : Halves). HalvesStandFor halves samples) l.all
    → l.text ≡ l.fn.text ++ flat_map (λ (halves : Halves). lines_of l.self.whole.now.grammar l.self.least l.self.whole.now.infos samples halves.condition) (take l.halves-index l.all)
