use Rattle.std.proofs.Common.{◌≡◌, map, take}
use Rattle.std.specs.List.{enumerate_from, flat_map}
use Rattle.dk_engine.specs.Reading.Levels.{Whole}
use Rattle.dk_state.specs.Matching.{left_behind}
use Rattle.dk_state.specs.Saved.{kept_lines}
use Rattle.dk_state.proofs.matching.pass_engines.Given as goal

abbrev pub invariant-loop-point : goal.invariant-loop-point
invariant-loop-point l = l.rest ≡ left_behind (flat_map kept_lines (enumerate_from 0 (map (λ (engine : Whole). engine.kept) (take l.point l.engines)))) l.fn.rest
