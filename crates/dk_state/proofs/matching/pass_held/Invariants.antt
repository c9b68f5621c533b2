use Rattle.std.proofs.Common.{◌≡◌, take}
use Rattle.std.specs.List.{flat_map}
use Rattle.dk_snapshot.specs.Patterns.{pattern_of}
use Rattle.dk_state.specs.Kept.{pattern_line}
use Rattle.dk_state.specs.Matching.{left_behind}
use Rattle.dk_state.proofs.matching.pass_held.Given as goal

abbrev pub invariant-loop-pattern : goal.invariant-loop-pattern
invariant-loop-pattern l = l.rest ≡ left_behind (flat_map (λ h. pattern_line (pattern_of l.leaders h)) (take l.pattern-index l.held)) l.fn.rest
