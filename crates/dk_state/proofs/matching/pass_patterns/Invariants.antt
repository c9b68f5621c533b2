use Rattle.std.proofs.Common.{◌≡◌, take}
use Rattle.std.specs.List.{flat_map}
use Rattle.dk_state.specs.Kept.{pattern_line}
use Rattle.dk_state.specs.Matching.{left_behind}
use Rattle.dk_state.proofs.matching.pass_patterns.Given as goal

abbrev pub invariant-loop-pattern : goal.invariant-loop-pattern
invariant-loop-pattern l = l.rest ≡ left_behind (flat_map pattern_line (take l.pattern-index l.patterns)) l.fn.rest
