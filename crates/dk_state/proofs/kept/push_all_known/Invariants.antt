use Rattle.std.proofs.Common.{◌≡◌, ◌++◌, take}
use Rattle.std.specs.List.{flat_map}
use Rattle.dk_state.specs.Kept.{known_line}
use Rattle.dk_state.proofs.kept.push_all_known.Given as goal

abbrev pub invariant-loop-known : goal.invariant-loop-known
invariant-loop-known l = l.text ≡ l.fn.text ++ flat_map known_line (take l.known-index l.all)
