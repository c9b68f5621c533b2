use Rattle.std.proofs.Common.{◌≡◌, ◌++◌, take}
use Rattle.std.specs.List.{flat_map}
use Rattle.dk_state.specs.Declarations.{mapped_line}
use Rattle.dk_state.proofs.declarations.push_all_mapped.Given as goal

abbrev pub invariant-loop-parent : goal.invariant-loop-parent
invariant-loop-parent l = l.text ≡ l.fn.text ++ flat_map mapped_line (take l.parent-index l.parents)
