use Rattle.std.proofs.Common.{◌≡◌, ◌++◌, take}
use Rattle.std.specs.List.{flat_map}
use Rattle.dk_state.specs.Kept.{class_line}
use Rattle.dk_state.proofs.kept.push_classes.Given as goal

abbrev pub invariant-loop-members : goal.invariant-loop-members
invariant-loop-members l = l.text ≡ l.fn.text ++ flat_map class_line (take l.members-index l.classes)
