use Rattle.std.proofs.Common.{◌≡◌, ◌++◌, take}
use Rattle.std.specs.List.{flat_map}
use Rattle.dk_state.specs.Declarations.{decls_of, point_lines}
use Rattle.dk_state.proofs.declarations.push_points.Given as goal

abbrev pub invariant-loop-p : goal.invariant-loop-p
invariant-loop-p l = l.text ≡ l.fn.text ++ flat_map point_lines (decls_of (take l.p l.points))
