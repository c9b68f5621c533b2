use Rattle.std.proofs.Common.{◌≡◌, ◌++◌}
use Rattle.dk_base.specs.Shapes.{shape_of}
use Rattle.dk_derive.proofs.Deriving.{indices_left}
use Rattle.dk_derive.proofs.derived.push_by_indices.Given as goal

abbrev pub invariant-loop-place : goal.invariant-loop-place
invariant-loop-place l =
    l.vars ++ indices_left l.base (l.s.0, shape_of l.sequence) l.place ≡ l.fn.vars ++ indices_left l.base (l.s.0, shape_of l.sequence) 0
