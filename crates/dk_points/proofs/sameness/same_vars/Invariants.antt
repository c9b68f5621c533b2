use Rattle.std.proofs.Common.{◌≡◌, drop}
use Rattle.std.specs.Cmp.Lexicographic.{pointwise}
use Rattle.dk_points.specs.Sameness.{same_var}
use Rattle.dk_points.proofs.sameness.same_vars.Given as goal

abbrev pub invariant-loop-place : goal.invariant-loop-place
invariant-loop-place l = pointwise same_var (drop l.place l.a) (drop l.place l.b) ≡ pointwise same_var l.a l.b
