use Rattle.std.proofs.Common.{◌≡◌, ◌++◌}
use Rattle.dk_derive.proofs.Deriving.{sequences_left}
use Rattle.dk_derive.specs.Vars.{with_derived_vars}
use Rattle.dk_derive.proofs.derived.derive.Given as goal

abbrev pub invariant-loop-place : goal.invariant-loop-place
invariant-loop-place l = l.vars ++ sequences_left l.base l.place ≡ with_derived_vars l.base
