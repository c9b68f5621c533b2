use Rattle.std.proofs.Common.{◌≡◌, ◌++◌, drop}
use Rattle.dk_points.specs.Vars.{declared_vars}
use Rattle.dk_points.proofs.variables.declared_vars.Given as goal

abbrev pub invariant-loop-var : goal.invariant-loop-var
invariant-loop-var l = l.found ++ declared_vars (drop l.var-index l.vars) ≡ declared_vars l.vars
