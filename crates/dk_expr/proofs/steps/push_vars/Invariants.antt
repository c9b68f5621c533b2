use Rattle.std.proofs.Common.{◌≡◌, ◌++◌, drop, map}
use Rattle.dk_expr.specs.Following.{with_var}
use Rattle.dk_expr.proofs.steps.push_vars.Given as goal

abbrev pub invariant-loop-v : goal.invariant-loop-v
invariant-loop-v l = l.list ++ map (λ v. with_var l.role v l.found) (drop l.v-index l.vars) ≡ l.fn.list ++ map (λ v. with_var l.role v l.found) l.vars
