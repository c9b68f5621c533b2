use Rattle.std.proofs.Common.{◌≡◌, ◌++◌, drop}
use Rattle.dk_derive.proofs.derived.copy_vars.Given as goal

abbrev pub invariant-loop-var : goal.invariant-loop-var
invariant-loop-var l = l.copy ++ drop l.var-index l.vars ≡ l.vars
