use Rattle.std.proofs.Common.{◌≡◌, ◌++◌, take}
use Rattle.std.specs.List.{flat_map}
use Rattle.dk_state.specs.Declarations.{var_lines}
use Rattle.dk_state.proofs.declarations.push_all_vars.Given as goal

abbrev pub invariant-loop-var : goal.invariant-loop-var
invariant-loop-var l = l.text ≡ l.fn.text ++ flat_map var_lines (take l.var-index l.vars)
