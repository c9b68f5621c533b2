use Rattle.std.proofs.Common.{◌≡◌, ◌++◌, flat_map, take}
use Rattle.dk_lines.specs.Passing.{joined}
use Rattle.dk_write.specs.Declarations.{var_lines}
use Rattle.dk_write.proofs.declarations.push_vars.Given as goal

abbrev pub invariant-loop-var : goal.invariant-loop-var
invariant-loop-var l = l.text ≡ l.fn.text ++ joined (flat_map (var_lines l.edges) (take l.var-index l.vars))
