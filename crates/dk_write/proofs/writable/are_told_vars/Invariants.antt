use Rattle.std.proofs.Common.{◌≡◌, drop}
use Rattle.std.specs.List.{list_all}
use Rattle.dk_write.specs.Writable.{is_told_var}
use Rattle.dk_write.proofs.writable.are_told_vars.Given as goal

abbrev pub invariant-loop-var : goal.invariant-loop-var
invariant-loop-var l = list_all (is_told_var l.edges) (drop l.var-index l.vars) ≡ list_all (is_told_var l.edges) l.vars
