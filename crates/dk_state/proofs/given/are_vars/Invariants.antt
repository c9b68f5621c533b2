use Rattle.std.proofs.Common.{◌≡◌, drop}
use Rattle.std.specs.List.{list_all}
use Rattle.dk_state.specs.Given.{is_given_var}
use Rattle.dk_state.proofs.given.are_vars.Given as goal

abbrev pub invariant-loop-var : goal.invariant-loop-var
invariant-loop-var l = list_all (is_given_var l.edges) (drop l.var-index l.vars) ≡ list_all (is_given_var l.edges) l.vars
