use Rattle.std.proofs.Common.{◌≡◌, [], drop, map}
use Rattle.dk_state.specs.Given.{all_new}
use Rattle.dk_state.proofs.given.names_differ.Given as goal

abbrev pub invariant-loop-var : goal.invariant-loop-var
invariant-loop-var l = all_new l.names (map (λ v. v.name) (drop l.var-index l.vars)) ≡ all_new [] (map (λ v. v.name) l.vars)
