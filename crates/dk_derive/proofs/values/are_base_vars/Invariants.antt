use Rattle.std.proofs.Common.{◌≡◌, drop}
use Rattle.std.specs.List.{list_all}
use Rattle.dk_base.specs.Shapes.{is_base_form}
use Rattle.dk_derive.proofs.values.are_base_vars.Given as goal

abbrev pub invariant-loop-var : goal.invariant-loop-var
invariant-loop-var l = list_all (λ v. is_base_form v.form) (drop l.var-index l.vars) ≡ list_all (λ v. is_base_form v.form) l.vars
