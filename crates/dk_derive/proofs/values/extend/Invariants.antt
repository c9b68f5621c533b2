use Rattle.std.proofs.Common.{◌≡◌, ◌++◌, All, drop, map}
use Rattle.std.specs.List.{enumerate_from}
use Rattle.dk_base.specs.Values.{values_of}
use Rattle.dk_base.specs.Values.Spelling.{IsWritten}
use Rattle.dk_derive.specs.Values.{value_by_form, values_by_form}
use Rattle.dk_derive.proofs.values.extend.Given as goal

abbrev pub invariant-loop-place : goal.invariant-loop-place
invariant-loop-place l = record {
  values : values_of l.values.items ++ map (λ v. value_by_form (values_of l.base) v.0 v.1.form) (enumerate_from l.place (drop l.place l.vars)) ≡ values_by_form l.vars (values_of l.base);
  written : All IsWritten (values_of l.base) → All IsWritten (values_of l.values.items);
}
