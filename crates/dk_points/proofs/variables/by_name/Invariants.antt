use Rattle.std.proofs.Common.{◌≡◌, ℕ, List, take, bytes_eq}
use Rattle.indexmap.specs.IndexMap.{get_by}
use Rattle.dk_points.specs.VarsByName.{typed_in}
use Rattle.dk_points.proofs.variables.by_name.Given as goal

abbrev pub invariant-loop-var : goal.invariant-loop-var
invariant-loop-var l = (name : List ℕ) → get_by (λ k. bytes_eq name k.items) l.found ≡ typed_in (take l.var-index l.vars) name
