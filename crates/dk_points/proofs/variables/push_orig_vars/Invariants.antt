use Rattle.std.proofs.Common.{◌≡◌, ◌++◌, drop, bytes_eq, filter_map}
use Rattle.indexmap.specs.IndexMap.{get_by}
use Rattle.dk_points.specs.VarsByName.{orig_by}
use Rattle.dk_points.proofs.variables.push_orig_vars.Given as goal

abbrev pub invariant-loop-var : goal.invariant-loop-var
invariant-loop-var l = l.all ++ filter_map (orig_by (λ name. get_by (λ k. bytes_eq name k.items) l.typed)) (drop l.var-index l.entry)
    ≡ l.fn.vars ++ filter_map (orig_by (λ name. get_by (λ k. bytes_eq name k.items) l.typed)) l.entry
