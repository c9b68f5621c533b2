use Rattle.std.specs.Prelude.{◌≡◌, filter}
use Rattle.dk_filters.specs.Found.{vars_below}
use Rattle.dk_implications.specs.Conditions.{is_base_bool}
use Rattle.dk_implications.proofs.splits.base_bools.Given as goal

abbrev pub invariant-loop-n : goal.invariant-loop-n
invariant-loop-n l = l.list ≡ filter (is_base_bool l.infos) (vars_below l.n)
