use Rattle.std.specs.Prelude.{◌≡◌, filter}
use Rattle.dk_filters.specs.Facts.{is_partner}
use Rattle.dk_filters.specs.Found.{vars_below}
use Rattle.dk_filters.proofs.found.having_partner.Given as goal

abbrev pub invariant-loop-n : goal.invariant-loop-n
invariant-loop-n l = l.list ≡ filter (is_partner l.partner l.v) (vars_below l.n)
