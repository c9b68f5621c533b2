use Rattle.std.specs.Prelude.{◌≡◌, filter, map}
use Rattle.dk_filters.specs.Facts.{is_partner}
use Rattle.dk_filters.specs.Found.{vars_below}
use Rattle.dk_filters.proofs.found.by_partner.Given as goal

abbrev pub invariant-loop-n : goal.invariant-loop-n
invariant-loop-n l = l.lists ≡ map (λ v. filter (is_partner l.partner v) (vars_below l.there)) (vars_below l.n)
