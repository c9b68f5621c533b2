-- Values of which each is less than the next.
use Rattle.std.specs.Prelude.{Bool, List, drop, zip}
use Rattle.std.specs.List.{list_all}
use Rattle.std.specs.declared.cmp.Ordering.{Ordering}
use Rattle.std.specs.Ordering.{is_lt}

abbrev pub ascends : {K : Type 0} → (K → K → Ordering) → List K → Bool
ascends R xs = list_all (λ (p : _ × _). is_lt (R p.0 p.1)) (zip xs (drop 1 xs))
