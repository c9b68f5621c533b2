-- A relation of two numbers.
use Rattle.std.specs.Prelude.{ℤ, Bool, int_lt, int_le}
use Rattle.std.specs.Ordering.{int_eq}
use Rattle.dk_lanes.specs.declared.relation.Rel.{Rel}
use Rattle.dk_lanes.specs.declared.relation.Rel.TheVariants.{Eq, Lt, Le, Gt, Ge}

-- whether x is in the relation with y
abbrev pub relates : Rel → ℤ → ℤ → Bool
relates Eq x y = int_eq x y
relates Lt x y = int_lt x y
relates Le x y = int_le x y
relates Gt x y = int_lt y x
relates Ge x y = int_le y x
