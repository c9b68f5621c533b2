-- Which variables can be compared.
use Rattle.std.specs.Prelude.{◌||◌, pos, Bool, int_lt}
use Rattle.std.specs.Ordering.{int_eq}
use Rattle.dk_base.specs.declared.kinds.Compar.{Compar}

-- the element numbers are equal, or one of them is negative
abbrev pub comparable : Compar → Compar → Bool
comparable a b = int_eq a.elem b.elem || (int_lt a.elem (pos 0) || int_lt b.elem (pos 0))
