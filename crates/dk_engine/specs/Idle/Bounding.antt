-- Bounds of numbers and comparisons of two that a number, or two, leave as they are.
use Rattle.dk_template.specs.Numbers as number
use Rattle.std.specs.Prelude.{◌==◌, ℕ, ℤ, Bool, true, false, if◌then◌else◌, int_le, int_lt, not}
use Rattle.std.specs.Ordering.{int_eq}
use Rattle.dk_forms.specs.declared.states.State.{State}
use Rattle.dk_forms.specs.declared.states.State.TheVariants.{Greatest, Holds, Least}

-- a least value that isn't above the number
abbrev pub keeps_least : State → ℤ → Bool
keeps_least (Least l) x = int_le l x
keeps_least _ x = false

-- a greatest value that isn't below it
abbrev pub keeps_greatest : State → ℤ → Bool
keeps_greatest (Greatest g) x = int_le x g
keeps_greatest _ x = false

abbrev pub is_holds : State → Bool
is_holds Holds = true
is_holds _ = false

-- what the row of this number, one from EqInt to Le, says of two numbers
abbrev pub compares : ℕ → ℤ → ℤ → Bool
compares n x y =
    if n == number.lt then int_lt x y
    else (if n == number.ne_int then not (int_eq x y) else (if n == number.eq_int then int_eq x y else int_le x y))
