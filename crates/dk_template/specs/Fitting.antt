-- Which states fit.
use Rattle.std.specs.Prelude.{◌&&◌, ℤ, pos, Bool, true, false, not}
use Rattle.std.specs.Ordering.{int_eq}
use Rattle.dk_forms.specs.declared.states.State.{State}
use Rattle.dk_forms.specs.declared.states.State.TheVariants.{Empty, Broken, Holds, Least, Greatest, Ints, Truth, Code, Texts, One, Modulus, Spot, Straight, Span, Plane, Offset}

abbrev pub is_nonzero : ℤ → Bool
is_nonzero z = not (int_eq z (pos 0))

-- A state fits where it says something of all tuples. One value has no modulus yet, one point no line and a span no plane; a line
-- or a plane that one of the variables has no part in doesn't count, and neither does the offset 0.
abbrev pub fits : State → Bool
fits Empty = false
fits Broken = false
fits Holds = true
fits (Least k) = true
fits (Greatest k) = true
fits (Ints values) = true
fits (Truth b) = true
fits (Code h) = true
fits (Texts values) = true
fits (One v) = false
fits (Modulus m r) = true
fits (Spot x y) = false
fits (Straight a b c) = is_nonzero a && is_nonzero b
fits (Span x1 y1 z1 x2 y2 z2) = false
fits (Plane a b c d) = is_nonzero a && (is_nonzero b && is_nonzero c)
fits (Offset k) = is_nonzero k
