-- Points and planes of the code as numbers.
use Rattle.dk_arith.specs.declared.exact.Direction.{Direction}
use Rattle.dk_forms.specs.declared.plane.Point.{Point}
use Rattle.dk_forms.specs.declared.plane.Plane.{Plane}
use Rattle.dk_forms.specs.declared.plane.small.Step.{Step}
use Rattle.std.specs.Prelude.{ℤ, unsigned_abs, ◌≤◌, ◌^◌}

abbrev pub triple : Point → ℤ × ℤ × ℤ
triple p = (p.x, p.y, p.z)

abbrev pub quadruple : Plane → ℤ × ℤ × ℤ × ℤ
quadruple n = (n.a, n.b, n.c, n.d)

abbrev pub direction : Direction → ℤ × ℤ × ℤ
direction u = (u.a, u.b, u.c)

abbrev pub step : Step → ℤ × ℤ × ℤ
step u = (u.a, u.b, u.c)

-- as a difference of points has it
pub record IsGap (u : ℤ × ℤ × ℤ) : Type 0 where
  pub a : unsigned_abs u.0 ≤ 2 ^ 31
  pub b : unsigned_abs u.1 ≤ 2 ^ 31
  pub c : unsigned_abs u.2 ≤ 2 ^ 31
