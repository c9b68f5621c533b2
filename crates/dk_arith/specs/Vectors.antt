-- Points and directions in space, as three numbers.
use Rattle.std.specs.Prelude.{ℤ, ◌+ℤ◌, ◌-ℤ◌, ◌*ℤ◌}

abbrev pub minus : ℤ × ℤ × ℤ → ℤ × ℤ × ℤ → ℤ × ℤ × ℤ
minus q p = (q.0 -ℤ p.0, q.1 -ℤ p.1, q.2 -ℤ p.2)

abbrev pub dot : ℤ × ℤ × ℤ → ℤ × ℤ × ℤ → ℤ
dot n u = n.0 *ℤ u.0 +ℤ n.1 *ℤ u.1 +ℤ n.2 *ℤ u.2

-- a direction across two
abbrev pub cross : ℤ × ℤ × ℤ → ℤ × ℤ × ℤ → ℤ × ℤ × ℤ
cross u f = (u.1 *ℤ f.2 -ℤ f.1 *ℤ u.2, f.0 *ℤ u.2 -ℤ u.0 *ℤ f.2, u.0 *ℤ f.1 -ℤ f.0 *ℤ u.1)
