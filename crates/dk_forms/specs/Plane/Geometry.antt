-- The forms line and plane in the words of geometry.
use Rattle.std.specs.Prelude.{◌≡◌, ℤ, ◌+ℤ◌, ◌*ℤ◌, neg_ℤ, true, List}
use Rattle.dk_forms.specs.Laws.{IsIn}
use Rattle.dk_forms.specs.Plane.{IsPlane, in_space, plane_of}
use Rattle.dk_forms.specs.Plane.Line.{IsStraight, in_limit, line_of}
use Rattle.dk_forms.specs.declared.states.State.TheVariants.{Broken, Plane, Straight}

-- each of the values is so
abbrev pub Each : {X : Type 0} → (X → Type 0) → List X → Type 0
Each {X = X} P xs = (x : X) → IsIn x xs → P x

-- the point is on the line a * x + b * y + c = 0
abbrev pub IsOn : ℤ × ℤ × ℤ → ℤ × ℤ → Type 0
IsOn l p = l.0 *ℤ p.0 +ℤ l.1 *ℤ p.1 ≡ neg_ℤ l.2

-- the point is in the plane a * x + b * y + c * z + d = 0
abbrev pub IsInPlane : ℤ × ℤ × ℤ × ℤ → ℤ × ℤ × ℤ → Type 0
IsInPlane n p = n.0 *ℤ p.0 +ℤ n.1 *ℤ p.1 +ℤ n.2 *ℤ p.2 ≡ neg_ℤ n.3

-- ---- lines
-- the line of points is one on which all of them are
abbrev pub LinesHaveAllPoints : Type 0
LinesHaveAllPoints = (points : List (ℤ × ℤ)) (l : ℤ × ℤ × ℤ) → line_of points ≡ Straight l.0 l.1 l.2 → Each (IsOn l) points

-- and it is the only one
abbrev pub PointsHaveOneLine : Type 0
PointsHaveOneLine =
    (points : List (ℤ × ℤ)) (l m : ℤ × ℤ × ℤ) → line_of points ≡ Straight l.0 l.1 l.2 → IsStraight m → Each (IsOn m) points → m ≡ l

-- points within the limit have none where their state is Broken
abbrev pub BrokenPointsHaveNoLine : Type 0
BrokenPointsHaveNoLine =
    (points : List (ℤ × ℤ)) (m : ℤ × ℤ × ℤ) → line_of points ≡ Broken
    → Each (λ p. in_limit p ≡ true) points → IsStraight m → Each (IsOn m) points → ⊥

-- ---- planes
-- the plane of points is one in which all of them are
abbrev pub PlanesHaveAllPoints : Type 0
PlanesHaveAllPoints = (points : List (ℤ × ℤ × ℤ)) (n : ℤ × ℤ × ℤ × ℤ) → plane_of points ≡ Plane n.0 n.1 n.2 n.3 → Each (IsInPlane n) points

-- and it is the only one
abbrev pub PointsHaveOnePlane : Type 0
PointsHaveOnePlane =
    (points : List (ℤ × ℤ × ℤ)) (n m : ℤ × ℤ × ℤ × ℤ)
    → plane_of points ≡ Plane n.0 n.1 n.2 n.3 → IsPlane m → Each (IsInPlane m) points → m ≡ n

-- points within the limit have none where their state is Broken
abbrev pub BrokenPointsHaveNoPlane : Type 0
BrokenPointsHaveNoPlane =
    (points : List (ℤ × ℤ × ℤ)) (m : ℤ × ℤ × ℤ × ℤ) → plane_of points ≡ Broken
    → Each (λ p. in_space p ≡ true) points → IsPlane m → Each (IsInPlane m) points → ⊥
