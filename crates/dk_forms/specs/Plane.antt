-- The form plane: the stretch of a line that all points lie on, or the plane through all points.
pub mod Geometry
pub mod Line
pub mod Points
use Rattle.std.specs.Prelude.{[], ◌≡◌, ℤ, ◌+ℤ◌, ◌*ℤ◌, neg_ℤ, ◌<ℤ◌, ◌≤ℤ◌, ◌≤◌, ◌^◌, ◌⊎◌, unsigned_abs, int_div, int_lt, int_le, Bool, ◌&&◌, if◌then◌else◌, List, ◌∷◌, fold, nat_le}
use Rattle.std.specs.Ordering.{int_eq}
use Rattle.std.specs.List.{list_all}
use Rattle.dk_arith.specs.Directions.{IsNormal3, divisor}
use Rattle.dk_forms.specs.Known.{Known, both, broken, fact, nothing}
use Rattle.dk_arith.specs.Vectors.{cross, minus}
use Rattle.dk_forms.specs.Known.Limited.{limited_of}
use Rattle.dk_forms.specs.declared.states.State.{State}
use Rattle.dk_forms.specs.declared.states.State.TheVariants.{Empty, Broken, Span, Plane}

-- the points between two, or the plane of the points with a * x + b * y + c * z + d = 0
pub data Flat : Type 0 where
  span : (ℤ × ℤ × ℤ) × (ℤ × ℤ × ℤ) → Flat
  plane : ℤ × ℤ × ℤ × ℤ → Flat

-- the first isn't after the second: by x, then y, then z
abbrev pub Before : ℤ × ℤ × ℤ → ℤ × ℤ × ℤ → Type 0
Before p q = (p.0 <ℤ q.0) ⊎ ((p.0 ≡ q.0) × ((p.1 <ℤ q.1) ⊎ ((p.1 ≡ q.1) × (p.2 ≤ℤ q.2))))

abbrev pub is_before : ℤ × ℤ × ℤ → ℤ × ℤ × ℤ → Bool
is_before p q = if int_eq p.0 q.0 then (if int_eq p.1 q.1 then int_le p.2 q.2 else int_lt p.1 q.1) else int_lt p.0 q.0

abbrev pub lesser : ℤ × ℤ × ℤ → ℤ × ℤ × ℤ → ℤ × ℤ × ℤ
lesser p q = if is_before p q then p else q

abbrev pub greater : ℤ × ℤ × ℤ → ℤ × ℤ × ℤ → ℤ × ℤ × ℤ
greater p q = if is_before p q then q else p

abbrev pub are_parallel : ℤ × ℤ × ℤ → ℤ × ℤ × ℤ → Bool
are_parallel u f = int_eq (u.0 *ℤ f.1) (f.0 *ℤ u.1) && (int_eq (u.0 *ℤ f.2) (f.0 *ℤ u.2) && int_eq (u.1 *ℤ f.2) (f.1 *ℤ u.2))

-- the three points lie on one line
abbrev pub are_aligned : ℤ × ℤ × ℤ → ℤ × ℤ × ℤ → ℤ × ℤ × ℤ → Bool
are_aligned p q v = are_parallel (minus q p) (minus v p)

abbrev pub is_in_plane : ℤ × ℤ × ℤ × ℤ → ℤ × ℤ × ℤ → Bool
is_in_plane n p = int_eq (n.0 *ℤ p.0 +ℤ n.1 *ℤ p.1 +ℤ n.2 *ℤ p.2) (neg_ℤ n.3)

abbrev pub same_plane : ℤ × ℤ × ℤ × ℤ → ℤ × ℤ × ℤ × ℤ → Bool
same_plane n m = int_eq n.0 m.0 && (int_eq n.1 m.1 && (int_eq n.2 m.2 && int_eq n.3 m.3))

-- the plane across a direction, through a point
abbrev pub plane_across : ℤ × ℤ × ℤ → ℤ × ℤ × ℤ → ℤ × ℤ × ℤ × ℤ
plane_across n p = (n.0, n.1, n.2, neg_ℤ (n.0 *ℤ p.0 +ℤ n.1 *ℤ p.1 +ℤ n.2 *ℤ p.2))

-- the plane through three points that aren't on one line
unfoldable pub plane_through : ℤ × ℤ × ℤ → ℤ × ℤ × ℤ → ℤ × ℤ × ℤ → ℤ × ℤ × ℤ × ℤ
plane_through p q v =
    let k = cross (minus q p) (minus v p) in
    let d = divisor k.0 k.1 k.2 in
    plane_across (int_div k.0 d, int_div k.1 d, int_div k.2 d) p

-- the first of the points that isn't on the line through p and q, and p where there is none
abbrev pub first_off : ℤ × ℤ × ℤ → ℤ × ℤ × ℤ → List (ℤ × ℤ × ℤ) → ℤ × ℤ × ℤ
first_off p q [] = p
first_off p q (v ∷ vs) = if are_aligned p q v then first_off p q vs else v

-- the plane through p, q and v, if all points are in it
abbrev pub plane_of_all : ℤ × ℤ × ℤ × ℤ → List (ℤ × ℤ × ℤ) → Known Flat
plane_of_all n points = if list_all (is_in_plane n) points then fact (plane n) else broken

-- the points between the least and the greatest if all points are on one line, else the plane
abbrev pub plane_between : ℤ × ℤ × ℤ → ℤ × ℤ × ℤ → List (ℤ × ℤ × ℤ) → Known Flat
plane_between least greatest points =
    if are_aligned least greatest (first_off least greatest points) then fact (span (least, greatest))
    else plane_of_all (plane_through least greatest (first_off least greatest points)) points

unfoldable pub plane_from : ℤ × ℤ × ℤ → List (ℤ × ℤ × ℤ) → Known Flat
plane_from p ps = plane_between (fold lesser p ps) (fold greater p ps) (p ∷ ps)

abbrev pub plane_meet : Flat → Flat → Known Flat
plane_meet (span s) (span t) = plane_from s.0 (s.1 ∷ t.0 ∷ t.1 ∷ [])
plane_meet (span s) (plane n) = if is_in_plane n s.0 && is_in_plane n s.1 then fact (plane n) else broken
plane_meet (plane n) (span s) = if is_in_plane n s.0 && is_in_plane n s.1 then fact (plane n) else broken
plane_meet (plane n) (plane m) = if same_plane n m then fact (plane n) else broken

abbrev pub in_space : ℤ × ℤ × ℤ → Bool
in_space p = nat_le (unsigned_abs p.0) (2 ^ 30) && (nat_le (unsigned_abs p.1) (2 ^ 30) && nat_le (unsigned_abs p.2) (2 ^ 30))

abbrev pub plane_known_of : List (ℤ × ℤ × ℤ) → Known Flat
plane_known_of points = limited_of in_space plane_from points

pub record IsPoint (p : ℤ × ℤ × ℤ) : Type 0 where
  pub x : unsigned_abs p.0 ≤ 2 ^ 30
  pub y : unsigned_abs p.1 ≤ 2 ^ 30
  pub z : unsigned_abs p.2 ≤ 2 ^ 30

pub record IsSpan (s : (ℤ × ℤ × ℤ) × (ℤ × ℤ × ℤ)) : Type 0 where
  pub first : IsPoint s.0
  pub last : IsPoint s.1
  pub ordered : Before s.0 s.1

pub record IsPlane (n : ℤ × ℤ × ℤ × ℤ) : Type 0 where
  pub normal : IsNormal3 n.0 n.1 n.2
  pub a : unsigned_abs n.0 ≤ 2 ^ 63
  pub b : unsigned_abs n.1 ≤ 2 ^ 63
  pub c : unsigned_abs n.2 ≤ 2 ^ 63
  pub d : unsigned_abs n.3 ≤ 2 ^ 95

abbrev pub IsPlaneState : State → Type 0
IsPlaneState Empty = Unit {0}
IsPlaneState Broken = Unit {0}
IsPlaneState (Span x1 y1 z1 x2 y2 z2) = IsSpan ((x1, y1, z1), (x2, y2, z2))
IsPlaneState (Plane a b c d) = IsPlane (a, b, c, d)
IsPlaneState _ = ⊥

abbrev pub plane_known : State → Known Flat
plane_known Empty = nothing
plane_known (Span x1 y1 z1 x2 y2 z2) = fact (span ((x1, y1, z1), (x2, y2, z2)))
plane_known (Plane a b c d) = fact (plane (a, b, c, d))
plane_known _ = broken

abbrev pub plane_state : Known Flat → State
plane_state nothing = Empty
plane_state broken = Broken
plane_state (fact (span s)) = Span s.0.0 s.0.1 s.0.2 s.1.0 s.1.1 s.1.2
plane_state (fact (plane n)) = Plane n.0 n.1 n.2 n.3

abbrev pub plane_join : State → State → State
plane_join a b = plane_state (both plane_meet (plane_known a) (plane_known b))

abbrev pub plane_of : List (ℤ × ℤ × ℤ) → State
plane_of points = plane_state (plane_known_of points)
