-- The form line: the point, or the line through all points.
use Rattle.std.specs.Prelude.{[], ℤ, pos, ◌+ℤ◌, ◌-ℤ◌, ◌*ℤ◌, neg_ℤ, ◌≤◌, ◌^◌, unsigned_abs, int_div, Bool, ◌&&◌, if◌then◌else◌, List, ◌∷◌, nat_le}
use Rattle.std.specs.Ordering.{int_eq}
use Rattle.std.specs.List.{list_all}
use Rattle.dk_arith.specs.Directions.{IsNormal, divisor}
use Rattle.dk_forms.specs.Known.{Known, both, broken, fact, nothing}
use Rattle.dk_forms.specs.declared.states.State.{State}
use Rattle.dk_forms.specs.declared.states.State.TheVariants.{Empty, Broken, Spot, Straight}

-- one point, or the line of the points with a * x + b * y + c = 0
pub data Line : Type 0 where
  spot : ℤ × ℤ → Line
  straight : ℤ × ℤ × ℤ → Line

abbrev pub same_point : ℤ × ℤ → ℤ × ℤ → Bool
same_point p q = int_eq p.0 q.0 && int_eq p.1 q.1

abbrev pub same_line : ℤ × ℤ × ℤ → ℤ × ℤ × ℤ → Bool
same_line l m = int_eq l.0 m.0 && (int_eq l.1 m.1 && int_eq l.2 m.2)

abbrev pub is_on : ℤ × ℤ × ℤ → ℤ × ℤ → Bool
is_on l p = int_eq (l.0 *ℤ p.0 +ℤ l.1 *ℤ p.1) (neg_ℤ l.2)

-- the line through two points that differ
unfoldable pub through : ℤ × ℤ → ℤ × ℤ → ℤ × ℤ × ℤ
through p q =
    let d = divisor (q.1 -ℤ p.1) (p.0 -ℤ q.0) (pos 0) in
    let a = int_div (q.1 -ℤ p.1) d in
    let b = int_div (p.0 -ℤ q.0) d in
    (a, b, neg_ℤ (a *ℤ p.0 +ℤ b *ℤ p.1))

abbrev pub line_meet : Line → Line → Known Line
line_meet (spot p) (spot q) = if same_point p q then fact (spot p) else fact (straight (through p q))
line_meet (spot p) (straight l) = if is_on l p then fact (straight l) else broken
line_meet (straight l) (spot p) = if is_on l p then fact (straight l) else broken
line_meet (straight l) (straight m) = if same_line l m then fact (straight l) else broken

-- a value that is taken into account
abbrev pub in_limit : ℤ × ℤ → Bool
in_limit p = nat_le (unsigned_abs p.0) (2 ^ 62) && nat_le (unsigned_abs p.1) (2 ^ 62)

-- the first of the points that differs from p, and p where there is none
abbrev pub first_apart : ℤ × ℤ → List (ℤ × ℤ) → ℤ × ℤ
first_apart p [] = p
first_apart p (q ∷ qs) = if same_point p q then first_apart p qs else q

-- p where it is the only point, and the line through all points, if there is one
abbrev pub line_from : ℤ × ℤ → List (ℤ × ℤ) → Known Line
line_from p ps =
    if same_point p (first_apart p ps) then fact (spot p)
    else if list_all (is_on (through p (first_apart p ps))) ps then fact (straight (through p (first_apart p ps)))
    else broken

abbrev pub line_known_of : List (ℤ × ℤ) → Known Line
line_known_of [] = nothing
line_known_of (p ∷ ps) = if list_all in_limit (p ∷ ps) then line_from p ps else broken

-- ---- as states
pub record IsSpot (p : ℤ × ℤ) : Type 0 where
  pub x : unsigned_abs p.0 ≤ 2 ^ 62
  pub y : unsigned_abs p.1 ≤ 2 ^ 62

pub record IsStraight (l : ℤ × ℤ × ℤ) : Type 0 where
  pub normal : IsNormal l.0 l.1
  pub a : unsigned_abs l.0 ≤ 2 ^ 63
  pub b : unsigned_abs l.1 ≤ 2 ^ 63
  pub c : unsigned_abs l.2 ≤ 2 ^ 126

abbrev pub IsLineState : State → Type 0
IsLineState Empty = Unit {0}
IsLineState Broken = Unit {0}
IsLineState (Spot x y) = IsSpot (x, y)
IsLineState (Straight a b c) = IsStraight (a, b, c)
IsLineState _ = ⊥

abbrev pub line_known : State → Known Line
line_known Empty = nothing
line_known (Spot x y) = fact (spot (x, y))
line_known (Straight a b c) = fact (straight (a, b, c))
line_known _ = broken

abbrev pub line_state : Known Line → State
line_state nothing = Empty
line_state broken = Broken
line_state (fact (spot p)) = Spot p.0 p.1
line_state (fact (straight l)) = Straight l.0 l.1 l.2

abbrev pub line_join : State → State → State
line_join a b = line_state (both line_meet (line_known a) (line_known b))

abbrev pub line_of : List (ℤ × ℤ) → State
line_of points = line_state (line_known_of points)
