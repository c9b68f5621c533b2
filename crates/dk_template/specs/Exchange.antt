-- States and tuples with two neighbouring roles exchanged.
use Rattle.std.specs.Prelude.{◌<◌, ◌^◌, unsigned_abs, ℤ, pos, neg_ℤ, int_lt, nat_lt, Bool, false, List, ◌∷◌, if◌then◌else◌}
use Rattle.dk_arith.specs.Directions.{leading}
use Rattle.dk_base.specs.declared.kinds.VarId.{VarId}
use Rattle.dk_forms.specs.Known.{fact}
use Rattle.dk_forms.specs.Plane.{Flat, IsPlane, greater, lesser, plane, plane_state, span}
use Rattle.dk_forms.specs.Plane.Line.{IsStraight, Line, line_state, spot, straight}
use Rattle.dk_forms.specs.declared.states.State.{State}
use Rattle.dk_forms.specs.declared.states.State.TheVariants as state
use Rattle.dk_template.specs.Templates.{template_of}
use Rattle.dk_template.specs.declared.exchange.Exchange.{Exchange}
use Rattle.dk_template.specs.declared.exchange.Exchange.TheVariants.{First, Last}
use Rattle.dk_template.specs.declared.grammar.RowId.{RowId}
use Rattle.dk_template.specs.declared.templates.Symmetry.{Symmetry}
use Rattle.dk_template.specs.declared.templates.Symmetry.TheVariants as symmetry

-- ---- points, lines and planes
abbrev pub swap : ℤ × ℤ → ℤ × ℤ
swap p = (p.1, p.0)

-- the first two or the last two of three numbers exchanged
abbrev pub swapped : Exchange → ℤ × ℤ × ℤ → ℤ × ℤ × ℤ
swapped First p = (p.1, p.0, p.2)
swapped Last p = (p.0, p.2, p.1)

-- the same line or plane, the first number of its direction that isn't 0 positive
abbrev pub signed_line : ℤ × ℤ × ℤ → ℤ × ℤ × ℤ
signed_line l = if int_lt (leading l.0 l.1 (pos 0)) (pos 0) then (neg_ℤ l.0, neg_ℤ l.1, neg_ℤ l.2) else l

abbrev pub signed_plane : ℤ × ℤ × ℤ × ℤ → ℤ × ℤ × ℤ × ℤ
signed_plane n = if int_lt (leading n.0 n.1 n.2) (pos 0) then (neg_ℤ n.0, neg_ℤ n.1, neg_ℤ n.2, neg_ℤ n.3) else n

abbrev pub swapped_line : Line → Line
swapped_line (spot p) = spot (swap p)
swapped_line (straight l) = straight (signed_line (l.1, l.0, l.2))

-- a plane's numbers, those of its direction moved
abbrev pub moved_plane : (ℤ × ℤ × ℤ → ℤ × ℤ × ℤ) → ℤ × ℤ × ℤ × ℤ → ℤ × ℤ × ℤ × ℤ
moved_plane move n = ((move (n.0, n.1, n.2)).0, (move (n.0, n.1, n.2)).1, (move (n.0, n.1, n.2)).2, n.3)

-- a span's ends are moved and ordered anew, and a plane's sign is set anew
abbrev pub moved_flat : (ℤ × ℤ × ℤ → ℤ × ℤ × ℤ) → Flat → Flat
moved_flat move (span s) = span (lesser (move s.0) (move s.1), greater (move s.0) (move s.1))
moved_flat move (plane n) = plane (signed_plane (moved_plane move n))

-- ---- states
-- the span of two points
unfoldable pub span_between : ℤ × ℤ × ℤ → ℤ × ℤ × ℤ → State
span_between p q = plane_state (fact (span (lesser p q, greater p q)))

-- The state of a row over the same variables with two neighbouring roles exchanged. Where a relation is the same both ways round
-- the state is, and so are values of one role.
abbrev pub exchanged_state : Exchange → State → State
exchanged_state First (state.Spot x y) = state.Spot y x
exchanged_state First (state.Straight a b c) = line_state (fact (swapped_line (straight (a, b, c))))
exchanged_state First (state.Offset k) = state.Offset (neg_ℤ k)
exchanged_state e (state.Span x1 y1 z1 x2 y2 z2) = span_between (swapped e (x1, y1, z1)) (swapped e (x2, y2, z2))
exchanged_state e (state.Plane a b c d) = plane_state (fact (moved_flat (swapped e) (plane (a, b, c, d))))
exchanged_state e s = s

-- the numbers of a line, a plane or an offset are within the bounds of a proper state
abbrev pub IsBounded : State → Type 0
IsBounded (state.Straight a b c) = IsStraight (a, b, c)
IsBounded (state.Plane a b c d) = IsPlane (a, b, c, d)
IsBounded (state.Offset k) = unsigned_abs k < 2 ^ 64
IsBounded _ = Unit {0}

-- ---- tuples
-- the first two or the last two of three exchanged
abbrev pub exchange : {A : Type 0} → Exchange → List A → List A
exchange First (a ∷ b ∷ rest) = b ∷ a ∷ rest
exchange Last (a ∷ b ∷ c ∷ rest) = a ∷ c ∷ b ∷ rest
exchange e tuple = tuple

-- the later of the two variables stands first
abbrev pub descends : Exchange → List VarId → Bool
descends First (v ∷ w ∷ rest) = nat_lt w.0 v.0
descends Last (u ∷ v ∷ w ∷ rest) = nat_lt w.0 v.0
descends e tuple = false

-- the two variables in order
abbrev pub order_tuple : Exchange → List VarId → List VarId
order_tuple e tuple = if descends e tuple then exchange e tuple else tuple

-- a tuple of a row in its written order
abbrev pub arrange_tuple : Symmetry → List VarId → List VarId
arrange_tuple symmetry.Fixed tuple = tuple
arrange_tuple symmetry.All tuple = order_tuple Last (order_tuple First (order_tuple Last tuple))
arrange_tuple symmetry.Arguments tuple = order_tuple Last tuple

abbrev pub written_order : RowId → List VarId → List VarId
written_order row tuple = arrange_tuple (template_of row).symmetry tuple

-- from the state of a tuple in which the two variables are in order, the state of the tuple
abbrev pub exchanged_back : Exchange → List VarId → State → State
exchanged_back e tuple s = if descends e tuple then exchanged_state e s else s

abbrev pub disarrange_state : Symmetry → List VarId → State → State
disarrange_state symmetry.Fixed tuple s = s
disarrange_state symmetry.All tuple s =
    exchanged_back Last tuple
    (exchanged_back First (order_tuple Last tuple) (exchanged_back Last (order_tuple First (order_tuple Last tuple)) s))
disarrange_state symmetry.Arguments tuple s = exchanged_back Last tuple s

-- from the state of a row over a tuple in written order, that over the tuple as it stands
abbrev pub turned_state : RowId → List VarId → State → State
turned_state row tuple s = disarrange_state (template_of row).symmetry tuple s
