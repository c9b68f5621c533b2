-- The line of points is the only one on which all of them are; so is the plane.
use Rattle.std.specs.Prelude.{◌≡◌, ℤ, Bool, true, false, if◌then◌else◌, List, refl}
use Rattle.std.proofs.Common.{sym, ap, ◌∙◌, subst}
use Rattle.dk_forms.proofs.Limits.{limited_one}
use Rattle.dk_forms.proofs.LineFacts.{line_known_of_is}
use Rattle.dk_forms.proofs.Order.{Below, IsHullOf}
use Rattle.dk_forms.proofs.PlaneFacts.{plane_known_of_is, point}
use Rattle.dk_forms.specs.Known.{Known, broken, fact, nothing}
use Rattle.dk_forms.specs.Plane.{Flat, in_space, plane, plane_known_of, plane_state, span}
use Rattle.dk_forms.specs.Plane.Geometry.{BrokenPointsHaveNoLine, BrokenPointsHaveNoPlane, Each, LinesHaveAllPoints, PlanesHaveAllPoints, PointsHaveOneLine, PointsHaveOnePlane}
use Rattle.dk_forms.specs.Plane.Line.{Line, in_limit, line_known_of, line_state, spot, straight}
use Rattle.dk_forms.specs.declared.states.State.TheVariants.{Broken, Plane, Straight}

-- ---- facts of values within a limit
module _ {F V : Type 0} {Fit : F → Type 0} {Le : F → F → Type 0} (within : V → Bool) (one : V → F) (of : List V → Known F) (hull : IsHullOf Fit Le (limited_one within one) of) where
  -- each of the values is within it and has a part in the fact
  part : (vs : List V) (x : F) → of vs ≡ fact x → Each (λ v. (within v ≡ true) × Le (one v) x) vs
  part vs x e v i = elim (within v) as (λ b. Below Le (if b then fact (one v) else broken) (fact x) → (b ≡ true) × Le (one v) x) [
    | true ↦ λ h. (refl, h)
    | false ↦ λ h. absurd h
  ] (subst (Below Le (limited_one within one v)) e (hull.holds v vs i))

  below : (z : F) (v : V) → within v ≡ true → Le (one v) z → Below Le (limited_one within one v) (fact z)
  below z v w h = subst (λ b. Below Le (if b then fact (one v) else broken) (fact z)) (sym w) h

  -- another fact in which each has a part says less
  less : (vs : List V) (x z : F) → of vs ≡ fact x → Fit z → Each (λ v. Le (one v) z) vs → Le x z
  less vs x z e f all = subst (λ k. Below Le k (fact z)) e (hull.least vs (fact z) f (λ v i. below z v (part vs x e v i).0 (all v i)))

  -- where nothing can be said, there is no such fact
  none : (vs : List V) (z : F) → of vs ≡ broken → Each (λ v. within v ≡ true) vs → Fit z → Each (λ v. Le (one v) z) vs → ⊥
  none vs z e inside f all = subst (λ k. Below Le k (fact z)) e (hull.least vs (fact z) f (λ v i. below z v (inside v i) (all v i)))

-- ---- lines
straight_known : (k : Known Line) (l : ℤ × ℤ × ℤ) → line_state k ≡ Straight l.0 l.1 l.2 → k ≡ fact (straight l)
straight_known nothing l e = absurd (cc)
straight_known broken l e = absurd (cc)
straight_known (fact (spot p)) l e = absurd (cc)
straight_known (fact (straight m)) l e =
    let a : m.0 ≡ l.0 = cc in
    let b : m.1 ≡ l.1 = cc in
    let c : m.2 ≡ l.2 = cc in
    ap (λ (x : ℤ). fact (straight (x, m.1, m.2))) a ∙ (ap (λ (y : ℤ). fact (straight (l.0, y, m.2))) b ∙ ap (λ (z : ℤ). fact (straight (l.0, l.1, z))) c)

broken_line : (k : Known Line) → line_state k ≡ Broken → k ≡ broken
broken_line nothing e = absurd (cc)
broken_line broken e = refl
broken_line (fact (spot p)) e = absurd (cc)
broken_line (fact (straight m)) e = absurd (cc)

pub lines_have_all_points : LinesHaveAllPoints
lines_have_all_points points l e p i = (part in_limit spot line_known_of line_known_of_is points (straight l) (straight_known (line_known_of points) l e) p i).1

pub points_have_one_line : PointsHaveOneLine
points_have_one_line points l m e f all = sym (less in_limit spot line_known_of line_known_of_is points (straight l) (straight m) (straight_known (line_known_of points) l e) f all)

pub broken_points_have_no_line : BrokenPointsHaveNoLine
broken_points_have_no_line points m e inside f all = none in_limit spot line_known_of line_known_of_is points (straight m) (broken_line (line_known_of points) e) inside f all

-- ---- planes
plane_is_known : (k : Known Flat) (n : ℤ × ℤ × ℤ × ℤ) → plane_state k ≡ Plane n.0 n.1 n.2 n.3 → k ≡ fact (plane n)
plane_is_known nothing n e = absurd (cc)
plane_is_known broken n e = absurd (cc)
plane_is_known (fact (span s)) n e = absurd (cc)
plane_is_known (fact (plane m)) n e =
    let a : m.0 ≡ n.0 = cc in
    let b : m.1 ≡ n.1 = cc in
    let c : m.2 ≡ n.2 = cc in
    let d : m.3 ≡ n.3 = cc in
    ap (λ (x : ℤ). fact (plane (x, m.1, m.2, m.3))) a ∙ (ap (λ (y : ℤ). fact (plane (n.0, y, m.2, m.3))) b
    ∙ (ap (λ (z : ℤ). fact (plane (n.0, n.1, z, m.3))) c ∙ ap (λ (w : ℤ). fact (plane (n.0, n.1, n.2, w))) d))

broken_plane : (k : Known Flat) → plane_state k ≡ Broken → k ≡ broken
broken_plane nothing e = absurd (cc)
broken_plane broken e = refl
broken_plane (fact (span s)) e = absurd (cc)
broken_plane (fact (plane m)) e = absurd (cc)

pub planes_have_all_points : PlanesHaveAllPoints
planes_have_all_points points n e p i = (part in_space point plane_known_of plane_known_of_is points (plane n) (plane_is_known (plane_known_of points) n e) p i).1.0

pub points_have_one_plane : PointsHaveOnePlane
points_have_one_plane points n m e f all = sym (less in_space point plane_known_of plane_known_of_is points (plane n) (plane m) (plane_is_known (plane_known_of points) n e) f (λ p i. (all p i, all p i)))

pub broken_points_have_no_plane : BrokenPointsHaveNoPlane
broken_points_have_no_plane points m e inside f all = none in_space point plane_known_of plane_known_of_is points (plane m) (broken_plane (plane_known_of points) e) inside f (λ p i. (all p i, all p i))
