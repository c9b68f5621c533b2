-- When a point leaves a point or a line as it is: when it is the point, or lies on the line.
use Rattle.std.specs.Prelude.{[], ◌≡◌, ℤ, Bool, true, false, ◌&&◌, if◌then◌else◌, List, ◌∷◌, refl}
use Rattle.std.specs.Bool.{Decides}
use Rattle.std.specs.Ordering.{int_eq}
use Rattle.std.proofs.Common.{sym, ap, ◌∙◌, subst, inl, inr}
use Rattle.std.proofs.lemmas.Bool.{cases_Bool}
use Rattle.dk_forms.proofs.LineFacts.{decides_limit, decides_same, line_one}
use Rattle.dk_forms.proofs.LineLaws.{line_laws}
use Rattle.dk_forms.specs.Known.{Known, both, broken, fact, nothing}
use Rattle.dk_forms.specs.Plane.Line.{IsSpot, IsStraight, Line, first_apart, in_limit, is_on, line_from, line_join, line_known, line_known_of, line_meet, line_of, line_state, same_point, spot, straight, through}
use Rattle.dk_forms.specs.declared.states.State.{State}
use Rattle.dk_forms.specs.declared.states.State.TheVariants.{Broken, Spot, Straight}

line_alone : (p : ℤ × ℤ) → line_from p [] ≡ fact (spot p)
line_alone p = ap (λ b. if b then fact (spot p) else (if true then fact (straight (through p p)) else broken)) ((decides_same p p).1 (refl, refl))

line_of_point : (p : ℤ × ℤ) → line_of (p ∷ []) ≡ (if in_limit p then Spot p.0 p.1 else Broken)
line_of_point p =
    elim (in_limit p) as (λ b. line_state (if (b && true) then line_from p [] else broken) ≡ (if b then Spot p.0 p.1 else Broken)) [ true ↦ ap line_state (line_alone p) | false ↦ refl ]

-- which of two states a choice is
abbrev IsStraightState : State → Type 0
IsStraightState (Straight a b c) = Unit {0}
IsStraightState _ = ⊥

abbrev IsSpotState : State → Type 0
IsSpotState (Spot x y) = Unit {0}
IsSpotState _ = ⊥

straight_with : (l : ℤ × ℤ × ℤ) (p : ℤ × ℤ) → line_join (Straight l.0 l.1 l.2) (line_of (p ∷ [])) ≡ (if (in_limit p && is_on l p) then Straight l.0 l.1 l.2 else Broken)
straight_with l p =
    ap (line_join (Straight l.0 l.1 l.2)) (line_of_point p)
    ∙ elim (in_limit p) as (λ b. line_join (Straight l.0 l.1 l.2) (if b then Spot p.0 p.1 else Broken) ≡ (if (b && is_on l p) then Straight l.0 l.1 l.2 else Broken)) [
      | true ↦ elim (is_on l p) as (λ b. line_state (if b then fact (straight l) else broken) ≡ (if b then Straight l.0 l.1 l.2 else Broken)) [ true ↦ refl | false ↦ refl ]
      | false ↦ refl
    ]

pub straight_stays : (a b c x y : ℤ) → Decides (in_limit (x, y) && is_on (a, b, c) (x, y)) (line_join (Straight a b c) (line_of ((x, y) ∷ [])) ≡ Straight a b c)
straight_stays a b c x y = (to, from)
  where
    test : Bool
    test = in_limit (x, y) && is_on (a, b, c) (x, y)

    to : test ≡ true → line_join (Straight a b c) (line_of ((x, y) ∷ [])) ≡ Straight a b c
    to h = straight_with (a, b, c) (x, y) ∙ ap (λ r. if r then Straight a b c else Broken) h

    from : line_join (Straight a b c) (line_of ((x, y) ∷ [])) ≡ Straight a b c → test ≡ true
    from k =
        elim (cases_Bool test) as (λ _. test ≡ true) [
          | inl t ↦ t
          | inr f ↦ absurd (subst IsStraightState (sym k ∙ straight_with (a, b, c) (x, y) ∙ ap (λ r. if r then Straight a b c else Broken) f) tt)
        ]

pub spot_stays : (u v x y : ℤ) → IsSpot (u, v) → Decides (same_point (u, v) (x, y)) (line_join (Spot u v) (line_of ((x, y) ∷ [])) ≡ Spot u v)
spot_stays u v x y f = (to, from)
  where
    p : ℤ × ℤ
    p = (x, y)

    q : ℤ × ℤ
    q = (u, v)

    own : line_of (q ∷ []) ≡ Spot u v
    own = line_of_point q ∙ ap (λ b. if b then Spot u v else Broken) ((decides_limit q).1 (f.x, f.y))

    to : same_point q p ≡ true → line_join (Spot u v) (line_of (p ∷ [])) ≡ Spot u v
    to h =
        let e = (decides_same q p).0 h in
        subst (λ (r : ℤ × ℤ). line_join (Spot u v) (line_of (r ∷ [])) ≡ Spot u v) (ap (λ a. (a, v)) e.0 ∙ ap (λ b. (x, b)) e.1) (ap (line_join (Spot u v)) own ∙ line_laws.idem (Spot u v) f)

    from : line_join (Spot u v) (line_of (p ∷ [])) ≡ Spot u v → same_point q p ≡ true
    from k =
        elim (cases_Bool (same_point q p)) as (λ _. same_point q p ≡ true) [
          | inl t ↦ t
          | inr o ↦ absurd (elim (cases_Bool (in_limit p)) as (λ _. ⊥) [
            | inl t ↦ subst IsSpotState (sym k ∙ ap (line_join (Spot u v)) (line_of_point p ∙ ap (λ b. if b then Spot x y else Broken) t) ∙ ap (λ b. line_state (if b then fact (spot q) else fact (straight (through q p)))) o) tt
            | inr g ↦ subst IsSpotState (sym k ∙ ap (line_join (Spot u v)) (line_of_point p ∙ ap (λ b. if b then Spot x y else Broken) g)) tt
          ])
        ]
