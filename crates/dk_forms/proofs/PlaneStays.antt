-- When a point leaves the stretch of a line, or a plane, as it is: when it lies between the ends, or in the plane.
use Rattle.std.specs.Prelude.{[], ◌≡◌, ℤ, Bool, int_le, int_lt, true, false, ◌&&◌, if◌then◌else◌, List, ◌∷◌, refl}
use Rattle.std.specs.Bool.{Decides}
use Rattle.std.specs.Ordering.{int_eq}
use Rattle.std.proofs.Common.{sym, ap, ◌∙◌, subst, arith, inl, inr}
use Rattle.std.proofs.lemmas.Bool.{cases_Bool, false≢true}
use Rattle.std.proofs.lemmas.Bool.Decides.{Decides-and, Decides-int_eq}
use Rattle.std.proofs.lemmas.Int.{ints}
use Rattle.dk_forms.proofs.Order.{meet_says_no_more, meet_stays}
use Rattle.dk_forms.proofs.PlaneFacts.{Aligned, PlaneLe, aligned_in_hull, decides_aligned, hull_from_aligned, plane_hull, plane_of_point, point, point_of_limit}
use Rattle.dk_forms.proofs.PointOrder.{before_antisymmetric, before_or, before_same}
use Rattle.dk_forms.specs.Known.{Known, broken, fact, nothing}
use Rattle.dk_forms.specs.Plane.{Before, Flat, IsPoint, IsSpan, are_aligned, in_space, is_before, is_in_plane, plane, plane_join, plane_known, plane_known_of, plane_meet, plane_of, plane_state, span}
use Rattle.dk_forms.specs.declared.states.State.{State}
use Rattle.dk_forms.specs.declared.states.State.TheVariants.{Empty, Broken, Span, Plane}

-- which state it is
abbrev IsNoState : State → Type 0
IsNoState Empty = ⊥
IsNoState _ = Unit {0}

abbrev IsSpanState : State → Type 0
IsSpanState (Span x1 y1 z1 x2 y2 z2) = Unit {0}
IsSpanState _ = ⊥

abbrev IsPlanarState : State → Type 0
IsPlanarState (Plane a b c d) = Unit {0}
IsPlanarState _ = ⊥

one : (p : ℤ × ℤ × ℤ) → plane_of (p ∷ []) ≡ plane_state (if in_space p then fact (span (p, p)) else broken)
one p = ap plane_state (plane_of_point p)

pub empty_moves : (p : ℤ × ℤ × ℤ) → plane_join Empty (plane_of (p ∷ [])) ≡ Empty → ⊥
empty_moves p e =
    subst IsNoState (sym (ap (plane_join Empty) (one p)) ∙ e)
    (elim (in_space p) as (λ b. IsNoState (plane_join Empty (plane_state (if b then fact (span (p, p)) else broken)))) [ true ↦ tt | false ↦ tt ])

plane_with : (n : ℤ × ℤ × ℤ × ℤ) (p : ℤ × ℤ × ℤ) → plane_join (Plane n.0 n.1 n.2 n.3) (plane_of (p ∷ [])) ≡ (if (in_space p && is_in_plane n p) then Plane n.0 n.1 n.2 n.3 else Broken)
plane_with n p =
    let s = Plane n.0 n.1 n.2 n.3 in
    ap (plane_join s) (one p)
    ∙ elim (in_space p) as (λ b. plane_join s (plane_state (if b then fact (span (p, p)) else broken)) ≡ (if (b && is_in_plane n p) then s else Broken)) [
      | true ↦ elim (is_in_plane n p) as (λ b. plane_state (if (b && b) then fact (plane n) else broken) ≡ (if b then Plane n.0 n.1 n.2 n.3 else Broken)) [ true ↦ refl | false ↦ refl ]
      | false ↦ refl
    ]

pub plane_stays : (n : ℤ × ℤ × ℤ × ℤ) (p : ℤ × ℤ × ℤ) → Decides (in_space p && is_in_plane n p) (plane_join (Plane n.0 n.1 n.2 n.3) (plane_of (p ∷ [])) ≡ Plane n.0 n.1 n.2 n.3)
plane_stays n p = (to, from)
  where
    s : State
    s = Plane n.0 n.1 n.2 n.3

    test : Bool
    test = in_space p && is_in_plane n p

    to : test ≡ true → plane_join (Plane n.0 n.1 n.2 n.3) (plane_of (p ∷ [])) ≡ Plane n.0 n.1 n.2 n.3
    to h = plane_with n p ∙ ap (λ r. if r then Plane n.0 n.1 n.2 n.3 else Broken) h

    from : plane_join (Plane n.0 n.1 n.2 n.3) (plane_of (p ∷ [])) ≡ Plane n.0 n.1 n.2 n.3 → test ≡ true
    from k =
        elim (cases_Bool test) as (λ _. test ≡ true) [
          | inl t ↦ t
          | inr f ↦ absurd (subst IsPlanarState (sym k ∙ plane_with n p ∙ ap (λ r. if r then Plane n.0 n.1 n.2 n.3 else Broken) f) tt)
        ]

decides_before : (p q : ℤ × ℤ × ℤ) → Decides (is_before p q) (Before p q)
decides_before p q = (to, from)
  where
    to : is_before p q ≡ true → Before p q
    to e = elim (before_or p q) as (λ _. Before p q) [ inl h ↦ h.0 | inr h ↦ absurd (false≢true (sym h.1 ∙ e)) ]

    own : is_before p p ≡ true
    own =
        ap (λ b. if b then (if int_eq p.1 p.1 then int_le p.2 p.2 else int_lt p.1 p.1) else int_lt p.0 p.0) ((Decides-int_eq p.0 p.0).1 refl)
        ∙ ap (λ b. if b then int_le p.2 p.2 else int_lt p.1 p.1) ((Decides-int_eq p.1 p.1).1 refl) ∙ grind (arith, ints)

    from : Before p q → is_before p q ≡ true
    from b = elim (before_or p q) as (λ _. is_before p q ≡ true) [ inl h ↦ h.1 | inr h ↦ subst (λ r. is_before p r ≡ true) (before_antisymmetric p q b h.0) own ]

flat_again : (k : Known Flat) → plane_known (plane_state k) ≡ k
flat_again nothing = refl
flat_again broken = refl
flat_again (fact (span s)) = refl
flat_again (fact (plane n)) = refl

module _ (s : (ℤ × ℤ × ℤ) × (ℤ × ℤ × ℤ)) (v : ℤ × ℤ × ℤ) (f : IsSpan s) where
  state : State
  state = plane_state (fact (span s))

  abbrev test : Bool
  test = in_space v && (is_before s.0 v && (is_before v s.1 && are_aligned s.0 s.1 v))

  abbrev Within : Type 0
  Within = (in_space v ≡ true) × (Before s.0 v × (Before v s.1 × Aligned s.0 s.1 v))

  decides_within : Decides test Within
  decides_within =
      Decides-and (in_space v) _ ((λ h. h), (λ h. h))
      (Decides-and (is_before s.0 v) _ (decides_before s.0 v) (Decides-and (is_before v s.1) (are_aligned s.0 s.1 v) (decides_before v s.1) (decides_aligned s.0 s.1 v)))

  fit : in_space v ≡ true → IsSpan (v, v)
  fit e = let p = point_of_limit v e in record { first = p; last = p; ordered = before_same v }

  joined : in_space v ≡ true → plane_join (plane_state (fact (span s))) (plane_of (v ∷ [])) ≡ plane_state (plane_meet (span s) (point v))
  joined e = ap (plane_join (plane_state (fact (span s)))) (one v ∙ ap (λ b. plane_state (if b then fact (span (v, v)) else broken)) e)

  apart : in_space v ≡ false → plane_join (plane_state (fact (span s))) (plane_of (v ∷ [])) ≡ Broken
  apart e = ap (plane_join (plane_state (fact (span s)))) (one v ∙ ap (λ b. plane_state (if b then fact (span (v, v)) else broken)) e)

  span_to : Within → plane_join (plane_state (fact (span s))) (plane_of (v ∷ [])) ≡ plane_state (fact (span s))
  span_to w =
      let hull = hull_from_aligned s.0 s.1 v w.1.1.1 w.1.0 w.1.1.0 in
      joined w.0 ∙ ap plane_state (meet_stays plane_hull (span s) (point v) f (fit w.0) (w.1.0, w.1.1.0, hull, hull))

  span_from : plane_join (plane_state (fact (span s))) (plane_of (v ∷ [])) ≡ plane_state (fact (span s)) → Within
  span_from k =
      elim (cases_Bool (in_space v)) as (λ _. Within) [
        | inl e ↦
            let same = sym (flat_again (plane_meet (span s) (point v))) ∙ ap plane_known (sym (joined e) ∙ k) in
            let le = meet_says_no_more plane_hull (span s) (point v) f (fit e) same in
            (e, (le.0, (le.1, aligned_in_hull s.0 s.1 s.0 s.1 v (λ n a b. a) (λ n a b. b) le.2)))
        | inr e ↦ absurd (subst IsSpanState (sym k ∙ apart e) tt)
      ]

  pub span_stays : Decides test (plane_join (plane_state (fact (span s))) (plane_of (v ∷ [])) ≡ plane_state (fact (span s)))
  span_stays = ((λ h. span_to (decides_within.0 h)), (λ k. decides_within.1 (span_from k)))
