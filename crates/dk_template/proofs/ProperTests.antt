-- The test of proper states tells exactly which states are proper.
use Rattle.std.specs.Prelude.{◌≡◌, ◌&&◌, ◌==◌, ◌<◌, ◌≤◌, ◌<ℤ◌, ◌^◌, ℕ, ℤ, pos, true, false, List, length, nat_le, nat_lt, int_lt, int_le, if◌then◌else◌, unsigned_abs, All, IsTrue, Decides, refl}
use Rattle.std.specs.List.{list_all}
use Rattle.std.specs.Ordering.{int_eq, nat_cmp}
use Rattle.std.specs.Cmp.{IsTotalOrder}
use Rattle.std.specs.Cmp.Lexicographic.{slice_cmp}
use Rattle.std.specs.FinMap.{IsAntisymmetric, int_cmp-IsAntisymmetric, nat_cmp-IsAntisymmetric, slice_cmp-IsAntisymmetric}
use Rattle.std.specs.declared.cmp.Ordering.{Ordering}
use Rattle.std.proofs.Common.{arith, ap, sym, ◌∙◌, inl, inr}
use Rattle.std.proofs.lemmas.Bool.{false≢true}
use Rattle.std.proofs.lemmas.Bool.Decides.{Decides-and, Decides-or, Decides-eqb, Decides-int_eq, Decides-by_and}
use Rattle.std.proofs.lemmas.Cmp.{int_cmp_total, nat_list_cmp_total}
use Rattle.std.proofs.lemmas.Int.{ints}
use Rattle.dk_arith.specs.Directions.{IsNormal, IsNormal3, gcd_of_three}
use Rattle.dk_arith.specs.Gcd.{gcd}
use Rattle.dk_base.specs.Values.Items.{is_text}
use Rattle.dk_forms.proofs.PointOrder.{before_antisymmetric, before_or}
use Rattle.dk_forms.specs.Known.Distinct.{IsFew}
use Rattle.dk_forms.specs.Plane.{Before, IsPlane, IsPoint, IsSpan, is_before}
use Rattle.dk_forms.specs.Plane.Line.{IsSpot, IsStraight}
use Rattle.dk_forms.specs.declared.states.State.{State}
use Rattle.dk_forms.specs.declared.states.State.TheVariants as state
use Rattle.dk_template.proofs.Ascents.{ascending_where_distinct, distinct_where_ascending}
use Rattle.dk_template.specs.Ascending.{ascends}
use Rattle.dk_template.specs.Proper.{IsProper}
use Rattle.dk_template.specs.ProperTest.{is_bounded, is_few, is_normal, is_normal3, is_plane, is_point, is_positive, is_proper, is_span, is_spot, is_straight, is_within, is_zero}
use Rattle.dk_template.specs.declared.templates.StateForm.{StateForm}
use Rattle.dk_template.specs.declared.templates.StateForm.TheVariants.{Plain, Least, Greatest, Ints, Truth, Code, Texts, Modulus, Line, Plane, Offset}

tells_le : (a b : ℕ) → Decides (nat_le a b) (a ≤ b)
tells_le a b = ((λ h. grind arith), (λ h. grind arith))

tells_lt : (a b : ℕ) → Decides (nat_lt a b) (a < b)
tells_lt a b = ((λ h. grind arith), (λ h. grind arith))

tells_within : (n : ℕ) (z : ℤ) → Decides (is_within n z) (unsigned_abs z ≤ n)
tells_within n z = tells_le (unsigned_abs z) n

tells_positive : (z : ℤ) → Decides (is_positive z) (pos 0 <ℤ z)
tells_positive z = ((λ h. grind (arith, ints)), (λ h. grind (arith, ints)))

tells_zero : (z : ℤ) → Decides (is_zero z) (z ≡ pos 0)
tells_zero z = Decides-int_eq z (pos 0)

-- ---- few values
module _ {K : Type 0} {R : K → K → Ordering} (o : IsTotalOrder R) (same : IsAntisymmetric R) where
  tells_few : (xs : List K) → Decides (is_few R xs) (IsFew R 3 xs)
  tells_few xs =
      let d = Decides-and (nat_lt 0 (length xs)) (nat_le (length xs) 3 && ascends R xs) (tells_lt 0 (length xs)) (Decides-and (nat_le (length xs) 3) (ascends R xs) (tells_le (length xs) 3)
      ((λ h. distinct_where_ascending o same xs h), (λ h. ascending_where_distinct o same xs h))) in
      ((λ h. let p = d.0 h in record { ascending = p.1.1; some = p.0; few = p.1.0 }), (λ h. d.1 (h.some, (h.few, h.ascending))))

tells_strings : (texts : List (List ℕ)) → Decides (list_all is_text texts) (All (λ t. IsTrue (is_text t)) texts)
tells_strings texts = Decides-by_and is_text (λ t. IsTrue (is_text t)) (list_all is_text) (λ t. ((λ h. h), (λ h. h))) refl (λ t ts. refl) texts

-- ---- directions, points, lines and planes
tells_normal : (a b : ℤ) → Decides (is_normal a b) (IsNormal a b)
tells_normal a b =
    let d = Decides-and (gcd (unsigned_abs a) (unsigned_abs b) == 1) _ (Decides-eqb (gcd (unsigned_abs a) (unsigned_abs b)) 1)
    (Decides-or (is_positive a) _ (tells_positive a) (Decides-and (is_zero a) (is_positive b) (tells_zero a) (tells_positive b))) in
    ((λ h. let p = d.0 h in record { lowest = p.0; sign = p.1 }), (λ h. d.1 (h.lowest, h.sign)))

tells_normal3 : (a b c : ℤ) → Decides (is_normal3 a b c) (IsNormal3 a b c)
unfolding is_normal3
tells_normal3 a b c =
    let d = Decides-and (gcd_of_three a b c == 1) _ (Decides-eqb (gcd_of_three a b c) 1)
    (Decides-or (is_positive a) _ (tells_positive a) (Decides-and (is_zero a) _ (tells_zero a)
    (Decides-or (is_positive b) _ (tells_positive b) (Decides-and (is_zero b) (is_positive c) (tells_zero b) (tells_positive c))))) in
    ((λ h. let p = d.0 h in record { lowest = p.0; sign = p.1 }), (λ h. d.1 (h.lowest, h.sign)))

tells_spot : (x y : ℤ) → Decides (is_spot x y) (IsSpot (x, y))
tells_spot x y =
    let d = Decides-and (is_within (2 ^ 62) x) (is_within (2 ^ 62) y) (tells_within (2 ^ 62) x) (tells_within (2 ^ 62) y) in
    ((λ h. let p = d.0 h in record { x = p.0; y = p.1 }), (λ h. d.1 (h.x, h.y)))

tells_straight : (a b c : ℤ) → Decides (is_straight a b c) (IsStraight (a, b, c))
tells_straight a b c =
    let d = Decides-and (is_normal a b) _ (tells_normal a b) (Decides-and (is_within (2 ^ 63) a) _ (tells_within (2 ^ 63) a)
    (Decides-and (is_within (2 ^ 63) b) (is_within (2 ^ 126) c) (tells_within (2 ^ 63) b) (tells_within (2 ^ 126) c))) in
    ((λ h. let p = d.0 h in record { normal = p.0; a = p.1.0; b = p.1.1.0; c = p.1.1.1 }), (λ h. d.1 (h.normal, (h.a, (h.b, h.c)))))

tells_point : (p : ℤ × ℤ × ℤ) → Decides (is_point p) (IsPoint p)
unfolding is_point
tells_point p =
    let d = Decides-and (is_within (2 ^ 30) p.0) _ (tells_within (2 ^ 30) p.0)
    (Decides-and (is_within (2 ^ 30) p.1) (is_within (2 ^ 30) p.2) (tells_within (2 ^ 30) p.1) (tells_within (2 ^ 30) p.2)) in
    ((λ h. let q = d.0 h in record { x = q.0; y = q.1.0; z = q.1.1 }), (λ h. d.1 (h.x, (h.y, h.z))))

tells_before : (p q : ℤ × ℤ × ℤ) → Decides (is_before p q) (Before p q)
tells_before p q =
    elim (before_or p q) as (λ _. Decides (is_before p q) (Before p q)) [
      | inl h ↦ ((λ e. h.0), (λ b. h.1))
      | inr h ↦ ((λ e. absurd (false≢true (sym h.1 ∙ e))), (λ b. ap (λ t. is_before p t) (sym (before_antisymmetric p q b h.0)) ∙ same p))
    ]
  where
    same : (p : ℤ × ℤ × ℤ) → is_before p p ≡ true
    same p =
        ap (λ b. if b then (if int_eq p.1 p.1 then int_le p.2 p.2 else int_lt p.1 p.1) else int_lt p.0 p.0) ((Decides-int_eq p.0 p.0).1 refl)
        ∙ ap (λ b. if b then int_le p.2 p.2 else int_lt p.1 p.1) ((Decides-int_eq p.1 p.1).1 refl) ∙ grind (arith, ints)

tells_span : (p q : ℤ × ℤ × ℤ) → Decides (is_span p q) (IsSpan (p, q))
tells_span p q =
    let d = Decides-and (is_point p) _ (tells_point p) (Decides-and (is_point q) (is_before p q) (tells_point q) (tells_before p q)) in
    ((λ h. let r = d.0 h in record { first = r.0; last = r.1.0; ordered = r.1.1 }), (λ h. d.1 (h.first, (h.last, h.ordered))))

tells_plane : (a b c d : ℤ) → Decides (is_plane a b c d) (IsPlane (a, b, c, d))
unfolding is_bounded
tells_plane a b c d =
    let t = Decides-and (is_normal3 a b c) _ (tells_normal3 a b c) (Decides-and (is_within (2 ^ 63) a) _ (tells_within (2 ^ 63) a)
    (Decides-and (is_within (2 ^ 63) b) _ (tells_within (2 ^ 63) b)
    (Decides-and (is_within (2 ^ 63) c) (is_within (2 ^ 95) d) (tells_within (2 ^ 63) c) (tells_within (2 ^ 95) d)))) in
    ((λ h. let p = t.0 h in record { normal = p.0; a = p.1.0; b = p.1.1.0; c = p.1.1.1.0; d = p.1.1.1.1 }), (λ h. t.1 (h.normal, (h.a, (h.b, (h.c, h.d))))))

yes : {P : Type 0} → P → Decides true P
yes p = ((λ h. p), (λ h. refl))

no : Decides false ⊥
no = ((λ h. absurd (false≢true h)), (λ h. absurd h))

-- ---- all forms
pub tells_proper : (form : StateForm) (s : State) → Decides (is_proper form s) (IsProper form s)
tells_proper Plain state.Empty = yes tt
tells_proper Plain state.Broken = yes tt
tells_proper Plain state.Holds = yes tt
tells_proper Plain _ = no
tells_proper Least state.Empty = yes tt
tells_proper Least state.Broken = yes tt
tells_proper Least (state.Least k) = yes tt
tells_proper Least _ = no
tells_proper Greatest state.Empty = yes tt
tells_proper Greatest state.Broken = yes tt
tells_proper Greatest (state.Greatest k) = yes tt
tells_proper Greatest _ = no
tells_proper Ints state.Empty = yes tt
tells_proper Ints state.Broken = yes tt
tells_proper Ints (state.Ints values) = tells_few int_cmp_total int_cmp-IsAntisymmetric values
tells_proper Ints _ = no
tells_proper Truth state.Empty = yes tt
tells_proper Truth state.Broken = yes tt
tells_proper Truth (state.Truth b) = yes tt
tells_proper Truth _ = no
tells_proper Code state.Empty = yes tt
tells_proper Code state.Broken = yes tt
tells_proper Code (state.Code h) = yes tt
tells_proper Code _ = no
tells_proper Texts state.Empty = yes (tt, tt)
tells_proper Texts state.Broken = yes (tt, tt)
tells_proper Texts (state.Texts values) =
    Decides-and (is_few (slice_cmp nat_cmp) values) (list_all is_text values) (tells_few nat_list_cmp_total (slice_cmp-IsAntisymmetric nat_cmp-IsAntisymmetric) values) (tells_strings values)
tells_proper Texts _ = ((λ h. absurd (false≢true h)), (λ h. absurd h.0))
tells_proper Modulus state.Empty = yes tt
tells_proper Modulus state.Broken = yes tt
tells_proper Modulus (state.One v) = yes tt
tells_proper Modulus (state.Modulus m r) = Decides-and (nat_le 2 m) (nat_lt r m) (tells_le 2 m) (tells_lt r m)
tells_proper Modulus _ = no
tells_proper Line state.Empty = yes tt
tells_proper Line state.Broken = yes tt
tells_proper Line (state.Spot x y) = tells_spot x y
tells_proper Line (state.Straight a b c) = tells_straight a b c
tells_proper Line _ = no
tells_proper Plane state.Empty = yes tt
tells_proper Plane state.Broken = yes tt
tells_proper Plane (state.Span x1 y1 z1 x2 y2 z2) = tells_span (x1, y1, z1) (x2, y2, z2)
tells_proper Plane (state.Plane a b c d) = tells_plane a b c d
tells_proper Plane _ = no
tells_proper Offset state.Empty = yes (tt, tt)
tells_proper Offset state.Broken = yes (tt, tt)
tells_proper Offset (state.Offset k) = let d = tells_lt (unsigned_abs k) (2 ^ 64) in ((λ h. (tt, d.0 h)), (λ h. d.1 h.1))
tells_proper Offset _ = ((λ h. absurd (false≢true h)), (λ h. absurd h.0))
