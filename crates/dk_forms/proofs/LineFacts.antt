-- The join of lines is the least line through both, so it keeps the laws.
use Rattle.std.specs.Prelude.{[], ◌≡◌, ℕ, ◌*◌, ℤ, pos, ◌+ℤ◌, ◌-ℤ◌, ◌*ℤ◌, neg_ℤ, ◌<ℤ◌, ◌≤◌, ◌^◌, ◌⊎◌, unsigned_abs, int_div, true, false, nat_le, ◌&&◌, if◌then◌else◌, List, ◌∷◌, refl}
use Rattle.std.specs.Bool.{Decides}
use Rattle.std.specs.Ordering.{int_eq}
use Rattle.std.specs.List.{list_all}
use Rattle.std.proofs.Common.{sym, ap, ◌∙◌, subst, arith, inl, inr}
use Rattle.std.proofs.lemmas.Bool.{cases_Bool}
use Rattle.std.proofs.lemmas.Bool.Decides.{Decides-int_eq, Decides-and, not_from_Decides}
use Rattle.std.proofs.lemmas.Int.{ints, unsigned_abs-mul}
use Rattle.std.proofs.Math.Nat.{mul-le-mul}
use Rattle.std.proofs.lemmas.Nat.Gcd.{IsGcd-from_zero, same_from_IsGcd}
use Rattle.dk_forms.proofs.Order.{Below, IsHull, IsHullOf, IsJoinOf, below-broken, turned}
use Rattle.dk_forms.specs.Known.{IfFact, Known, broken, fact, nothing}
use Rattle.dk_arith.proofs.GcdLaws.{IsGcd-gcd}
use Rattle.dk_forms.specs.Laws.{IsIn}
use Rattle.dk_arith.specs.Directions.{IsNormal, IsNormal3, divisor}
use Rattle.dk_forms.specs.Plane.Line.{IsSpot, IsStraight, Line, first_apart, in_limit, is_on, line_from, line_known_of, line_meet, same_line, same_point, spot, straight, through}
use Rattle.dk_forms.proofs.Testing.{all_or_one}
use Rattle.dk_arith.proofs.Choice.{choice}
use Rattle.dk_arith.specs.Gcd.{gcd}
use Rattle.dk_arith.proofs.LowestTerms.{lowest_is, smaller}
use Rattle.dk_arith.proofs.TwoPoints.{no_factor, one_line}
use Rattle.dk_arith.proofs.Ring.{rep, rep-add, rep-mul, rep-sub, same_rep}

-- ---- what the tests decide
abbrev pub IsSame : ℤ × ℤ → ℤ × ℤ → Type 0
IsSame p q = (p.0 ≡ q.0) × (p.1 ≡ q.1)

pub decides_same : (p q : ℤ × ℤ) → Decides (same_point p q) (IsSame p q)
decides_same p q = Decides-and (int_eq p.0 q.0) (int_eq p.1 q.1) (Decides-int_eq p.0 q.0) (Decides-int_eq p.1 q.1)

decides_line : (l m : ℤ × ℤ × ℤ) → Decides (same_line l m) ((l.0 ≡ m.0) × ((l.1 ≡ m.1) × (l.2 ≡ m.2)))
decides_line l m = Decides-and (int_eq l.0 m.0) (int_eq l.1 m.1 && int_eq l.2 m.2) (Decides-int_eq l.0 m.0) (Decides-and (int_eq l.1 m.1) (int_eq l.2 m.2) (Decides-int_eq l.1 m.1) (Decides-int_eq l.2 m.2))

-- the point lies on the line
abbrev pub On : ℤ × ℤ × ℤ → ℤ × ℤ → Type 0
On l p = l.0 *ℤ p.0 +ℤ l.1 *ℤ p.1 ≡ neg_ℤ l.2

decides_on : (l : ℤ × ℤ × ℤ) (p : ℤ × ℤ) → Decides (is_on l p) (On l p)
decides_on l p = Decides-int_eq (l.0 *ℤ p.0 +ℤ l.1 *ℤ p.1) (neg_ℤ l.2)

-- ---- the line through two points
-- along a direction across which a and b stand, a * x + b * y doesn't change
level : (a b d x y u v : ℤ) → (d ≡ pos 0 → ⊥) → a *ℤ d ≡ v -ℤ y → b *ℤ d ≡ x -ℤ u → a *ℤ u +ℤ b *ℤ v ≡ a *ℤ x +ℤ b *ℤ y
level a b d x y u v some ea eb =
    let scaled : (a *ℤ (u -ℤ x) +ℤ b *ℤ (v -ℤ y)) *ℤ d ≡ (a *ℤ d) *ℤ (u -ℤ x) +ℤ (b *ℤ d) *ℤ (v -ℤ y) =
    same_rep (rep-mul (rep-add (rep-mul (rep a) (rep-sub (rep u) (rep x))) (rep-mul (rep b) (rep-sub (rep v) (rep y)))) (rep d))
    (rep-add (rep-mul (rep-mul (rep a) (rep d)) (rep-sub (rep u) (rep x))) (rep-mul (rep-mul (rep b) (rep d)) (rep-sub (rep v) (rep y)))) (omega arith) in
    let gone : (v -ℤ y) *ℤ (u -ℤ x) +ℤ (x -ℤ u) *ℤ (v -ℤ y) ≡ pos 0 =
    same_rep (rep-add (rep-mul (rep-sub (rep v) (rep y)) (rep-sub (rep u) (rep x))) (rep-mul (rep-sub (rep x) (rep u)) (rep-sub (rep v) (rep y)))) (rep (pos 0)) (omega arith) in
    let zero : a *ℤ (u -ℤ x) +ℤ b *ℤ (v -ℤ y) ≡ pos 0 =
    no_factor (a *ℤ (u -ℤ x) +ℤ b *ℤ (v -ℤ y)) d some
    (scaled ∙ ap (λ t. t *ℤ (u -ℤ x) +ℤ (b *ℤ d) *ℤ (v -ℤ y)) ea ∙ ap (λ t. (v -ℤ y) *ℤ (u -ℤ x) +ℤ t *ℤ (v -ℤ y)) eb ∙ gone) in
    let split : a *ℤ (u -ℤ x) +ℤ b *ℤ (v -ℤ y) ≡ (a *ℤ u +ℤ b *ℤ v) -ℤ (a *ℤ x +ℤ b *ℤ y) =
    same_rep (rep-add (rep-mul (rep a) (rep-sub (rep u) (rep x))) (rep-mul (rep b) (rep-sub (rep v) (rep y))))
    (rep-sub (rep-add (rep-mul (rep a) (rep u)) (rep-mul (rep b) (rep v))) (rep-add (rep-mul (rep a) (rep x)) (rep-mul (rep b) (rep y)))) (omega arith) in
    let e = sym split ∙ zero in
    omega (arith, ints)

value_bound : (a b x y : ℤ) → unsigned_abs a ≤ 2 ^ 63 → unsigned_abs b ≤ 2 ^ 63 → unsigned_abs x ≤ 2 ^ 62 → unsigned_abs y ≤ 2 ^ 62 → unsigned_abs (neg_ℤ (a *ℤ x +ℤ b *ℤ y)) ≤ 2 ^ 126
value_bound a b x y ha hb hx hy =
    let ax : unsigned_abs (a *ℤ x) ≤ 2 ^ 63 * 2 ^ 62 = subst (λ t. t ≤ 2 ^ 63 * 2 ^ 62) (sym (unsigned_abs-mul a x)) (mul-le-mul ha hx) in
    let by : unsigned_abs (b *ℤ y) ≤ 2 ^ 63 * 2 ^ 62 = subst (λ t. t ≤ 2 ^ 63 * 2 ^ 62) (sym (unsigned_abs-mul b y)) (mul-le-mul hb hy) in
    omega (arith, ints)

flat_normal : (a b : ℤ) → IsNormal3 a b (pos 0) → IsNormal a b
flat_normal a b n =
    let g = gcd (unsigned_abs a) (unsigned_abs b) in
    let e : g ≡ gcd g 0 = same_from_IsGcd g 0 g (gcd g 0) (IsGcd-from_zero g 0 refl) (IsGcd-gcd g 0) in
    record {
      lowest = e ∙ n.lowest;
      sign = elim n.sign as (λ _. (pos 0 <ℤ a) ⊎ ((a ≡ pos 0) × (pos 0 <ℤ b))) [
        | inl h ↦ inl h
        | inr h ↦ inr (h.0, elim h.1 as (λ _. pos 0 <ℤ b) [ inl k ↦ k | inr k ↦ let z = k.1 in absurd (omega (arith, ints)) ])
      ];
    }

record IsThrough (p q : ℤ × ℤ) (l : ℤ × ℤ × ℤ) : Type 0 where
  normal : IsNormal l.0 l.1
  first : On l p
  second : On l q
  fit : IsSpot p → IsSpot q → IsStraight l

through_is : (p q : ℤ × ℤ) → (IsSame p q → ⊥) → IsThrough p q (through p q)
unfolding through
through_is p q apart =
    let u = q.1 -ℤ p.1 in
    let v = p.0 -ℤ q.0 in
    let ne : (u ≡ pos 0) × (v ≡ pos 0) × (pos 0 ≡ pos 0) → ⊥ = λ z. let z0 = z.0 in let z1 = z.1 in apart (omega (arith, ints), omega (arith, ints)) in
    let low = lowest_is u v (pos 0) ne in
    let d = divisor u v (pos 0) in
    let a = int_div u d in
    let b = int_div v d in
    let zero : int_div (pos 0) d ≡ pos 0 = no_factor (int_div (pos 0) d) d low.some low.third in
    let n3 : IsNormal3 a b (pos 0) = subst (IsNormal3 a b) zero low.normal in
    let normal : IsNormal a b = flat_normal a b n3 in
    record {
      normal = normal;
      first = omega (arith, ints);
      second = level a b d p.0 p.1 q.0 q.1 low.some low.first low.second ∙ omega (arith, ints);
      fit = λ f g.
          let fx = f.x in let fy = f.y in let gx = g.x in let gy = g.y in
          let la : unsigned_abs a ≤ 2 ^ 63 = let s = smaller a d u low.some low.first in omega (arith, ints) in
          let lb : unsigned_abs b ≤ 2 ^ 63 = let s = smaller b d v low.some low.second in omega (arith, ints) in
          record { normal = normal; a = la; b = lb; c = value_bound a b p.0 p.1 la lb fx fy };
    }

-- ---- the order: the points of the first are among those of the second
abbrev pub LineLe : Line → Line → Type 0
LineLe (spot p) (spot q) = IsSame p q
LineLe (spot p) (straight l) = On l p
LineLe (straight l) (spot q) = ⊥
LineLe (straight l) (straight m) = l ≡ m

abbrev pub IsLine : Line → Type 0
IsLine (spot p) = IsSpot p
IsLine (straight l) = IsStraight l

same_pair : (p q : ℤ × ℤ) → IsSame p q → p ≡ q
same_pair p q e = ap (λ x. (x, p.1)) e.0 ∙ ap (λ y. (q.0, y)) e.1

same_triple : (l m : ℤ × ℤ × ℤ) → (l.0 ≡ m.0) × (l.1 ≡ m.1) × (l.2 ≡ m.2) → l ≡ m
same_triple l m e = ap (λ a. (a, l.1, l.2)) e.0 ∙ ap (λ b. (m.0, b, l.2)) e.1 ∙ ap (λ c. (m.0, m.1, c)) e.2

line_same : (x : Line) → IsLine x → LineLe x x
line_same (spot p) f = (refl, refl)
line_same (straight l) f = refl

line_antisymmetric : (x y : Line) → IsLine x → IsLine y → LineLe x y → LineLe y x → x ≡ y
line_antisymmetric (spot p) (spot q) f g h k = ap spot (same_pair p q h)
line_antisymmetric (spot p) (straight m) f g h k = absurd k
line_antisymmetric (straight l) (spot q) f g h k = absurd h
line_antisymmetric (straight l) (straight m) f g h k = ap straight h

line_transitive : (x y z : Line) → IsLine x → IsLine y → IsLine z → LineLe x y → LineLe y z → LineLe x z
line_transitive (spot p) (spot q) (spot r) f g h k l = (k.0 ∙ l.0, k.1 ∙ l.1)
line_transitive (spot p) (spot q) (straight m) f g h k l = subst (On m) (sym (same_pair p q k)) l
line_transitive (spot p) (straight l) (spot r) f g h k m = absurd m
line_transitive (spot p) (straight l) (straight m) f g h k e = subst (λ n. On n p) e k
line_transitive (straight l) (spot q) z f g h k m = absurd k
line_transitive (straight l) (straight m) (spot r) f g h k e = absurd e
line_transitive (straight l) (straight m) (straight n) f g h k e = k ∙ e

-- two points that differ lie on one line at most
unique : (l m : ℤ × ℤ × ℤ) (p q : ℤ × ℤ) → IsNormal l.0 l.1 → IsNormal m.0 m.1 → (IsSame p q → ⊥) → On l p → On l q → On m p → On m q → l ≡ m
unique l m p q n n' apart lp lq mp mq =
    same_triple l m (one_line l.0 l.1 l.2 m.0 m.1 m.2 p.0 p.1 q.0 q.1 n n' (λ z. let z0 = z.0 in let z1 = z.1 in apart (omega (arith, ints), omega (arith, ints)))
    (record { on = lp }) (record { on = lq }) (record { on = mp }) (record { on = mq }))

-- ---- the join
abbrev IsJoin : Line → Line → Known Line → Type 0
IsJoin = IsJoinOf IsLine LineLe

join_spots : (p q : ℤ × ℤ) → IsSpot p → IsSpot q → IsJoin (spot p) (spot q) (line_meet (spot p) (spot q))
join_spots p q f g =
    elim (choice (same_point p q) (decides_same p q) (fact (spot p)) (fact (straight (through p q)))) as (λ _. IsJoin (spot p) (spot q) (line_meet (spot p) (spot q))) [
      | inl h ↦ subst (IsJoin (spot p) (spot q)) (sym h.1)
          (record { fit = f; first = (refl, refl); second = (sym h.0.0, sym h.0.1); least = λ z fz a b. a })
      | inr h ↦
          let t = through_is p q h.0 in
          subst (IsJoin (spot p) (spot q)) (sym h.1) (record { fit = t.fit f g; first = t.first; second = t.second; least = least t h.0 })
    ]
  where
    least : IsThrough p q (through p q) → (IsSame p q → ⊥) → (z : Line) → IsLine z → LineLe (spot p) z → LineLe (spot q) z → LineLe (straight (through p q)) z
    least t apart (spot r) fz a b = absurd (apart (a.0 ∙ sym b.0, a.1 ∙ sym b.1))
    least t apart (straight m) fz a b = unique (through p q) m p q t.normal fz.normal apart t.first t.second a b

join_spot_straight : (p : ℤ × ℤ) (l : ℤ × ℤ × ℤ) → IsSpot p → IsStraight l → IsJoin (spot p) (straight l) (if is_on l p then fact (straight l) else broken)
join_spot_straight p l f g =
    elim (choice (is_on l p) (decides_on l p) (fact (straight l)) broken) as (λ _. IsJoin (spot p) (straight l) (if is_on l p then fact (straight l) else broken)) [
      | inl h ↦ subst (IsJoin (spot p) (straight l)) (sym h.1) (record { fit = g; first = h.0; second = refl; least = λ z fz a b. b })
      | inr h ↦ subst (IsJoin (spot p) (straight l)) (sym h.1) (record { fit = tt; first = tt; second = tt; least = least h.0 })
    ]
  where
    least : (On l p → ⊥) → (z : Line) → IsLine z → LineLe (spot p) z → LineLe (straight l) z → Below LineLe broken (fact z)
    least off (spot r) fz a b = absurd b
    least off (straight m) fz a b = absurd (off (subst (λ n. On n p) (sym b) a))

join_straights : (l m : ℤ × ℤ × ℤ) → IsStraight l → IsStraight m → IsJoin (straight l) (straight m) (line_meet (straight l) (straight m))
join_straights l m f g =
    elim (choice (same_line l m) (decides_line l m) (fact (straight l)) broken) as (λ _. IsJoin (straight l) (straight m) (line_meet (straight l) (straight m))) [
      | inl h ↦ subst (IsJoin (straight l) (straight m)) (sym h.1)
          (record { fit = f; first = refl; second = sym (same_triple l m (h.0.0, h.0.1.0, h.0.1.1)); least = λ z fz a b. a })
      | inr h ↦ subst (IsJoin (straight l) (straight m)) (sym h.1) (record { fit = tt; first = tt; second = tt; least = least h.0 })
    ]
  where
    least : ((l.0 ≡ m.0) × ((l.1 ≡ m.1) × (l.2 ≡ m.2)) → ⊥) → (z : Line) → IsLine z → LineLe (straight l) z → LineLe (straight m) z → Below LineLe broken (fact z)
    least differ (spot r) fz a b = absurd a
    least differ (straight n) fz a b = let e = a ∙ sym b in absurd (differ (ap (λ t. t.0) e, (ap (λ t. t.1) e, ap (λ t. t.2) e)))

line_joins : (x y : Line) → IsLine x → IsLine y → IsJoin x y (line_meet x y)
line_joins (spot p) (spot q) f g = join_spots p q f g
line_joins (spot p) (straight l) f g = join_spot_straight p l f g
line_joins (straight l) (spot p) f g = turned (join_spot_straight p l g f)
line_joins (straight l) (straight m) f g = join_straights l m f g

pub line_hull : IsHull IsLine LineLe line_meet
line_hull = record { same = line_same; antisymmetric = line_antisymmetric; transitive = line_transitive; joins = line_joins }

-- ---- the state of a list
-- one point
abbrev pub line_one : ℤ × ℤ → Known Line
line_one p = if in_limit p then fact (spot p) else broken

Decides-leb : (a b : ℕ) → Decides (nat_le a b) (a ≤ b)
Decides-leb a b = ((λ h. grind arith), (λ h. grind arith))

pub decides_limit : (p : ℤ × ℤ) → Decides (in_limit p) ((unsigned_abs p.0 ≤ 2 ^ 62) × (unsigned_abs p.1 ≤ 2 ^ 62))
decides_limit p = Decides-and (nat_le (unsigned_abs p.0) (2 ^ 62)) (nat_le (unsigned_abs p.1) (2 ^ 62)) (Decides-leb (unsigned_abs p.0) (2 ^ 62)) (Decides-leb (unsigned_abs p.1) (2 ^ 62))

spot_of_limit : (p : ℤ × ℤ) → in_limit p ≡ true → IsSpot p
spot_of_limit p e = let h = (decides_limit p).0 e in record { x = h.0; y = h.1 }

pub one_within : (p : ℤ × ℤ) → in_limit p ≡ true → line_one p ≡ fact (spot p)
one_within p e = ap (λ b. if b then fact (spot p) else broken) e

pub one_outside : (p : ℤ × ℤ) → in_limit p ≡ false → line_one p ≡ broken
one_outside p e = ap (λ b. if b then fact (spot p) else broken) e

line_one_fit : (p : ℤ × ℤ) → IfFact IsLine (line_one p)
line_one_fit p =
    elim (cases_Bool (in_limit p)) as (λ _. IfFact IsLine (line_one p)) [
      | inl e ↦ subst (IfFact IsLine) (sym (one_within p e)) (spot_of_limit p e)
      | inr e ↦ subst (IfFact IsLine) (sym (one_outside p e)) tt
    ]

first_apart_in : (p : ℤ × ℤ) (ps : List (ℤ × ℤ)) → IsIn (first_apart p ps) (p ∷ ps)
first_apart_in p [] = inl refl
first_apart_in p (q ∷ qs) =
    elim (choice (same_point p q) (decides_same p q) (first_apart p qs) q) as (λ _. IsIn (first_apart p (q ∷ qs)) (p ∷ q ∷ qs)) [
      | inl h ↦ subst (λ r. IsIn r (p ∷ q ∷ qs)) (sym h.1)
          (elim (first_apart_in p qs) as (λ _. IsIn (first_apart p qs) (p ∷ q ∷ qs)) [ inl e ↦ inl e | inr i ↦ inr (inr i) ])
      | inr h ↦ subst (λ r. IsIn r (p ∷ q ∷ qs)) (sym h.1) (inr (inl refl))
    ]

all_same : (p : ℤ × ℤ) (ps : List (ℤ × ℤ)) → IsSame p (first_apart p ps) → (v : ℤ × ℤ) → IsIn v ps → v ≡ p
all_same p [] s v i = absurd i
all_same p (q ∷ qs) s v i =
    elim (choice (same_point p q) (decides_same p q) (first_apart p qs) q) as (λ _. v ≡ p) [
      | inl h ↦ elim i as (λ _. v ≡ p) [ inl e ↦ e ∙ sym (same_pair p q h.0) | inr j ↦ all_same p qs (subst (IsSame p) h.1 s) v j ]
      | inr h ↦ absurd (h.0 (subst (IsSame p) h.1 s))
    ]

-- what is known of the points within the limit
record IsKnownOf (points : List (ℤ × ℤ)) (k : Known Line) : Type 0 where
  fit : IfFact IsLine k
  holds : (v : ℤ × ℤ) → IsIn v points → Below LineLe (fact (spot v)) k
  least : (j : Known Line) → IfFact IsLine j → ((v : ℤ × ℤ) → IsIn v points → Below LineLe (fact (spot v)) j) → Below LineLe k j

line_from_is : (p : ℤ × ℤ) (ps : List (ℤ × ℤ)) → ((v : ℤ × ℤ) → IsIn v (p ∷ ps) → IsSpot v) → IsKnownOf (p ∷ ps) (line_from p ps)
line_from_is p ps spots =
    let q = first_apart p ps in
    let l = through p q in
    let rest : Known Line = if list_all (is_on l) ps then fact (straight l) else broken in
    elim (choice (same_point p q) (decides_same p q) (fact (spot p)) rest) as (λ _. IsKnownOf (p ∷ ps) (line_from p ps)) [
      | inl h ↦ subst (IsKnownOf (p ∷ ps)) (sym h.1) (record {
        fit = spots p (inl refl);
        holds = λ v i. elim i as (λ _. IsSame v p) [ inl e ↦ same_parts v p e | inr j ↦ same_parts v p (all_same p ps h.0 v j) ];
        least = λ j f a. a p (inl refl);
      })
      | inr h ↦ subst (IsKnownOf (p ∷ ps)) (sym h.1) (elim (all_or_one (is_on l) ps) as (λ _. IsKnownOf (p ∷ ps) rest) [
        | inl a ↦ subst (IsKnownOf (p ∷ ps)) (sym (ap (λ b. if b then fact (straight l) else broken) a.0)) (on_line h.0 a.1)
        | inr a ↦ subst (IsKnownOf (p ∷ ps)) (sym (ap (λ b. if b then fact (straight l) else broken) a.0)) (off_line h.0 a.1)
      ])
    ]
  where
    same_parts : (v w : ℤ × ℤ) → v ≡ w → IsSame v w
    same_parts v w e = (ap (λ t. t.0) e, ap (λ t. t.1) e)

    -- a line that two of the points, which differ, lie on
    only : (apart : IsSame p (first_apart p ps) → ⊥) (m : ℤ × ℤ × ℤ) → IsStraight m → ((v : ℤ × ℤ) → IsIn v (p ∷ ps) → On m v) → through p (first_apart p ps) ≡ m
    only apart m f a =
        let q = first_apart p ps in
        let t = through_is p q apart in
        unique (through p q) m p q t.normal f.normal apart t.first t.second (a p (inl refl)) (a q (first_apart_in p ps))

    below : (apart : IsSame p (first_apart p ps) → ⊥) (j : Known Line) → IfFact IsLine j → ((v : ℤ × ℤ) → IsIn v (p ∷ ps) → Below LineLe (fact (spot v)) j)
        → Below LineLe (fact (straight (through p (first_apart p ps)))) j
    below apart nothing f a = a p (inl refl)
    below apart broken f a = tt
    below apart (fact (spot r)) f a =
        let q = first_apart p ps in
        let ap_ = a p (inl refl) in
        let aq = a q (first_apart_in p ps) in
        absurd (apart (ap_.0 ∙ sym aq.0, ap_.1 ∙ sym aq.1))
    below apart (fact (straight m)) f a = only apart m f a

    on_line : (apart : IsSame p (first_apart p ps) → ⊥) → ((v : ℤ × ℤ) → IsIn v ps → is_on (through p (first_apart p ps)) v ≡ true) → IsKnownOf (p ∷ ps) (fact (straight (through p (first_apart p ps))))
    on_line apart on =
        let q = first_apart p ps in
        let l = through p q in
        let t = through_is p q apart in
        record {
          fit = t.fit (spots p (inl refl)) (spots q (first_apart_in p ps));
          holds = λ v i. elim i as (λ _. On l v) [ inl e ↦ subst (On l) (sym e) t.first | inr j ↦ (decides_on l v).0 (on v j) ];
          least = below apart;
        }

    off_line : (apart : IsSame p (first_apart p ps) → ⊥) → ((v : ℤ × ℤ) × IsIn v ps × (is_on (through p (first_apart p ps)) v ≡ false)) → IsKnownOf (p ∷ ps) broken
    off_line apart one = record { fit = tt; holds = λ v i. tt; least = none }
      where
        none : (j : Known Line) → IfFact IsLine j → ((v : ℤ × ℤ) → IsIn v (p ∷ ps) → Below LineLe (fact (spot v)) j) → Below LineLe broken j
        none nothing f a = a p (inl refl)
        none broken f a = tt
        none (fact (spot r)) f a = below apart (fact (spot r)) f a
        none (fact (straight m)) f a =
            let l = through p (first_apart p ps) in
            let e : l ≡ m = only apart m f a in
            not_from_Decides (is_on l one.0) (decides_on l one.0) one.2 (subst (λ n. On n one.0) (sym e) (a one.0 (inr one.1)))

pub line_known_of_is : IsHullOf IsLine LineLe line_one line_known_of
line_known_of_is = record { one_fit = line_one_fit; fit = fit; holds = holds; least = least }
  where
    within : (p : ℤ × ℤ) (ps : List (ℤ × ℤ)) → list_all in_limit (p ∷ ps) ≡ true → line_known_of (p ∷ ps) ≡ line_from p ps
    within p ps e = ap (λ b. if b then line_from p ps else broken) e

    outside : (p : ℤ × ℤ) (ps : List (ℤ × ℤ)) → list_all in_limit (p ∷ ps) ≡ false → line_known_of (p ∷ ps) ≡ broken
    outside p ps e = ap (λ b. if b then line_from p ps else broken) e

    from_is : (p : ℤ × ℤ) (ps : List (ℤ × ℤ)) → ((v : ℤ × ℤ) → IsIn v (p ∷ ps) → in_limit v ≡ true) → IsKnownOf (p ∷ ps) (line_from p ps)
    from_is p ps all = line_from_is p ps (λ v i. spot_of_limit v (all v i))

    fit : (vs : List (ℤ × ℤ)) → IfFact IsLine (line_known_of vs)
    fit [] = tt
    fit (p ∷ ps) = elim (all_or_one in_limit (p ∷ ps)) as (λ _. IfFact IsLine (line_known_of (p ∷ ps))) [
      | inl h ↦ subst (IfFact IsLine) (sym (within p ps h.0)) (from_is p ps h.1).fit
      | inr h ↦ subst (IfFact IsLine) (sym (outside p ps h.0)) tt
    ]

    holds : (v : ℤ × ℤ) (vs : List (ℤ × ℤ)) → IsIn v vs → Below LineLe (line_one v) (line_known_of vs)
    holds v [] i = absurd i
    holds v (p ∷ ps) i = elim (all_or_one in_limit (p ∷ ps)) as (λ _. Below LineLe (line_one v) (line_known_of (p ∷ ps))) [
      | inl h ↦ subst (λ k. Below LineLe k (line_known_of (p ∷ ps))) (sym (one_within v (h.1 v i)))
          (subst (Below LineLe (fact (spot v))) (sym (within p ps h.0)) ((from_is p ps h.1).holds v i))
      | inr h ↦ subst (Below LineLe (line_one v)) (sym (outside p ps h.0)) (below-broken line_hull (line_one v))
    ]

    least : (vs : List (ℤ × ℤ)) (k : Known Line) → IfFact IsLine k → ((v : ℤ × ℤ) → IsIn v vs → Below LineLe (line_one v) k) → Below LineLe (line_known_of vs) k
    least [] k f a = tt
    least (p ∷ ps) k f a = elim (all_or_one in_limit (p ∷ ps)) as (λ _. Below LineLe (line_known_of (p ∷ ps)) k) [
      | inl h ↦ subst (λ j. Below LineLe j k) (sym (within p ps h.0)) ((from_is p ps h.1).least k f (λ v i. subst (λ j. Below LineLe j k) (one_within v (h.1 v i)) (a v i)))
      | inr h ↦ let one = h.1 in subst (λ j. Below LineLe j k) (sym (outside p ps h.0)) (subst (λ j. Below LineLe j k) (one_outside one.0 one.2) (a one.0 one.1))
    ]
