-- A line with its coordinates exchanged.
use Rattle.std.specs.Prelude.{◌≡◌, ℤ, pos, negsuc, neg_ℤ, ◌<ℤ◌, ◌≤ℤ◌, ◌^◌, ◌⊎◌, unsigned_abs, int_lt, Bool, true, false, ◌&&◌, if◌then◌else◌, List, map, nat_le, refl}
use Rattle.std.proofs.Common.{sym, ap, ◌∙◌, subst, arith, inl, inr}
use Rattle.std.proofs.lemmas.Int.{ints, by_lt_z}
use Rattle.dk_forms.proofs.LineFacts.{IsLine, LineLe, On, line_hull, line_known_of_is, line_one}
use Rattle.dk_forms.specs.Plane.Line.{IsStraight, Line, line_known_of, spot, straight}
use Rattle.dk_forms.specs.Known.{broken, fact}
use Rattle.dk_arith.specs.Gcd.{gcd}
use Rattle.dk_arith.proofs.GcdLaws.{gcd-swap}
use Rattle.dk_forms.proofs.Moves.{lift, moved_state}
use Rattle.dk_arith.proofs.Ring.{rep, rep-add, rep-mul, rep-neg, same_rep}

abbrev pub swap : ℤ × ℤ → ℤ × ℤ
swap p = (p.1, p.0)

-- with its sign set anew: b is positive, or b is 0 and then a was 1
abbrev pub swap_line : ℤ × ℤ × ℤ → ℤ × ℤ × ℤ
swap_line l = if int_lt l.1 (pos 0) then (neg_ℤ l.1, neg_ℤ l.0, neg_ℤ l.2) else (l.1, l.0, l.2)

abbrev pub exchanged : Line → Line
exchanged (spot p) = spot (swap p)
exchanged (straight l) = straight (swap_line l)

negative : (x : ℤ) → ((x <ℤ pos 0) × (int_lt x (pos 0) ≡ true)) ⊎ ((x <ℤ pos 0 → ⊥) × (int_lt x (pos 0) ≡ false))
negative (pos n) = inr ((λ h. absurd (omega (arith, ints))), grind (arith, ints))
negative (negsuc n) = inl (omega (arith, ints), grind (arith, ints))

-- the two ways
abbrev choose : ℤ × ℤ × ℤ → Bool → ℤ × ℤ × ℤ
choose l b = if b then (neg_ℤ l.1, neg_ℤ l.0, neg_ℤ l.2) else (l.1, l.0, l.2)

swap_line_cases : (l : ℤ × ℤ × ℤ) → ((l.1 <ℤ pos 0) × (◌≡◌ {A = ℤ × ℤ × ℤ} (swap_line l) (neg_ℤ l.1, neg_ℤ l.0, neg_ℤ l.2))) ⊎ ((l.1 <ℤ pos 0 → ⊥) × (◌≡◌ {A = ℤ × ℤ × ℤ} (swap_line l) (l.1, l.0, l.2)))
swap_line_cases l =
    elim (negative l.1) as (λ _. ((l.1 <ℤ pos 0) × (◌≡◌ {A = ℤ × ℤ × ℤ} (swap_line l) (neg_ℤ l.1, neg_ℤ l.0, neg_ℤ l.2))) ⊎ ((l.1 <ℤ pos 0 → ⊥) × (◌≡◌ {A = ℤ × ℤ × ℤ} (swap_line l) (l.1, l.0, l.2)))) [
      | inl h ↦ inl (h.0, ap (choose l) h.1)
      | inr h ↦ inr (h.0, ap (choose l) h.1)
    ]

swap_fit : (l : ℤ × ℤ × ℤ) → IsStraight l → IsStraight (swap_line l)
swap_fit l f =
    let fa = f.a in let fb = f.b in let fc = f.c in
    let one = gcd-swap (unsigned_abs l.1) (unsigned_abs l.0) ∙ f.normal.lowest in
    elim (swap_line_cases l) as (λ _. IsStraight (swap_line l)) [
      | inl h ↦ let h0 = h.0 in
          let e1 : unsigned_abs (neg_ℤ l.1) ≡ unsigned_abs l.1 = omega (arith, ints) in
          let e0 : unsigned_abs (neg_ℤ l.0) ≡ unsigned_abs l.0 = omega (arith, ints) in
          subst IsStraight (sym h.1) (record {
            normal = record { lowest = ap (λ t. gcd t (unsigned_abs (neg_ℤ l.0))) e1 ∙ ap (gcd (unsigned_abs l.1)) e0 ∙ one; sign = inl (omega (arith, ints)) };
            a = omega (arith, e1);
            b = omega (arith, e0);
            c = omega (arith, ints);
          })
      | inr h ↦ let h0 = h.0 in
          subst IsStraight (sym h.1) (record {
            normal = record { lowest = one; sign = by_lt_z (pos 0) l.1 (λ p. inl p) (λ p. inr (zero p h0, elim f.normal.sign as (λ _. pos 0 <ℤ l.0) [ inl s ↦ s | inr s ↦ let s1 = s.1 in let z = zero p h0 in absurd (omega (arith, ints)) ])) };
            a = fb;
            b = fa;
            c = fc;
          })
    ]
  where
    zero : l.1 ≤ℤ pos 0 → (l.1 <ℤ pos 0 → ⊥) → l.1 ≡ pos 0
    zero p n = by_lt_z l.1 (pos 0) (λ h. absurd (n h)) (λ h. omega (arith, ints))

swap_again : (l : ℤ × ℤ × ℤ) → IsStraight l → swap_line (swap_line l) ≡ l
swap_again l f =
    elim (swap_line_cases l) as (λ _. swap_line (swap_line l) ≡ l) [
      | inl h ↦ let h0 = h.0 in
          let m : ℤ × ℤ × ℤ = (neg_ℤ l.1, neg_ℤ l.0, neg_ℤ l.2) in
          ap swap_line h.1 ∙ elim (swap_line_cases m) as (λ _. swap_line m ≡ l) [
            | inl k ↦ k.1 ∙ triple (neg_ℤ (neg_ℤ l.0)) (neg_ℤ (neg_ℤ l.1)) (neg_ℤ (neg_ℤ l.2)) l (omega (arith, ints)) (omega (arith, ints)) (omega (arith, ints))
            | inr k ↦ absurd (elim f.normal.sign as (λ _. ⊥) [ inl s ↦ k.0 (omega (arith, ints)) | inr s ↦ let s1 = s.1 in absurd (omega (arith, ints)) ])
          ]
      | inr h ↦
          let m : ℤ × ℤ × ℤ = (l.1, l.0, l.2) in
          ap swap_line h.1 ∙ elim (swap_line_cases m) as (λ _. swap_line m ≡ l) [
            | inl k ↦ let k0 = k.0 in absurd (elim f.normal.sign as (λ _. ⊥) [ inl s ↦ absurd (omega (arith, ints)) | inr s ↦ let s0 = s.0 in absurd (omega (arith, ints)) ])
            | inr k ↦ k.1
          ]
    ]
  where
    triple : (a b c : ℤ) (m : ℤ × ℤ × ℤ) → a ≡ m.0 → b ≡ m.1 → c ≡ m.2 → ◌≡◌ {A = ℤ × ℤ × ℤ} (a, b, c) m
    triple a b c m e f g = ap (λ t. (t, b, c)) e ∙ ap (λ t. (m.0, t, c)) f ∙ ap (λ t. (m.0, m.1, t)) g

swap_on : (l : ℤ × ℤ × ℤ) (p : ℤ × ℤ) → On l p → On (swap_line l) (swap p)
swap_on l p h =
    elim (swap_line_cases l) as (λ _. On (swap_line l) (swap p)) [
      | inr k ↦ subst (λ m. On m (swap p)) (sym k.1) (omega (arith, ints))
      | inl k ↦ subst (λ m. On m (swap p)) (sym k.1)
          (same_rep (rep-add (rep-mul (rep-neg (rep l.1)) (rep p.1)) (rep-mul (rep-neg (rep l.0)) (rep p.0))) (rep-neg (rep-add (rep-mul (rep l.0) (rep p.0)) (rep-mul (rep l.1) (rep p.1)))) (omega arith) ∙ ap neg_ℤ h)
    ]

exchanged_fit : (x : Line) → IsLine x → IsLine (exchanged x)
exchanged_fit (spot p) f = record { x = f.y; y = f.x }
exchanged_fit (straight l) f = swap_fit l f

exchanged_keeps : (x y : Line) → IsLine x → IsLine y → LineLe x y → LineLe (exchanged x) (exchanged y)
exchanged_keeps (spot p) (spot q) f g h = (h.1, h.0)
exchanged_keeps (spot p) (straight l) f g h = swap_on l p h
exchanged_keeps (straight l) (spot q) f g h = h
exchanged_keeps (straight l) (straight m) f g h = ap swap_line h

exchanged_again : (x : Line) → IsLine x → exchanged (exchanged x) ≡ x
exchanged_again (spot p) f = refl
exchanged_again (straight l) f = ap straight (swap_again l f)

exchanged_ones : (p : ℤ × ℤ) → line_one (swap p) ≡ lift exchanged (line_one p)
exchanged_ones p =
    elim (nat_le (unsigned_abs p.0) (2 ^ 62)) as (λ s. (if nat_le (unsigned_abs p.1) (2 ^ 62) && s then fact (spot (swap p)) else broken) ≡ lift exchanged (if s && nat_le (unsigned_abs p.1) (2 ^ 62) then fact (spot p) else broken)) [
      | true ↦ elim (nat_le (unsigned_abs p.1) (2 ^ 62)) as (λ t. (if t && true then fact (spot (swap p)) else broken) ≡ lift exchanged (if t then fact (spot p) else broken)) [ true ↦ refl | false ↦ refl ]
      | false ↦ elim (nat_le (unsigned_abs p.1) (2 ^ 62)) as (λ t. (if t && false then fact (spot (swap p)) else broken) ≡ broken) [ true ↦ refl | false ↦ refl ]
    ]

-- the state of points with their coordinates exchanged
pub line_exchanged : (points : List (ℤ × ℤ)) → line_known_of (map swap points) ≡ lift exchanged (line_known_of points)
line_exchanged points =
    moved_state line_hull line_known_of_is
    (record { fit = exchanged_fit; back_fit = exchanged_fit; keeps = exchanged_keeps; back_keeps = exchanged_keeps; again = exchanged_again; back_again = exchanged_again; ones = exchanged_ones })
    points
