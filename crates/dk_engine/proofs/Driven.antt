-- Stretches of a line of which each coordinate is the number of the variable that drives it, or that of a variable that has no other: no
-- sample changes them in which the driving variable is within its ends.
use Rattle.std.specs.Prelude.{◌≡◌, ◌^◌, ◌&&◌, ◌||◌, ◌==◌, ◌⊎◌, ℤ, pos, ◌-ℤ◌, ◌*ℤ◌, Bool, true, false, List, [], ◌∷◌, if◌then◌else◌, int_le, int_lt, nat_le, refl, unsigned_abs}
use Rattle.std.specs.List.{list_all}
use Rattle.std.specs.Ordering.{int_eq}
use Rattle.std.proofs.Common.{◌∙◌, ap, arith, inl, inr, subst, sym}
use Rattle.std.proofs.Math.IntN.{*ℤ_comm}
use Rattle.std.proofs.lemmas.Bool.{and_from, and_parts, cases_Bool, false≢true, or_cases}
use Rattle.std.proofs.lemmas.Bool.Decides.{Decides-int_eq}
use Rattle.std.proofs.lemmas.Int.{ints}
use Rattle.dk_arith.proofs.Ring.{rep, rep-mul, rep-sub, same_rep}
use Rattle.dk_arith.specs.Vectors.{minus}
use Rattle.dk_base.specs.Values.Tuples.{int_of}
use Rattle.dk_base.specs.declared.kinds.VarId.{VarId}
use Rattle.dk_base.specs.declared.values.Value.{Value}
use Rattle.dk_base.specs.declared.values.Value.TheVariants as value
use Rattle.dk_forms.proofs.PlaneFacts.{point_of_limit}
use Rattle.dk_forms.specs.Plane.{IsSpan, are_aligned, in_space, is_before, plane_join, plane_of}
use Rattle.dk_forms.specs.declared.states.State.{State}
use Rattle.dk_forms.specs.declared.states.State.TheVariants.{Span}
use Rattle.dk_instances.specs.Fits.{is_whole, tuple_in}
use Rattle.dk_samples.specs.Samples.{is_present, value_in}
use Rattle.dk_ternary.specs.Rows.{linear_ternary_row}
use Rattle.dk_engine.proofs.Bounding.{of_missing}
use Rattle.dk_engine.proofs.KnownNumbers.{all_within, alone, by_value, known, near_between, no_greater, no_less, same_value}
use Rattle.dk_engine.proofs.OneTuple.{slot_by}
use Rattle.dk_engine.proofs.Stretches.{before_of, planar_sample, within_stretch}
use Rattle.dk_engine.specs.Feeding.{with_sample}
use Rattle.dk_engine.specs.Idle.{IsIdle, are_within, is_above, is_below, is_between, is_driven, is_driven_stretch, is_from, is_near_number, is_numeric, is_to}
use Rattle.dk_engine.specs.declared.idle.Watch.{Watch}
use Rattle.dk_engine.specs.declared.idle.facts.Range.{Range}
use Rattle.dk_engine.specs.declared.slots.slot.Slot.{Slot}

-- ---- points
-- a coordinate between the ends of a stretch, which has moved as far as the driving one, s of t, or never moves
record IsLed (s t a x b : ℤ) : Type 0 where
  low : int_le a x ≡ true
  high : int_le x b ≡ true
  near_first : nat_le (unsigned_abs a) (2 ^ 30) ≡ true
  near : nat_le (unsigned_abs x) (2 ^ 30) ≡ true
  near_last : nat_le (unsigned_abs b) (2 ^ 30) ≡ true
  moved : ((x -ℤ a ≡ s) × (b -ℤ a ≡ t)) ⊎ ((x -ℤ a ≡ pos 0) × (b -ℤ a ≡ pos 0))

same_products : (m n i j e f g h : ℤ) → m ≡ e → n ≡ f → i ≡ g → j ≡ h → e *ℤ h ≡ f *ℤ g → m *ℤ j ≡ n *ℤ i
same_products m n i j e f g h em en ei ej same = ap (λ k. k *ℤ j) em ∙ (ap (λ k. e *ℤ k) ej ∙ (same ∙ (sym (ap (λ k. f *ℤ k) ei) ∙ sym (ap (λ k. k *ℤ i) en))))

by_none : (s t : ℤ) → s *ℤ pos 0 ≡ t *ℤ pos 0
by_none s t = same_rep (rep-mul (rep s) (rep (pos 0))) (rep-mul (rep t) (rep (pos 0))) (omega arith)

none_by : (s t : ℤ) → pos 0 *ℤ t ≡ pos 0 *ℤ s
none_by s t = same_rep (rep-mul (rep (pos 0)) (rep t)) (rep-mul (rep (pos 0)) (rep s)) (omega arith)

alike : (s t m n i j : ℤ) → ((m ≡ s) × (n ≡ t)) ⊎ ((m ≡ pos 0) × (n ≡ pos 0)) → ((i ≡ s) × (j ≡ t)) ⊎ ((i ≡ pos 0) × (j ≡ pos 0)) → m *ℤ j ≡ n *ℤ i
alike s t m n i j (inl a) (inl b) = same_products m n i j s t s t a.0 a.1 b.0 b.1 (*ℤ_comm s t)
alike s t m n i j (inl a) (inr b) = same_products m n i j s t (pos 0) (pos 0) a.0 a.1 b.0 b.1 (by_none s t)
alike s t m n i j (inr a) (inl b) = same_products m n i j (pos 0) (pos 0) s t a.0 a.1 b.0 b.1 (none_by s t)
alike s t m n i j (inr a) (inr b) = same_products m n i j (pos 0) (pos 0) (pos 0) (pos 0) a.0 a.1 b.0 b.1 refl

-- a point of which no coordinate is less isn't before
no_later : (a b : ℤ) (rest : Bool) → int_le a b ≡ true → rest ≡ true → (if int_eq a b then rest else int_lt a b) ≡ true
no_later a b rest le more = elim (cases_Bool (int_eq a b)) as (λ _. (if int_eq a b then rest else int_lt a b) ≡ true) [
  | inl e ↦ ap (λ t. if t then rest else int_lt a b) e ∙ more
  | inr n ↦ ap (λ t. if t then rest else int_lt a b) n ∙ less n
]
  where
    less : int_eq a b ≡ false → int_lt a b ≡ true
    less n = elim (cases_Bool (int_lt a b)) as (λ _. int_lt a b ≡ true) [
      | inl lt ↦ lt
      | inr ge ↦ let same : a ≡ b = grind (arith, ints) in absurd (false≢true (sym n ∙ (Decides-int_eq a b).1 same))
    ]

before_each : (p q : ℤ × ℤ × ℤ) → int_le p.0 q.0 ≡ true → int_le p.1 q.1 ≡ true → int_le p.2 q.2 ≡ true → is_before p q ≡ true
before_each p q x y z = no_later p.0 q.0 (if int_eq p.1 q.1 then int_le p.2 q.2 else int_lt p.1 q.1) x (no_later p.1 q.1 (int_le p.2 q.2) y z)

through : (a x b : ℤ) → int_le a x ≡ true → int_le x b ≡ true → int_le a b ≡ true
through a x b ax xb = grind (arith, ints)

near_point : (p : ℤ × ℤ × ℤ) → nat_le (unsigned_abs p.0) (2 ^ 30) ≡ true → nat_le (unsigned_abs p.1) (2 ^ 30) ≡ true → nat_le (unsigned_abs p.2) (2 ^ 30) ≡ true → in_space p ≡ true
near_point p x y z = and_from (nat_le (unsigned_abs p.0) (2 ^ 30)) _ x (and_from (nat_le (unsigned_abs p.1) (2 ^ 30)) _ y z)

-- a point of such coordinates lies within
module _ (s t : ℤ) (p v q : ℤ × ℤ × ℤ) (x : IsLed s t p.0 v.0 q.0) (y : IsLed s t p.1 v.1 q.1) (z : IsLed s t p.2 v.2 q.2) where
  aligned : are_aligned p v q ≡ true
  aligned =
      let m = minus v p in
      let n = minus q p in
      let one = (Decides-int_eq (m.0 *ℤ n.1) (n.0 *ℤ m.1)).1 (alike s t m.0 n.0 m.1 n.1 x.moved y.moved) in
      let two = (Decides-int_eq (m.0 *ℤ n.2) (n.0 *ℤ m.2)).1 (alike s t m.0 n.0 m.2 n.2 x.moved z.moved) in
      let three = (Decides-int_eq (m.1 *ℤ n.2) (n.1 *ℤ m.2)).1 (alike s t m.1 n.1 m.2 n.2 y.moved z.moved) in
      and_from (int_eq (m.0 *ℤ n.1) (n.0 *ℤ m.1)) _ one (and_from (int_eq (m.0 *ℤ n.2) (n.0 *ℤ m.2)) _ two three)

  led_span : IsSpan (p, q)
  led_span = record {
    first = point_of_limit p (near_point p x.near_first y.near_first z.near_first);
    last = point_of_limit q (near_point q x.near_last y.near_last z.near_last);
    ordered = before_of p q (before_each p q (through p.0 v.0 q.0 x.low x.high) (through p.1 v.1 q.1 y.low y.high) (through p.2 v.2 q.2 z.low z.high));
  }

  led_stays : plane_join (Span p.0 p.1 p.2 q.0 q.1 q.2) (plane_of (v ∷ [])) ≡ Span p.0 p.1 p.2 q.0 q.1 q.2
  led_stays =
      within_stretch p q v led_span (near_point v x.near y.near z.near) (before_each p v x.low y.low z.low) (before_each v q x.high y.high z.high) aligned

-- ---- samples
same_difference : (a b c d : ℤ) → a ≡ c → b ≡ d → a -ℤ b ≡ c -ℤ d
same_difference a b c d ac bd = ap (λ i. i -ℤ b) ac ∙ ap (λ i. c -ℤ i) bd

no_difference : (a : ℤ) → a -ℤ a ≡ pos 0
no_difference a = same_rep (rep-sub (rep a) (rep a)) (rep (pos 0)) (omega arith)

module _ (ranges : List Range) (sample : List Value) (within : are_within sample ranges ≡ true) where
  -- a variable's number by what is known of it
  bounded : (v : VarId) (a b : ℤ) → is_above ranges v a ≡ true → is_below ranges v b ≡ true → (x : ℤ) → value_in sample v ≡ value.Int x → (int_le a x ≡ true) × (int_le x b ≡ true)
  bounded v a b above below x at =
      let low = known ranges sample within v (is_from a) above in
      let high = known ranges sample within v (is_to b) below in (
        no_less a (low.0).least (low.0).greatest x low.2 (subst (λ i. is_between (low.0).least (low.0).greatest i ≡ true) at low.1),
        no_greater b (high.0).least (high.0).greatest x high.2 (subst (λ i. is_between (high.0).least (high.0).greatest i ≡ true) at high.1),
      )

  number_of : (v : VarId) → is_numeric ranges v ≡ true → is_present (value_in sample v) ≡ true → (x : ℤ) × (value_in sample v ≡ value.Int x)
  number_of v numeric there =
      let told = known ranges sample within v (λ r. true) numeric in
      by_value (told.0).least (told.0).greatest ((x : ℤ) × (value_in sample v ≡ value.Int x)) (value_in sample v) told.1
      (λ at. absurd (false≢true (sym (ap is_present at) ∙ there)))
      (λ x at. (x, at))

  module _ (driver : VarId) (first last : ℤ) (from : is_above ranges driver first ≡ true) (to : is_below ranges driver last ≡ true) where
    abbrev gone : ℤ
    gone = int_of (value_in sample driver) -ℤ first

    -- a coordinate that is driven
    led : (v : VarId) (a b : ℤ) → is_driven ranges driver first last v a b ≡ true → (x : ℤ) → value_in sample v ≡ value.Int x → IsLed gone (last -ℤ first) a x b
    led v a b h x at =
        let drives = v.0 == driver.0 && (int_eq a first && int_eq b last) in
        let still = int_eq a b && (is_above ranges v a && is_below ranges v a) in
        let p = and_parts (is_numeric ranges v && (is_near_number a && is_near_number b)) (drives || still) h in
        let near = and_parts (is_near_number a) (is_near_number b) ((and_parts (is_numeric ranges v) (is_near_number a && is_near_number b) p.0).1) in
        elim (or_cases drives still p.1) as (λ _. IsLed gone (last -ℤ first) a x b) [
          | inl l ↦
              let q = and_parts (v.0 == driver.0) (int_eq a first && int_eq b last) l in
              let r = and_parts (int_eq a first) (int_eq b last) q.1 in
              let at_driver = same_value sample v driver q.0 x at in
              driving a b x near.0 near.1 at_driver ((Decides-int_eq a first).0 r.0) ((Decides-int_eq b last).0 r.1)
          | inr l ↦
              let q = and_parts (int_eq a b) (is_above ranges v a && is_below ranges v a) l in
              let r = and_parts (is_above ranges v a) (is_below ranges v a) q.1 in
              let between = bounded v a a r.0 r.1 x at in
              unmoved a b x near.0 near.1 ((Decides-int_eq a b).0 q.0) between.0 between.1
        ]
      where
        driving : (a b x : ℤ) → is_near_number a ≡ true → is_near_number b ≡ true → value_in sample driver ≡ value.Int x → a ≡ first → b ≡ last → IsLed gone (last -ℤ first) a x b
        driving a b x near_a near_b at_driver ea eb =
            let between = bounded driver first last from to x at_driver in
            let low : int_le a x ≡ true = subst (λ i. int_le i x ≡ true) (sym ea) between.0 in
            let high : int_le x b ≡ true = subst (λ i. int_le x i ≡ true) (sym eb) between.1 in
            record {
              low = low;
              high = high;
              near_first = near_a;
              near = near_between a b x near_a near_b (and_from (int_le a x) (int_le x b) low high);
              near_last = near_b;
              moved = inl (same_difference x a (int_of (value_in sample driver)) first (sym (ap int_of at_driver)) ea, same_difference b a last first eb ea);
            }

        unmoved : (a b x : ℤ) → is_near_number a ≡ true → is_near_number b ≡ true → a ≡ b → int_le a x ≡ true → int_le x a ≡ true → IsLed gone (last -ℤ first) a x b
        unmoved a b x near_a near_b eb low top =
            let high : int_le x b ≡ true = subst (λ i. int_le x i ≡ true) eb top in
            let is : x ≡ a = alone a a x refl (and_from (int_le a x) (int_le x a) low top) in
            record {
              low = low;
              high = high;
              near_first = near_a;
              near = near_between a b x near_a near_b (and_from (int_le a x) (int_le x b) low high);
              near_last = near_b;
              moved = inr (same_difference x a a a is refl ∙ no_difference a, same_difference b a a a (sym eb) refl ∙ no_difference a);
            }

driven_kept : (ranges : List Range) (sample : List Value) → are_within sample ranges ≡ true → (driver : VarId) (first last : ℤ) (u v w : VarId) (state : State)
    → is_driven_stretch ranges driver first last u v w state ≡ true → with_sample linear_ternary_row (u ∷ v ∷ w ∷ []) sample state ≡ state
driven_kept ranges sample within driver first last u v w (Span x1 y1 z1 x2 y2 z2) h =
    let of_u = is_driven ranges driver first last u x1 x2 in
    let of_v = is_driven ranges driver first last v y1 y2 in
    let of_w = is_driven ranges driver first last w z1 z2 in
    let within_ends = is_above ranges driver first && is_below ranges driver last in
    let h1 = and_parts of_u (of_v && (of_w && within_ends)) h in
    let h2 = and_parts of_v (of_w && within_ends) h1.1 in
    let h3 = and_parts of_w within_ends h2.1 in
    let ends = and_parts (is_above ranges driver first) (is_below ranges driver last) h3.1 in
    let s = Span x1 y1 z1 x2 y2 z2 in
    let t = tuple_in (u ∷ v ∷ w ∷ []) sample in
    elim (cases_Bool (is_whole t)) as (λ _. with_sample linear_ternary_row (u ∷ v ∷ w ∷ []) sample s ≡ s) [
      | inr f ↦ of_missing linear_ternary_row (u ∷ v ∷ w ∷ []) sample s f
      | inl whole ↦
          let p1 = and_parts (is_present (value_in sample u)) (list_all is_present (value_in sample v ∷ value_in sample w ∷ [])) whole in
          let p2 = and_parts (is_present (value_in sample v)) (list_all is_present (value_in sample w ∷ [])) p1.1 in
          let p3 = and_parts (is_present (value_in sample w)) true p2.1 in
          let x = number_of ranges sample within u (numeric u x1 x2 h1.0) p1.0 in
          let y = number_of ranges sample within v (numeric v y1 y2 h2.0) p2.0 in
          let z = number_of ranges sample within w (numeric w z1 z2 h3.0) p3.0 in
          let led_by = led ranges sample within driver first last ends.0 ends.1 in
          sym (planar_sample u v w sample x.0 y.0 z.0 x.1 y.1 z.1 s)
          ∙ led_stays (int_of (value_in sample driver) -ℤ first) (last -ℤ first) (x1, y1, z1) (x.0, y.0, z.0) (x2, y2, z2)
          (led_by u x1 x2 h1.0 x.0 x.1) (led_by v y1 y2 h2.0 y.0 y.1) (led_by w z1 z2 h3.0 z.0 z.1)
    ]
  where
    numeric : (i : VarId) (a b : ℤ) → is_driven ranges driver first last i a b ≡ true → is_numeric ranges i ≡ true
    numeric i a b d =
        let drives = i.0 == driver.0 && (int_eq a first && int_eq b last) in
        let still = int_eq a b && (is_above ranges i a && is_below ranges i a) in
        (and_parts (is_numeric ranges i) (is_near_number a && is_near_number b) ((and_parts (is_numeric ranges i && (is_near_number a && is_near_number b)) (drives || still) d).0)).0
driven_kept ranges sample within driver first last u v w _ h = absurd (false≢true h)

pub idle_stretch : (watch : Watch) (slot : Slot) → slot.row.0 ≡ 67 → (driver : VarId) (first last : ℤ) (u v w : VarId) → slot.leaders ≡ u ∷ v ∷ w ∷ []
    → is_driven_stretch watch.ranges.items driver first last u v w slot.state ≡ true → IsIdle watch slot
idle_stretch watch slot e driver first last u v w over h sample meeting =
    slot_by slot 67 e (u ∷ v ∷ w ∷ []) over sample ∙ driven_kept watch.ranges.items sample (all_within watch sample meeting) driver first last u v w slot.state h
