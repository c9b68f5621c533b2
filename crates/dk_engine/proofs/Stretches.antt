-- A stretch of a line with a point that lies on the line, within it or beyond it.
use Rattle.std.specs.Prelude.{◌≡◌, ◌&&◌, ℤ, ◌-ℤ◌, ◌*ℤ◌, true, false, ◌∷◌, [], List, if◌then◌else◌, refl}
use Rattle.std.specs.Ordering.{int_eq}
use Rattle.std.proofs.Common.{◌∙◌, ap, arith, inl, inr, subst, sym}
use Rattle.std.proofs.lemmas.Bool.{and_from, and_parts, false≢true}
use Rattle.std.proofs.lemmas.Bool.Decides.{Decides-int_eq}
use Rattle.dk_arith.proofs.Ring.{rep, rep-mul, rep-sub, same_rep}
use Rattle.dk_arith.specs.Vectors.{minus}
use Rattle.dk_base.specs.Values.Tuples.{int_of, value_at}
use Rattle.dk_base.specs.declared.kinds.VarId.{VarId}
use Rattle.dk_base.specs.declared.values.Value.{Value}
use Rattle.dk_base.specs.declared.values.Value.TheVariants as value
use Rattle.dk_forms.proofs.PlaneFacts.{plane_of_point}
use Rattle.dk_forms.proofs.PlaneStays.{span_stays}
use Rattle.dk_forms.proofs.PointOrder.{before_antisymmetric, before_or, before_transitive}
use Rattle.dk_forms.specs.Known.{broken, fact}
use Rattle.dk_forms.specs.Plane.{Before, IsPlaneState, IsSpan, are_aligned, are_parallel, first_off, greater, in_space, is_before, lesser, plane_between, plane_from, plane_join, plane_meet, plane_of, plane_of_all, plane_state, plane_through, span}
use Rattle.dk_forms.specs.declared.states.State.{State}
use Rattle.dk_forms.specs.declared.states.State.TheVariants.{Span}
use Rattle.dk_instances.specs.Fits.{tuple_in}
use Rattle.dk_meanings.specs.Meanings.{meanings, state_of}
use Rattle.dk_samples.specs.Samples.{value_in}
use Rattle.dk_template.specs.Proper.{IsProper}
use Rattle.dk_template.specs.Templates.{form_of, rows}
use Rattle.dk_template.specs.declared.grammar.RowId.{RowId}
use Rattle.dk_template.specs.declared.templates.StateForm.TheVariants as form
use Rattle.dk_ternary.specs.Rows.{linear_ternary_row}
use Rattle.dk_engine.proofs.OneTuple.{slot_by, with_tuple}
use Rattle.dk_engine.specs.Feeding.{with_sample}
use Rattle.dk_engine.specs.declared.slots.slot.Slot.{Slot}

-- ---- points on one line
-- the test is right
pub before_of : (p q : ℤ × ℤ × ℤ) → is_before p q ≡ true → Before p q
before_of p q e = elim (before_or p q) as (λ _. Before p q) [ inl h ↦ h.0 | inr h ↦ absurd (false≢true (sym h.1 ∙ e)) ]

before_itself : (p : ℤ × ℤ × ℤ) → is_before p p ≡ true
before_itself p = grind arith

is_before_of : (p q : ℤ × ℤ × ℤ) → Before p q → is_before p q ≡ true
is_before_of p q h = elim (before_or p q) as (λ _. is_before p q ≡ true) [ inl k ↦ k.1 | inr k ↦ subst (λ t. is_before p t ≡ true) (before_antisymmetric p q h k.0) (before_itself p) ]

-- a point that isn't before another has that one before it
pub after_of : (p q : ℤ × ℤ × ℤ) → is_before p q ≡ false → is_before q p ≡ true
after_of p q e = elim (before_or p q) as (λ _. is_before q p ≡ true) [ inl h ↦ absurd (false≢true (sym e ∙ h.1)) | inr h ↦ is_before_of q p h.0 ]

no_step : (a b x y : ℤ) → int_eq (a *ℤ (y -ℤ y)) ((x -ℤ x) *ℤ b) ≡ true
no_step a b x y =
    (Decides-int_eq (a *ℤ (y -ℤ y)) ((x -ℤ x) *ℤ b)).1
    (same_rep (rep-mul (rep a) (rep-sub (rep y) (rep y))) (rep-mul (rep-sub (rep x) (rep x)) (rep b)) (omega arith))

same_step : (a b : ℤ) → int_eq (a *ℤ b) (a *ℤ b) ≡ true
same_step a b = (Decides-int_eq (a *ℤ b) (a *ℤ b)).1 refl

-- either end of a line lies on it
start_on : (p v : ℤ × ℤ × ℤ) → are_aligned p v p ≡ true
start_on p v =
    let u = minus v p in
    and_from (int_eq (u.0 *ℤ (p.1 -ℤ p.1)) ((p.0 -ℤ p.0) *ℤ u.1)) _ (no_step u.0 u.1 p.0 p.1)
    (and_from (int_eq (u.0 *ℤ (p.2 -ℤ p.2)) ((p.0 -ℤ p.0) *ℤ u.2)) _ (no_step u.0 u.2 p.0 p.2) (no_step u.1 u.2 p.1 p.2))

end_on : (p v : ℤ × ℤ × ℤ) → are_aligned p v v ≡ true
end_on p v =
    let u = minus v p in
    and_from (int_eq (u.0 *ℤ u.1) (u.0 *ℤ u.1)) _ (same_step u.0 u.1) (and_from (int_eq (u.0 *ℤ u.2) (u.0 *ℤ u.2)) _ (same_step u.0 u.2) (same_step u.1 u.2))

-- ---- a point beyond a stretch
module _ (p q v : ℤ × ℤ × ℤ) (pq : is_before p q ≡ true) (qv : is_before q v ≡ true) (pv : is_before p v ≡ true) (on : are_aligned p v q ≡ true) where
  abbrev four : List (ℤ × ℤ × ℤ)
  four = p ∷ q ∷ v ∷ v ∷ []

  low : (w : ℤ × ℤ × ℤ) → is_before p w ≡ true → lesser p w ≡ p
  low w e = ap (λ b. if b then p else w) e

  high : (w : ℤ × ℤ × ℤ) → is_before w v ≡ true → greater w v ≡ v
  high w e = ap (λ b. if b then v else w) e

  itself : greater v v ≡ v
  itself = elim (is_before v v) as (λ b. (if b then v else v) ≡ v) [ true ↦ refl | false ↦ refl ]

  least : lesser (lesser (lesser p q) v) v ≡ p
  least = ap (λ a. lesser (lesser a v) v) (low q pq) ∙ (ap (λ a. lesser a v) (low v pv) ∙ low v pv)

  greatest : greater (greater (greater p q) v) v ≡ v
  greatest = ap (λ a. greater (greater a v) v) (ap (λ b. if b then q else p) pq) ∙ (ap (λ a. greater a v) (high q qv) ∙ itself)

  none_off : first_off p v four ≡ p
  none_off =
      ap (λ b. if b then first_off p v (q ∷ v ∷ v ∷ []) else p) (start_on p v)
      ∙ (ap (λ b. if b then first_off p v (v ∷ v ∷ []) else q) on
      ∙ (ap (λ b. if b then first_off p v (v ∷ []) else v) (end_on p v) ∙ ap (λ b. if b then first_off p v [] else v) (end_on p v)))

  between : plane_between p v four ≡ fact (span (p, v))
  between =
      ap (λ o. if are_aligned p v o then fact (span (p, v)) else plane_of_all (plane_through p v o) four) none_off
      ∙ ap (λ b. if b then fact (span (p, v)) else plane_of_all (plane_through p v p) four) (start_on p v)

  longer : plane_meet (span (p, q)) (span (v, v)) ≡ fact (span (p, v))
  unfolding plane_from
  longer = ap (λ a. plane_between a (greater (greater (greater p q) v) v) four) least ∙ (ap (λ a. plane_between p a four) greatest ∙ between)

  pub grows : in_space v ≡ true → plane_join (Span p.0 p.1 p.2 q.0 q.1 q.2) (plane_of (v ∷ [])) ≡ Span p.0 p.1 p.2 v.0 v.1 v.2
  grows near =
      ap (plane_join (Span p.0 p.1 p.2 q.0 q.1 q.2)) (ap plane_state (plane_of_point v) ∙ ap (λ b. plane_state (if b then fact (span (v, v)) else broken)) near)
      ∙ ap plane_state longer

-- the ends of a stretch and a point on its line, not before the last one
pub grown_stretch : (p q v : ℤ × ℤ × ℤ) → IsSpan (p, q) → in_space v ≡ true → is_before q v ≡ true → are_aligned p v q ≡ true
    → Span p.0 p.1 p.2 v.0 v.1 v.2 ≡ plane_join (Span p.0 p.1 p.2 q.0 q.1 q.2) (plane_of (v ∷ []))
grown_stretch p q v is near qv on =
    let pv = before_transitive p q v is.ordered (before_of q v qv) in
    sym (grows p q v (is_before_of p q is.ordered) qv (is_before_of p v pv) on near)

-- ---- a point within a stretch
same_turned : (a b : ℤ) → int_eq a b ≡ true → int_eq b a ≡ true
same_turned a b h = (Decides-int_eq b a).1 (sym ((Decides-int_eq a b).0 h))

parallel_turned : (u f : ℤ × ℤ × ℤ) → are_parallel u f ≡ true → are_parallel f u ≡ true
parallel_turned u f h =
    let h1 = and_parts (int_eq (u.0 *ℤ f.1) (f.0 *ℤ u.1)) (int_eq (u.0 *ℤ f.2) (f.0 *ℤ u.2) && int_eq (u.1 *ℤ f.2) (f.1 *ℤ u.2)) h in
    let h2 = and_parts (int_eq (u.0 *ℤ f.2) (f.0 *ℤ u.2)) (int_eq (u.1 *ℤ f.2) (f.1 *ℤ u.2)) h1.1 in
    and_from (int_eq (f.0 *ℤ u.1) (u.0 *ℤ f.1)) _ (same_turned (u.0 *ℤ f.1) (f.0 *ℤ u.1) h1.0)
    (and_from (int_eq (f.0 *ℤ u.2) (u.0 *ℤ f.2)) _ (same_turned (u.0 *ℤ f.2) (f.0 *ℤ u.2) h2.0) (same_turned (u.1 *ℤ f.2) (f.1 *ℤ u.2) h2.1))

-- a point on the line, between the ends
pub within_stretch : (p q v : ℤ × ℤ × ℤ) → IsSpan (p, q) → in_space v ≡ true → is_before p v ≡ true → is_before v q ≡ true → are_aligned p v q ≡ true
    → plane_join (Span p.0 p.1 p.2 q.0 q.1 q.2) (plane_of (v ∷ [])) ≡ Span p.0 p.1 p.2 q.0 q.1 q.2
within_stretch p q v is near pv vq on =
    (span_stays (p, q) v is).0
    (and_from (in_space v) _ near (and_from (is_before p v) _ pv (and_from (is_before v q) _ vq (parallel_turned (minus v p) (minus q p) on))))

-- ---- by a sample
planar_form : form_of linear_ternary_row ≡ form.Plane
unfolding rows
planar_form = refl

planar_point : (t : List Value) → state_of linear_ternary_row (t ∷ []) ≡ plane_of ((int_of (value_at t 0), int_of (value_at t 1), int_of (value_at t 2)) ∷ [])
unfolding state_of meanings
planar_point t = refl

pub planar_proper : (row : RowId) → row.0 ≡ 67 → (state : State) → IsProper (form_of row) state → IsPlaneState state
planar_proper row e state p =
    subst (λ f. IsProper f state) planar_form (subst (λ n. IsProper (form_of (record { 0 = n })) state) e p)

pub planar_sample : (u v w : VarId) (sample : List Value) (x y z : ℤ) → value_in sample u ≡ value.Int x → value_in sample v ≡ value.Int y → value_in sample w ≡ value.Int z
    → (s : State) → plane_join s (plane_of ((x, y, z) ∷ [])) ≡ with_sample linear_ternary_row (u ∷ v ∷ w ∷ []) sample s
planar_sample u v w sample x y z at_u at_v at_w s =
    let ints : List Value = value.Int x ∷ value.Int y ∷ value.Int z ∷ [] in
    let tuple : tuple_in (u ∷ v ∷ w ∷ []) sample ≡ ints = three (value_in sample u) (value_in sample v) (value_in sample w) at_u at_v at_w in
    sym (with_tuple linear_ternary_row form.Plane (u ∷ v ∷ w ∷ []) sample ints (plane_of ((x, y, z) ∷ [])) planar_form tuple refl (planar_point ints) s)
  where
    three : (i j k : Value) → i ≡ value.Int x → j ≡ value.Int y → k ≡ value.Int z → (let l : List Value = i ∷ j ∷ k ∷ [] in l) ≡ value.Int x ∷ value.Int y ∷ value.Int z ∷ []
    three i j k p q r = cc

-- the same of a slot
pub planar_slot : (slot : Slot) → slot.row.0 ≡ 67 → (u v w : VarId) → slot.leaders ≡ u ∷ v ∷ w ∷ [] → (sample : List Value) (x y z : ℤ)
    → value_in sample u ≡ value.Int x → value_in sample v ≡ value.Int y → value_in sample w ≡ value.Int z
    → plane_join slot.state (plane_of ((x, y, z) ∷ [])) ≡ with_sample slot.row slot.leaders sample slot.state
planar_slot slot e u v w over sample x y z at_u at_v at_w =
    planar_sample u v w sample x y z at_u at_v at_w slot.state ∙ sym (slot_by slot 67 e (u ∷ v ∷ w ∷ []) over sample)
