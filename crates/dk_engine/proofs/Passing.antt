-- Planes that no sample changes in which their variables have near numbers, and some have the numbers that they had, or are missing; and
-- notes of slots that aren't changed.
use Rattle.std.specs.Prelude.{◌≡◌, ◌≢◌, ◌<◌, ◌≤◌, ◌+◌, ◌+ℤ◌, ◌*ℤ◌, ◌^◌, ◌&&◌, ◌||◌, ◌==◌, ℕ, zero, suc, ℤ, pos, negsuc, neg_ℤ, true, false, List, [], ◌∷◌, fold, if◌then◌else◌, length, nat_le, nat_lt, refl, replicate, slice_set, unsigned_abs}
use Rattle.std.specs.List.{list_all, list_any}
use Rattle.std.specs.Ordering.{int_eq}
use Rattle.std.proofs.Common.{◌∙◌, ap, arith, inl, inr, subst, sym}
use Rattle.std.proofs.lemmas.Bool.{and_from, and_parts, cases_Bool, cases_eq, eqb-true, false≢true, le-leb, leb-true, lt-ltb, ltb-false, or_parts, true≢false}
use Rattle.std.proofs.lemmas.Bool.Decides.{Decides-int_eq}
use Rattle.std.proofs.lemmas.List.{get_or-set_other, get_or-set_same, length-replicate, length-set}
use Rattle.dk_arith.proofs.Ring.{rep, rep-add, rep-mul, rep-neg, same_rep}
use Rattle.dk_base.specs.Values.Tuples.{int_of, value_at}
use Rattle.dk_base.specs.declared.kinds.VarId.{VarId}
use Rattle.dk_base.specs.declared.values.Value.{Value}
use Rattle.dk_base.specs.declared.values.Value.TheVariants as value
use Rattle.dk_forms.proofs.LineStays.{straight_stays}
use Rattle.dk_forms.proofs.PlaneStays.{plane_stays}
use Rattle.dk_forms.specs.Plane.{in_space, is_in_plane}
use Rattle.dk_forms.specs.Plane.Line.{in_limit, is_on}
use Rattle.dk_forms.specs.declared.states.State.{State}
use Rattle.dk_forms.specs.declared.states.State.TheVariants.{Plane, Straight}
use Rattle.dk_instances.specs.Fits.{is_whole, tuple_in}
use Rattle.dk_meanings.specs.Meanings.{state_of}
use Rattle.dk_samples.specs.Samples.{is_present, value_in}
use Rattle.dk_template.specs.Joins.{joined}
use Rattle.dk_template.specs.Templates.{form_of}
use Rattle.dk_ternary.specs.Rows.{linear_ternary_row}
use Rattle.dk_engine.proofs.Bounding.{of_missing}
use Rattle.dk_engine.proofs.KnownNumbers.{all_within, line_sample, listed_number, near_at}
use Rattle.dk_engine.proofs.OneTuple.{row_by, slot_by}
use Rattle.dk_engine.proofs.Stretches.{planar_sample}
use Rattle.dk_engine.specs.Feeding.{with_sample}
use Rattle.dk_engine.specs.Feeding.Narrow.{change_by, with_change, with_growth, with_state}
use Rattle.dk_engine.specs.Idle.{AreNotes, AreSkips, IsIdle, PassesStill, are_fixed, are_near_each, are_same, are_within, is_axis, is_diagonal, is_fixed, is_idle_over, is_idle_straight, is_listed, is_near, is_passed, later, meets, skip_in}
use Rattle.dk_engine.specs.Reading.Parts.{no_slot, slot_in}
use Rattle.dk_engine.specs.declared.feed.changes.Change.{Change}
use Rattle.dk_engine.specs.declared.feed.growing.Growth.{Growth}
use Rattle.dk_engine.specs.declared.idle.Watch.{Watch}
use Rattle.dk_engine.specs.declared.idle.facts.Range.{Range}
use Rattle.dk_engine.specs.declared.slots.slot.Slot.{Slot}

-- ---- planes that are idle
diagonal : (x z : ℤ) → pos 1 *ℤ x +ℤ negsuc 0 *ℤ x +ℤ pos 0 *ℤ z ≡ neg_ℤ (pos 0)
diagonal x z =
    same_rep (rep-add (rep-add (rep-mul (rep (pos 1)) (rep x)) (rep-mul (rep (negsuc 0)) (rep x))) (rep-mul (rep (pos 0)) (rep z))) (rep-neg (rep (pos 0))) (omega arith)

diagonal_behind : (x y : ℤ) → pos 0 *ℤ x +ℤ pos 1 *ℤ y +ℤ negsuc 0 *ℤ y ≡ neg_ℤ (pos 0)
diagonal_behind x y =
    same_rep (rep-add (rep-add (rep-mul (rep (pos 0)) (rep x)) (rep-mul (rep (pos 1)) (rep y))) (rep-mul (rep (negsuc 0)) (rep y))) (rep-neg (rep (pos 0))) (omega arith)

factors : (a b c d : ℤ) → is_diagonal a b c d ≡ true → (a ≡ pos 1) × (b ≡ negsuc 0) × (c ≡ pos 0) × (d ≡ pos 0)
factors a b c d h =
    let h1 = and_parts (int_eq a (pos 1)) (int_eq b (negsuc 0) && (int_eq c (pos 0) && int_eq d (pos 0))) h in
    let h2 = and_parts (int_eq b (negsuc 0)) (int_eq c (pos 0) && int_eq d (pos 0)) h1.1 in
    let h3 = and_parts (int_eq c (pos 0)) (int_eq d (pos 0)) h2.1 in
    ((Decides-int_eq a (pos 1)).0 h1.0, (Decides-int_eq b (negsuc 0)).0 h2.0, (Decides-int_eq c (pos 0)).0 h3.0, (Decides-int_eq d (pos 0)).0 h3.1)

on_diagonal : (a b c d x y z : ℤ) → is_diagonal a b c d ≡ true → x ≡ y → is_in_plane (a, b, c, d) (x, y, z) ≡ true
on_diagonal a b c d x y z h e =
    let f = factors a b c d h in
    let f0 = f.0 in let f1 = f.1 in let f2 = f.2 in
    let same : a *ℤ x +ℤ b *ℤ y +ℤ c *ℤ z ≡ pos 1 *ℤ x +ℤ negsuc 0 *ℤ x +ℤ pos 0 *ℤ z =
    ap (λ t. t *ℤ x +ℤ b *ℤ y +ℤ c *ℤ z) f0 ∙ (ap (λ t. pos 1 *ℤ x +ℤ t *ℤ y +ℤ c *ℤ z) f1
    ∙ (ap (λ t. pos 1 *ℤ x +ℤ negsuc 0 *ℤ t +ℤ c *ℤ z) (sym e) ∙ ap (λ t. pos 1 *ℤ x +ℤ negsuc 0 *ℤ x +ℤ t *ℤ z) f2)) in
    (Decides-int_eq (a *ℤ x +ℤ b *ℤ y +ℤ c *ℤ z) (neg_ℤ d)).1 (same ∙ (diagonal x z ∙ ap neg_ℤ (sym f.3)))

on_diagonal_behind : (a b c d x y z : ℤ) → is_diagonal b c a d ≡ true → y ≡ z → is_in_plane (a, b, c, d) (x, y, z) ≡ true
on_diagonal_behind a b c d x y z h e =
    let f = factors b c a d h in
    let f0 = f.0 in let f1 = f.1 in let f2 = f.2 in
    let same : a *ℤ x +ℤ b *ℤ y +ℤ c *ℤ z ≡ pos 0 *ℤ x +ℤ pos 1 *ℤ y +ℤ negsuc 0 *ℤ y =
    ap (λ t. t *ℤ x +ℤ b *ℤ y +ℤ c *ℤ z) f2 ∙ (ap (λ t. pos 0 *ℤ x +ℤ t *ℤ y +ℤ c *ℤ z) f0
    ∙ (ap (λ t. pos 0 *ℤ x +ℤ pos 1 *ℤ y +ℤ t *ℤ z) f1 ∙ ap (λ t. pos 0 *ℤ x +ℤ pos 1 *ℤ y +ℤ negsuc 0 *ℤ t) (sym e))) in
    (Decides-int_eq (a *ℤ x +ℤ b *ℤ y +ℤ c *ℤ z) (neg_ℤ d)).1 (same ∙ (diagonal_behind x y ∙ ap neg_ℤ (sym f.3)))

-- the same numbers, of the same variable
same_number : (sample : List Value) (v w : VarId) (x y : ℤ) → (v.0 == w.0) ≡ true → value_in sample v ≡ value.Int x → value_in sample w ≡ value.Int y → x ≡ y
same_number sample v w x y e at_v at_w = ap int_of (sym at_v ∙ (ap (value_at sample) (eqb-true v.0 w.0 e) ∙ at_w))

-- the point lies in the plane
same_lies_in : (u v w : VarId) (a b c d : ℤ) → are_same u v w a b c d ≡ true → (sample : List Value) (x y z : ℤ)
    → value_in sample u ≡ value.Int x → value_in sample v ≡ value.Int y → value_in sample w ≡ value.Int z → is_in_plane (a, b, c, d) (x, y, z) ≡ true
same_lies_in u v w a b c d h sample x y z at_u at_v at_w = elim (cases_Bool (u.0 == v.0 && is_diagonal a b c d)) as (λ _. is_in_plane (a, b, c, d) (x, y, z) ≡ true) [
  | inl l ↦
      let p = and_parts (u.0 == v.0) (is_diagonal a b c d) l in
      on_diagonal a b c d x y z p.1 (same_number sample u v x y p.0 at_u at_v)
  | inr n ↦
      let q = and_parts (v.0 == w.0) (is_diagonal b c a d) (sym (ap (λ t. t || (v.0 == w.0 && is_diagonal b c a d)) n) ∙ h) in
      on_diagonal_behind a b c d x y z q.1 (same_number sample v w y z q.0 at_v at_w)
]

-- ---- planes of a variable that has the number that it had
axis_first : (x y z : ℤ) → pos 1 *ℤ x +ℤ pos 0 *ℤ y +ℤ pos 0 *ℤ z ≡ neg_ℤ (neg_ℤ x)
axis_first x y z =
    same_rep (rep-add (rep-add (rep-mul (rep (pos 1)) (rep x)) (rep-mul (rep (pos 0)) (rep y))) (rep-mul (rep (pos 0)) (rep z))) (rep-neg (rep-neg (rep x))) (omega arith)

axis_second : (x y z : ℤ) → pos 0 *ℤ x +ℤ pos 1 *ℤ y +ℤ pos 0 *ℤ z ≡ neg_ℤ (neg_ℤ y)
axis_second x y z =
    same_rep (rep-add (rep-add (rep-mul (rep (pos 0)) (rep x)) (rep-mul (rep (pos 1)) (rep y))) (rep-mul (rep (pos 0)) (rep z))) (rep-neg (rep-neg (rep y))) (omega arith)

axis_third : (x y z : ℤ) → pos 0 *ℤ x +ℤ pos 0 *ℤ y +ℤ pos 1 *ℤ z ≡ neg_ℤ (neg_ℤ z)
axis_third x y z =
    same_rep (rep-add (rep-add (rep-mul (rep (pos 0)) (rep x)) (rep-mul (rep (pos 0)) (rep y))) (rep-mul (rep (pos 1)) (rep z))) (rep-neg (rep-neg (rep z))) (omega arith)

axis_factors : (a b c : ℤ) → is_axis a b c ≡ true → (a ≡ pos 1) × (b ≡ pos 0) × (c ≡ pos 0)
axis_factors a b c h =
    let h1 = and_parts (int_eq a (pos 1)) (int_eq b (pos 0) && int_eq c (pos 0)) h in
    let h2 = and_parts (int_eq b (pos 0)) (int_eq c (pos 0)) h1.1 in
    ((Decides-int_eq a (pos 1)).0 h1.0, (Decides-int_eq b (pos 0)).0 h2.0, (Decides-int_eq c (pos 0)).0 h2.1)

-- a sum of products with other factors
with_factors : (a b c i j k x y z : ℤ) → a ≡ i → b ≡ j → c ≡ k → a *ℤ x +ℤ b *ℤ y +ℤ c *ℤ z ≡ i *ℤ x +ℤ j *ℤ y +ℤ k *ℤ z
with_factors a b c i j k x y z e f g =
    ap (λ t. t *ℤ x +ℤ b *ℤ y +ℤ c *ℤ z) e ∙ (ap (λ t. i *ℤ x +ℤ t *ℤ y +ℤ c *ℤ z) f ∙ ap (λ t. i *ℤ x +ℤ j *ℤ y +ℤ t *ℤ z) g)

on_first : (a b c d x y z : ℤ) → is_axis a b c ≡ true → d ≡ neg_ℤ x → is_in_plane (a, b, c, d) (x, y, z) ≡ true
on_first a b c d x y z h e =
    let f = axis_factors a b c h in
    (Decides-int_eq (a *ℤ x +ℤ b *ℤ y +ℤ c *ℤ z) (neg_ℤ d)).1
    (with_factors a b c (pos 1) (pos 0) (pos 0) x y z f.0 f.1 f.2 ∙ (axis_first x y z ∙ ap neg_ℤ (sym e)))

on_second : (a b c d x y z : ℤ) → is_axis b c a ≡ true → d ≡ neg_ℤ y → is_in_plane (a, b, c, d) (x, y, z) ≡ true
on_second a b c d x y z h e =
    let f = axis_factors b c a h in
    (Decides-int_eq (a *ℤ x +ℤ b *ℤ y +ℤ c *ℤ z) (neg_ℤ d)).1
    (with_factors a b c (pos 0) (pos 1) (pos 0) x y z f.2 f.0 f.1 ∙ (axis_second x y z ∙ ap neg_ℤ (sym e)))

on_third : (a b c d x y z : ℤ) → is_axis c a b ≡ true → d ≡ neg_ℤ z → is_in_plane (a, b, c, d) (x, y, z) ≡ true
on_third a b c d x y z h e =
    let f = axis_factors c a b h in
    (Decides-int_eq (a *ℤ x +ℤ b *ℤ y +ℤ c *ℤ z) (neg_ℤ d)).1
    (with_factors a b c (pos 0) (pos 0) (pos 1) x y z f.1 f.2 f.0 ∙ (axis_third x y z ∙ ap neg_ℤ (sym e)))

fixed_lies_in : (ranges : List Range) (u v w : VarId) (a b c d : ℤ) → are_fixed ranges u v w a b c d ≡ true → (sample : List Value) → are_within sample ranges ≡ true → (x y z : ℤ)
    → value_in sample u ≡ value.Int x → value_in sample v ≡ value.Int y → value_in sample w ≡ value.Int z → is_in_plane (a, b, c, d) (x, y, z) ≡ true
fixed_lies_in ranges u v w a b c d h sample within x y z at_u at_v at_w = elim (cases_Bool (is_fixed ranges u a b c d)) as (λ _. is_in_plane (a, b, c, d) (x, y, z) ≡ true) [
  | inl l ↦
      let p = and_parts (is_axis a b c) (is_listed ranges u d) l in
      on_first a b c d x y z p.0 (listed_number ranges sample within u d x p.1 at_u)
  | inr n ↦
      let q : (is_fixed ranges v b c a d || is_fixed ranges w c a b d) ≡ true = sym (ap (λ t. t || (is_fixed ranges v b c a d || is_fixed ranges w c a b d)) n) ∙ h in
      elim (cases_Bool (is_fixed ranges v b c a d)) as (λ _. is_in_plane (a, b, c, d) (x, y, z) ≡ true) [
        | inl l ↦
            let p = and_parts (is_axis b c a) (is_listed ranges v d) l in
            on_second a b c d x y z p.0 (listed_number ranges sample within v d y p.1 at_v)
        | inr m ↦
            let p = and_parts (is_axis c a b) (is_listed ranges w d) (sym (ap (λ t. t || is_fixed ranges w c a b d) m) ∙ q) in
            on_third a b c d x y z p.0 (listed_number ranges sample within w d z p.1 at_w)
      ]
]

lies_in : (ranges : List Range) (u v w : VarId) (a b c d : ℤ) → is_idle_over ranges u v w (Plane a b c d) ≡ true → (sample : List Value) → are_within sample ranges ≡ true → (x y z : ℤ)
    → value_in sample u ≡ value.Int x → value_in sample v ≡ value.Int y → value_in sample w ≡ value.Int z → is_in_plane (a, b, c, d) (x, y, z) ≡ true
lies_in ranges u v w a b c d h sample within x y z at_u at_v at_w = elim (cases_Bool (are_same u v w a b c d)) as (λ _. is_in_plane (a, b, c, d) (x, y, z) ≡ true) [
  | inl l ↦ same_lies_in u v w a b c d l sample x y z at_u at_v at_w
  | inr n ↦ fixed_lies_in ranges u v w a b c d (sym (ap (λ t. t || are_fixed ranges u v w a b c d) n) ∙ h) sample within x y z at_u at_v at_w
]

idle_plane : (ranges : List Range) (u v w : VarId) (state : State) → is_idle_over ranges u v w state ≡ true → are_near_each ranges u v w ≡ true
    → (sample : List Value) → are_within sample ranges ≡ true → with_sample linear_ternary_row (u ∷ v ∷ w ∷ []) sample state ≡ state
idle_plane ranges u v w (Plane a b c d) h near sample within =
    let near1 = and_parts (is_near ranges u) (is_near ranges v && is_near ranges w) near in
    let near2 = and_parts (is_near ranges v) (is_near ranges w) near1.1 in
    let row = linear_ternary_row in
    let s = Plane a b c d in
    let t = tuple_in (u ∷ v ∷ w ∷ []) sample in
    elim (cases_Bool (is_whole t)) as (λ _. with_sample row (u ∷ v ∷ w ∷ []) sample s ≡ s) [
      | inr f ↦ ap (λ b. if b then joined (form_of row) s (state_of row (t ∷ [])) else s) f
      | inl whole ↦
          let p1 = and_parts (is_present (value_in sample u)) (list_all is_present (value_in sample v ∷ value_in sample w ∷ [])) whole in
          let p2 = and_parts (is_present (value_in sample v)) (list_all is_present (value_in sample w ∷ [])) p1.1 in
          let p3 = and_parts (is_present (value_in sample w)) true p2.1 in
          let x = near_at ranges sample within u near1.0 p1.0 in
          let y = near_at ranges sample within v near2.0 p2.0 in
          let z = near_at ranges sample within w near2.1 p3.0 in
          let space : in_space (x.0, y.0, z.0) ≡ true =
          and_from (nat_le (unsigned_abs x.0) (2 ^ 30)) _ x.2 (and_from (nat_le (unsigned_abs y.0) (2 ^ 30)) _ y.2 z.2) in
          let stays = (plane_stays (a, b, c, d) (x.0, y.0, z.0)).0
          (and_from (in_space (x.0, y.0, z.0)) _ space (lies_in ranges u v w a b c d h sample within x.0 y.0 z.0 x.1 y.1 z.1)) in
          sym (planar_sample u v w sample x.0 y.0 z.0 x.1 y.1 z.1 s) ∙ stays
    ]
idle_plane ranges u v w _ h near sample within = absurd (false≢true h)

pub idle_slot : (watch : Watch) (slot : Slot) → slot.row.0 ≡ 67 → (u v w : VarId) → slot.leaders ≡ u ∷ v ∷ w ∷ []
    → is_idle_over watch.ranges.items u v w slot.state ≡ true → are_near_each watch.ranges.items u v w ≡ true → IsIdle watch slot
idle_slot watch slot e u v w over h near sample meeting =
    slot_by slot 67 e (u ∷ v ∷ w ∷ []) over sample ∙ idle_plane watch.ranges.items u v w slot.state h near sample (all_within watch sample meeting)

-- ---- lines that are idle
-- numbers that are near are within the limit of lines
near_in_limit : (x y : ℤ) → nat_le (unsigned_abs x) (2 ^ 30) ≡ true → nat_le (unsigned_abs y) (2 ^ 30) ≡ true → in_limit (x, y) ≡ true
near_in_limit x y near_x near_y = and_from (nat_le (unsigned_abs x) (2 ^ 62)) _ (wide x near_x) (wide y near_y)
  where
    wide : (z : ℤ) → nat_le (unsigned_abs z) (2 ^ 30) ≡ true → nat_le (unsigned_abs z) (2 ^ 62) ≡ true
    wide z near = let small = leb-true (unsigned_abs z) (2 ^ 30) near in le-leb (unsigned_abs z) (2 ^ 62) (omega (arith, small))

free_third : (a b x y z : ℤ) → a *ℤ x +ℤ b *ℤ y +ℤ pos 0 *ℤ z ≡ a *ℤ x +ℤ b *ℤ y
free_third a b x y z =
    same_rep (rep-add (rep-add (rep-mul (rep a) (rep x)) (rep-mul (rep b) (rep y))) (rep-mul (rep (pos 0)) (rep z))) (rep-add (rep-mul (rep a) (rep x)) (rep-mul (rep b) (rep y))) (omega arith)

-- a point on the line, where the plane has it
on_line : (a b c x y z : ℤ) → is_in_plane (a, b, pos 0, c) (x, y, z) ≡ true → is_on (a, b, c) (x, y) ≡ true
on_line a b c x y z h =
    (Decides-int_eq (a *ℤ x +ℤ b *ℤ y) (neg_ℤ c)).1
    (sym (free_third a b x y z) ∙ (Decides-int_eq (a *ℤ x +ℤ b *ℤ y +ℤ pos 0 *ℤ z) (neg_ℤ c)).0 h)

straight_kept : (ranges : List Range) (u v : VarId) (state : State) → is_idle_straight ranges u v state ≡ true → is_near ranges u ≡ true → is_near ranges v ≡ true
    → (sample : List Value) → are_within sample ranges ≡ true → with_sample (row_by 15) (u ∷ v ∷ []) sample state ≡ state
straight_kept ranges u v (Straight a b c) h near_u near_v sample within =
    let s = Straight a b c in
    elim (cases_Bool (is_whole (tuple_in (u ∷ v ∷ []) sample))) as (λ _. with_sample (row_by 15) (u ∷ v ∷ []) sample s ≡ s) [
      | inr f ↦ of_missing (row_by 15) (u ∷ v ∷ []) sample s f
      | inl whole ↦
          let p1 = and_parts (is_present (value_in sample u)) (list_all is_present (value_in sample v ∷ [])) whole in
          let p2 = and_parts (is_present (value_in sample v)) true p1.1 in
          let x = near_at ranges sample within u near_u p1.0 in
          let y = near_at ranges sample within v near_v p2.0 in
          let on = on_line a b c x.0 y.0 y.0 (lies_in ranges u v v a b (pos 0) c h sample within x.0 y.0 y.0 x.1 y.1 y.1) in
          let stays = (straight_stays a b c x.0 y.0).0 (and_from (in_limit (x.0, y.0)) _ (near_in_limit x.0 y.0 x.2 y.2) on) in
          sym (line_sample u v sample x.0 y.0 x.1 y.1 s) ∙ stays
    ]
straight_kept ranges u v _ h near_u near_v sample within = absurd (false≢true h)

pub idle_line : (watch : Watch) (slot : Slot) → slot.row.0 ≡ 15 → (u v : VarId) → slot.leaders ≡ u ∷ v ∷ []
    → is_idle_straight watch.ranges.items u v slot.state ≡ true → are_near_each watch.ranges.items u v v ≡ true → IsIdle watch slot
idle_line watch slot e u v over h near sample meeting =
    let near1 = and_parts (is_near watch.ranges.items u) (is_near watch.ranges.items v && is_near watch.ranges.items v) near in
    let near2 = and_parts (is_near watch.ranges.items v) (is_near watch.ranges.items v) near1.1 in
    slot_by slot 15 e (u ∷ v ∷ []) over sample ∙ straight_kept watch.ranges.items u v slot.state h near1.0 near2.0 sample (all_within watch sample meeting)

-- ---- notes
none_in : (n k : ℕ) → skip_in (replicate n 0) k ≡ 0
none_in zero k = refl
none_in (suc n) zero = refl
none_in (suc n) (suc k) = none_in n k

-- where no place is noted
pub no_notes : (watch : Watch) (slots : List Slot) → AreNotes watch slots (replicate (length slots) 0)
no_notes watch slots = (
  length-replicate (length slots) 0,
  record {
    noted = λ k j a l. let none = none_in (length slots) k in absurd (omega (arith, none, l));
    idle = λ j l. let none = none_in (length slots) j in absurd (omega (arith, none, l));
  },
)

pub none_passed : (watch : Watch) (slots : List Slot) → AreSkips watch slots []
none_passed watch slots = record { noted = λ k j a l. absurd (omega (arith, l)); idle = λ j l. absurd (omega (arith, l)) }

later_next : (next skip : ℕ) → next ≤ later next skip
later_next next skip = elim (cases_Bool (nat_lt skip next)) as (λ _. next ≤ later next skip) [
  | inl lt ↦ let e : later next skip ≡ next = ap (λ b. if b then next else skip) lt in omega (arith, e)
  | inr ge ↦ let e : later next skip ≡ skip = ap (λ b. if b then next else skip) ge in let le = ltb-false skip next ge in omega (arith, e, le)
]

later_skip : (next skip j : ℕ) → next ≤ j → j < later next skip → j < skip
later_skip next skip j a l = elim (cases_Bool (nat_lt skip next)) as (λ _. j < skip) [
  | inl lt ↦ let e : later next skip ≡ next = ap (λ b. if b then next else skip) lt in absurd (omega (arith, e, a, l))
  | inr ge ↦ let e : later next skip ≡ skip = ap (λ b. if b then next else skip) ge in omega (arith, e, l)
]

-- a place that is passed over, with those behind it that are
module _ (watch : Watch) (slots : List Slot) (skips : List ℕ) (p : ℕ) (idle : IsIdle watch (slot_in slots p)) (are : AreNotes watch slots skips) (within : p < length slots) where
  abbrev end : ℕ
  end = later (p + 1) (skip_in skips (p + 1))

  abbrev put : List ℕ
  put = slice_set skips p end

  put_at : skip_in put p ≡ end
  put_at = get_or-set_same skips p end 0 (let long = are.0 in omega (arith, long, within))

  else_at : (j : ℕ) → j ≢ p → skip_in put j ≡ skip_in skips j
  else_at j n = get_or-set_other skips p j end 0 n

  here_noted : p < skip_in put p
  here_noted = let low : p + 1 ≤ end = later_next (p + 1) (skip_in skips (p + 1)) in subst (λ n. p < n) (sym put_at) (omega (arith, low))

  -- a place that was noted is
  still_noted : (j : ℕ) → j < skip_in skips j → j < skip_in put j
  still_noted j l = elim (cases_eq j p) as (λ _. j < skip_in put j) [
    | inl e ↦ subst (λ i. i < skip_in put i) (sym e) here_noted
    | inr n ↦ let at = else_at j n in omega (arith, at, l)
  ]

  behind_noted : (j : ℕ) → p ≤ j → j ≢ p → j < skip_in put p → j < skip_in skips j
  behind_noted j a n l =
      let low : p + 1 ≤ j = omega (arith, a, n) in
      are.1.noted (p + 1) j low (later_skip (p + 1) (skip_in skips (p + 1)) j low (subst (λ n. j < n) put_at l))

  pub notes_more : AreNotes watch slots put
  notes_more = (
    length-set skips p end ∙ are.0,
    record {
      noted = λ k j a l. elim (cases_eq k p) as (λ _. j < skip_in put j) [
        | inr n ↦ still_noted j (are.1.noted k j a (let at = else_at k n in omega (arith, at, l)))
        | inl e ↦ elim (cases_eq j p) as (λ _. j < skip_in put j) [
          | inl f ↦ subst (λ i. i < skip_in put i) (sym f) here_noted
          | inr m ↦ still_noted j (behind_noted j (omega (arith, a, e)) m (subst (λ i. j < skip_in put i) e l))
        ]
      ];
      idle = λ j l. elim (cases_eq j p) as (λ _. IsIdle watch (slot_in slots j)) [
        | inl e ↦ subst (λ i. IsIdle watch (slot_in slots i)) (sym e) idle
        | inr n ↦ are.1.idle j (let at = else_at j n in omega (arith, at, l))
      ];
    },
  )

-- a sample that meets the watch changes none that is passed over
pub passes_still : (watch : Watch) (slots : List Slot) (skips : List ℕ) → AreSkips watch slots skips → (sample : List Value) → meets watch sample ≡ true → PassesStill sample slots skips
passes_still watch slots skips are sample meeting k j a l = are.idle j (are.noted k j a l) sample meeting

pub none_passes : (sample : List Value) (slots : List Slot) → PassesStill sample slots []
none_passes sample slots k j a l = absurd (omega (arith, l))

-- ---- notes after changes
change_unpassed : (watch : Watch) (slots : List Slot) (skips : List ℕ) (c : Change) → (c.place < skip_in skips c.place → ⊥) → AreSkips watch slots skips → AreSkips watch (with_change slots c) skips
change_unpassed watch slots skips c out are = record {
  noted = are.noted;
  idle = λ j l.
      let other : j ≢ c.place = λ e. out (subst (λ i. i < skip_in skips i) e l) in
      subst (IsIdle watch) (sym (get_or-set_other slots c.place j (with_state (slot_in slots c.place) c.state) no_slot other)) (are.idle j l);
}

pub growths_unpassed : (watch : Watch) (skips : List ℕ) (growths : List Growth) → list_any (λ (g : Growth). is_passed skips g.place) growths ≡ false
    → (slots : List Slot) → AreSkips watch slots skips → AreSkips watch (fold with_growth slots growths) skips
growths_unpassed watch skips [] out slots are = are
growths_unpassed watch skips (g ∷ growths) out slots are =
    let parts = or_parts (is_passed skips g.place) (list_any (λ (h : Growth). is_passed skips h.place) growths) out in
    let here : g.place < skip_in skips g.place → ⊥ = λ l. true≢false (sym (lt-ltb g.place (skip_in skips g.place) l) ∙ parts.0) in
    growths_unpassed watch skips growths parts.1 (with_growth slots g) (change_unpassed watch slots skips (change_by slots g) here are)

pub changes_unpassed : (watch : Watch) (skips : List ℕ) (changes : List Change) → list_any (λ (c : Change). is_passed skips c.place) changes ≡ false
    → (slots : List Slot) → AreSkips watch slots skips → AreSkips watch (fold with_change slots changes) skips
changes_unpassed watch skips [] out slots are = are
changes_unpassed watch skips (c ∷ changes) out slots are =
    let parts = or_parts (is_passed skips c.place) (list_any (λ (d : Change). is_passed skips d.place) changes) out in
    let here : c.place < skip_in skips c.place → ⊥ = λ l. true≢false (sym (lt-ltb c.place (skip_in skips c.place) l) ∙ parts.0) in
    changes_unpassed watch skips changes parts.1 (with_change slots c) (change_unpassed watch slots skips c here are)
