-- The states of lines, planes and offsets with two neighbouring roles exchanged.
use Rattle.std.specs.Prelude.{◌≡◌, ◌≤◌, ◌^◌, ◌<◌, ◌==◌, ℤ, pos, neg_ℤ, ◌-ℤ◌, ◌<ℤ◌, ◌≤ℤ◌, unsigned_abs, int_lt, Bool, true, false, ◌&&◌, if◌then◌else◌, List, [], ◌∷◌, ◌++◌, length, map, zip, flat_map, Option, Some, None, refl}
use Rattle.std.specs.List.{list_all}
use Rattle.std.specs.Ordering.{int_eq}
use Rattle.std.proofs.Common.{sym, ap, ◌∙◌, subst, arith, inl, inr}
use Rattle.std.proofs.lemmas.Bool.{false≢true}
use Rattle.std.proofs.lemmas.Bool.Decides.{Decides-eqb, Decides-int_eq, Decides-like, same_from_decides}
use Rattle.std.proofs.lemmas.Int.{ints, by_lt_z}
use Rattle.std.proofs.lemmas.List.{map-append}
use Rattle.dk_arith.proofs.Choice.{choice}
use Rattle.dk_arith.proofs.GcdLaws.{gcd-swap}
use Rattle.dk_arith.proofs.LowestTerms.{if_zero}
use Rattle.dk_arith.specs.Directions.{IsNormal, leading}
use Rattle.dk_arith.specs.Gcd.{gcd}
use Rattle.dk_base.specs.declared.kinds.VarId.{VarId}
use Rattle.dk_forms.proofs.LineFacts.{IsLine, line_known_of_is}
use Rattle.dk_forms.proofs.LineMoves.{exchanged as line_turned, line_exchanged, swap_line}
use Rattle.dk_forms.proofs.Moves.{lift}
use Rattle.dk_forms.specs.Known.{IfFact, Known, broken, fact, nothing}
use Rattle.dk_forms.specs.Offset.{differences, is_difference, offset_of, offset_state}
use Rattle.dk_forms.specs.Plane.{Flat, IsPlaneState, plane, plane_known_of, plane_state, span}
use Rattle.dk_forms.specs.Plane.Line.{IsLineState, IsStraight, Line, line_known_of, line_state, spot, straight}
use Rattle.dk_forms.specs.declared.states.State.{State}
use Rattle.dk_forms.specs.declared.states.State.TheVariants as state
use Rattle.dk_template.proofs.PlaneMoves.{fit_moved, plane_exchanged, tells_negative}
use Rattle.dk_template.specs.Exchange.{IsBounded, descends, disarrange_state, exchanged_back, exchanged_state, moved_flat, order_tuple, signed_line, span_between, swapped}
use Rattle.dk_template.specs.Laws.{LinesExchange, OffsetsExchange, PlanesExchange}
use Rattle.dk_template.specs.Proper.{IsProper}
use Rattle.dk_template.specs.declared.exchange.Exchange.{Exchange}
use Rattle.dk_template.specs.declared.exchange.Exchange.TheVariants.{First, Last}
use Rattle.dk_template.specs.declared.templates.StateForm.{StateForm}
use Rattle.dk_template.specs.declared.templates.StateForm.TheVariants as form
use Rattle.dk_template.specs.declared.templates.Symmetry.{Symmetry}
use Rattle.dk_template.specs.declared.templates.Symmetry.TheVariants as symmetry

-- ---- lines
-- which sign is set says the first number alone
sign_alike : (a b : ℤ) → IsNormal a b → int_lt (leading b a (pos 0)) (pos 0) ≡ int_lt b (pos 0)
sign_alike a b f =
    elim (if_zero b (if int_eq a (pos 0) then pos 0 else a) b) as (λ _. int_lt (leading b a (pos 0)) (pos 0) ≡ int_lt b (pos 0)) [
      | inr h ↦ ap (λ t. int_lt t (pos 0)) h.1
      | inl h ↦
          let up : pos 0 <ℤ a = elim f.sign as (λ _. pos 0 <ℤ a) [ inl s ↦ s | inr s ↦ let h0 = h.0 in let s1 = s.1 in absurd (omega (arith, ints)) ] in
          let low : int_lt a (pos 0) ≡ false = grind (arith, ints) in
          elim (if_zero a (pos 0) a) as (λ _. int_lt (leading b a (pos 0)) (pos 0) ≡ int_lt b (pos 0)) [
            | inl k ↦ let k0 = k.0 in absurd (omega (arith, ints))
            | inr k ↦ ap (λ t. int_lt t (pos 0)) (h.1 ∙ k.1) ∙ low ∙ sym (ap (λ t. int_lt t (pos 0)) h.0)
          ]
    ]

signed_swapped : (l : ℤ × ℤ × ℤ) → IsStraight l → signed_line (l.1, l.0, l.2) ≡ swap_line l
signed_swapped l f = ap (λ b. if b then (neg_ℤ l.1, neg_ℤ l.0, neg_ℤ l.2) else (l.1, l.0, l.2)) (sign_alike l.0 l.1 f.normal)

line_state_exchanged : (k : Known Line) → IfFact IsLine k → line_state (lift line_turned k) ≡ exchanged_state First (line_state k)
line_state_exchanged nothing f = refl
line_state_exchanged broken f = refl
line_state_exchanged (fact (spot p)) f = refl
line_state_exchanged (fact (straight l)) f = ap (λ m. line_state (fact (straight m))) (sym (signed_swapped l f))

pub lines_exchange : LinesExchange
lines_exchange points = ap line_state (line_exchanged points) ∙ line_state_exchanged (line_known_of points) (line_known_of_is.fit points)

-- ---- planes
plane_state_exchanged : (e : Exchange) (k : Known Flat) → plane_state (lift (moved_flat (swapped e)) k) ≡ exchanged_state e (plane_state k)
unfolding span_between
plane_state_exchanged First nothing = refl
plane_state_exchanged First broken = refl
plane_state_exchanged First (fact (span s)) = refl
plane_state_exchanged First (fact (plane n)) = refl
plane_state_exchanged Last nothing = refl
plane_state_exchanged Last broken = refl
plane_state_exchanged Last (fact (span s)) = refl
plane_state_exchanged Last (fact (plane n)) = refl

pub planes_exchange : PlanesExchange
planes_exchange e points = ap plane_state (plane_exchanged e points) ∙ plane_state_exchanged e (plane_known_of points)

-- ---- offsets
abbrev flip : Option ℤ → Option ℤ
flip None = None
flip (Some d) = Some (neg_ℤ d)

difference_flipped : (k : ℤ) (d : Option ℤ) → is_difference (neg_ℤ k) (flip d) ≡ is_difference k d
difference_flipped k None = refl
difference_flipped k (Some d) =
    same_from_decides (int_eq (neg_ℤ k) (neg_ℤ d)) (int_eq k d)
    (Decides-like (int_eq (neg_ℤ k) (neg_ℤ d)) (λ e. omega (arith, ints)) (λ e. omega (arith, ints)) (Decides-int_eq (neg_ℤ k) (neg_ℤ d))) (Decides-int_eq k d)

all_flipped : (k : ℤ) (ds : List (Option ℤ)) → list_all (is_difference (neg_ℤ k)) (map flip ds) ≡ list_all (is_difference k) ds
all_flipped k [] = refl
all_flipped k (d ∷ ds) = ap (λ b. b && list_all (is_difference (neg_ℤ k)) (map flip ds)) (difference_flipped k d) ∙ ap (λ b. is_difference k d && b) (all_flipped k ds)

offset_flipped : (ds : List (Option ℤ)) → offset_of (map flip ds) ≡ exchanged_state First (offset_of ds)
offset_flipped [] = refl
offset_flipped (None ∷ ds) = refl
offset_flipped (Some k ∷ ds) =
    ap (λ b. offset_state (if b then fact (neg_ℤ k) else broken)) (all_flipped k ds)
    ∙ elim (list_all (is_difference k) ds) as (λ b. offset_state (if b then fact (neg_ℤ k) else broken) ≡ exchanged_state First (offset_state (if b then fact k else broken))) [ true ↦ refl | false ↦ refl ]

zip_flipped : (s t : List ℤ) → map (λ (p : ℤ × ℤ). Some (p.1 -ℤ p.0)) (zip t s) ≡ map flip (map (λ (p : ℤ × ℤ). Some (p.1 -ℤ p.0)) (zip s t))
zip_flipped [] [] = refl
zip_flipped [] (y ∷ t) = refl
zip_flipped (x ∷ s) [] = refl
zip_flipped (x ∷ s) (y ∷ t) =
    let e : x -ℤ y ≡ neg_ℤ (y -ℤ x) = omega (arith, ints) in
    ap (λ d. Some d ∷ map (λ (p : ℤ × ℤ). Some (p.1 -ℤ p.0)) (zip t s)) e ∙ ap (λ ds. Some (neg_ℤ (y -ℤ x)) ∷ ds) (zip_flipped s t)

length_alike : (s t : List ℤ) → (length t == length s) ≡ (length s == length t)
length_alike s t =
    same_from_decides (length t == length s) (length s == length t) (Decides-like (length t == length s) (λ e. sym e) (λ e. sym e) (Decides-eqb (length t) (length s))) (Decides-eqb (length s) (length t))

differences_flipped : (s t : List ℤ) → differences t s ≡ map flip (differences s t)
differences_flipped s t =
    ap (λ b. if b then map (λ (p : ℤ × ℤ). Some (p.1 -ℤ p.0)) (zip t s) else None ∷ []) (length_alike s t)
    ∙ elim (length s == length t) as (λ b. (if b then map (λ (p : ℤ × ℤ). Some (p.1 -ℤ p.0)) (zip t s) else None ∷ []) ≡ map flip (if b then map (λ (p : ℤ × ℤ). Some (p.1 -ℤ p.0)) (zip s t) else None ∷ [])) [
      | true ↦ zip_flipped s t
      | false ↦ refl
    ]

pairs_flipped : (pairs : List (List ℤ × List ℤ)) → flat_map (λ (p : List ℤ × List ℤ). differences p.1 p.0) pairs ≡ map flip (flat_map (λ (p : List ℤ × List ℤ). differences p.0 p.1) pairs)
pairs_flipped [] = refl
pairs_flipped (p ∷ ps) =
    ap (λ d. d ++ flat_map (λ (q : List ℤ × List ℤ). differences q.1 q.0) ps) (differences_flipped p.0 p.1)
    ∙ ap (λ d. map flip (differences p.0 p.1) ++ d) (pairs_flipped ps)
    ∙ sym (map-append flip (differences p.0 p.1) (flat_map (λ (q : List ℤ × List ℤ). differences q.0 q.1) ps))

pub offsets_exchange : OffsetsExchange
offsets_exchange pairs = ap offset_of (pairs_flipped pairs) ∙ offset_flipped (flat_map (λ (p : List ℤ × List ℤ). differences p.0 p.1) pairs)

-- ---- proper states stay proper
negated_abs : (x : ℤ) → unsigned_abs (neg_ℤ x) ≡ unsigned_abs x
negated_abs x = omega (arith, ints)

swapped_fit : (a b c : ℤ) → IsStraight (a, b, c) → IsStraight (swap_line (a, b, c))
swapped_fit a b c f =
    let one = gcd-swap (unsigned_abs b) (unsigned_abs a) ∙ f.normal.lowest in
    elim (choice {P = b <ℤ pos 0} {S = ℤ × ℤ × ℤ} (int_lt b (pos 0)) (tells_negative b) (neg_ℤ b, neg_ℤ a, neg_ℤ c) (b, a, c)) as (λ _. IsStraight (swap_line (a, b, c))) [
      | inl h ↦ let h0 = h.0 in subst IsStraight (sym h.1) (record {
        normal = record { lowest = ap (λ t. gcd t (unsigned_abs (neg_ℤ a))) (negated_abs b) ∙ ap (λ t. gcd (unsigned_abs b) t) (negated_abs a) ∙ one; sign = inl (omega (arith, ints)) };
        a = subst (λ t. t ≤ 2 ^ 63) (sym (negated_abs b)) f.b;
        b = subst (λ t. t ≤ 2 ^ 63) (sym (negated_abs a)) f.a;
        c = subst (λ t. t ≤ 2 ^ 126) (sym (negated_abs c)) f.c;
      })
      | inr h ↦ subst IsStraight (sym h.1) (record {
        normal = record { lowest = one; sign = by_lt_z (pos 0) b (λ p. inl p) (λ p. by_lt_z b (pos 0) (λ q. absurd (h.0 q)) (λ q. inr (omega (arith, ints), first p q))) };
        a = f.b;
        b = f.a;
        c = f.c;
      })
    ]
  where
    first : b ≤ℤ pos 0 → pos 0 ≤ℤ b → pos 0 <ℤ a
    first p q = elim f.normal.sign as (λ _. pos 0 <ℤ a) [ inl s ↦ s | inr s ↦ let s1 = s.1 in absurd (omega (arith, ints)) ]

-- the forms over numbers in space move, and the others stay
abbrev is_still : StateForm → Bool
is_still form.Line = false
is_still form.Plane = false
is_still form.Offset = false
is_still _ = true

abbrev IsUnmoved : State → Type 0
IsUnmoved (state.Spot x y) = ⊥
IsUnmoved (state.Straight a b c) = ⊥
IsUnmoved (state.Span x1 y1 z1 x2 y2 z2) = ⊥
IsUnmoved (state.Plane a b c d) = ⊥
IsUnmoved (state.Offset k) = ⊥
IsUnmoved _ = Unit {0}

still : (form : StateForm) (s : State) → is_still form ≡ true → IsProper form s → IsUnmoved s
still form.Line s e p = absurd (false≢true e)
still form.Plane s e p = absurd (false≢true e)
still form.Offset s e p = absurd (false≢true e)
still form.Texts (state.Spot x y) e p = absurd p.0
still form.Texts (state.Straight a b c) e p = absurd p.0
still form.Texts (state.Span x1 y1 z1 x2 y2 z2) e p = absurd p.0
still form.Texts (state.Plane a b c d) e p = absurd p.0
still form.Texts (state.Offset k) e p = absurd p.0
still _ (state.Spot x y) e p = absurd p
still _ (state.Straight a b c) e p = absurd p
still _ (state.Span x1 y1 z1 x2 y2 z2) e p = absurd p
still _ (state.Plane a b c d) e p = absurd p
still _ (state.Offset k) e p = absurd p
still _ _ e p = tt

unmoved : (e : Exchange) (s : State) → IsUnmoved s → exchanged_state e s ≡ s
unmoved First (state.Spot x y) h = absurd h
unmoved First (state.Straight a b c) h = absurd h
unmoved First (state.Span x1 y1 z1 x2 y2 z2) h = absurd h
unmoved First (state.Plane a b c d) h = absurd h
unmoved First (state.Offset k) h = absurd h
unmoved First _ h = refl
unmoved Last (state.Span x1 y1 z1 x2 y2 z2) h = absurd h
unmoved Last (state.Plane a b c d) h = absurd h
unmoved Last _ h = refl

line_proper : (e : Exchange) (s : State) → IsLineState s → IsLineState (exchanged_state e s)
line_proper First state.Empty p = tt
line_proper First state.Broken p = tt
line_proper First (state.Spot x y) p = record { x = p.y; y = p.x }
line_proper First (state.Straight a b c) p = subst (λ l. IsLineState (line_state (fact (straight l)))) (sym (signed_swapped (a, b, c) p)) (swapped_fit a b c p)
line_proper First _ p = absurd p
line_proper Last state.Empty p = tt
line_proper Last state.Broken p = tt
line_proper Last (state.Spot x y) p = p
line_proper Last (state.Straight a b c) p = p
line_proper Last _ p = absurd p

plane_proper : (e : Exchange) (s : State) → IsPlaneState s → IsPlaneState (exchanged_state e s)
unfolding span_between
plane_proper First state.Empty p = tt
plane_proper First state.Broken p = tt
plane_proper First (state.Span x1 y1 z1 x2 y2 z2) p = fit_moved First (span ((x1, y1, z1), (x2, y2, z2))) p
plane_proper First (state.Plane a b c d) p = fit_moved First (plane (a, b, c, d)) p
plane_proper First _ p = absurd p
plane_proper Last state.Empty p = tt
plane_proper Last state.Broken p = tt
plane_proper Last (state.Span x1 y1 z1 x2 y2 z2) p = fit_moved Last (span ((x1, y1, z1), (x2, y2, z2))) p
plane_proper Last (state.Plane a b c d) p = fit_moved Last (plane (a, b, c, d)) p
plane_proper Last _ p = absurd p

offset_proper : (e : Exchange) (s : State) → IsProper form.Offset s → IsProper form.Offset (exchanged_state e s)
offset_proper First state.Empty p = p
offset_proper First state.Broken p = p
offset_proper First (state.Offset k) p = (tt, subst (λ t. t < 2 ^ 64) (sym (negated_abs k)) p.1)
offset_proper First _ p = absurd p.0
offset_proper Last state.Empty p = p
offset_proper Last state.Broken p = p
offset_proper Last (state.Offset k) p = p
offset_proper Last _ p = absurd p.0

still_proper : (form : StateForm) (e : Exchange) (s : State) → is_still form ≡ true → IsProper form s → IsProper form (exchanged_state e s)
still_proper form e s q p = subst (IsProper form) (sym (unmoved e s (still form s q p))) p

pub proper_exchanged : (form : StateForm) (e : Exchange) (s : State) → IsProper form s → IsProper form (exchanged_state e s)
proper_exchanged form.Line e s p = line_proper e s p
proper_exchanged form.Plane e s p = plane_proper e s p
proper_exchanged form.Offset e s p = offset_proper e s p
proper_exchanged form.Texts e s p = still_proper form.Texts e s refl p
proper_exchanged form.Plain e s p = still_proper form.Plain e s refl p
proper_exchanged form.Least e s p = still_proper form.Least e s refl p
proper_exchanged form.Greatest e s p = still_proper form.Greatest e s refl p
proper_exchanged form.Ints e s p = still_proper form.Ints e s refl p
proper_exchanged form.Truth e s p = still_proper form.Truth e s refl p
proper_exchanged form.Code e s p = still_proper form.Code e s refl p
proper_exchanged form.Modulus e s p = still_proper form.Modulus e s refl p

-- the numbers of a proper state in space are within their bounds
pub proper_bounds : (form : StateForm) (s : State) → IsProper form s → IsBounded s
proper_bounds form.Line (state.Straight a b c) p = p
proper_bounds form.Plane (state.Plane a b c d) p = p
proper_bounds form.Offset (state.Offset k) p = p.1
proper_bounds form.Texts (state.Straight a b c) p = absurd p.0
proper_bounds form.Texts (state.Plane a b c d) p = absurd p.0
proper_bounds form.Texts (state.Offset k) p = absurd p.0
proper_bounds form.Offset (state.Straight a b c) p = absurd p.0
proper_bounds form.Offset (state.Plane a b c d) p = absurd p.0
proper_bounds _ (state.Straight a b c) p = absurd p
proper_bounds _ (state.Plane a b c d) p = absurd p
proper_bounds _ (state.Offset k) p = absurd p
proper_bounds _ _ p = tt

-- from the state over a tuple in order to the state over the tuple
back_proper : (form : StateForm) (e : Exchange) (tuple : List VarId) (s : State) → IsProper form s → IsProper form (exchanged_back e tuple s)
back_proper form e tuple s p = elim (descends e tuple) as (λ b. IsProper form (if b then exchanged_state e s else s)) [ true ↦ proper_exchanged form e s p | false ↦ p ]

pub proper_disarranged : (form : StateForm) (symmetry : Symmetry) (tuple : List VarId) (s : State) → IsProper form s → IsProper form (disarrange_state symmetry tuple s)
proper_disarranged form symmetry.Fixed tuple s p = p
proper_disarranged form symmetry.All tuple s p =
    let one = order_tuple Last tuple in
    let two = order_tuple First one in
    back_proper form Last tuple (exchanged_back First one (exchanged_back Last two s)) (back_proper form First one (exchanged_back Last two s) (back_proper form Last two s p))
proper_disarranged form symmetry.Arguments tuple s p = back_proper form Last tuple s p
