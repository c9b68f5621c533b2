-- Patterns after classes were split.
use Rattle.std.proofs.Common.{◌≡◌, ℕ, zero, suc, ◌+◌, ◌<◌, eqb, inl, inr, List, [], ◌∷◌, length, get_or, map, Bool, true, false, cond, ◌&&◌, ◌||◌, refl, ap, sym, ◌∙◌, subst, arith}
use Rattle.std.specs.List.{All, AllByRecursion, Contains, IsDistinct, list_any}
use Rattle.std.proofs.lemmas.Bool.{cases_Bool, eq-eqb, false≢true, true≢false}
use Rattle.std.proofs.lemmas.List.{get_or-map, length-map}
use Rattle.std.proofs.lemmas.List.Elements.{All-head, All-map, All-tail}
use Rattle.std.proofs.lemmas.List.Kept.{AllPairs-filter}
use Rattle.std.proofs.lemmas.Map.Keys.{IsDistinct-cons, IsDistinct-head, IsDistinct-tail}
use Rattle.dk_base.specs.declared.kinds.VarId.{VarId}
use Rattle.dk_base.specs.declared.values.Value.{Value}
use Rattle.dk_samples.specs.Leaders.{LeadNow, VarsAscend, old_of}
use Rattle.dk_samples.specs.Samples.{Agree, is_present, value_in}
use Rattle.dk_presence.specs.declared.held.Held.{Held}
use Rattle.dk_presence.specs.Patterns.{AreCounted, AreHeld, capped, has, held_patterns, pattern_count, patterns_of, present_in, same_vars, times}
use Rattle.dk_presence.specs.Steps.{AreUnheld, Differ, refined, with_new}
use Rattle.dk_presence.proofs.Sameness.{same_ascending, same_id, same_vars-refl, same_vars-true}
use Rattle.dk_presence.proofs.Adding.{times-cons}
use Rattle.dk_presence.proofs.Putting.{ascend_with, has_now, same_before}
use Rattle.dk_presence.proofs.Sums.{count_at, has-filter, held_not, is_held, occurs_not}

-- ---- where a pattern stands
pub any_at : (p : List VarId → Bool) (ps : List (List VarId)) (k : ℕ) (d : List VarId) → k < length ps → p (get_or ps k d) ≡ true → list_any p ps ≡ true
any_at p [] k d l h = absurd (omega arith)
any_at p (a ∷ ps) zero d l h = ap (λ b. b || list_any p ps) h
any_at p (a ∷ ps) (suc k) d l h = elim (p a) as (λ b. (b || list_any p ps) ≡ true) [ true ↦ refl | false ↦ any_at p ps k d (omega arith) h ]

pub place_of : (p : List VarId → Bool) (ps : List (List VarId)) → list_any p ps ≡ true → (k : ℕ) × (k < length ps) × (p (get_or ps k []) ≡ true)
place_of p [] h = absurd (false≢true h)
place_of p (a ∷ ps) h = elim (cases_Bool (p a)) [
  | inl e ↦ (0, omega arith, e)
  | inr n ↦ let found = place_of p ps (ap (λ b. b || list_any p ps) (sym n) ∙ h) in (suc found.0, omega (arith, found.1), found.2)
]

pub no_held : Held
no_held = record { count = 0; leaders = [] }

module _ (new : List (VarId × VarId)) (differ : Differ new) where
  with_them : List VarId → List VarId
  with_them a = with_new new a a

  -- ascending, and without new leaders
  pub record IsOld (a : List VarId) : Type 0 where
    pub ascend : VarsAscend a
    pub off : All (λ n. has a n.0 ≡ false) new

  same_refined : (a b : List VarId) → IsOld a → IsOld b → same_vars (with_new new a a) (with_new new b b) ≡ same_vars a b
  same_refined a b oa ob = elim (cases_Bool (same_vars a b)) [
    | inl e ↦ ap (λ x. same_vars (with_new new a a) (with_new new x x)) (sym (same_vars-true a b e)) ∙ (same_vars-refl (with_new new a a) ∙ sym e)
    | inr n ↦ elim (cases_Bool (same_vars (with_new new a a) (with_new new b b))) [
      | inl e ↦
          let is = same_before new differ a b oa.ascend ob.ascend oa.off ob.off (same_vars-true (with_new new a a) (with_new new b b) e) in
          absurd (true≢false (sym (ap (same_vars a) (sym is) ∙ same_vars-refl a) ∙ n))
      | inr m ↦ m ∙ sym n
    ]
  ]

  held_refined : (held : List Held) → All (λ h. IsOld h.leaders) held → (a : List VarId) → IsOld a → pattern_count (map (refined new) held) (with_new new a a) ≡ pattern_count held a
  held_refined [] all a oa = refl
  held_refined (h ∷ held) all a oa =
      ap (λ b. cond b h.count (pattern_count (map (refined new) held) (with_new new a a))) (same_refined h.leaders a (All-head (λ k. IsOld k.leaders) h held all) oa)
      ∙ ap (λ n. cond (same_vars h.leaders a) h.count n) (held_refined held (All-tail (λ k. IsOld k.leaders) h held all) a oa)

  times_refined : (ps : List (List VarId)) → All IsOld ps → (a : List VarId) → IsOld a → times (with_new new a a) (map (λ p. with_new new p p) ps) ≡ times a ps
  times_refined [] all a oa = refl
  times_refined (p ∷ ps) all a oa =
      times-cons (with_new new a a) (with_new new p p) (map (λ q. with_new new q q) ps)
      ∙ (ap (λ b. cond b 1 0 + times (with_new new a a) (map (λ q. with_new new q q) ps)) (same_refined a p oa (All-head IsOld p ps all))
      ∙ (ap (λ n. cond (same_vars a p) 1 0 + n) (times_refined ps (All-tail IsOld p ps all) a oa) ∙ sym (times-cons a p ps)))

  any_refined : (ps : List (List VarId)) (a : List VarId) → list_any (same_vars a) ps ≡ true → list_any (same_vars (with_new new a a)) (map (λ p. with_new new p p) ps) ≡ true
  any_refined ps a h =
      let found = place_of (same_vars a) ps h in
      let is = same_vars-true a (get_or ps found.0 []) found.2 in
      let there = get_or-map (λ p. with_new new p p) ps found.0 [] [] found.1 in
      any_at (same_vars (with_new new a a)) (map (λ p. with_new new p p) ps) found.0 [] (omega (arith, found.1, length-map ps (λ p. with_new new p p)))
      (ap (same_vars (with_new new a a)) (there ∙ ap (λ p. with_new new p p) (sym is)) ∙ same_vars-refl (with_new new a a))

  module _ (held : List Held) (are : AreHeld held) (off : AreUnheld new held) where
    old_held : All (λ h. IsOld h.leaders) held
    old_held k d l = record { ascend = are.ascend k d l; off = off k d l }

    distinct_refined : (hs : List Held) → All (λ h. IsOld h.leaders) hs → IsDistinct same_vars (held_patterns hs) → IsDistinct same_vars (held_patterns (map (refined new) hs))
    unfolding IsDistinct
    distinct_refined [] all once = tt
    distinct_refined (h ∷ hs) all once =
        IsDistinct-cons same_vars (with_new new h.leaders h.leaders) (held_patterns (map (refined new) hs))
        (others h (All-head (λ k. IsOld k.leaders) h hs all) hs (All-tail (λ k. IsOld k.leaders) h hs all) (IsDistinct-head same_vars h.leaders (held_patterns hs) once))
        (distinct_refined hs (All-tail (λ k. IsOld k.leaders) h hs all) (IsDistinct-tail same_vars h.leaders (held_patterns hs) once))
      where
        others : (h : Held) → IsOld h.leaders → (hs : List Held) → All (λ k. IsOld k.leaders) hs → AllByRecursion (λ y. same_vars h.leaders y ≡ false) (held_patterns hs)
            → AllByRecursion (λ y. same_vars (with_new new h.leaders h.leaders) y ≡ false) (held_patterns (map (refined new) hs))
        others h oh [] all apart = tt
        others h oh (k ∷ hs) all apart = (same_refined h.leaders k.leaders oh (All-head (λ x. IsOld x.leaders) k hs all) ∙ apart.0, others h oh hs (All-tail (λ x. IsOld x.leaders) k hs all) apart.1)

    -- patterns are held as they must be
    pub are_refined : AreHeld (map (refined new) held)
    are_refined = record {
      once = distinct_refined held old_held are.once;
      some = All-map (λ h. 0 < h.count) (refined new) held are.some;
      ascend = All-map (λ h. VarsAscend h.leaders) (refined new) held (λ k d l. ascend_with new (get_or held k d).leaders (get_or held k d).leaders differ (off k d l) (are.ascend k d l));
    }

    module _ (patterns : List (List VarId)) (counted : AreCounted patterns held) where
      -- a pattern of the list is held, so it has no new leaders
      pub old_patterns : All IsOld patterns
      old_patterns k d l =
          let p = get_or patterns k d in
          let here = any_at (same_vars p) patterns k d l (same_vars-refl p) in
          let found = place_of (λ q. same_vars q p) (held_patterns held) (is_held patterns held counted p here) in
          let lk : found.0 < length held = omega (arith, found.1, length-map held (λ (h : Held). h.leaders)) in
          let read = get_or-map (λ (h : Held). h.leaders) held found.0 no_held [] lk in
          subst IsOld (sym read ∙ same_vars-true (get_or (held_patterns held) found.0 []) p found.2) (old_held found.0 no_held lk)

      -- a pattern that is held occurs
      occurs_held : (k : ℕ) → k < length held → list_any (same_vars (get_or held k no_held).leaders) patterns ≡ true
      occurs_held k l =
          let h = get_or held k no_held in
          let some = are.some k no_held l in
          let is = sym (count_at held are.once k no_held l) ∙ counted h.leaders in
          elim (cases_Bool (list_any (same_vars h.leaders) patterns)) [
            | inl e ↦ e
            | inr n ↦ let none = occurs_not h.leaders patterns n in absurd (omega (arith, some, is, none))
          ]

      counted_found : (b : List VarId) → list_any (same_vars b) (map (λ p. with_new new p p) patterns) ≡ true → pattern_count (map (refined new) held) b ≡ capped (times b (map (λ p. with_new new p p) patterns))
      counted_found b h =
          let found = place_of (same_vars b) (map (λ p. with_new new p p) patterns) h in
          let lk : found.0 < length patterns = omega (arith, found.1, length-map patterns (λ p. with_new new p p)) in
          let a = get_or patterns found.0 [] in
          let oa = old_patterns found.0 [] lk in
          let is : b ≡ with_new new a a = same_vars-true b (get_or (map (λ p. with_new new p p) patterns) found.0 []) found.2 ∙ get_or-map (λ p. with_new new p p) patterns found.0 [] [] lk in
          subst (λ x. pattern_count (map (refined new) held) x ≡ capped (times x (map (λ p. with_new new p p) patterns))) (sym is)
          (held_refined held old_held a oa ∙ (counted a ∙ sym (ap capped (times_refined patterns old_patterns a oa))))

      counted_none : (b : List VarId) → list_any (same_vars b) (map (λ p. with_new new p p) patterns) ≡ false → pattern_count (map (refined new) held) b ≡ capped (times b (map (λ p. with_new new p p) patterns))
      counted_none b n =
          let none = occurs_not b (map (λ p. with_new new p p) patterns) n in
          let zero_held : pattern_count (map (refined new) held) b ≡ 0 = elim (cases_Bool (list_any (λ p. same_vars p b) (held_patterns (map (refined new) held)))) [
            | inl e ↦
                let found = place_of (λ p. same_vars p b) (held_patterns (map (refined new) held)) e in
                let lm : found.0 < length (map (refined new) held) = omega (arith, found.1, length-map (map (refined new) held) (λ (h : Held). h.leaders)) in
                let lk : found.0 < length held = omega (arith, lm, length-map held (refined new)) in
                let a = (get_or held found.0 no_held).leaders in
                let read : get_or (held_patterns (map (refined new) held)) found.0 [] ≡ with_new new a a =
                get_or-map (λ (h : Held). h.leaders) (map (refined new) held) found.0 no_held [] lm ∙ ap (λ (h : Held). h.leaders) (get_or-map (refined new) held found.0 no_held no_held lk) in
                let is : with_new new a a ≡ b = sym read ∙ same_vars-true (get_or (held_patterns (map (refined new) held)) found.0 []) b found.2 in
                absurd (true≢false (sym (subst (λ x. list_any (same_vars x) (map (λ p. with_new new p p) patterns) ≡ true) is (any_refined patterns a (occurs_held found.0 lk))) ∙ n))
            | inr m ↦ held_not (map (refined new) held) b m
          ] in
          zero_held ∙ sym (ap capped none)

      -- refined patterns are counted
      pub counted_refined : AreCounted (map (λ p. with_new new p p) patterns) (map (refined new) held)
      counted_refined b = elim (cases_Bool (list_any (same_vars b) (map (λ p. with_new new p p) patterns))) [
        | inl e ↦ counted_found b e
        | inr n ↦ counted_none b n
      ]

-- ---- the patterns of samples over the new leaders
pub has-contains : (vs : List VarId) (v : VarId) → Contains vs v → has vs v ≡ true
has-contains [] v h = absurd (omega (arith, h.1))
has-contains (w ∷ vs) v (zero, l, e) = ap (λ b. b || has vs v) (eq-eqb w.0 v.0 (ap (λ (u : VarId). u.0) e))
has-contains (w ∷ vs) v (suc k, l, e) = elim (eqb w.0 v.0) as (λ b. (b || has vs v) ≡ true) [ true ↦ refl | false ↦ has-contains vs v (k, omega arith, e) ]

pub contains-has : (vs : List VarId) (v : VarId) → has vs v ≡ true → Contains vs v
contains-has [] v h = absurd (false≢true h)
contains-has (w ∷ vs) v h = elim (cases_Bool (eqb w.0 v.0)) [
  | inl e ↦ (0, omega arith, same_id w v e)
  | inr n ↦ let found = contains-has vs v (ap (λ b. b || has vs v) (sym n) ∙ h) in (suc found.0, omega (arith, found.1), found.2)
]

pub led_has : (leaders : List VarId) (new : List (VarId × VarId)) (samples : List (List Value)) (now : List VarId) → LeadNow leaders new samples now → (v : VarId) → has now v ≡ has leaders (old_of new v)
led_has leaders new samples now lead v = elim (cases_Bool (has now v)) [
  | inl e ↦ e ∙ sym (has-contains leaders (old_of new v) ((lead.led v).0 (contains-has now v e)))
  | inr n ↦ elim (cases_Bool (has leaders (old_of new v))) [
    | inl e ↦ absurd (true≢false (sym (has-contains now v ((lead.led v).1 (contains-has leaders (old_of new v) e))) ∙ n))
    | inr m ↦ n ∙ sym m
  ]
]

module _ (leaders : List VarId) (new : List (VarId × VarId)) (now : List VarId) (differ : Differ new) (up : VarsAscend leaders) (up_now : VarsAscend now) (led : (v : VarId) → has now v ≡ has leaders (old_of new v)) where
  pattern_now : (s : List Value) → ((v : VarId) → has now v ≡ true → value_in s v ≡ value_in s (old_of new v)) → All (λ n. has (present_in leaders s) n.0 ≡ false) new → present_in now s ≡ with_new new (present_in leaders s) (present_in leaders s)
  pattern_now s agree off =
      let p : VarId → Bool = λ v. is_present (value_in s v) in
      let old_up : VarsAscend (present_in leaders s) = AllPairs-filter (λ v w. v.0 < w.0) p leaders up in
      same_ascending (present_in now s) (with_new new (present_in leaders s) (present_in leaders s)) (AllPairs-filter (λ v w. v.0 < w.0) p now up_now)
      (ascend_with new (present_in leaders s) (present_in leaders s) differ off old_up)
      (λ v. has-filter p now v ∙ (both v ∙ sym (has_now (present_in leaders s) new differ off v ∙ has-filter p leaders (old_of new v))))
    where
      both : (v : VarId) → (has now v && is_present (value_in s v)) ≡ (has leaders (old_of new v) && is_present (value_in s (old_of new v)))
      both v = elim (cases_Bool (has now v)) [
        | inl e ↦ ap (λ x. has now v && is_present x) (agree v e) ∙ ap (λ b. b && is_present (value_in s (old_of new v))) (led v)
        | inr n ↦ ap (λ b. b && is_present (value_in s v)) n ∙ sym (ap (λ b. b && is_present (value_in s (old_of new v))) (sym (led v) ∙ n))
      ]

  patterns_now : (samples : List (List Value)) → ((v : VarId) → has now v ≡ true → Agree samples v (old_of new v)) → All (λ p. All (λ n. has p n.0 ≡ false) new) (patterns_of leaders samples) → patterns_of now samples ≡ map (λ p. with_new new p p) (patterns_of leaders samples)
  patterns_now [] agree off = refl
  patterns_now (s ∷ samples) agree off =
      let first = pattern_now s (λ v h. All-head (λ t. value_in t v ≡ value_in t (old_of new v)) s samples (agree v h)) (All-head (λ p. All (λ n. has p n.0 ≡ false) new) (present_in leaders s) (patterns_of leaders samples) off) in
      let rest = patterns_now samples (λ v h. All-tail (λ t. value_in t v ≡ value_in t (old_of new v)) s samples (agree v h)) (All-tail (λ p. All (λ n. has p n.0 ≡ false) new) (present_in leaders s) (patterns_of leaders samples) off) in
      cc

  -- the refined patterns are those of the samples
  pub counted_now : (samples : List (List Value)) → LeadNow leaders new samples now → (held : List Held) → AreHeld held → AreUnheld new held → AreCounted (patterns_of leaders samples) held → AreCounted (patterns_of now samples) (map (refined new) held)
  counted_now samples lead held are off counted =
      let old = old_patterns new differ held are off (patterns_of leaders samples) counted in
      subst (λ ps. AreCounted ps (map (refined new) held)) (sym (patterns_now samples (λ v h. lead.agree v (contains-has now v h)) (λ k d l. (old k d l).off)))
      (counted_refined new differ held are off (patterns_of leaders samples) counted)

-- nothing is new
pub refined_none : (held : List Held) → map (refined []) held ≡ held
refined_none [] = refl
refined_none (h ∷ held) = ap (λ hs. h ∷ hs) (refined_none held)
