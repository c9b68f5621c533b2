-- Patterns that are counted together.
use Rattle.std.proofs.Common.{◌≡◌, ℕ, zero, suc, ◌+◌, ◌<◌, ◌≤◌, ◌^◌, inl, inr, List, [], ◌∷◌, ◌++◌, length, get_or, set, take, position, Some, None, Bool, true, false, cond, ◌||◌, refl, ap, sym, ◌∙◌, subst, arith}
use Rattle.std.specs.Prelude.{nat_lt}
use Rattle.std.specs.List.{All, IsDistinct, list_any, position_or_len}
use Rattle.std.proofs.lemmas.Bool.{cases_Bool, true≢false}
use Rattle.std.proofs.lemmas.Bool.Decides.{nat_tests}
use Rattle.std.proofs.lemmas.List.{get_or-map, length-map}
use Rattle.std.proofs.lemmas.List.Sums.{fails_before_first, sum_by_more}
use Rattle.std.proofs.lemmas.List.Elements.{All-cons, All-head, All-nil, All-tail}
use Rattle.std.proofs.lemmas.List.Quantifiers.{position-Some}
use Rattle.dk_base.specs.declared.kinds.VarId.{VarId}
use Rattle.dk_samples.specs.Leaders.{VarsAscend}
use Rattle.dk_presence.specs.declared.held.Held.{Held}
use Rattle.dk_presence.specs.Patterns.{AreHeld, capped, held_patterns, pattern_count, same_vars}
use Rattle.dk_presence.specs.Steps.{counted_once_more, with_sample_of}
use Rattle.dk_presence.proofs.Placing.{added_found, held_added}
use Rattle.dk_presence.proofs.Sameness.{same_vars-at, same_vars-sym, same_vars-true}
use Rattle.dk_join.specs.Joined.{present_with, times_present}
use Rattle.dk_join.specs.Tallies.{counted_more, with_samples_of}

abbrev held_with : List VarId → ℕ → Held
held_with present n = record { count = n; leaders = present }

-- a pattern with its count, at most 2^64 - 1
abbrev first_of : ℕ → List VarId → Held
first_of count present = held_with present (capped count)

module _ (count : ℕ) (present : List VarId) where
  -- ---- which patterns there are
  pub patterns_tallied : (held : List Held) → held_patterns (with_samples_of count present held) ≡ held_patterns (with_sample_of present held)
  patterns_tallied [] = refl
  patterns_tallied (h ∷ held) = elim (same_vars h.leaders present) as (λ b. held_patterns (cond b (counted_more count h ∷ held) (h ∷ with_samples_of count present held)) ≡ held_patterns (cond b (counted_once_more h ∷ held) (h ∷ with_sample_of present held))) [
    | true ↦ refl
    | false ↦ ap (λ ps. h.leaders ∷ ps) (patterns_tallied held)
  ]

  all_tallied : (P : Held → Type 0) → P (first_of count present) → ((h : Held) → P h → P (counted_more count h)) → (held : List Held) → All P held → All P (with_samples_of count present held)
  all_tallied P first more [] all = All-cons P (first_of count present) [] first (All-nil P)
  all_tallied P first more (h ∷ held) all = elim (same_vars h.leaders present) as (λ b. All P (cond b (counted_more count h ∷ held) (h ∷ with_samples_of count present held))) [
    | true ↦ All-cons P (counted_more count h) held (more h (All-head P h held all)) (All-tail P h held all)
    | false ↦ All-cons P h (with_samples_of count present held) (All-head P h held all) (all_tallied P first more held (All-tail P h held all))
  ]

  -- they stay as they must be
  pub held_tallied : 0 < count → (held : List Held) → VarsAscend present → AreHeld held → AreHeld (with_samples_of count present held)
  held_tallied some held up are = record {
    once = subst (IsDistinct same_vars) (sym (patterns_tallied held)) (held_added present held up are).once;
    some = all_tallied (λ h. 0 < h.count) (omega (arith, some)) (λ h l. omega (arith, l, some)) held are.some;
    ascend = all_tallied (λ h. VarsAscend h.leaders) up (λ h a. a) held are.ascend;
  }

  -- ---- their counts
  pub count_tallied : (held : List Held) (b : List VarId) → pattern_count (with_samples_of count present held) b ≡ cond (same_vars present b) (capped (pattern_count held b + count)) (pattern_count held b)
  count_tallied [] b = elim (same_vars present b) as (λ s. cond s (capped count) 0 ≡ cond s (capped (0 + count)) 0) [ true ↦ omega arith | false ↦ refl ]
  count_tallied (h ∷ held) b = elim (cases_Bool (same_vars h.leaders present)) [
    | inl e ↦
        ap (λ s. pattern_count (cond s (counted_more count h ∷ held) (h ∷ with_samples_of count present held)) b) e
        ∙ (elim (same_vars h.leaders b) as (λ s. cond s (capped (h.count + count)) (pattern_count held b) ≡ cond s (capped (cond s h.count (pattern_count held b) + count)) (cond s h.count (pattern_count held b))) [ true ↦ refl | false ↦ refl ]
        ∙ ap (λ s. cond s (capped (pattern_count (h ∷ held) b + count)) (pattern_count (h ∷ held) b)) (same_vars-at h.leaders present b e))
    | inr n ↦
        ap (λ s. pattern_count (cond s (counted_more count h ∷ held) (h ∷ with_samples_of count present held)) b) n
        ∙ elim (cases_Bool (same_vars h.leaders b)) [
          | inl f ↦
              let other : same_vars present b ≡ false = ap (same_vars present) (sym (same_vars-true h.leaders b f)) ∙ (same_vars-sym present h.leaders ∙ n) in
              ap (λ s. cond s h.count (pattern_count (with_samples_of count present held) b)) f
              ∙ sym (ap (λ s. cond s (capped (pattern_count (h ∷ held) b + count)) (pattern_count (h ∷ held) b)) other ∙ ap (λ s. cond s h.count (pattern_count held b)) f)
          | inr g ↦
              ap (λ s. cond s h.count (pattern_count (with_samples_of count present held) b)) g
              ∙ (count_tallied held b ∙ sym (ap (λ x. cond (same_vars present b) (capped (x + count)) x) (ap (λ s. cond s h.count (pattern_count held b)) g)))
        ]
  ]

  -- ---- by places
  tallied_at : (held : List Held) (i : ℕ) (d : Held) → i < length held → same_vars present (get_or held i d).leaders ≡ true → ((k : ℕ) → k < i → same_vars present (get_or held k d).leaders ≡ false) → with_samples_of count present held ≡ set held i (counted_more count (get_or held i d))
  tallied_at [] i d l here before = absurd (omega (arith, l))
  tallied_at (h ∷ held) zero d l here before = ap (λ b. cond b (counted_more count h ∷ held) (h ∷ with_samples_of count present held)) (same_vars-sym h.leaders present ∙ here)
  tallied_at (h ∷ held) (suc i) d l here before =
      ap (λ b. cond b (counted_more count h ∷ held) (h ∷ with_samples_of count present held)) (same_vars-sym h.leaders present ∙ before 0 (omega arith))
      ∙ ap (λ hs. h ∷ hs) (tallied_at held i d (omega (arith, l)) here (λ k lt. before (suc k) (omega (arith, lt))))

  tallied_last : (held : List Held) → list_any (λ p. same_vars p present) (held_patterns held) ≡ false → with_samples_of count present held ≡ held ++ first_of count present ∷ []
  tallied_last [] none = refl
  tallied_last (h ∷ held) none = elim (cases_Bool (same_vars h.leaders present)) [
    | inl e ↦ absurd (true≢false (sym (ap (λ b. b || list_any (λ p. same_vars p present) (held_patterns held)) e) ∙ none))
    | inr n ↦
        ap (λ b. cond b (counted_more count h ∷ held) (h ∷ with_samples_of count present held)) n
        ∙ ap (λ hs. h ∷ hs) (tallied_last held (ap (λ b. b || list_any (λ p. same_vars p present) (held_patterns held)) (sym n) ∙ none))
  ]

  -- by the place that a look-up finds
  pub tallied_found : (held : List Held) (i : ℕ) → position (same_vars present) (held_patterns held) ≡ Some i
      → ((d : Held) → with_samples_of count present held ≡ set held i (counted_more count (get_or held i d))) × (held_patterns (with_samples_of count present held) ≡ held_patterns held)
  tallied_found held i e =
      let told = position-Some (same_vars present) (held_patterns held) i [] e in
      let long = length-map held (λ (h : Held). h.leaders) in
      let l : i < length held = omega (arith, told.0, long) in
      let at : (d : Held) (k : ℕ) → k < length held → get_or (held_patterns held) k [] ≡ (get_or held k d).leaders = λ d k m. get_or-map (λ (h : Held). h.leaders) held k d [] m in (
        λ d. tallied_at held i d l (ap (same_vars present) (sym (at d i l)) ∙ told.1) (λ k lt. ap (same_vars present) (sym (at d k (omega (arith, lt, l)))) ∙ told.2 k lt),
        patterns_tallied held ∙ (added_found present held i e).2,
      )

  any_not : (p : List VarId → Bool) (ps : List (List VarId)) → ((k : ℕ) → k < length ps → p (get_or ps k []) ≡ false) → list_any p ps ≡ false
  any_not p [] h = refl
  any_not p (a ∷ ps) h = ap (λ b. b || list_any p ps) (h 0 (omega arith)) ∙ any_not p ps (λ k l. h (suc k) (omega (arith, l)))

  position_none : (p : List VarId → Bool) (ps : List (List VarId)) → position p ps ≡ None → length ps ≤ position_or_len p ps
  position_none p ps e = elim (cases_Bool (nat_lt (position_or_len p ps) (length ps))) [
    | inl t ↦ absurd (let some : position p ps ≡ Some (position_or_len p ps) = ap (λ b. cond b (Some (position_or_len p ps)) None) t in cc)
    | inr f ↦ grind (arith, nat_tests, f)
  ]

  -- one that isn't found goes last
  pub tallied_new : (held : List Held) → position (same_vars present) (held_patterns held) ≡ None → with_samples_of count present held ≡ held ++ first_of count present ∷ []
  tallied_new held e =
      let long = position_none (same_vars present) (held_patterns held) e in
      tallied_last held (any_not (λ p. same_vars p present) (held_patterns held)
      (λ k l. same_vars-sym (get_or (held_patterns held) k []) present ∙ fails_before_first (same_vars present) (held_patterns held) k [] (omega (arith, l, long))))

pub first_is : (count : ℕ) (present : List VarId) → count < 2 ^ 64 → first_of count present ≡ held_with present count
first_is count present l = ap (held_with present) (omega (arith, l))

-- ---- one pattern more
pub times_more : (old leaders : List VarId) (held : List Held) (i : ℕ) (d : Held) → i < length held → (p : List VarId) (n : ℕ) (present : List VarId) (count : ℕ)
    → present ≡ present_with old leaders (get_or held i d).leaders → count ≡ (get_or held i d).count → (tally : List Held) → pattern_count tally p ≡ capped (n + times_present old leaders (take i held) p)
    → pattern_count (with_samples_of count present tally) p ≡ capped (n + times_present old leaders (take (i + 1) held) p)
times_more old leaders held i d l p n present count same counts tally h =
    let F : Held → ℕ = λ k. cond (same_vars (present_with old leaders k.leaders) p) k.count 0 in
    let so_far = times_present old leaders (take i held) p in
    let more = sum_by_more F held i d l in
    let told : so_far + cond (same_vars present p) count 0 ≡ so_far + F (get_or held i d) =
    ap (λ ps. so_far + cond (same_vars ps p) count 0) same ∙ ap (λ m. so_far + cond (same_vars (present_with old leaders (get_or held i d).leaders) p) m 0) counts in
    count_tallied count present tally p
    ∙ (ap (λ m. cond (same_vars present p) (capped (m + count)) m) h
    ∙ (step so_far (same_vars present p) ∙ ap (λ m. capped (n + m)) (told ∙ sym more)))
  where
    step : (t : ℕ) (b : Bool) → cond b (capped (capped (n + t) + count)) (capped (n + t)) ≡ capped (n + (t + cond b count 0))
    step t true = omega arith
    step t false = ap capped (omega arith)
