-- The patterns by their places.
use Rattle.std.proofs.Common.{◌≡◌, ℕ, zero, suc, ◌<◌, ◌≤◌, eqb, inl, inr, List, [], ◌∷◌, ◌++◌, length, get_or, set, position, Some, None, Bool, true, false, cond, ◌&&◌, ◌||◌, refl, ap, sym, ◌∙◌, subst, arith}
use Rattle.std.specs.Prelude.{nat_lt}
use Rattle.std.specs.Cmp.Lexicographic.{pointwise}
use Rattle.std.specs.List.{All, AllByRecursion, IsDistinct, list_any, position_or_len}
use Rattle.std.proofs.lemmas.Bool.{cases_Bool, true≢false}
use Rattle.std.proofs.lemmas.Bool.Decides.{nat_tests}
use Rattle.std.proofs.lemmas.List.{get_or-map, length-map}
use Rattle.std.proofs.lemmas.List.Sums.{fails_before_first, position_or_len_is}
use Rattle.std.proofs.lemmas.List.Elements.{All-cons, All-head, All-nil, All-tail}
use Rattle.std.proofs.lemmas.Map.Keys.{apart_from_distinct, IsDistinct-cons, IsDistinct-head, IsDistinct-tail}
use Rattle.std.proofs.lemmas.List.Quantifiers.{position-Some}
use Rattle.dk_base.specs.declared.kinds.VarId.{VarId}
use Rattle.dk_samples.specs.Leaders.{VarsAscend}
use Rattle.dk_presence.specs.declared.held.Held.{Held}
use Rattle.dk_presence.specs.Patterns.{AreHeld, held_patterns, pattern_count, same_vars}
use Rattle.dk_presence.specs.Steps.{counted_once_more, first_held, with_sample_of}
use Rattle.dk_presence.proofs.Sameness.{same_vars-sym, same_vars-true}
use Rattle.dk_presence.proofs.Sums.{count_at}
use Rattle.dk_presence.proofs.Adding.{patterns_added}
use Rattle.dk_presence.proofs.Refining.{any_at}

-- the first pattern with these leaders is counted once more
added_at : (present : List VarId) (held : List Held) (i : ℕ) (d : Held) → i < length held → same_vars present (get_or held i d).leaders ≡ true → ((k : ℕ) → k < i → same_vars present (get_or held k d).leaders ≡ false) → with_sample_of present held ≡ set held i (counted_once_more (get_or held i d))
added_at present [] i d l here before = absurd (omega arith)
added_at present (h ∷ held) zero d l here before = ap (λ b. cond b (counted_once_more h ∷ held) (h ∷ with_sample_of present held)) (same_vars-sym h.leaders present ∙ here)
added_at present (h ∷ held) (suc i) d l here before =
    ap (λ b. cond b (counted_once_more h ∷ held) (h ∷ with_sample_of present held)) (same_vars-sym h.leaders present ∙ before 0 (omega arith))
    ∙ ap (λ hs. h ∷ hs) (added_at present held i d (omega arith) here (λ k lt. before (suc k) (omega arith)))

-- a new pattern goes last
added_last : (present : List VarId) (held : List Held) → list_any (λ p. same_vars p present) (held_patterns held) ≡ false → with_sample_of present held ≡ held ++ first_held present ∷ []
added_last present [] none = refl
added_last present (h ∷ held) none = elim (cases_Bool (same_vars h.leaders present)) [
  | inl e ↦ absurd (true≢false (sym (ap (λ b. b || list_any (λ p. same_vars p present) (held_patterns held)) e) ∙ none))
  | inr n ↦
      ap (λ b. cond b (counted_once_more h ∷ held) (h ∷ with_sample_of present held)) n
      ∙ ap (λ hs. h ∷ hs) (added_last present held (ap (λ b. b || list_any (λ p. same_vars p present) (held_patterns held)) (sym n) ∙ none))
]

-- the patterns stay as they must be
pub all_added : (P : Held → Type 0) (present : List VarId) → P (first_held present) → ((h : Held) → P h → P (counted_once_more h)) → (held : List Held) → All P held → All P (with_sample_of present held)
all_added P present first more [] all = All-cons P (first_held present) [] first (All-nil P)
all_added P present first more (h ∷ held) all = elim (same_vars h.leaders present) as (λ b. All P (cond b (counted_once_more h ∷ held) (h ∷ with_sample_of present held))) [
  | true ↦ All-cons P (counted_once_more h) held (more h (All-head P h held all)) (All-tail P h held all)
  | false ↦ All-cons P h (with_sample_of present held) (All-head P h held all) (all_added P present first more held (All-tail P h held all))
]

apart_added : (a present : List VarId) (held : List Held) → same_vars a present ≡ false → AllByRecursion (λ y. same_vars a y ≡ false) (held_patterns held) → AllByRecursion (λ y. same_vars a y ≡ false) (held_patterns (with_sample_of present held))
apart_added a present [] n all = (n, tt)
apart_added a present (h ∷ held) n all = elim (same_vars h.leaders present) as (λ b. AllByRecursion (λ y. same_vars a y ≡ false) (held_patterns (cond b (counted_once_more h ∷ held) (h ∷ with_sample_of present held)))) [
  | true ↦ all
  | false ↦ (all.0, apart_added a present held n all.1)
]

distinct_added : (present : List VarId) (held : List Held) → IsDistinct same_vars (held_patterns held) → IsDistinct same_vars (held_patterns (with_sample_of present held))
unfolding IsDistinct
distinct_added present [] once = IsDistinct-cons same_vars present [] tt tt
distinct_added present (h ∷ held) once = elim (cases_Bool (same_vars h.leaders present)) [
  | inl e ↦ subst (λ b. IsDistinct same_vars (held_patterns (cond b (counted_once_more h ∷ held) (h ∷ with_sample_of present held)))) (sym e) once
  | inr n ↦ subst (λ b. IsDistinct same_vars (held_patterns (cond b (counted_once_more h ∷ held) (h ∷ with_sample_of present held)))) (sym n)
      (IsDistinct-cons same_vars h.leaders (held_patterns (with_sample_of present held))
      (apart_added h.leaders present held n (IsDistinct-head same_vars h.leaders (held_patterns held) once))
      (distinct_added present held (IsDistinct-tail same_vars h.leaders (held_patterns held) once)))
]

pub held_added : (present : List VarId) (held : List Held) → VarsAscend present → AreHeld held → AreHeld (with_sample_of present held)
held_added present held up are = record {
  once = distinct_added present held are.once;
  some = all_added (λ h. 0 < h.count) present (omega arith) (λ h l. omega (arith, l)) held are.some;
  ascend = all_added (λ h. VarsAscend h.leaders) present up (λ h a. a) held are.ascend;
}

pub held_none : AreHeld []
unfolding IsDistinct
held_none = record { once = tt; some = All-nil (λ h. 0 < h.count); ascend = All-nil (λ h. VarsAscend h.leaders) }

-- ---- look-ups
any_not : (p : List VarId → Bool) (ps : List (List VarId)) → ((k : ℕ) → k < length ps → p (get_or ps k []) ≡ false) → list_any p ps ≡ false
any_not p [] h = refl
any_not p (a ∷ ps) h = ap (λ b. b || list_any p ps) (h 0 (omega arith)) ∙ any_not p ps (λ k l. h (suc k) (omega arith))

-- the first place that passes is the one that a look-up finds
pub position_at : (p : List VarId → Bool) (ps : List (List VarId)) (i : ℕ) → i < length ps → p (get_or ps i []) ≡ true → ((k : ℕ) → k < i → p (get_or ps k []) ≡ false) → position p ps ≡ Some i
position_at p ps i l here before =
    let first : position_or_len p ps ≡ i = position_or_len_is p ps i [] (omega (arith, l)) before (λ _. here) in
    let within : nat_lt i (length ps) ≡ true = grind (arith, nat_tests, l) in
    ap (λ n. cond (nat_lt n (length ps)) (Some n) None) first ∙ ap (λ b. cond b (Some i) None) within

-- where none passes, none is found
pub nowhere : (p : List VarId → Bool) (ps : List (List VarId)) → ((k : ℕ) → k < length ps → p (get_or ps k []) ≡ false) → position p ps ≡ None
nowhere p ps none =
    let last : position_or_len p ps ≡ length ps = position_or_len_is p ps (length ps) [] (omega arith) none (λ l. absurd (omega (arith, l))) in
    let over : nat_lt (length ps) (length ps) ≡ false = grind (arith, nat_tests) in
    ap (λ n. cond (nat_lt n (length ps)) (Some n) None) last ∙ ap (λ b. cond b (Some (length ps)) None) over

-- by the place that a look-up finds
pub added_found : (present : List VarId) (held : List Held) (i : ℕ) → position (same_vars present) (held_patterns held) ≡ Some i
    → (i < length held) × ((d : Held) → with_sample_of present held ≡ set held i (counted_once_more (get_or held i d))) × (held_patterns (with_sample_of present held) ≡ held_patterns held)
added_found present held i e =
    let told = position-Some (same_vars present) (held_patterns held) i [] e in
    let long = length-map held (λ (h : Held). h.leaders) in
    let l : i < length held = omega (arith, told.0, long) in
    let at : (d : Held) (k : ℕ) → k < length held → get_or (held_patterns held) k [] ≡ (get_or held k d).leaders = λ d k m. get_or-map (λ (h : Held). h.leaders) held k d [] m in
    let there = any_at (λ p. same_vars p present) (held_patterns held) i [] told.0 (same_vars-sym (get_or (held_patterns held) i []) present ∙ told.1) in (
      l,
      λ d. added_at present held i d l (ap (same_vars present) (sym (at d i l)) ∙ told.1) (λ k lt. ap (same_vars present) (sym (at d k (omega arith))) ∙ told.2 k lt),
      patterns_added present held ∙ ap (λ b. cond b (held_patterns held) (held_patterns held ++ present ∷ [])) there,
    )

position_none : (p : List VarId → Bool) (ps : List (List VarId)) → position p ps ≡ None → length ps ≤ position_or_len p ps
position_none p ps e = elim (cases_Bool (nat_lt (position_or_len p ps) (length ps))) [
  | inl t ↦ absurd (let some : position p ps ≡ Some (position_or_len p ps) = ap (λ b. cond b (Some (position_or_len p ps)) None) t in cc)
  | inr f ↦ grind (arith, nat_tests, f)
]

not_there : (present : List VarId) (held : List Held) → position (same_vars present) (held_patterns held) ≡ None → list_any (λ p. same_vars p present) (held_patterns held) ≡ false
not_there present held e =
    let long = position_none (same_vars present) (held_patterns held) e in
    any_not (λ p. same_vars p present) (held_patterns held) (λ k l. same_vars-sym (get_or (held_patterns held) k []) present ∙ fails_before_first (same_vars present) (held_patterns held) k [] (omega arith))

unheld : (present : List VarId) (held : List Held) → list_any (λ p. same_vars p present) (held_patterns held) ≡ false → pattern_count held present ≡ 0
unheld present [] none = refl
unheld present (h ∷ held) none = elim (cases_Bool (same_vars h.leaders present)) [
  | inl e ↦ absurd (true≢false (sym (ap (λ b. b || list_any (λ p. same_vars p present) (held_patterns held)) e) ∙ none))
  | inr n ↦ ap (λ b. cond b h.count (pattern_count held present)) n ∙ unheld present held (ap (λ b. b || list_any (λ p. same_vars p present) (held_patterns held)) (sym n) ∙ none)
]

-- a pattern that a look-up doesn't find has no count
pub held_missing : (present : List VarId) (held : List Held) → position (same_vars present) (held_patterns held) ≡ None → pattern_count held present ≡ 0
held_missing present held e = unheld present held (not_there present held e)

pub added_new : (present : List VarId) (held : List Held) → position (same_vars present) (held_patterns held) ≡ None → with_sample_of present held ≡ held ++ first_held present ∷ []
added_new present held e = added_last present held (not_there present held e)

pub patterns_new : (present : List VarId) (held : List Held) → position (same_vars present) (held_patterns held) ≡ None → held_patterns (with_sample_of present held) ≡ held_patterns held ++ present ∷ []
patterns_new present held e = patterns_added present held ∙ ap (λ b. cond b (held_patterns held) (held_patterns held ++ present ∷ [])) (not_there present held e)

-- ---- keys
pub pointwise_same : (a b : List VarId) → pointwise (λ (v w : VarId). eqb v.0 w.0) a b ≡ same_vars a b
pointwise_same [] [] = refl
pointwise_same [] (w ∷ b) = refl
pointwise_same (v ∷ a) [] = refl
pointwise_same (v ∷ a) (w ∷ b) = ap (λ s. eqb v.0 w.0 && s) (pointwise_same a b)

-- the pattern at a place is found there, since no two are the same
pub position_here : (present : List VarId) (held : List Held) (i : ℕ) (d : Held) → IsDistinct same_vars (held_patterns held) → i < length held → same_vars present (get_or held i d).leaders ≡ true
    → position (same_vars present) (held_patterns held) ≡ Some i
position_here present held i d once l same =
    let patterns = held_patterns held in
    let within : i < length patterns = omega (arith, l, length-map held (λ (h : Held). h.leaders)) in
    let here : same_vars present (get_or patterns i []) ≡ true = ap (same_vars present) (get_or-map (λ (h : Held). h.leaders) held i d [] l) ∙ same in
    let is : present ≡ get_or patterns i [] = same_vars-true present (get_or patterns i []) here in
    position_at (same_vars present) patterns i within here (λ k lt.
    same_vars-sym present (get_or patterns k []) ∙ (ap (same_vars (get_or patterns k [])) is ∙ apart_from_distinct same_vars patterns k i [] once lt within))

-- one pattern alone
pub held_one : (h : Held) → 0 < h.count → VarsAscend h.leaders → AreHeld (h ∷ [])
unfolding IsDistinct
held_one h some up = record {
  once = IsDistinct-cons same_vars h.leaders [] tt tt;
  some = All-cons (λ k. 0 < k.count) h [] some (All-nil (λ k. 0 < k.count));
  ascend = All-cons (λ k. VarsAscend k.leaders) h [] up (All-nil (λ k. VarsAscend k.leaders));
}

-- the count at a pattern that a look-up finds
pub held_found : (present : List VarId) (held : List Held) → AreHeld held → (i : ℕ) → position (same_vars present) (held_patterns held) ≡ Some i → 0 < pattern_count held present
held_found present held are i e =
    let told = position-Some (same_vars present) (held_patterns held) i [] e in
    let long = length-map held (λ (h : Held). h.leaders) in
    let l : i < length held = omega (arith, told.0, long) in
    let h = get_or held i (first_held present) in
    let at : get_or (held_patterns held) i [] ≡ h.leaders = get_or-map (λ (k : Held). k.leaders) held i (first_held present) [] l in
    let same : present ≡ h.leaders = same_vars-true present h.leaders (ap (same_vars present) (sym at) ∙ told.1) in
    let count : pattern_count held present ≡ h.count = ap (pattern_count held) same ∙ count_at held are.once i (first_held present) l in
    let some = are.some i (first_held present) l in
    omega (arith, count, some)
