-- The counts of patterns, summed.
use Rattle.std.proofs.Common.{◌≡◌, ℕ, zero, suc, ◌+◌, ◌<◌, eqb, inl, inr, List, [], ◌∷◌, length, get_or, take, sum_by, count_by, filter, Bool, true, false, cond, ◌&&◌, ◌||◌, refl, ap, sym, ◌∙◌, subst, arith}
use Rattle.std.specs.List.{All, AllByRecursion, IsDistinct, list_all, list_any}
use Rattle.std.proofs.lemmas.Bool.{cases_Bool, false≢true, true≢false}
use Rattle.std.proofs.lemmas.List.{get_or-map, length-map, take_more}
use Rattle.std.proofs.lemmas.List.Elements.{All-head, All-tail}
use Rattle.std.proofs.lemmas.List.Sums.{sum_by-cons, sum_by_push}
use Rattle.std.proofs.lemmas.Map.Keys.{apart_from_distinct, IsDistinct-head, IsDistinct-tail}
use Rattle.dk_base.specs.declared.kinds.VarId.{VarId}
use Rattle.dk_base.specs.declared.values.Value.{Value}
use Rattle.dk_samples.specs.Samples.{is_present, value_in}
use Rattle.dk_presence.specs.declared.held.Held.{Held}
use Rattle.dk_presence.specs.Patterns.{AreCounted, AreHeld, capped, count_of, counted_by, has, has_all, held_patterns, pattern_count, patterns_of, present_in, same_vars, times}
use Rattle.dk_presence.proofs.Sameness.{same_id, same_vars-refl, same_vars-sym, same_vars-true}
use Rattle.dk_presence.proofs.Adding.{times-cons}

-- a pattern that stands in a list occurs, and else doesn't
pub occurs : (a : List VarId) (patterns : List (List VarId)) → list_any (same_vars a) patterns ≡ true → 0 < times a patterns
occurs a [] h = absurd (false≢true h)
occurs a (p ∷ patterns) h = elim (cases_Bool (same_vars a p)) [
  | inl e ↦ let one = times-cons a p patterns ∙ ap (λ b. cond b 1 0 + times a patterns) e in omega (arith, one)
  | inr n ↦
      let one = times-cons a p patterns ∙ ap (λ b. cond b 1 0 + times a patterns) n in
      let rest = occurs a patterns (ap (λ b. b || list_any (same_vars a) patterns) (sym n) ∙ h) in
      omega (arith, one, rest)
]

pub occurs_not : (a : List VarId) (patterns : List (List VarId)) → list_any (same_vars a) patterns ≡ false → times a patterns ≡ 0
occurs_not a [] h = refl
occurs_not a (p ∷ patterns) h = elim (cases_Bool (same_vars a p)) [
  | inl e ↦ absurd (true≢false (sym (ap (λ b. b || list_any (same_vars a) patterns) e) ∙ h))
  | inr n ↦
      let one = times-cons a p patterns ∙ ap (λ b. cond b 1 0 + times a patterns) n in
      let rest = occurs_not a patterns (ap (λ b. b || list_any (same_vars a) patterns) (sym n) ∙ h) in
      omega (arith, one, rest)
]

pub held_not : (held : List Held) (a : List VarId) → list_any (λ p. same_vars p a) (held_patterns held) ≡ false → pattern_count held a ≡ 0
held_not [] a h = refl
held_not (k ∷ held) a h = elim (cases_Bool (same_vars k.leaders a)) [
  | inl e ↦ absurd (true≢false (sym (ap (λ b. b || list_any (λ p. same_vars p a) (held_patterns held)) e) ∙ h))
  | inr n ↦ ap (λ b. cond b k.count (pattern_count held a)) n ∙ held_not held a (ap (λ b. b || list_any (λ p. same_vars p a) (held_patterns held)) (sym n) ∙ h)
]

-- a pattern that occurs is held
pub is_held : (patterns : List (List VarId)) (held : List Held) → AreCounted patterns held → (a : List VarId) → list_any (same_vars a) patterns ≡ true → list_any (λ p. same_vars p a) (held_patterns held) ≡ true
is_held patterns held are a h = elim (cases_Bool (list_any (λ p. same_vars p a) (held_patterns held))) [
  | inl e ↦ e
  | inr n ↦ let none = sym (are a) ∙ held_not held a n in absurd (omega (arith, occurs a patterns h, none))
]

-- the count that stands beside a pattern is what is held at it
pub count_at : (held : List Held) → IsDistinct same_vars (held_patterns held) → (k : ℕ) (d : Held) → k < length held → pattern_count held (get_or held k d).leaders ≡ (get_or held k d).count
count_at [] once k d l = absurd (omega arith)
count_at (h ∷ held) once zero d l = ap (λ b. cond b h.count (pattern_count held h.leaders)) (same_vars-refl h.leaders)
count_at (h ∷ held) once (suc k) d l =
    let lk : k < length held = omega arith in
    let long : suc k < length (held_patterns (h ∷ held)) = omega (arith, lk, length-map held (λ (x : Held). x.leaders)) in
    let apart = apart_from_distinct same_vars (held_patterns (h ∷ held)) 0 (suc k) d.leaders once (omega arith) long in
    let other : same_vars h.leaders (get_or held k d).leaders ≡ false = ap (same_vars h.leaders) (sym (get_or-map (λ (x : Held). x.leaders) held k d d.leaders lk)) ∙ apart in
    ap (λ b. cond b h.count (pattern_count held (get_or held k d).leaders)) other ∙ count_at held (IsDistinct-tail same_vars h.leaders (held_patterns held) once) k d lk

none_same : (a : List VarId) (ps : List (List VarId)) → AllByRecursion (λ y. same_vars a y ≡ false) ps → list_any (λ p. same_vars p a) ps ≡ false
none_same a [] h = refl
none_same a (p ∷ ps) h = ap (λ b. b || list_any (λ x. same_vars x a) ps) (same_vars-sym p a ∙ h.0) ∙ none_same a ps h.1

module _ (q : List VarId → Bool) where
  exact : List (List VarId) → List Held → ℕ
  exact patterns held = sum_by (λ h. cond (q h.leaders) (times h.leaders patterns) 0) held

  one_of : List VarId → List Held → ℕ
  one_of a held = sum_by (λ h. cond (q h.leaders) (cond (same_vars h.leaders a) 1 0) 0) held

  -- none of the patterns is this one
  one_none : (a : List VarId) (held : List Held) → list_any (λ p. same_vars p a) (held_patterns held) ≡ false → one_of a held ≡ 0
  unfolding one_of
  one_none a [] h = refl
  one_none a (k ∷ held) h = elim (cases_Bool (same_vars k.leaders a)) [
    | inl e ↦ absurd (true≢false (sym (ap (λ b. b || list_any (λ p. same_vars p a) (held_patterns held)) e) ∙ h))
    | inr n ↦
        sum_by-cons (λ x. cond (q x.leaders) (cond (same_vars x.leaders a) 1 0) 0) k held
        ∙ (ap (λ b. cond (q k.leaders) (cond b 1 0) 0 + one_of a held) n
        ∙ (elim (q k.leaders) as (λ b. cond b 0 0 + one_of a held ≡ one_of a held) [ true ↦ omega arith | false ↦ omega arith ]
        ∙ one_none a held (ap (λ b. b || list_any (λ p. same_vars p a) (held_patterns held)) (sym n) ∙ h)))
  ]

  -- one of them is, once
  one_once : (a : List VarId) (held : List Held) → IsDistinct same_vars (held_patterns held) → list_any (λ p. same_vars p a) (held_patterns held) ≡ true → one_of a held ≡ cond (q a) 1 0
  unfolding one_of
  one_once a [] once h = absurd (false≢true h)
  one_once a (k ∷ held) once h = elim (cases_Bool (same_vars k.leaders a)) [
    | inl e ↦
        let is : k.leaders ≡ a = same_vars-true k.leaders a e in
        let rest = one_none a held (others k held once a is) in
        sum_by-cons (λ x. cond (q x.leaders) (cond (same_vars x.leaders a) 1 0) 0) k held
        ∙ (ap (λ b. cond (q k.leaders) (cond b 1 0) 0 + one_of a held) e
        ∙ (ap (λ n. cond (q k.leaders) 1 0 + n) rest ∙ (ap (λ p. cond (q p) 1 0 + 0) is ∙ omega arith)))
    | inr n ↦
        sum_by-cons (λ x. cond (q x.leaders) (cond (same_vars x.leaders a) 1 0) 0) k held
        ∙ (ap (λ b. cond (q k.leaders) (cond b 1 0) 0 + one_of a held) n
        ∙ (elim (q k.leaders) as (λ b. cond b 0 0 + one_of a held ≡ one_of a held) [ true ↦ omega arith | false ↦ omega arith ]
        ∙ one_once a held (IsDistinct-tail same_vars k.leaders (held_patterns held) once) (ap (λ b. b || list_any (λ p. same_vars p a) (held_patterns held)) (sym n) ∙ h)))
  ]
    where
      others : (k : Held) (held : List Held) → IsDistinct same_vars (held_patterns (k ∷ held)) → (a : List VarId) → k.leaders ≡ a → list_any (λ p. same_vars p a) (held_patterns held) ≡ false
      others k held once a is = subst (λ x. list_any (λ p. same_vars p x) (held_patterns held) ≡ false) is (none_same k.leaders (held_patterns held) (IsDistinct-head same_vars k.leaders (held_patterns held) once))

  -- times of patterns, one by one
  exact-cons : (a : List VarId) (patterns : List (List VarId)) (held : List Held) → exact (a ∷ patterns) held ≡ one_of a held + exact patterns held
  unfolding exact one_of
  exact-cons a patterns [] = refl
  exact-cons a patterns (k ∷ held) =
      let whole = sum_by-cons (λ x. cond (q x.leaders) (times x.leaders (a ∷ patterns)) 0) k held in
      let ones = sum_by-cons (λ x. cond (q x.leaders) (cond (same_vars x.leaders a) 1 0) 0) k held in
      let others = sum_by-cons (λ x. cond (q x.leaders) (times x.leaders patterns) 0) k held in
      let rest = exact-cons a patterns held in
      let here : cond (q k.leaders) (times k.leaders (a ∷ patterns)) 0 ≡ cond (q k.leaders) (cond (same_vars k.leaders a) 1 0) 0 + cond (q k.leaders) (times k.leaders patterns) 0 =
      ap (λ n. cond (q k.leaders) n 0) (times-cons k.leaders a patterns)
      ∙ elim (q k.leaders) as (λ b. cond b (cond (same_vars k.leaders a) 1 0 + times k.leaders patterns) 0 ≡ cond b (cond (same_vars k.leaders a) 1 0) 0 + cond b (times k.leaders patterns) 0) [ true ↦ refl | false ↦ refl ] in
      omega (arith, whole, ones, others, rest, here)

  exact-nil : (held : List Held) → exact [] held ≡ 0
  unfolding exact
  exact-nil [] = refl
  exact-nil (k ∷ held) =
      let whole = sum_by-cons (λ x. cond (q x.leaders) (times x.leaders []) 0) k held in
      let here : cond (q k.leaders) (times k.leaders []) 0 ≡ 0 = elim (q k.leaders) as (λ b. ◌≡◌ {A = ℕ} (cond b 0 0) 0) [ true ↦ refl | false ↦ refl ] in
      let rest = exact-nil held in
      omega (arith, whole, here, rest)

  -- each pattern of the list is held once, so all of them are counted
  exact_all : (patterns : List (List VarId)) (held : List Held) → IsDistinct same_vars (held_patterns held)
      → ((a : List VarId) → list_any (same_vars a) patterns ≡ true → list_any (λ p. same_vars p a) (held_patterns held) ≡ true) → exact patterns held ≡ count_by q patterns
  exact_all [] held once there = exact-nil held
  exact_all (a ∷ patterns) held once there =
      let first = one_once a held once (there a (ap (λ b. b || list_any (same_vars a) patterns) (same_vars-refl a))) in
      let rest = exact_all patterns held once (λ b h. there b (elim (same_vars b a) as (λ c. (c || list_any (same_vars b) patterns) ≡ true) [ true ↦ refl | false ↦ h ])) in
      let whole = exact-cons a patterns held in
      let sum = sum_by-cons (λ p. cond (q p) 1 0) a patterns in
      omega (arith, first, rest, whole, sum)

  carried : (b : Bool) (n s t : ℕ) → capped s ≡ capped t → capped (cond b (capped n) 0 + s) ≡ capped (cond b n 0 + t)
  carried true n s t h = omega (arith, h)
  carried false n s t h = omega (arith, h)

  -- counts that end at the greatest number have the sum that ends there
  capped_sum : (patterns : List (List VarId)) (held : List Held) → All (λ h. h.count ≡ capped (times h.leaders patterns)) held → capped (sum_by (λ h. cond (q h.leaders) h.count 0) held) ≡ capped (exact patterns held)
  unfolding exact
  capped_sum patterns [] all = refl
  capped_sum patterns (k ∷ held) all =
      ap capped (sum_by-cons (λ x. cond (q x.leaders) x.count 0) k held)
      ∙ (ap (λ n. capped (cond (q k.leaders) n 0 + sum_by (λ x. cond (q x.leaders) x.count 0) held)) (All-head (λ h. h.count ≡ capped (times h.leaders patterns)) k held all)
      ∙ (carried (q k.leaders) (times k.leaders patterns) (sum_by (λ x. cond (q x.leaders) x.count 0) held) (sum_by (λ x. cond (q x.leaders) (times x.leaders patterns) 0) held)
      (capped_sum patterns held (All-tail (λ h. h.count ≡ capped (times h.leaders patterns)) k held all))
      ∙ sym (ap capped (sum_by-cons (λ x. cond (q x.leaders) (times x.leaders patterns) 0) k held))))

  pub counted_all : (patterns : List (List VarId)) (held : List Held) → AreHeld held → AreCounted patterns held → capped (sum_by (λ h. cond (q h.leaders) h.count 0) held) ≡ capped (count_by q patterns)
  counted_all patterns held is are =
      capped_sum patterns held (λ k d l. sym (count_at held is.once k d l) ∙ are (get_or held k d).leaders)
      ∙ ap capped (exact_all patterns held is.once (is_held patterns held are))

-- ---- the leaders of a sample's pattern
pub has-filter : (p : VarId → Bool) (vars : List VarId) (v : VarId) → has (filter p vars) v ≡ (has vars v && p v)
has-filter p [] v = refl
has-filter p (w ∷ vars) v = elim (cases_Bool (eqb w.0 v.0)) [
  | inl e ↦ elim (cases_Bool (p w)) [
    | inl y ↦ ap (λ b. has (cond b (w ∷ filter p vars) (filter p vars)) v) y ∙ (ap (λ b. b || has (filter p vars) v) e ∙ sym (ap (λ b. (b || has vars v) && p v) e ∙ (ap p (sym (same_id w v e)) ∙ y)))
    | inr n ↦
        let off : p v ≡ false = ap p (sym (same_id w v e)) ∙ n in
        ap (λ b. has (cond b (w ∷ filter p vars) (filter p vars)) v) n ∙ (has-filter p vars v ∙ (ap (λ b. has vars v && b) off ∙ (none (has vars v) ∙ sym (ap (λ b. (b || has vars v) && p v) e ∙ off))))
  ]
  | inr m ↦
      elim (p w) as (λ b. has (cond b (w ∷ filter p vars) (filter p vars)) v ≡ has (filter p vars) v) [ true ↦ ap (λ b. b || has (filter p vars) v) m | false ↦ refl ]
      ∙ (has-filter p vars v ∙ sym (ap (λ b. (b || has vars v) && p v) m))
]
  where
    none : (b : Bool) → (b && false) ≡ false
    none true = refl
    none false = refl

-- some leaders are all present where each is
pub all_present : (leaders : List VarId) (sample : List Value) (vars : List VarId) → All (λ v. has leaders v ≡ true) vars → has_all (present_in leaders sample) vars ≡ list_all (λ v. is_present (value_in sample v)) vars
all_present leaders sample [] h = refl
all_present leaders sample (v ∷ vars) h =
    let first : has (present_in leaders sample) v ≡ is_present (value_in sample v) =
    has-filter (λ w. is_present (value_in sample w)) leaders v ∙ ap (λ b. b && is_present (value_in sample v)) (All-head (λ w. has leaders w ≡ true) v vars h) in
    let rest = all_present leaders sample vars (All-tail (λ w. has leaders w ≡ true) v vars h) in cc

count_patterns : (leaders : List VarId) (samples : List (List Value)) (vars : List VarId) → All (λ v. has leaders v ≡ true) vars → count_by (λ p. has_all p vars) (patterns_of leaders samples) ≡ count_by (λ s. list_all (λ v. is_present (value_in s v)) vars) samples
count_patterns leaders [] vars h = refl
count_patterns leaders (s ∷ samples) vars h =
    let left = sum_by-cons (λ p. cond (has_all p vars) 1 0) (present_in leaders s) (patterns_of leaders samples) in
    let right = sum_by-cons (λ t. cond (list_all (λ v. is_present (value_in t v)) vars) 1 0) s samples in
    let here = ap {B = ℕ} (λ b. cond b 1 0) (all_present leaders s vars h) in
    let rest = count_patterns leaders samples vars h in
    omega (arith, left, right, here, rest)

-- the count of some leaders is the number of the samples in which all are present
pub count_is : (leaders : List VarId) (samples : List (List Value)) (held : List Held) → AreHeld held → AreCounted (patterns_of leaders samples) held → (vars : List VarId) → All (λ v. has leaders v ≡ true) vars → counted_by held vars ≡ count_of vars samples
count_is leaders samples held is are vars h = counted_all (λ p. has_all p vars) (patterns_of leaders samples) held is are ∙ ap capped (count_patterns leaders samples vars h)

-- one pattern more
pub counted_more : (held : List Held) (vars : List VarId) (i : ℕ) (d : Held) → i < length held → counted_by (take (i + 1) held) vars ≡ capped (counted_by (take i held) vars + cond (has_all (get_or held i d).leaders vars) (get_or held i d).count 0)
counted_more held vars i d l =
    let f : Held → ℕ = λ h. cond (has_all h.leaders vars) h.count 0 in
    ap (λ hs. capped (sum_by f hs)) (take_more held i d l)
    ∙ (ap capped (sum_by_push f (take i held) (get_or held i d))
    ∙ more (sum_by f (take i held)) (f (get_or held i d)))
  where
    more : (s n : ℕ) → capped (s + n) ≡ capped (capped s + n)
    more s n = omega arith
