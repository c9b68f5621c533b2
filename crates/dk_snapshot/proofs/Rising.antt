-- Patterns are saved in the order in which they rise.
use Rattle.std.specs.Prelude.{◌≡◌, ◌<◌, ◌+◌, ◌||◌, ℕ, Bool, suc, true, false, All, List, [], ◌∷◌, if◌then◌else◌, length, map, refl}
use Rattle.std.specs.Cmp.{IsTotalOrder, bool_cmp_total, on_total}
use Rattle.std.specs.Cmp.Lexicographic.{lists_total, slice_cmp}
use Rattle.std.specs.List.{IsDistinct}
use Rattle.std.specs.List.Sorted.{IsSorted, IsSortedBy}
use Rattle.std.specs.Ordering.{bool_cmp, is_gt, is_lt, nat_cmp, ordering_reverse, ordering_then}
use Rattle.std.specs.declared.cmp.Ordering.{Ordering}
use Rattle.std.specs.declared.cmp.Ordering.TheVariants.{Less, Equal, Greater}
use Rattle.std.proofs.Common.{◌∙◌, ap, arith, get_or, inl, inr, subst, sym}
use Rattle.std.proofs.lemmas.Bool.{cases_Bool, eq-eqb, true≢false}
use Rattle.std.proofs.lemmas.List.{get_or-map, length-map}
use Rattle.std.proofs.lemmas.List.Elements.{All-head, All-map, All-tail}
use Rattle.std.proofs.lemmas.List.Sorted.{All-permutation, IsPermutation-refl, ranks_by, sorted_far}
use Rattle.std.proofs.lemmas.Map.Keys.{IsDistinct-from_apart, apart_from_distinct}
use Rattle.dk_base.specs.declared.kinds.VarId.{VarId}
use Rattle.dk_presence.proofs.Sameness.{same_vars-refl, same_vars-true}
use Rattle.dk_presence.specs.Patterns.{AreHeld, has, held_patterns, same_vars}
use Rattle.dk_presence.specs.declared.held.Held.{Held}
use Rattle.dk_samples.specs.Leaders.{VarsAscend}
use Rattle.dk_snapshot.proofs.PatternOrder.{alike_are_one, same_truths, total}
use Rattle.dk_snapshot.proofs.Present.{apart, none_before}
use Rattle.dk_snapshot.proofs.Restoring.{ascending_moves, chosen_all, have_these, held_ascend, held_lead}
use Rattle.dk_snapshot.proofs.Sorted.{ascending_next, sorted_is_ascending}
use Rattle.dk_snapshot.specs.Patterns.{pattern_cmp, pattern_of, patterns_of}
use Rattle.dk_snapshot.specs.Restored.{AreInOrder, HavePatterns, Rise, chosen_leaders, held_of, is_before}
use Rattle.dk_snapshot.specs.Sorting.{ascending}
use Rattle.dk_snapshot.specs.declared.pattern.Pattern.{Pattern}

-- ---- truth values come back
others : (v : VarId) (chosen vars : List VarId) → All (λ w. v.0 < w.0) vars → map (has (v ∷ chosen)) vars ≡ map (has chosen) vars
others v chosen [] all = refl
others v chosen (w ∷ vars) all =
    ap (λ b. (b || has chosen w) ∷ map (has (v ∷ chosen)) vars) (apart v.0 w.0 (All-head (λ u. v.0 < u.0) w vars all))
    ∙ ap (λ ts. has chosen w ∷ ts) (others v chosen vars (All-tail (λ u. v.0 < u.0) w vars all))

truths_back : (leaders : List VarId) → VarsAscend leaders → (truths : List Bool) → length truths ≡ length leaders → map (has (chosen_leaders leaders truths)) leaders ≡ truths
truths_back [] up [] e = refl
truths_back [] up (t ∷ truths) e = absurd (omega (arith, e))
truths_back (v ∷ leaders) up [] e = absurd (omega (arith, e))
truths_back (v ∷ leaders) up (t ∷ truths) e =
    let chosen = chosen_leaders leaders truths in
    let behind : All (λ w. v.0 < w.0) leaders = λ k d l. up 0 (suc k) d (omega arith) (omega (arith, l)) in
    let off : has chosen v ≡ false = none_before v chosen (chosen_all (λ w. v.0 < w.0) leaders truths behind) in
    let rest : map (has chosen) leaders ≡ truths = truths_back leaders (λ i j d l m. up (suc i) (suc j) d (omega (arith, l)) (omega (arith, m))) truths (omega (arith, e)) in
    elim t as (λ b. map (has (if b then v ∷ chosen else chosen)) (v ∷ leaders) ≡ b ∷ truths) [
      | true ↦ ap (λ b. (b || has chosen v) ∷ map (has (v ∷ chosen)) leaders) (eq-eqb v.0 v.0 refl) ∙ ap (λ ts. true ∷ ts) (others v chosen leaders behind ∙ rest)
      | false ↦ ap (λ b. b ∷ map (has chosen) leaders) off ∙ ap (λ ts. false ∷ ts) rest
    ]

patterns_told : (leaders : List VarId) → VarsAscend leaders → (patterns : List Pattern) → All (λ p. length p.present ≡ length leaders) patterns → map (pattern_of leaders) (map (held_of leaders) patterns) ≡ patterns
patterns_told leaders up [] full = refl
patterns_told leaders up (p ∷ patterns) full =
    let truths = truths_back leaders up p.present (All-head (λ q. length q.present ≡ length leaders) p patterns full) in
    let back : pattern_of leaders (held_of leaders p) ≡ p = λ i. record { count = p.count; present = truths i } in
    ap (λ q. q ∷ map (pattern_of leaders) (map (held_of leaders) patterns)) back
    ∙ ap (λ qs. p ∷ qs) (patterns_told leaders up patterns (All-tail (λ q. length q.present ≡ length leaders) p patterns full))

-- ---- patterns that rise are in order
less_is : (r : Ordering) → is_lt r ≡ true → r ≡ Less
less_is Less e = refl
less_is Equal e = absurd (true≢false (sym e))
less_is Greater e = absurd (true≢false (sym e))

module _ (patterns : List Pattern) (rise : Rise patterns) where
  by_truths : IsTotalOrder (λ (a b : Pattern). slice_cmp bool_cmp a.present b.present)
  by_truths = on_total (λ (p : Pattern). p.present) (lists_total bool_cmp_total)

  truths_sorted : IsSortedBy is_before patterns
  truths_sorted k d l m =
      let a = get_or patterns k d in
      let b = get_or patterns (k + 1) d in
      let less : slice_cmp bool_cmp a.present b.present ≡ Less = less_is (slice_cmp bool_cmp a.present b.present) (rise k d m) in
      ap is_lt (by_truths.antisymm b a ∙ ap ordering_reverse less)

  sorted : IsSorted pattern_cmp patterns
  sorted k d l m =
      let a = get_or patterns k d in
      let b = get_or patterns (k + 1) d in
      let less : slice_cmp bool_cmp a.present b.present ≡ Less = less_is (slice_cmp bool_cmp a.present b.present) (rise k d m) in
      ap is_lt (total.antisymm b a ∙ ap (λ r. ordering_reverse (ordering_then r (nat_cmp a.count b.count))) less)

  in_order : ascending pattern_cmp patterns ≡ patterns
  in_order = sym (sorted_is_ascending pattern_cmp total alike_are_one patterns patterns (IsPermutation-refl patterns) sorted)

  -- no two of them have the same truth values
  differ : (i j : ℕ) (d : Pattern) → i < j → j < length patterns → (get_or patterns i d).present ≡ (get_or patterns j d).present → ⊥
  differ i j d l m same =
      let next = get_or patterns (i + 1) d in
      let far : is_before (get_or patterns j d) next ≡ false = sorted_far is_before (ranks_by by_truths (λ p. p)) patterns truths_sorted (i + 1) j d (omega (arith, l)) m in
      true≢false (sym (rise i d (omega (arith, l, m))) ∙ (ap (λ ts. is_lt (slice_cmp bool_cmp ts next.present)) same ∙ far))

-- patterns that rise as they are held are saved as they are held
pub saved_as_held : (leaders : List VarId) (held : List Held) → ((i : ℕ) (d : Held) → i + 1 < length held → is_before (pattern_of leaders (get_or held i d)) (pattern_of leaders (get_or held (i + 1) d)) ≡ true)
    → patterns_of leaders held ≡ map (pattern_of leaders) held
saved_as_held leaders held rise = in_order (map (pattern_of leaders) held) (λ i d l.
    let long = length-map held (pattern_of leaders) in
    let none : Held = record { count = 0; leaders = [] } in
    let within : i + 1 < length held = omega (arith, l, long) in
    let here : get_or (map (pattern_of leaders) held) i d ≡ pattern_of leaders (get_or held i none) = get_or-map (pattern_of leaders) held i none d (omega (arith, within)) in
    let next : get_or (map (pattern_of leaders) held) (i + 1) d ≡ pattern_of leaders (get_or held (i + 1) none) = get_or-map (pattern_of leaders) held (i + 1) none d within in
    ap (λ p. is_before p (get_or (map (pattern_of leaders) held) (i + 1) d)) here ∙ (ap (is_before (pattern_of leaders (get_or held i none))) next ∙ rise i none within))

-- ---- what is read back
module _ (leaders : List VarId) (up : VarsAscend leaders) (patterns : List Pattern) where
  abbrev chosen : Pattern → List VarId
  chosen p = chosen_leaders leaders p.present

  held_chosen : (ps : List Pattern) → held_patterns (map (held_of leaders) ps) ≡ map chosen ps
  held_chosen [] = refl
  held_chosen (p ∷ ps) = ap (λ vs. chosen p ∷ vs) (held_chosen ps)

  once : AreInOrder (length leaders) patterns → IsDistinct same_vars (held_patterns (map (held_of leaders) patterns))
  once are = subst (IsDistinct same_vars) (sym (held_chosen patterns)) (IsDistinct-from_apart same_vars (map chosen patterns) (λ i j d l m.
      let long = length-map patterns chosen in
      let none : Pattern = record { count = 0; present = [] } in
      let p = get_or patterns i none in
      let q = get_or patterns j none in
      let mj : j < length patterns = omega (arith, m, long) in
      let mi : i < length patterns = omega (arith, l, mj) in
      let at_i : get_or (map chosen patterns) i d ≡ chosen p = get_or-map chosen patterns i none d mi in
      let at_j : get_or (map chosen patterns) j d ≡ chosen q = get_or-map chosen patterns j none d mj in
      elim (cases_Bool (same_vars (get_or (map chosen patterns) i d) (get_or (map chosen patterns) j d))) [
        | inl e ↦
            let same : chosen p ≡ chosen q = sym at_i ∙ (same_vars-true (get_or (map chosen patterns) i d) (get_or (map chosen patterns) j d) e ∙ at_j) in
            let truths : p.present ≡ q.present = sym (truths_back leaders up p.present (are.full i none mi)) ∙ (ap (λ vs. map (has vs) leaders) same ∙ truths_back leaders up q.present (are.full j none mj)) in
            absurd (differ patterns are.rise i j none l mj truths)
        | inr n ↦ n
      ]))

  pub held_in_order : AreInOrder (length leaders) patterns → AreHeld (map (held_of leaders) patterns)
  held_in_order are = record { once = once are; some = All-map (λ h. 0 < h.count) (held_of leaders) patterns are.some; ascend = held_ascend leaders patterns up }

  -- patterns in order are saved as they are
  pub have_patterns : AreInOrder (length leaders) patterns → HavePatterns leaders patterns (map (held_of leaders) patterns)
  have_patterns are = record {
    form = held_in_order are;
    lead = held_lead leaders patterns;
    saved = ap (ascending pattern_cmp) (patterns_told leaders up patterns are.full) ∙ in_order patterns are.rise;
  }

  -- ---- and what is saved is in order
  module _ (held : List Held) (have : HavePatterns leaders patterns held) where
    full : All (λ p. length p.present ≡ length leaders) patterns
    full =
        subst (All (λ p. length p.present ≡ length leaders)) have.saved
        (All-permutation (λ p. length p.present ≡ length leaders) (map (pattern_of leaders) held) (patterns_of leaders held) (ascending_moves pattern_cmp (map (pattern_of leaders) held))
        (All-map (λ p. length p.present ≡ length leaders) (pattern_of leaders) held (λ k d l. length-map leaders (has (get_or held k d).leaders))))

    counted : All (λ p. 0 < p.count) patterns
    counted k d l =
        let some = (have_these leaders up patterns held have).1.some k (held_of leaders d) (omega (arith, l, length-map patterns (held_of leaders))) in
        subst (λ (h : Held). 0 < h.count) (get_or-map (held_of leaders) patterns k d (held_of leaders d) l) some

    apart_next : (i : ℕ) (d : Pattern) → i + 1 < length patterns → (get_or patterns i d).present ≡ (get_or patterns (i + 1) d).present → ⊥
    apart_next i d l same =
        let distinct = subst (IsDistinct same_vars) (held_chosen patterns) (have_these leaders up patterns held have).1.once in
        let off = apart_from_distinct same_vars (map chosen patterns) i (i + 1) [] distinct (omega arith) (omega (arith, l, length-map patterns chosen)) in
        let at_i : get_or (map chosen patterns) i [] ≡ chosen (get_or patterns i d) = get_or-map chosen patterns i d [] (omega (arith, l)) in
        let at_j : get_or (map chosen patterns) (i + 1) [] ≡ chosen (get_or patterns (i + 1) d) = get_or-map chosen patterns (i + 1) d [] l in
        let both : get_or (map chosen patterns) i [] ≡ get_or (map chosen patterns) (i + 1) [] = at_i ∙ (ap (chosen_leaders leaders) same ∙ sym at_j) in
        true≢false (sym (same_vars-refl (get_or (map chosen patterns) i [])) ∙ (ap (same_vars (get_or (map chosen patterns) i [])) both ∙ off))

    steps : (a b : Pattern) → is_gt (pattern_cmp a b) ≡ false → (a.present ≡ b.present → ⊥) → is_before a b ≡ true
    steps a b not differ = by (slice_cmp bool_cmp a.present b.present) refl
      where
        by : (r : Ordering) → slice_cmp bool_cmp a.present b.present ≡ r → is_lt r ≡ true
        by Less e = refl
        by Equal e = absurd (differ (same_truths a.present b.present e))
        by Greater e = absurd (true≢false (sym (ap (λ r. is_gt (ordering_then r (nat_cmp a.count b.count))) e) ∙ not))

    rises : Rise patterns
    rises i d l =
        let not = ascending_next pattern_cmp total (map (pattern_of leaders) held) patterns have.saved i d l in
        steps (get_or patterns i d) (get_or patterns (i + 1) d) not (apart_next i d l)

    pub are_in_order : AreInOrder (length leaders) patterns
    are_in_order = record { some = counted; full = full; rise = rises }
