-- One sample more.
use Rattle.std.proofs.Common.{◌≡◌, ℕ, ◌+◌, inl, inr, List, [], ◌∷◌, ◌++◌, Bool, true, false, cond, ◌||◌, refl, ap, sym, ◌∙◌, arith}
use Rattle.std.specs.List.{list_any}
use Rattle.std.proofs.lemmas.Bool.{cases_Bool}
use Rattle.std.proofs.lemmas.List.Sums.{sum_by-cons}
use Rattle.dk_base.specs.declared.kinds.VarId.{VarId}
use Rattle.dk_presence.specs.declared.held.Held.{Held}
use Rattle.dk_presence.specs.Patterns.{AreCounted, capped, held_patterns, pattern_count, same_vars, times}
use Rattle.dk_presence.specs.Steps.{counted_once_more, with_sample_of}
use Rattle.dk_presence.proofs.Sameness.{same_vars-at, same_vars-sym, same_vars-true}

pub times-cons : (b a : List VarId) (patterns : List (List VarId)) → times b (a ∷ patterns) ≡ cond (same_vars b a) 1 0 + times b patterns
times-cons b a patterns = sum_by-cons (λ p. cond (same_vars b p) 1 0) a patterns

pub times-push : (b a : List VarId) (patterns : List (List VarId)) → times b (patterns ++ a ∷ []) ≡ times b patterns + cond (same_vars b a) 1 0
times-push b a [] = times-cons b a [] ∙ omega arith
times-push b a (p ∷ patterns) =
    let whole = times-cons b p (patterns ++ a ∷ []) in
    let rest = times-push b a patterns in
    let front = times-cons b p patterns in
    omega (arith, whole, rest, front)

-- the count of the pattern goes up by one, and no other
pub held_at-added : (a : List VarId) (held : List Held) (b : List VarId) → pattern_count (with_sample_of a held) b ≡ cond (same_vars a b) (capped (pattern_count held b + 1)) (pattern_count held b)
held_at-added a [] b = elim (same_vars a b) as (λ s. cond s 1 0 ≡ cond s (capped (0 + 1)) 0) [ true ↦ omega arith | false ↦ refl ]
held_at-added a (h ∷ held) b = elim (cases_Bool (same_vars h.leaders a)) [
  | inl e ↦
      ap (λ s. pattern_count (cond s (counted_once_more h ∷ held) (h ∷ with_sample_of a held)) b) e
      ∙ (elim (same_vars h.leaders b) as (λ s. cond s (capped (h.count + 1)) (pattern_count held b) ≡ cond s (capped (cond s h.count (pattern_count held b) + 1)) (cond s h.count (pattern_count held b))) [ true ↦ refl | false ↦ refl ]
      ∙ ap (λ s. cond s (capped (pattern_count (h ∷ held) b + 1)) (pattern_count (h ∷ held) b)) (same_vars-at h.leaders a b e))
  | inr n ↦
      ap (λ s. pattern_count (cond s (counted_once_more h ∷ held) (h ∷ with_sample_of a held)) b) n
      ∙ elim (cases_Bool (same_vars h.leaders b)) [
        | inl f ↦
            let other : same_vars a b ≡ false = ap (same_vars a) (sym (same_vars-true h.leaders b f)) ∙ (same_vars-sym a h.leaders ∙ n) in
            ap (λ s. cond s h.count (pattern_count (with_sample_of a held) b)) f
            ∙ sym (ap (λ s. cond s (capped (pattern_count (h ∷ held) b + 1)) (pattern_count (h ∷ held) b)) other ∙ ap (λ s. cond s h.count (pattern_count held b)) f)
        | inr g ↦
            ap (λ s. cond s h.count (pattern_count (with_sample_of a held) b)) g
            ∙ (held_at-added a held b ∙ sym (ap (λ x. cond (same_vars a b) (capped (x + 1)) x) (ap (λ s. cond s h.count (pattern_count held b)) g)))
      ]
]

one_more : (n : ℕ) → capped (capped n + 1) ≡ capped (n + 1)
one_more n = omega arith

-- the patterns with one more are counted
pub counted_added : (patterns : List (List VarId)) (held : List Held) (a : List VarId) → AreCounted patterns held → AreCounted (patterns ++ a ∷ []) (with_sample_of a held)
counted_added patterns held a are b =
    held_at-added a held b
    ∙ (ap (λ x. cond (same_vars a b) (capped (x + 1)) x) (are b)
    ∙ (step (same_vars a b)
    ∙ sym (ap capped (times-push b a patterns ∙ ap (λ s. times b patterns + cond s 1 0) (same_vars-sym b a)))))
  where
    step : (s : Bool) → cond s (capped (capped (times b patterns) + 1)) (capped (times b patterns)) ≡ capped (times b patterns + cond s 1 0)
    step true = one_more (times b patterns)
    step false = ap capped (omega arith)

-- the patterns that are held then
pub patterns_added : (a : List VarId) (held : List Held) → held_patterns (with_sample_of a held) ≡ cond (list_any (λ p. same_vars p a) (held_patterns held)) (held_patterns held) (held_patterns held ++ a ∷ [])
patterns_added a [] = refl
patterns_added a (h ∷ held) = elim (cases_Bool (same_vars h.leaders a)) [
  | inl e ↦
      ap (λ s. held_patterns (cond s (counted_once_more h ∷ held) (h ∷ with_sample_of a held))) e
      ∙ sym (ap (λ s. cond (s || list_any (λ p. same_vars p a) (held_patterns held)) (held_patterns (h ∷ held)) (held_patterns (h ∷ held) ++ a ∷ [])) e)
  | inr n ↦
      ap (λ s. held_patterns (cond s (counted_once_more h ∷ held) (h ∷ with_sample_of a held))) n
      ∙ (ap (λ ps. h.leaders ∷ ps) (patterns_added a held)
      ∙ (elim (list_any (λ p. same_vars p a) (held_patterns held)) as (λ s. h.leaders ∷ cond s (held_patterns held) (held_patterns held ++ a ∷ []) ≡ cond s (held_patterns (h ∷ held)) (held_patterns (h ∷ held) ++ a ∷ [])) [ true ↦ refl | false ↦ refl ]
      ∙ sym (ap (λ s. cond (s || list_any (λ p. same_vars p a) (held_patterns held)) (held_patterns (h ∷ held)) (held_patterns (h ∷ held) ++ a ∷ [])) n)))
]
