-- Patterns with their counts are determined by the samples, but for their order.
use Rattle.std.specs.Prelude.{◌≡◌, ◌<◌, ℕ, suc, if◌then◌else◌, Contains, List, [], ◌∷◌}
use Rattle.std.proofs.Common.{ap, ◌∙◌, arith, sym, inl, inr, subst}
use Rattle.std.proofs.lemmas.Bool.{cases_Bool}
use Rattle.dk_base.specs.declared.kinds.VarId.{VarId}
use Rattle.dk_presence.proofs.Sameness.{same_vars-true}
use Rattle.dk_presence.proofs.Sums.{count_at}
use Rattle.dk_presence.specs.Laws.{PatternsAreDetermined}
use Rattle.dk_presence.specs.Patterns.{AreCounted, AreHeld, pattern_count, same_vars}
use Rattle.dk_presence.specs.declared.held.Held.{Held}

abbrev held_with : ℕ → List VarId → Held
held_with n ls = record { count = n; leaders = ls }

-- the pattern that is looked up is there
pattern_there : (held : List Held) (p : List VarId) → 0 < pattern_count held p → Contains held (record { count = pattern_count held p; leaders = p })
pattern_there [] p h = absurd (omega (arith, h))
pattern_there (k ∷ held) p h = elim (cases_Bool (same_vars k.leaders p)) [
  | inl e ↦
      let count : pattern_count (k ∷ held) p ≡ k.count = ap (λ b. if b then k.count else pattern_count held p) e in
      (0, omega arith, ap (λ ls. held_with k.count ls) (same_vars-true k.leaders p e) ∙ ap (λ n. held_with n p) (sym count))
  | inr n ↦
      let count : pattern_count (k ∷ held) p ≡ pattern_count held p = ap (λ b. if b then k.count else pattern_count held p) n in
      let rest = pattern_there held p (omega (arith, count, h)) in
      let l = rest.1 in
      subst (λ m. Contains (k ∷ held) (held_with m p)) (sym count) (suc rest.0, omega (arith, l), rest.2)
]

pattern_in : (patterns : List (List VarId)) (a b : List Held) → AreHeld a → AreCounted patterns a → AreCounted patterns b → (h : Held) → Contains a h → Contains b h
pattern_in patterns a b is counted recounted h (k, l, e) =
    let at : pattern_count a h.leaders ≡ h.count = subst (λ (x : Held). pattern_count a x.leaders ≡ x.count) e (count_at a is.once k h l) in
    let some : 0 < h.count = subst (λ (x : Held). 0 < x.count) e (is.some k h l) in
    let same : pattern_count b h.leaders ≡ h.count = recounted h.leaders ∙ (sym (counted h.leaders) ∙ at) in
    subst (λ n. Contains b (held_with n h.leaders)) same (pattern_there b h.leaders (omega (arith, same, some)))

pub patterns_are_determined : PatternsAreDetermined
patterns_are_determined patterns held others is also counted recounted h = (pattern_in patterns held others is counted recounted h, pattern_in patterns others held also recounted counted h)
