-- Patterns that are the keys of a set: a key is found where its pattern is, and a new one goes last.
use Rattle.std.proofs.Common.{◌≡◌, ℕ, suc, ◌+◌, ◌<◌, ◌≤◌, inl, inr, List, [], ◌∷◌, ◌++◌, length, get_or, map, position, Some, None, Bool, false, cond, not, ◌||◌, refl, ap, sym, ◌∙◌, arith}
use Rattle.std.specs.Prelude.{nat_lt}
use Rattle.std.specs.List.{list_any, position_or_len}
use Rattle.std.proofs.lemmas.Bool.{cases_Bool}
use Rattle.std.proofs.lemmas.Bool.Decides.{nat_tests}
use Rattle.std.proofs.lemmas.List.{length-map, map-append}
use Rattle.std.proofs.lemmas.List.Sums.{fails_before_first}
use Rattle.dk_base.specs.declared.kinds.VarId.{VarId}
use Rattle.dk_presence.specs.declared.held.Held.{Held}
use Rattle.dk_presence.specs.Patterns.{held_patterns, same_vars}
use Rattle.dk_presence.specs.Steps.{with_sample_of}
use Rattle.dk_presence.proofs.Placing.{patterns_new}

module _ {K : Type 0} (items : K → List VarId) (p : List VarId → Bool) (q : K → Bool) (same : (k : K) → q k ≡ p (items k)) where
  any_keys : (ks : List K) → list_any q ks ≡ list_any p (map items ks)
  any_keys [] = refl
  any_keys (k ∷ ks) = ap (λ b. b || list_any q ks) (same k) ∙ ap (λ b. p (items k) || b) (any_keys ks)

  first_keys : (ks : List K) → position_or_len q ks ≡ position_or_len p (map items ks)
  first_keys [] = refl
  first_keys (k ∷ ks) = ap (λ b. cond {A = ℕ} (not b) (1 + position_or_len q ks) 0) (same k) ∙ ap (λ n. cond {A = ℕ} (not (p (items k))) (1 + n) 0) (first_keys ks)

  -- a key is found at the place of its pattern
  pub position_keys : (ks : List K) → position q ks ≡ position p (map items ks)
  position_keys ks =
      ap (λ n. cond (nat_lt n (length ks)) (Some n) None) (first_keys ks)
      ∙ ap (λ m. cond (nat_lt (position_or_len p (map items ks)) m) (Some (position_or_len p (map items ks))) None) (sym (length-map ks items))

any_not : (p : List VarId → Bool) (ps : List (List VarId)) → ((k : ℕ) → k < length ps → p (get_or ps k []) ≡ false) → list_any p ps ≡ false
any_not p [] h = refl
any_not p (a ∷ ps) h = ap (λ b. b || list_any p ps) (h 0 (omega arith)) ∙ any_not p ps (λ k l. h (suc k) (omega arith))

position_none : (p : List VarId → Bool) (ps : List (List VarId)) → position p ps ≡ None → length ps ≤ position_or_len p ps
position_none p ps e = elim (cases_Bool (nat_lt (position_or_len p ps) (length ps))) [
  | inl t ↦ absurd (let some : position p ps ≡ Some (position_or_len p ps) = ap (λ b. cond b (Some (position_or_len p ps)) None) t in cc)
  | inr f ↦ grind (arith, nat_tests, f)
]

-- a key more for the new pattern
pub keys_new : {K : Type 0} (items : K → List VarId) (eq : K → K → Bool) → ((a b : K) → eq a b ≡ same_vars (items a) (items b)) → (present : List VarId) (held : List Held) → position (same_vars present) (held_patterns held) ≡ None
    → (ks more : List K) (k : K) → map items ks ≡ held_patterns held → items k ≡ present → more ≡ cond (list_any (eq k) ks) ks (ks ++ k ∷ []) → map items more ≡ held_patterns (with_sample_of present held)
keys_new items eq same present held none ks more k keys key is =
    let off : list_any (eq k) ks ≡ false = any_keys items (same_vars (items k)) (eq k) (same k) ks ∙ (ap (list_any (same_vars (items k))) keys ∙ (ap (λ x. list_any (same_vars x) (held_patterns held)) key
    ∙ any_not (same_vars present) (held_patterns held) (λ j l. fails_before_first (same_vars present) (held_patterns held) j [] (let long = position_none (same_vars present) (held_patterns held) none in omega arith)))) in
    ap (map items) (is ∙ ap (λ b. cond b ks (ks ++ k ∷ [])) off) ∙ (map-append items ks (k ∷ []) ∙ (ap (λ xs. xs ++ items k ∷ []) keys
    ∙ (ap (λ x. held_patterns held ++ x ∷ []) key ∙ sym (patterns_new present held none))))
