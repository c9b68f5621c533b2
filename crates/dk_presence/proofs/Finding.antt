-- What a search finds among ascending variables, and where a variable goes.
use Rattle.std.proofs.Common.{◌≡◌, ◌≢◌, ℕ, zero, suc, ◌<◌, ◌≤◌, eqb, List, [], ◌∷◌, length, get_or, true, false, cond, ◌||◌, Result, Ok, Err, is_ok, refl, ap, sym, ◌∙◌, arith}
use Rattle.std.specs.Prelude.{nat_lt}
use Rattle.std.specs.List.{insert}
use Rattle.std.specs.List.Sorted.{IsSearchInRange, IsBinarySearchResult, IsNonDecreasingBy}
use Rattle.std.specs.Ordering.{nat_cmp, ordering_index}
use Rattle.std.proofs.lemmas.Bool.{eq-eqb}
use Rattle.std.proofs.lemmas.Bool.Decides.{nat_tests}
use Rattle.std.proofs.lemmas.Cmp.{ranked}
use Rattle.std.proofs.lemmas.List.Sorted.{IsNonDecreasingBy-from_default}
use Rattle.dk_base.specs.declared.kinds.VarId.{VarId}
use Rattle.dk_samples.specs.Leaders.{VarsAscend}
use Rattle.dk_presence.specs.Patterns.{has}
use Rattle.dk_presence.specs.Steps.{put}

none : VarId
none = record { 0 = 0 }

has_here : (vs : List VarId) (i : ℕ) (d v : VarId) → i < length vs → (get_or vs i d).0 ≡ v.0 → has vs v ≡ true
has_here [] i d v l e = absurd (omega arith)
has_here (w ∷ vs) zero d v l e = ap (λ b. b || has vs v) (eq-eqb w.0 v.0 e)
has_here (w ∷ vs) (suc i) d v l e = elim (eqb w.0 v.0) as (λ b. (b || has vs v) ≡ true) [ true ↦ refl | false ↦ has_here vs i d v (omega arith) e ]

has_not : (vs : List VarId) (v d : VarId) → ((k : ℕ) → k < length vs → (get_or vs k d).0 ≢ v.0) → has vs v ≡ false
has_not [] v d h = refl
has_not (w ∷ vs) v d h =
    let apart : eqb w.0 v.0 ≡ false = grind (arith, nat_tests, h 0 (omega arith)) in
    ap (λ b. b || has vs v) apart ∙ has_not vs v d (λ k l. h (suc k) (omega arith))

module _ (vars : List VarId) (up : VarsAscend vars) (v : VarId) where
  comparisons_rise : IsNonDecreasingBy (λ w. ordering_index (nat_cmp w.0 v.0)) vars
  comparisons_rise = IsNonDecreasingBy-from_default (λ w. ordering_index (nat_cmp w.0 v.0)) vars (record { 0 = 0 }) (λ i j le within.
      let at : ℕ → ℕ = λ k. (get_or vars k (record { 0 = 0 })).0 in
      let rise : at i ≤ at j = grind (arith, up i j (record { 0 = 0 }), λ (same : i ≡ j). ap at same) in
      grind (arith, nat_tests))

  -- a binary search ends at the variable exactly where it is there
  pub found : (r : Result ℕ ℕ) → IsSearchInRange r (length vars) → IsBinarySearchResult (λ w. nat_cmp w.0 v.0) vars r → is_ok r ≡ has vars v
  found (Ok at) within equal = sym (has_here vars at (record { 0 = 0 }) v within (ranked _ v.0 _ (sym (equal (record { 0 = 0 })))))
  found (Err at) within parted = sym (has_not vars v (record { 0 = 0 }) (λ k l e.
      let low : k < at → (get_or vars k (record { 0 = 0 })).0 < v.0 = λ lt. ranked _ v.0 _ (sym ((parted comparisons_rise).0 k (record { 0 = 0 }) (omega arith) lt)) in
      let high : at ≤ k → v.0 < (get_or vars k (record { 0 = 0 })).0 = λ le. ranked _ v.0 _ (sym ((parted comparisons_rise).1 k (record { 0 = 0 }) le l)) in
      grind (arith, low, high, e)))

-- the numbers of ascending variables do not fall
pub numbers_rise : (vars : List VarId) → VarsAscend vars → IsNonDecreasingBy (λ w. w.0) vars
numbers_rise vars up = IsNonDecreasingBy-from_default (λ w. w.0) vars (record { 0 = 0 }) (λ i j le within.
    let at : ℕ → ℕ = λ k. (get_or vars k (record { 0 = 0 })).0 in
    grind (arith, up i j (record { 0 = 0 }), λ (same : i ≡ j). ap at same))

-- a variable goes behind those that are not greater
pub put_at : (v : VarId) (vs : List VarId) (i : ℕ) → i ≤ length vs → ((k : ℕ) → k < i → nat_lt v.0 (get_or vs k (record { 0 = 0 })).0 ≡ false)
    → ((k : ℕ) → i ≤ k → k < length vs → nat_lt v.0 (get_or vs k (record { 0 = 0 })).0 ≡ true) → put v vs ≡ insert vs i v
put_at v [] zero l low high = refl
put_at v [] (suc i) l low high = absurd (omega arith)
put_at v (w ∷ vs) zero l low high = ap (λ b. cond b (v ∷ w ∷ vs) (w ∷ put v vs)) (high 0 (omega arith) (omega arith))
put_at v (w ∷ vs) (suc i) l low high =
    ap (λ b. cond b (v ∷ w ∷ vs) (w ∷ put v vs)) (low 0 (omega arith))
    ∙ ap (λ xs. w ∷ xs) (put_at v vs i (omega arith) (λ k lt. low (suc k) (omega arith)) (λ k le lt. high (suc k) (omega arith) (omega arith)))
