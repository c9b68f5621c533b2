-- Which of ascending variables are present, by a walk along the present ones.
use Rattle.std.specs.Prelude.{◌≡◌, ◌<◌, ◌≤◌, ◌+◌, ◌||◌, ℕ, suc, true, false, List, [], ◌∷◌, length, nat_lt, if◌then◌else◌, refl}
use Rattle.std.proofs.Common.{◌∙◌, ap, arith, eqb, get_or, inl, inr, sym}
use Rattle.std.proofs.lemmas.Bool.{cases_Bool, eqb-true, ltb-false, ltb-true}
use Rattle.dk_base.specs.declared.kinds.VarId.{VarId}
use Rattle.dk_presence.specs.Patterns.{has}
use Rattle.dk_samples.specs.Leaders.{VarsAscend}
use Rattle.dk_snapshot.specs.Patterns.{from_var, is_first}

pub apart : (m n : ℕ) → m < n → eqb m n ≡ false
apart m n l = elim (cases_Bool (eqb m n)) [ inl e ↦ let same = eqb-true m n e in absurd (omega (arith, same)) | inr e ↦ e ]

rest : (w : VarId) (vars : List VarId) → VarsAscend (w ∷ vars) → VarsAscend vars
rest w vars up i j d l m = up (suc i) (suc j) d (omega (arith, l)) (omega (arith, m))

pub from_ascends : (v : VarId) (vars : List VarId) → VarsAscend vars → VarsAscend (from_var v vars)
from_ascends v [] up = up
from_ascends v (w ∷ vars) up = elim (nat_lt w.0 v.0) as (λ b. VarsAscend (if b then from_var v vars else w ∷ vars)) [
  | true ↦ from_ascends v vars (rest w vars up)
  | false ↦ up
]

-- no variable from v on is left out
pub from_keeps : (v u : VarId) (vars : List VarId) → v.0 ≤ u.0 → has (from_var v vars) u ≡ has vars u
from_keeps v u [] l = refl
from_keeps v u (w ∷ vars) l = elim (cases_Bool (nat_lt w.0 v.0)) [
  | inl before ↦
      let lt = ltb-true w.0 v.0 before in
      ap (λ b. has (if b then from_var v vars else w ∷ vars) u) before ∙ (from_keeps v u vars l ∙ ap (λ b. b || has vars u) (sym (apart w.0 u.0 (omega (arith, lt)))))
  | inr not ↦ ap (λ b. has (if b then from_var v vars else w ∷ vars) u) not
]

-- a variable before all of them is none of them
pub none_before : (v : VarId) (vars : List VarId) → ((k : ℕ) (d : VarId) → k < length vars → v.0 < (get_or vars k d).0) → has vars v ≡ false
none_before v [] before = refl
none_before v (w ∷ vars) before =
    let at : eqb w.0 v.0 ≡ false = elim (cases_Bool (eqb w.0 v.0)) [ inl e ↦ let same = eqb-true w.0 v.0 e in absurd (omega (arith, same, before 0 w (omega arith))) | inr e ↦ e ] in
    ap (λ b. b || has vars v) at ∙ none_before v vars (λ k d l. before (suc k) d (omega (arith, l)))

pub first_if_there : (v : VarId) (vars : List VarId) → VarsAscend vars → is_first v (from_var v vars) ≡ has vars v
first_if_there v [] up = refl
first_if_there v (w ∷ vars) up = elim (cases_Bool (nat_lt w.0 v.0)) [
  | inl before ↦
      let lt = ltb-true w.0 v.0 before in
      ap (λ b. is_first v (if b then from_var v vars else w ∷ vars)) before ∙ (first_if_there v vars (rest w vars up) ∙ ap (λ b. b || has vars v) (sym (apart w.0 v.0 lt)))
  | inr not ↦
      let le = ltb-false w.0 v.0 not in
      let behind : has vars v ≡ false = none_before v vars (λ k d l. omega (arith, le, up 0 (suc k) d (omega arith) (omega (arith, l)))) in
      ap (λ b. is_first v (if b then from_var v vars else w ∷ vars)) not
      ∙ (sym (elim (eqb w.0 v.0) as (λ b. (b || false) ≡ b) [ true ↦ refl | false ↦ refl ]) ∙ ap (λ b. eqb w.0 v.0 || b) (sym behind))
]

-- what is present stays told of the leaders that are left
pub step : (leaders left present : List VarId) (i : ℕ) (d : VarId) → VarsAscend leaders → i < length leaders
    → ((j : ℕ) → i ≤ j → j < length leaders → has left (get_or leaders j d) ≡ has present (get_or leaders j d))
    → (j : ℕ) → i + 1 ≤ j → j < length leaders → has (from_var (get_or leaders i d) left) (get_or leaders j d) ≡ has present (get_or leaders j d)
step leaders left present i d up l same j m n =
    from_keeps (get_or leaders i d) (get_or leaders j d) left (omega (arith, up i j d (omega arith) n)) ∙ same j (omega arith) n
