-- Equality of patterns, and what variables an ascending list has.
use Rattle.std.proofs.Common.{◌≡◌, ◌≢◌, suc, ◌<◌, eqb, inl, inr, List, [], ◌∷◌, true, false, ◌||◌, refl, ap, sym, ◌∙◌, subst, arith}
use Rattle.std.proofs.lemmas.Bool.{and_from, and_parts, cases_Bool, eqb-true, eq-eqb, false≢true, true≢false}
use Rattle.dk_base.specs.declared.kinds.VarId.{VarId}
use Rattle.dk_samples.specs.Leaders.{VarsAscend}
use Rattle.dk_presence.specs.Patterns.{has, same_vars}

pub same_id : (v w : VarId) → eqb v.0 w.0 ≡ true → v ≡ w
same_id v w e = ap (λ n. record { 0 = n }) (eqb-true v.0 w.0 e)

pub same_vars-true : (vs ws : List VarId) → same_vars vs ws ≡ true → vs ≡ ws
same_vars-true [] [] h = refl
same_vars-true [] (w ∷ ws) h = absurd (false≢true h)
same_vars-true (v ∷ vs) [] h = absurd (false≢true h)
same_vars-true (v ∷ vs) (w ∷ ws) h =
    let parts = and_parts (eqb v.0 w.0) (same_vars vs ws) h in
    let first = same_id v w parts.0 in
    let rest = same_vars-true vs ws parts.1 in cc

pub same_vars-refl : (vs : List VarId) → same_vars vs vs ≡ true
same_vars-refl [] = refl
same_vars-refl (v ∷ vs) = and_from (eqb v.0 v.0) (same_vars vs vs) (eq-eqb v.0 v.0 refl) (same_vars-refl vs)

pub same_vars-sym : (vs ws : List VarId) → same_vars vs ws ≡ same_vars ws vs
same_vars-sym vs ws = elim (cases_Bool (same_vars vs ws)) [
  | inl e ↦ e ∙ sym (ap (λ xs. same_vars xs vs) (sym (same_vars-true vs ws e)) ∙ same_vars-refl vs)
  | inr n ↦ elim (cases_Bool (same_vars ws vs)) [
    | inl e ↦ absurd (true≢false (sym (ap (λ xs. same_vars vs xs) (same_vars-true ws vs e) ∙ same_vars-refl vs) ∙ n))
    | inr m ↦ n ∙ sym m
  ]
]

-- equal to equals
pub same_vars-at : (a b c : List VarId) → same_vars a b ≡ true → same_vars a c ≡ same_vars b c
same_vars-at a b c e = ap (λ xs. same_vars xs c) (same_vars-true a b e)

-- a list that isn't one that passes
pub not_same : (vs ws : List VarId) → same_vars vs ws ≡ false → vs ≢ ws
not_same vs ws n e = true≢false (sym (ap (same_vars vs) (sym e) ∙ same_vars-refl vs) ∙ n)

-- ---- ascending lists
pub ascend_rest : (v : VarId) (vs : List VarId) → VarsAscend (v ∷ vs) → VarsAscend vs
ascend_rest v vs up i j d l m = up (suc i) (suc j) d (omega arith) (omega arith)

-- all later variables are greater
pub above : (v : VarId) (vs : List VarId) → VarsAscend (v ∷ vs) → (w : VarId) → has vs w ≡ true → v.0 < w.0
above v [] up w h = absurd (false≢true h)
above v (u ∷ vs) up w h = elim (cases_Bool (eqb u.0 w.0)) [
  | inl e ↦ let lt : v.0 < u.0 = up 0 1 v (omega arith) (omega arith) in subst (λ n. v.0 < n) (eqb-true u.0 w.0 e) lt
  | inr n ↦
      let lt : v.0 < u.0 = up 0 1 v (omega arith) (omega arith) in
      let later = above u vs (ascend_rest v (u ∷ vs) up) w (ap (λ b. b || has vs w) (sym n) ∙ h) in
      omega (arith, lt, later)
]

-- ascending lists of the same variables are equal
pub same_ascending : (vs ws : List VarId) → VarsAscend vs → VarsAscend ws → ((v : VarId) → has vs v ≡ has ws v) → vs ≡ ws
same_ascending [] [] up on same = refl
same_ascending [] (w ∷ ws) up on same = absurd (false≢true (same w ∙ ap (λ b. b || has ws w) (eq-eqb w.0 w.0 refl)))
same_ascending (v ∷ vs) [] up on same = absurd (false≢true (sym (same v) ∙ ap (λ b. b || has vs v) (eq-eqb v.0 v.0 refl)))
same_ascending (v ∷ vs) (w ∷ ws) up on same =
    let v_there : has (w ∷ ws) v ≡ true = sym (same v) ∙ ap (λ b. b || has vs v) (eq-eqb v.0 v.0 refl) in
    let w_here : has (v ∷ vs) w ≡ true = same w ∙ ap (λ b. b || has ws w) (eq-eqb w.0 w.0 refl) in
    let first : v ≡ w = elim (cases_Bool (eqb w.0 v.0)) [
      | inl e ↦ sym (same_id w v e)
      | inr n ↦
          let low = above w ws on v (ap (λ b. b || has ws v) (sym n) ∙ v_there) in
          elim (cases_Bool (eqb v.0 w.0)) [
            | inl e ↦ same_id v w e
            | inr m ↦ let high = above v vs up w (ap (λ b. b || has vs w) (sym m) ∙ w_here) in absurd (omega (arith, low, high))
          ]
    ] in
    let rest : vs ≡ ws = same_ascending vs ws (ascend_rest v vs up) (ascend_rest w ws on) (λ u. elim (cases_Bool (eqb v.0 u.0)) [
      | inl e ↦
          let no_v : has vs u ≡ false = absent v vs up u e in
          let no_w : has ws u ≡ false = absent w ws on u (ap (λ (x : VarId). eqb x.0 u.0) (sym first) ∙ e) in no_v ∙ sym no_w
      | inr n ↦
          let m : eqb w.0 u.0 ≡ false = ap (λ (x : VarId). eqb x.0 u.0) (sym first) ∙ n in
          sym (ap (λ b. b || has vs u) n) ∙ (same u ∙ ap (λ b. b || has ws u) m)
    ]) in cc
  where
    absent : (x : VarId) (xs : List VarId) → VarsAscend (x ∷ xs) → (u : VarId) → eqb x.0 u.0 ≡ true → has xs u ≡ false
    absent x xs up u e = elim (cases_Bool (has xs u)) [
      | inl h ↦ let lt = above x xs up u h in absurd (omega (arith, lt, eqb-true x.0 u.0 e))
      | inr n ↦ n
    ]
