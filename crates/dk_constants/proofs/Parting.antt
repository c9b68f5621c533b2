-- Entries that are parted into two lists.
use Rattle.std.proofs.Common.{◌≡◌, ℕ, zero, suc, ◌<◌, eqb, ◌⊎◌, inl, inr, List, [], ◌∷◌, ◌++◌, length, true, cond, Some, None, IsSome, refl, ap, sym, ◌∙◌, subst, arith}
use Rattle.std.proofs.lemmas.Bool.{cases_Bool, eqb-true, false≢true}
use Rattle.dk_base.specs.declared.kinds.VarId.{VarId}
use Rattle.dk_base.specs.declared.values.Value.{Value}
use Rattle.dk_constants.specs.Known.{EntriesAscend, IsParted, entry_var_at, known_at}
use Rattle.dk_constants.proofs.Lookups.{known_absent}

-- each variable of the list is greater
abbrev Above : ℕ → List (VarId × Value) → Type 0
Above n known = (j : ℕ) → j < length known → n < entry_var_at known j

above_first : (k : VarId × Value) (known : List (VarId × Value)) → EntriesAscend (k ∷ known) → Above k.0.0 known
above_first k known up j l = up 0 (suc j) (omega arith) (omega arith)

ascend_rest : (k : VarId × Value) (known : List (VarId × Value)) → EntriesAscend (k ∷ known) → EntriesAscend known
ascend_rest k known up i j l m = up (suc i) (suc j) (omega arith) (omega arith)

ascend_cons : (k : VarId × Value) (known : List (VarId × Value)) → Above k.0.0 known → EntriesAscend known → EntriesAscend (k ∷ known)
ascend_cons k known above up zero zero l m = absurd (omega arith)
ascend_cons k known above up zero (suc j) l m = above j (omega arith)
ascend_cons k known above up (suc i) zero l m = absurd (omega arith)
ascend_cons k known above up (suc i) (suc j) l m = up i j (omega arith) (omega arith)

above_cons : (n : ℕ) (k : VarId × Value) (known : List (VarId × Value)) → n < k.0.0 → Above n known → Above n (k ∷ known)
above_cons n k known l above zero m = l
above_cons n k known l above (suc j) m = above j (omega arith)

above_rest : (n : ℕ) (k : VarId × Value) (known : List (VarId × Value)) → Above n (k ∷ known) → Above n known
above_rest n k known above j l = above (suc j) (omega arith)

pub same_var : (v w : VarId) → eqb v.0 w.0 ≡ true → v ≡ w
same_var v w e = ap (λ n. record { 0 = n }) (eqb-true v.0 w.0 e)

-- the first variable of an ascending list comes once
once : (k : VarId × Value) (known : List (VarId × Value)) → EntriesAscend (k ∷ known) → known_at known k.0 ≡ None
once k known up = known_absent known k.0 (λ j l e. omega (arith, above_first k known up j l))

module _ (P Q : VarId × Value → Type 0) where
  -- one entry more
  pub parted_first : (xs first second : List (VarId × Value)) (k : VarId × Value) → IsParted P Q xs first second → P k → IsParted P Q (xs ++ k ∷ []) (first ++ k ∷ []) second
  parted_first [] first second k h p = inl (p, ([], ap (λ ys. ys ++ k ∷ []) h.0, (refl, h.1)))
  parted_first (x ∷ xs) first second k (inl h) p = inl (h.0, (h.1.0 ++ k ∷ [], ap (λ ys. ys ++ k ∷ []) h.1.1, parted_first xs h.1.0 second k h.1.2 p))
  parted_first (x ∷ xs) first second k (inr h) p = inr (h.0, (h.1.0, h.1.1, parted_first xs first h.1.0 k h.1.2 p))

  pub parted_second : (xs first second : List (VarId × Value)) (k : VarId × Value) → IsParted P Q xs first second → Q k → IsParted P Q (xs ++ k ∷ []) first (second ++ k ∷ [])
  parted_second [] first second k h q = inr (q, ([], ap (λ ys. ys ++ k ∷ []) h.1, (h.0, refl)))
  parted_second (x ∷ xs) first second k (inl h) q = inl (h.0, (h.1.0, h.1.1, parted_second xs h.1.0 second k h.1.2 q))
  parted_second (x ∷ xs) first second k (inr h) q = inr (h.0, (h.1.0 ++ k ∷ [], ap (λ ys. ys ++ k ∷ []) h.1.1, parted_second xs first h.1.0 k h.1.2 q))

  above_parted : (n : ℕ) (xs first second : List (VarId × Value)) → IsParted P Q xs first second → Above n xs → Above n first
  above_parted n [] first second h above = subst (Above n) (sym h.0) above
  above_parted n (x ∷ xs) first second (inl h) above = subst (Above n) (sym h.1.1) (above_cons n x h.1.0 (above 0 (omega arith)) (above_parted n xs h.1.0 second h.1.2 (above_rest n x xs above)))
  above_parted n (x ∷ xs) first second (inr h) above = above_parted n xs first h.1.0 h.1.2 (above_rest n x xs above)

  -- the first list ascends as the whole does
  pub ascend_parted : (xs first second : List (VarId × Value)) → IsParted P Q xs first second → EntriesAscend xs → EntriesAscend first
  ascend_parted [] first second h up = subst EntriesAscend (sym h.0) up
  ascend_parted (x ∷ xs) first second (inl h) up = subst EntriesAscend (sym h.1.1) (ascend_cons x h.1.0 (above_parted x.0.0 xs h.1.0 second h.1.2 (above_first x xs up)) (ascend_parted xs h.1.0 second h.1.2 (ascend_rest x xs up)))
  ascend_parted (x ∷ xs) first second (inr h) up = ascend_parted xs first h.1.0 h.1.2 (ascend_rest x xs up)

  -- what is known in the first list is known in the whole, and passes the first test
  pub known_parted : (xs first second : List (VarId × Value)) → IsParted P Q xs first second → EntriesAscend xs → (v : VarId) (y : Value) → known_at first v ≡ Some y → (known_at xs v ≡ Some y) × P (v, y)
  known_parted [] first second h up v y e = absurd (let none : known_at first v ≡ None = ap (λ ks. known_at ks v) h.0 in cc)
  known_parted (x ∷ xs) first second (inl h) up v y e = elim (cases_Bool (eqb x.0.0 v.0)) [
    | inl here ↦
        let value : x.1 ≡ y = let f : known_at first v ≡ Some x.1 = ap (λ ks. known_at ks v) h.1.1 ∙ ap (λ b. cond b (Some x.1) (known_at h.1.0 v)) here in cc in
        (ap (λ b. cond b (Some x.1) (known_at xs v)) here ∙ ap Some value, subst P (ap (λ w. (w, x.1)) (same_var x.0 v here) ∙ ap (λ z. (v, z)) value) h.0)
    | inr there ↦
        let f : known_at first v ≡ known_at h.1.0 v = ap (λ ks. known_at ks v) h.1.1 ∙ ap (λ b. cond b (Some x.1) (known_at h.1.0 v)) there in
        let rest = known_parted xs h.1.0 second h.1.2 (ascend_rest x xs up) v y (sym f ∙ e) in
        (ap (λ b. cond b (Some x.1) (known_at xs v)) there ∙ rest.0, rest.1)
  ]
  known_parted (x ∷ xs) first second (inr h) up v y e =
      let rest = known_parted xs first h.1.0 h.1.2 (ascend_rest x xs up) v y e in
      elim (cases_Bool (eqb x.0.0 v.0)) [
        | inl here ↦ absurd (let none : known_at xs v ≡ None = ap (known_at xs) (sym (same_var x.0 v here)) ∙ once x xs up in let some = rest.0 in cc)
        | inr there ↦ (ap (λ b. cond b (Some x.1) (known_at xs v)) there ∙ rest.0, rest.1)
      ]

  -- what is known in the whole is known in one of the two
  pub each_parted : (xs first second : List (VarId × Value)) → IsParted P Q xs first second → (v : VarId) → IsSome (known_at xs v) → IsSome (known_at first v) ⊎ IsSome (known_at second v)
  each_parted [] first second h v s = absurd (false≢true s)
  each_parted (x ∷ xs) first second (inl h) v s = elim (cases_Bool (eqb x.0.0 v.0)) [
    | inl here ↦ inl (subst IsSome (sym (ap (λ ks. known_at ks v) h.1.1 ∙ ap (λ b. cond b (Some x.1) (known_at h.1.0 v)) here)) refl)
    | inr there ↦ elim (each_parted xs h.1.0 second h.1.2 v (subst IsSome (ap (λ b. cond b (Some x.1) (known_at xs v)) there) s)) [
      | inl f ↦ inl (subst IsSome (sym (ap (λ ks. known_at ks v) h.1.1 ∙ ap (λ b. cond b (Some x.1) (known_at h.1.0 v)) there)) f)
      | inr g ↦ inr g
    ]
  ]
  each_parted (x ∷ xs) first second (inr h) v s = elim (cases_Bool (eqb x.0.0 v.0)) [
    | inl here ↦ inr (subst IsSome (sym (ap (λ ks. known_at ks v) h.1.1 ∙ ap (λ b. cond b (Some x.1) (known_at h.1.0 v)) here)) refl)
    | inr there ↦ elim (each_parted xs first h.1.0 h.1.2 v (subst IsSome (ap (λ b. cond b (Some x.1) (known_at xs v)) there) s)) [
      | inl f ↦ inl f
      | inr g ↦ inr (subst IsSome (sym (ap (λ ks. known_at ks v) h.1.1 ∙ ap (λ b. cond b (Some x.1) (known_at h.1.0 v)) there)) g)
    ]
  ]

-- the two lists can change places
pub parted_flip : (P Q : VarId × Value → Type 0) (xs first second : List (VarId × Value)) → IsParted P Q xs first second → IsParted Q P xs second first
parted_flip P Q [] first second h = (h.1, h.0)
parted_flip P Q (x ∷ xs) first second (inl h) = inr (h.0, (h.1.0, h.1.1, parted_flip P Q xs h.1.0 second h.1.2))
parted_flip P Q (x ∷ xs) first second (inr h) = inl (h.0, (h.1.0, h.1.1, parted_flip P Q xs first h.1.0 h.1.2))
