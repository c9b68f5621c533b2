-- The keys of new leaders.
use Rattle.std.proofs.Common.{◌≡◌, ◌≢◌, ℕ, inl, inr, List, [], ◌∷◌, ◌++◌, Vec, Global, get_or, Bool, true, false, cond, not, ◌&&◌, ◌||◌, eqb, refl, ap, sym, ◌∙◌, subst, arith}
use Rattle.std.specs.List.{All, list_any}
use Rattle.std.specs.Str.{bytes_eq}
use Rattle.std.proofs.lemmas.Bool.{cases_Bool, cases_eq, true≢false}
use Rattle.std.proofs.lemmas.Bool.Decides.{nat_tests}
use Rattle.std.proofs.lemmas.Cmp.{nat_list_eq_equiv}
use Rattle.std.proofs.lemmas.List.Elements.{All-push}
use Rattle.std.proofs.lemmas.List.Folds.{list_any-append}
use Rattle.dk_base.specs.declared.kinds.VarId.{VarId}
use Rattle.dk_base.specs.declared.values.Value.{Value}
use Rattle.dk_samples.specs.Samples.{value_in}
use Rattle.dk_classes.specs.Classes.{new_with}
use Rattle.dk_classes.specs.Keys.{HaveKeys, has_key, key_of}
use Rattle.dk_classes.specs.Leaders.{var}

-- what is added was not there
pub is_new : (there added : Bool) → added ≡ not there → added ≡ true → there ≡ false
is_new true added e is = absurd (true≢false (sym is ∙ e))
is_new false added e is = refl

-- a key that is put among others
module _ (keys more : List (Vec ℕ Global)) (added : Vec ℕ Global) (is : more ≡ cond (list_any (λ k. bytes_eq added.items k.items) keys) keys (keys ++ added ∷ [])) where
  -- keeps them
  pub key_kept : (key : List ℕ) → has_key keys key ≡ true → has_key more key ≡ true
  key_kept key h =
      ap (λ ks. has_key ks key) is
      ∙ elim (has_key keys added.items) as (λ b. has_key (cond b keys (keys ++ added ∷ [])) key ≡ true) [
        | true ↦ h
        | false ↦ list_any-append (λ k. bytes_eq key k.items) keys (added ∷ []) ∙ ap (λ b. b || has_key (added ∷ []) key) h
      ]

  -- is among them
  pub key_added : has_key more added.items ≡ true
  key_added = elim (cases_Bool (has_key keys added.items)) [
    | inl there ↦ key_kept added.items there
    | inr new ↦
        ap (λ ks. has_key ks added.items) is
        ∙ (ap (λ b. has_key (cond b keys (keys ++ added ∷ [])) added.items) new
        ∙ (list_any-append (λ k. bytes_eq added.items k.items) keys (added ∷ [])
        ∙ (ap (λ b. b || has_key (added ∷ []) added.items) new ∙ ap (λ b. b || false) (nat_list_eq_equiv.refl added.items))))
  ]

module _ (sample : List Value) (new : List (VarId × VarId)) (keys : List (Vec ℕ Global)) (have : HaveKeys sample new keys) where
  -- more keys are enough too
  pub keys_kept : (more : List (Vec ℕ Global)) → ((key : List ℕ) → has_key keys key ≡ true → has_key more key ≡ true) → HaveKeys sample new more
  keys_kept more kept = λ k d l. kept (key_of (get_or new k d).1 (value_in sample (get_or new k d).0)) (have k d l)

  -- where a value's key is not among them, no new leader has the value
  pub none_like : (old : VarId) (value : Value) → has_key keys (key_of old value) ≡ false → All (λ n. n.1 ≡ old → value_in sample n.0 ≢ value) new
  none_like old value off = λ k d l was is.
      let n = get_or new k d in
      let same : key_of n.1 (value_in sample n.0) ≡ key_of old value = ap (λ o. key_of o (value_in sample n.0)) was ∙ ap (key_of old) is in
      true≢false (sym (have k d l) ∙ (ap (has_key keys) same ∙ off))

  -- a variable more
  pub keys_with : (v : ℕ) (first old : VarId) → (first.0 ≡ v → old.0 ≢ v → has_key keys (key_of old (value_in sample (var v))) ≡ true) → HaveKeys sample (new_with new v first old) keys
  keys_with v first old added = elim (cases_eq first.0 v) [
    | inl here ↦ elim (cases_eq old.0 v) [
      | inl led ↦ subst (λ b. HaveKeys sample (cond b (new ++ (first, old) ∷ []) new) keys) (sym (neither here led)) have
      | inr other ↦
          let is : first ≡ var v = ap (λ n. record { 0 = n }) here in
          subst (λ b. HaveKeys sample (cond b (new ++ (first, old) ∷ []) new) keys) (sym (both here other))
          (All-push (λ n. has_key keys (key_of n.1 (value_in sample n.0)) ≡ true) new (first, old) have (ap (λ w. has_key keys (key_of old (value_in sample w))) is ∙ added here other))
    ]
    | inr apart ↦ subst (λ b. HaveKeys sample (cond b (new ++ (first, old) ∷ []) new) keys) (sym (away apart)) have
  ]
    where
      neither : first.0 ≡ v → old.0 ≡ v → (eqb first.0 v && not (eqb old.0 v)) ≡ false
      neither here led = grind (arith, nat_tests)

      both : first.0 ≡ v → old.0 ≢ v → (eqb first.0 v && not (eqb old.0 v)) ≡ true
      both here other = grind (arith, nat_tests)

      away : first.0 ≢ v → (eqb first.0 v && not (eqb old.0 v)) ≡ false
      away apart = grind (arith, nat_tests)
