-- The entries of a point and a nonce in the table.
use Rattle.std.proofs.Common.{◌≡◌, ◌∙◌, ◌&&◌, ◌++◌, ℕ, ℤ, Bool, true, false, cond, ◌+◌, List, [], ◌∷◌, drop, length, nat_eq, reverse, MatchOption, arith, Option, Some, None, refl, sym, ap, subst, if◌then◌else◌}
use Rattle.std.specs.Global.{Vec}
use Rattle.std.specs.Option.{option_to_list}
use Rattle.std.specs.Ordering.{int_eq}
use Rattle.std.proofs.lemmas.Bool.{eqb-true}
use Rattle.std.proofs.lemmas.Bool.Decides.{Decides-int_eq}
use Rattle.std.proofs.lemmas.List.{reverse-append}
use Rattle.dk_base.specs.declared.values.Value.{Value}
use Rattle.dk_calls.specs.Nonces.{latest_first, same_key}

both : (a b : Bool) → (a && b) ≡ true → (a ≡ true) × (b ≡ true)
both true true e = (refl, refl)
both true false e = cc e
both false b e = cc e

keys_same : (a b : ℕ × ℤ) → same_key a b ≡ true → a ≡ b
keys_same (a, n) (b, m) e =
    let parts = both (nat_eq a b) (int_eq n m) e in
    let points : a ≡ b = eqb-true a b parts.0 in
    let nonces : n ≡ m = (Decides-int_eq n m).0 parts.1 in
    cc

-- one key's entries change as `f` says, and no other's
pub step : (f : List (List Value) → List (List Value)) (old new : ℕ × ℤ → Option (Vec (List Value))) (key : ℕ × ℤ) (w : Option (Vec (List Value)))
    → ((q : ℕ × ℤ) → new q ≡ cond (same_key key q) w (old q)) → latest_first w ≡ f (latest_first (old key))
    → (q : ℕ × ℤ) → latest_first (new q) ≡ (if same_key key q then f (latest_first (old q)) else latest_first (old q))
step f old new key w updates own q = ap latest_first (updates q) ∙ by (same_key key q) refl
  where
    by : (b : Bool) → same_key key q ≡ b → latest_first (cond b w (old q)) ≡ (if b then f (latest_first (old q)) else latest_first (old q))
    by true e = let P : ℕ × ℤ → Type 0 = λ k. latest_first w ≡ f (latest_first (old k)) in subst P (keys_same key q e) own
    by false e = refl

-- one entry more
pub one_more : (xs ys : List (List Value)) (v : List Value) → ys ≡ xs ++ v ∷ [] → reverse ys ≡ v ∷ reverse xs
one_more xs ys v e = ap reverse e ∙ reverse-append xs (v ∷ [])

empty : (ys : List (List Value)) → length ys ≡ 0 → ys ≡ []
empty [] e = refl
empty (y ∷ ys) e = absurd (omega arith)

-- without the latest
pub one_less : (xs ys : List (List Value)) (popped : Option (List Value)) (n m : ℕ) → xs ≡ ys ++ option_to_list popped
    → MatchOption popped ((n ≡ 0) × (m ≡ 0)) (λ _. m + 1 ≡ n) → m ≡ length ys → reverse ys ≡ drop 1 (reverse xs)
one_less xs ys None n m e cases long =
    let none : ys ≡ [] = empty ys (sym long ∙ cases.1) in
    let all : xs ≡ [] = e ∙ ap (λ (zs : List (List Value)). zs ++ []) none in
    ap reverse none ∙ sym (ap (λ (zs : List (List Value)). drop 1 (reverse zs)) all)
one_less xs ys (Some v) n m e cases long = sym (ap (drop 1) (ap reverse e ∙ reverse-append ys (v ∷ [])))

-- no key's entries change
pub kept : (old new : ℕ × ℤ → Option (Vec (List Value))) (key : ℕ × ℤ) (w : Option (Vec (List Value)))
    → ((q : ℕ × ℤ) → new q ≡ cond (same_key key q) w (old q)) → latest_first w ≡ latest_first (old key) → (q : ℕ × ℤ) → latest_first (new q) ≡ latest_first (old q)
kept old new key w updates own q = step (λ (xs : List (List Value)). xs) old new key w updates own q ∙ either (same_key key q) (latest_first (old q))
  where
    either : (b : Bool) (xs : List (List Value)) → (if b then xs else xs) ≡ xs
    either true xs = refl
    either false xs = refl
