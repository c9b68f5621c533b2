-- Patterns by their hashes.
use Rattle.std.proofs.Common.{◌≡◌, ℕ, ◌+◌, ◌*◌, ◌%◌, ◌^◌, ◌<◌, eqb, List, [], ◌∷◌, ◌++◌, length, get_or, take, position, Option, Some, None, true, false, cond, refl, ap, sym, ◌∙◌, subst}
use Rattle.std.specs.Prelude.{is_some}
use Rattle.std.proofs.lemmas.Bool.{eq-eqb, true≢false}
use Rattle.std.proofs.lemmas.List.{take_more}
use Rattle.std.proofs.lemmas.List.Elements.{All-push}
use Rattle.std.proofs.lemmas.List.Quantifiers.{position-Some}
use Rattle.std.proofs.lemmas.List.Sums.{fold_push}
use Rattle.dk_base.specs.declared.kinds.VarId.{VarId}
use Rattle.dk_presence.specs.Hashes.{AreKeyed, hash_of}
use Rattle.dk_presence.specs.Patterns.{same_vars}
use Rattle.dk_presence.proofs.Sameness.{same_vars-true}
use Rattle.indexmap.specs.IndexMap.{ContainsKey, IndexMap, get}

-- one leader more
pub hash_more : (leaders : List VarId) (i : ℕ) (d : VarId) → i < length leaders
    → hash_of (take (i + 1) leaders) ≡ (hash_of (take i leaders) * 6364136223846793005 + (get_or leaders i d).0) % 2 ^ 64
hash_more leaders i d l =
    ap hash_of (take_more leaders i d l) ∙ fold_push (λ (hash : ℕ) (v : VarId). (hash * 6364136223846793005 + v.0) % 2 ^ 64) 1 (take i leaders) (get_or leaders i d)

module _ {S : Type 0} (m n : IndexMap ℕ ℕ S) (k v : ℕ) (put : (q : ℕ) → get eqb n q ≡ cond (eqb k q) (Some v) (get eqb m q)) where
  still : (q : ℕ) → ContainsKey eqb m q → ContainsKey eqb n q
  still q has = ap is_some (put q) ∙ elim (eqb k q) as (λ b. is_some (cond b (Some v) (get eqb m q)) ≡ true) [ true ↦ refl | false ↦ has ]

  new : ContainsKey eqb n k
  new = ap is_some (put k) ∙ ap (λ b. is_some (cond b (Some v) (get eqb m k))) (eq-eqb k k refl)

  -- where a pattern's hash becomes a key, it goes last
  pub keyed_more : (patterns : List (List VarId)) (pattern : List VarId) → hash_of pattern ≡ k → AreKeyed m patterns → AreKeyed n (patterns ++ pattern ∷ [])
  keyed_more patterns pattern is are =
      All-push (λ p. ContainsKey eqb n (hash_of p)) patterns pattern (λ i d l. still (hash_of (get_or patterns i d)) (are i d l)) (subst (ContainsKey eqb n) (sym is) new)

-- a pattern whose hash is no key is none of them
pub position_unkeyed : {S : Type 0} (places : IndexMap ℕ ℕ S) (patterns : List (List VarId)) (present : List VarId) → AreKeyed places patterns → get eqb places (hash_of present) ≡ None
    → position (same_vars present) patterns ≡ None
position_unkeyed places patterns present are none = by (position (same_vars present) patterns) refl
  where
    by : (r : Option ℕ) → position (same_vars present) patterns ≡ r → position (same_vars present) patterns ≡ None
    by None e = e
    by (Some i) e =
        let told = position-Some (same_vars present) patterns i [] e in
        let is : present ≡ get_or patterns i [] = same_vars-true present (get_or patterns i []) told.1 in
        absurd (true≢false (sym (are i [] told.0) ∙ ap is_some (ap (λ p. get eqb places (hash_of p)) (sym is) ∙ none)))
