-- Lists that are kept by name, and the map that holds them.
use Rattle.std.proofs.Common.{◌≡◌, ◌∙◌, ℕ, zero, suc, Bool, true, false, cond, List, [], ◌∷◌, ◌++◌, map, position, bytes_eq, Option, None, Some, slice_get, if◌then◌else◌, refl, ap, sym}
use Rattle.std.specs.Map.{keys_of, values_of, lookup}
use Rattle.indexmap.specs.IndexMap.{insert_entry, set_value_at}
use Rattle.dk_graph.specs.Notes.{noted_under, noted}
use Rattle.dk_graph.proofs.Places.{some-injective}
use Rattle.dk_graph.proofs.Positions.{position-cons, cons-None, cons-zero, cons-suc}

abbrev pub listed : {X : Type 0} → Option (List X) → List X
listed None = []
listed (Some es) = es

module _ {K X : Type 0} (bytes : K → List ℕ) where
  abbrev pub entry : K × List X → List ℕ × List X
  entry n = (bytes n.0, n.1)

  -- a new name goes last
  pub noted-new : (es : List (K × List X)) (key : K) (name : List ℕ) (e : X) → bytes key ≡ name → position (λ k. bytes_eq name (bytes k)) (keys_of es) ≡ None
      → map entry (insert_entry (λ a b. bytes_eq (bytes a) (bytes b)) es key (e ∷ [])) ≡ noted (map entry es) name e
  noted-new [] key name e same none = ap (λ n. (n, e ∷ []) ∷ []) same
  noted-new (n ∷ es) key name e same none =
      let both = cons-None (bytes_eq name (bytes n.0)) (position (λ k. bytes_eq name (bytes k)) (keys_of es)) (sym (position-cons (λ k. bytes_eq name (bytes k)) n.0 (keys_of es)) ∙ none) in
      let other : bytes_eq (bytes key) (bytes n.0) ≡ false = ap (λ s. bytes_eq s (bytes n.0)) same ∙ both.0 in
      rw (other, both.0) (ap (λ xs. entry n ∷ xs) (noted-new es key name e same both.1))

  -- a name that is there has one more edge
  pub noted-more : (es : List (K × List X)) (name : List ℕ) (e : X) (i : ℕ) (old new : List X) → position (λ k. bytes_eq name (bytes k)) (keys_of es) ≡ Some i
      → slice_get (values_of es) i ≡ Some old → new ≡ old ++ e ∷ [] → map entry (set_value_at es i new) ≡ noted (map entry es) name e
  noted-more [] name e i old new at is more = absurd (cc)
  noted-more (n ∷ es) name e zero old new at is more =
      let here = cons-zero (bytes_eq name (bytes n.0)) (position (λ k. bytes_eq name (bytes k)) (keys_of es)) (sym (position-cons (λ k. bytes_eq name (bytes k)) n.0 (keys_of es)) ∙ at) in
      let own : n.1 ≡ old = some-injective is in
      rw here (ap (λ xs. (bytes n.0, xs) ∷ map entry es) (more ∙ ap (λ xs. xs ++ e ∷ []) (sym own)))
  noted-more (n ∷ es) name e (suc i) old new at is more =
      let both = cons-suc (bytes_eq name (bytes n.0)) (position (λ k. bytes_eq name (bytes k)) (keys_of es)) i (sym (position-cons (λ k. bytes_eq name (bytes k)) n.0 (keys_of es)) ∙ at) in
      rw (both.0) (ap (λ xs. entry n ∷ xs) (noted-more es name e i old new both.1 is more))

  pub noted_under-lookup : (es : List (K × List X)) (name : List ℕ) → noted_under (map entry es) name ≡ listed (lookup (λ k. bytes_eq name (bytes k)) es)
  noted_under-lookup [] name = refl
  noted_under-lookup (n ∷ es) name = by (bytes_eq name (bytes n.0)) (noted_under-lookup es name)
    where
      by : (b : Bool) → noted_under (map entry es) name ≡ listed (lookup (λ k. bytes_eq name (bytes k)) es)
          → (if b then n.1 else noted_under (map entry es) name) ≡ listed (cond b (Some n.1) (lookup (λ k. bytes_eq name (bytes k)) es))
      by true h = refl
      by false h = h
